-- The short form of a report: what stands before the title of its first group, and after that title's first row.
use Rattle.std.specs.Prelude.{ℕ, Bool, not, true, if◌then◌else◌, List, [], ◌∷◌, ◌++◌, Option, None, Some, chars, codes, filter}
use Rattle.std.specs.Char.{is_whitespace}
use Rattle.std.specs.Cow.{cow_str_bytes}
use Rattle.std.specs.List.{filter_map, flat_map, list_all}
use Rattle.std.specs.Option.{option_map}
use Rattle.snippet_model.specs.AnnotationKind.{is_primary}
use Rattle.snippet_model.specs.Heading.{heading_of_title}
use Rattle.snippet_model.specs.declared.snippet.Annotation.{Annotation}
use Rattle.snippet_model.specs.declared.snippet.Element.{Element}
use Rattle.snippet_model.specs.declared.snippet.Element.TheVariants as element
use Rattle.snippet_model.specs.declared.snippet.Group.{Group}
use Rattle.snippet_model.specs.declared.snippet.Snippet.{Snippet}
use Rattle.snippet_model.specs.declared.snippet.Title.{Title}
use Rattle.snippet_parts.specs.Annotated.{KeptLine, annotated_lines}
use Rattle.snippet_parts.specs.Location.{primary_place, secondary_place}
use Rattle.snippet_titles.specs.declared.origin.OriginLocation.{OriginLocation}
use Rattle.snippet_style.specs.Cell.{Cell}
use Rattle.snippet_text.specs.Normalized.{norm}
use Rattle.snippet_titles.specs.Origin.{origin_text}
use Rattle.snippet_titles.specs.ShortRows.{short_rows}
use Rattle.annotate_snippets.specs.ElementContext.{path_bytes}
use Rattle.annotate_snippets.specs.Gutter.{numbered_source}
use Rattle.annotate_snippets.specs.RowsWithoutSource.{place_found}
use Rattle.annotate_snippets.specs.declared.renderer.Renderer.{Renderer}

-- the first annotated snippet of some elements
abbrev pub first_cause : List Element → Option (Snippet Annotation)
first_cause [] = None
first_cause (element.Cause snippet ∷ es) = Some snippet
first_cause (element.Message message ∷ es) = first_cause es
first_cause (element.Suggestion snippet ∷ es) = first_cause es
first_cause (element.Origin origin ∷ es) = first_cause es
first_cause (element.Padding padding ∷ es) = first_cause es

-- the place that the head of an annotated snippet names, given its lines that are kept, and whether it is primary
abbrev pub place_named : Bool → List KeptLine → OriginLocation
place_named primary lines = place_found (if primary then primary_place lines else secondary_place lines)

-- the place of a snippet's spans in its file, after its path: that which the head of the group's primary snippet names
abbrev pub place_of_path : Renderer → Snippet Annotation → Option (List ℕ) → List ℕ
place_of_path r s None = []
place_of_path r s (Some path) =
    origin_text r.anonymized_origin_line_numbers path (place_named true (annotated_lines s.fold (numbered_source s) s.markers.items)) ++ codes ": "

-- the place of a snippet, if there is one and it has a path
abbrev pub place_of_cause : Renderer → Option (Snippet Annotation) → List ℕ
place_of_cause r None = []
place_of_cause r (Some s) = place_of_path r s (path_bytes s.path)

-- a label, normalised
abbrev pub short_label : Annotation → Option (List ℕ)
short_label a = option_map (λ t. norm (chars (cow_str_bytes t))) a.label

-- the labels of primary spans, normalised, as given, without those that are blank
abbrev pub primary_labels : List Annotation → List (List ℕ)
primary_labels marks =
    filter (λ label. not (list_all is_whitespace label)) (filter_map short_label (filter (λ a. is_primary a.kind) marks))

-- these labels in a row, after a colon: `: a, b`; nothing where there are none
abbrev pub joined_labels : List (List ℕ) → List ℕ
joined_labels [] = []
joined_labels (label ∷ labels) = codes ": " ++ label ++ flat_map (λ l. codes ", " ++ l) labels

-- the labels of a snippet's primary spans, if there is one
abbrev pub labels_of_cause : Option (Snippet Annotation) → List ℕ
labels_of_cause None = []
labels_of_cause (Some s) = joined_labels (primary_labels s.markers.items)

-- what stands before the title of a group's short form, and after its first row
abbrev pub before_title : Renderer → Group → List ℕ
before_title r g = place_of_cause r (first_cause g.elements.items)

-- what stands after the first row of its title
abbrev pub after_title : Group → List ℕ
after_title g = labels_of_cause (first_cause g.elements.items)

-- the rows of a group's short form
abbrev pub short_form : Renderer → Group → Title → List (List Cell)
short_form r g title = short_rows r.hyperlink (before_title r g) (after_title g) (heading_of_title title)

-- the rows of a group's short form where it has a title; the form needs one
abbrev pub titled_rows : Renderer → Group → Option Title → List (List Cell)
titled_rows r g None = []
titled_rows r g (Some title) = short_form r g title

-- the rows of a report's short form: those of its first group, which the form needs
abbrev pub short_page : Renderer → List Group → List (List Cell)
short_page r [] = []
short_page r (g ∷ groups) = titled_rows r g g.title
