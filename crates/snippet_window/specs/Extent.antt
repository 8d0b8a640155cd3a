-- How far lines reach so far.
use Rattle.std.specs.Prelude.{◌≡◌, ℕ, not, List, [], ◌∷◌, map, filter, chars}
use Rattle.std.specs.List.{flat_map, filter_map}
use Rattle.snippet_text.specs.Width.{width_of}
use Rattle.snippet_parts.specs.Entries.{is_bar}
use Rattle.snippet_parts.specs.declared.entries.LineAnnotation.{LineAnnotation}
use Rattle.snippet_parts.specs.declared.entries.AnnotatedLineInfo.{AnnotatedLineInfo}
use Rattle.snippet_window.specs.declared.extent.Extent.{Extent}
use Rattle.snippet_parts.specs.Least.{least, greatest}
use Rattle.snippet_window.specs.Measures.{end_with}
use Rattle.snippet_window.specs.Window.{leading_whitespace}

-- the entries among these that have columns: all but bars
abbrev pub with_columns : List LineAnnotation → List LineAnnotation
with_columns es = filter (λ e. not (is_bar e.annotation_type)) es

-- the entries of some lines, line by line
abbrev pub entries_of : List AnnotatedLineInfo → List LineAnnotation
entries_of infos = flat_map (λ info. info.annotations.items) infos

-- the columns at which entries start and end, and those after their labels
abbrev pub columns_of : List LineAnnotation → List ℕ
columns_of es = flat_map (λ e. e.start.display ∷ e.end.display ∷ []) (with_columns es)

abbrev pub ends_of : List LineAnnotation → List ℕ
ends_of es = map (λ e. end_with e.end.display e.label) (with_columns es)

-- the characters of each line
abbrev pub line_texts : List AnnotatedLineInfo → List (List ℕ)
line_texts infos = map (λ info. chars info.line.now) infos

-- the extent is that of these entries
pub record ReachesEntries (es : List LineAnnotation) (extent : Extent) : Type 0 where
  pub first : extent.first ≡ least (columns_of es)
  pub last : extent.last ≡ greatest (columns_of es)
  pub label_end : extent.label_end ≡ greatest (ends_of es)

-- the extent is that of these lines, with their entries
pub record ReachesLines (infos : List AnnotatedLineInfo) (extent : Extent) : Type 0 where
  pub entries : ReachesEntries (entries_of infos) extent
  pub whitespace : extent.whitespace ≡ least (filter_map leading_whitespace (line_texts infos))
  pub widest : extent.widest ≡ greatest (map width_of (line_texts infos))
