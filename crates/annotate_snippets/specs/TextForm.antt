-- The text form of a report: what it is made of, and which texts stand in it.
use Rattle.std.specs.Prelude.{ℕ, ◌+◌, ◌==◌, ◌&&◌, ◌||◌, not, Bool, false, List, [], ◌∷◌, ◌++◌, Option, None, Some, map, if◌then◌else◌}
use Rattle.std.specs.List.{flat_map, list_any}
use Rattle.std.specs.Option.{is_some, option_to_list}
use Rattle.snippet_model.specs.Heading.{Heading, heading_of_message, heading_of_title}
use Rattle.snippet_model.specs.declared.snippet.Element.{Element}
use Rattle.snippet_model.specs.declared.snippet.Element.TheVariants as element
use Rattle.snippet_model.specs.declared.snippet.Group.{Group}
use Rattle.snippet_model.specs.declared.snippet.Patch.{Patch}
use Rattle.snippet_model.specs.declared.snippet.Snippet.{Snippet}
use Rattle.snippet_text_form.specs.Cause.{cause_form, label_characters, named_spans}
use Rattle.snippet_text_form.specs.Form.{FormPiece}
use Rattle.snippet_text_form.specs.HeadingForm.{heading_form}
use Rattle.snippet_text_form.specs.Suggestion.{origin_form, suggestion_form}
use Rattle.snippet_text_form.specs.declared.heading.HeadingKind.TheVariants.{Title, Message}
use Rattle.snippet_text_form.specs.declared.suggestion.SuggestionContext.{SuggestionContext}
use Rattle.snippet_text_form.specs.declared.suggestion.SuggestionSettings.{SuggestionSettings}
use Rattle.snippet_titles.specs.HeadingRows.{shown_text}
use Rattle.annotate_snippets.specs.ElementContext.{drawn_elements, file_of_group, first_two_share, is_same_file, path_bytes}
use Rattle.annotate_snippets.specs.declared.renderer.Renderer.{Renderer}

-- the suggestion right before an element: the path of its file, and its number in a row of suggestions for that, from 1
pub record PreviousSuggestion : Type 0 where
  pub path : Option (List ℕ)
  pub number : ℕ

-- whether a suggestion for this path goes on a row of suggestions, and its number there
abbrev pub continues : Option PreviousSuggestion → Option (List ℕ) → Bool
continues None path = false
continues (Some before) path = is_same_file before.path path

-- the number that a suggestion for this path has
abbrev pub option_number : Option PreviousSuggestion → Option (List ℕ) → ℕ
option_number None path = 1
option_number (Some before) path = if is_same_file before.path path then before.number + 1 else 1

-- the file that a suggestion needn't name: that of the one right before it, or else the group's
abbrev pub known_file : Option (List ℕ) → Option PreviousSuggestion → Option (List ℕ)
known_file file None = file
known_file file (Some before) = before.path

-- whether a path is there and is another than this file's
abbrev pub is_other_file : Option (List ℕ) → Option (List ℕ) → Bool
is_other_file file path = is_some path && not (is_same_file file path)

-- where a suggestion stands among others, given whether one for its file follows right after it
abbrev pub suggestion_place : Option (List ℕ) → Option PreviousSuggestion → Bool → Snippet Patch → SuggestionContext
suggestion_place file before followed s =
    record {
      option = if continues before (path_bytes s.path) || followed then Some (option_number before (path_bytes s.path)) else None;
      names_path = is_other_file (known_file file before) (path_bytes s.path);
    }

-- how suggestions are told: whether lines are anonymized, and whether line feeds are shown
abbrev pub suggestion_settings : Renderer → SuggestionSettings
suggestion_settings r =
    record { anonymized = r.anonymized_origin_line_numbers; show_line_feeds = r.show_line_feeds }

-- what stands right before the element after this one
abbrev pub before_next : Option PreviousSuggestion → Element → Option PreviousSuggestion
before_next before (element.Suggestion s) =
    Some (record { path = path_bytes s.path; number = option_number before (path_bytes s.path) })
before_next before other = None

-- an element; a padding is nothing
abbrev pub element_form : Renderer → Option (List ℕ) → Option PreviousSuggestion → Bool → Element → List FormPiece
element_form r file before followed (element.Message m) = heading_form r.hyperlink Message (heading_of_message m)
element_form r file before followed (element.Cause s) = cause_form r.anonymized_origin_line_numbers s
element_form r file before followed (element.Suggestion s) =
    suggestion_form (suggestion_settings r) (suggestion_place file before followed s) s
element_form r file before followed (element.Origin o) = origin_form r.anonymized_origin_line_numbers o
element_form r file before followed (element.Padding p) = []

-- elements, in order
abbrev pub elements_form : Renderer → Option (List ℕ) → Option PreviousSuggestion → List Element → List FormPiece
elements_form r file before [] = []
elements_form r file before (e ∷ es) =
    element_form r file before (first_two_share (e ∷ es)) e ++ elements_form r file (before_next before e) es

-- a group: its title, and the elements that are drawn
abbrev pub group_form : Renderer → List Group → Group → List FormPiece
group_form r groups g =
    flat_map (λ title. heading_form r.hyperlink Title (heading_of_title title)) (option_to_list g.title)
    ++ elements_form r (file_of_group groups g) None (drawn_elements g)

-- the text form of a report
abbrev pub text_form : Renderer → List Group → List FormPiece
text_form r groups = flat_map (group_form r groups) groups

-- whether a text is one line
abbrev pub is_one_line : List ℕ → Bool
is_one_line text = not (list_any (λ c. c == 10) text)

-- the text of a title or message as it is drawn, if it is one line
abbrev pub whole_text : Heading → List (List ℕ)
whole_text heading = if is_one_line (shown_text heading) then shown_text heading ∷ [] else []

-- the texts that stand in the text form, one after the other: those of titles and messages, each that is one line, and the labels
-- of marked spans, normalised
abbrev pub element_texts : Element → List (List ℕ)
element_texts (element.Message m) = whole_text (heading_of_message m)
element_texts (element.Cause s) = map label_characters (named_spans s.markers.items)
element_texts (element.Suggestion s) = []
element_texts (element.Origin o) = []
element_texts (element.Padding p) = []

-- the texts of a group that the text form shows in order: those of its title, then those of its elements
abbrev pub group_texts : Group → List (List ℕ)
group_texts g =
    flat_map (λ title. whole_text (heading_of_title title)) (option_to_list g.title) ++ flat_map element_texts g.elements.items

-- the texts of all groups of a report that the text form shows in order
abbrev pub report_texts : List Group → List (List ℕ)
report_texts groups = flat_map group_texts groups
