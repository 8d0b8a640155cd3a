-- The lines of the text form of a report: those of its paragraphs, group by group.
use Rattle.std.specs.Prelude.{ℕ, Bool, List, [], ◌∷◌, ◌++◌, Option, None, map}
use Rattle.std.specs.List.{flat_map}
use Rattle.std.specs.Option.{option_to_list}
use Rattle.snippet_model.specs.Heading.{heading_of_message, heading_of_title}
use Rattle.snippet_model.specs.declared.snippet.Element.{Element}
use Rattle.snippet_model.specs.declared.snippet.Element.TheVariants as element
use Rattle.snippet_model.specs.declared.snippet.Group.{Group}
use Rattle.snippet_model.specs.declared.snippet.Title.{Title as TitleGiven}
use Rattle.snippet_text_form.specs.Lines.{cause_paragraphs, heading_paragraph, origin_paragraph, suggestion_paragraphs}
use Rattle.snippet_text_form.specs.declared.heading.HeadingKind.TheVariants.{Title, Message}
use Rattle.annotate_snippets.specs.ElementContext.{drawn_elements, file_of_group, first_two_share}
use Rattle.annotate_snippets.specs.TextForm.{PreviousSuggestion, before_next, suggestion_place, suggestion_settings}
use Rattle.annotate_snippets.specs.declared.renderer.Renderer.{Renderer}

-- the paragraphs of an element, each as its lines: a message has a line for each line of its text, each other paragraph is one line. A padding has
-- none
abbrev pub element_paragraphs : Renderer → Option (List ℕ) → Option PreviousSuggestion → Bool → Element → List (List (List ℕ))
element_paragraphs r file before followed (element.Message m) = heading_paragraph Message (heading_of_message m) ∷ []
element_paragraphs r file before followed (element.Cause s) = cause_paragraphs r.anonymized_origin_line_numbers s
element_paragraphs r file before followed (element.Suggestion s) =
    suggestion_paragraphs (suggestion_settings r) (suggestion_place file before followed s) s
element_paragraphs r file before followed (element.Origin o) = origin_paragraph r.anonymized_origin_line_numbers o ∷ []
element_paragraphs r file before followed (element.Padding p) = []

-- those of elements, in order
abbrev pub elements_paragraphs : Renderer → Option (List ℕ) → Option PreviousSuggestion → List Element → List (List (List ℕ))
elements_paragraphs r file before [] = []
elements_paragraphs r file before (e ∷ es) =
    element_paragraphs r file before (first_two_share (e ∷ es)) e ++ elements_paragraphs r file (before_next before e) es

-- that of a title, if there is one
abbrev pub title_paragraphs : Option TitleGiven → List (List (List ℕ))
title_paragraphs title = map (λ t. heading_paragraph Title (heading_of_title t)) (option_to_list title)

-- those of a group: its title's, and those of the elements that are drawn
abbrev pub group_paragraphs : Renderer → List Group → Group → List (List (List ℕ))
group_paragraphs r groups g =
    title_paragraphs g.title ++ elements_paragraphs r (file_of_group groups g) None (drawn_elements g)

-- the paragraphs of a report in the text form
abbrev pub report_paragraphs : Renderer → List Group → List (List (List ℕ))
report_paragraphs r groups = flat_map (group_paragraphs r groups) groups
