-- What the steps that make another report of one ask of it, and where one has nothing to do.
use Rattle.std.specs.Prelude.{◌+◌, All, ℕ, ◌≤◌, ◌-◌, ◌&&◌, nat_le, Bool, true, List, [], ◌∷◌, if◌then◌else◌}
use Rattle.std.specs.Cow.{cow_str_bytes}
use Rattle.snippet_lines.specs.Lines.{newline_count}
use Rattle.snippet_lines.specs.IsSpan.{IsSpan}
use Rattle.snippet_model.specs.declared.snippet.Annotation.{Annotation}
use Rattle.snippet_model.specs.declared.snippet.Element.{Element}
use Rattle.snippet_model.specs.declared.snippet.Element.TheVariants.{Message, Cause, Suggestion, Origin, Padding}
use Rattle.snippet_model.specs.declared.snippet.Group.{Group}
use Rattle.snippet_model.specs.declared.snippet.Snippet.{Snippet}
use Rattle.snippet_model.specs.declared.snippet.Title.{Title}
use Rattle.snippet_style.specs.Bounds.{HasNext}
use Rattle.snippet_text.specs.TextBounds.{TextFits}
use Rattle.snippet_shown.specs.Remade.{IsGroupTaken}
use Rattle.snippet_model.specs.Fits.{ElementFits}
use Rattle.snippet_shown.specs.Letters.{Letter, is_feed, letter_width}

-- a snippet without a fault: its source and the numbers of its lines fit, and each of its spans is one
pub record IsSnippetSound (s : Snippet Annotation) : Type 0 where
  pub fits : TextFits (cow_str_bytes s.source.text)
  pub numbers : HasNext (s.line_start + newline_count (cow_str_bytes s.source.text))
  pub spans : All (λ a. IsSpan (cow_str_bytes s.source.text) a.span.start a.span.end) s.markers.items

-- an element whose source is annotated without a fault, or one of another kind
abbrev pub IsElementSound : Element → Type 0
IsElementSound (Cause s) = IsSnippetSound s
IsElementSound (Message message) = Unit {0}
IsElementSound (Suggestion s) = Unit {0}
IsElementSound (Origin origin) = Unit {0}
IsElementSound (Padding padding) = Unit {0}

-- any title
abbrev pub IsAnyTitle : Title → Type 0
IsAnyTitle title = Unit {0}

-- a group of such elements, under any title
abbrev pub IsGroupSound : Group → Type 0
IsGroupSound = IsGroupTaken IsAnyTitle IsElementSound

-- an element that is wrapped beside a gutter of so many cells: its texts fit, and the gutter is no wider than one can be
abbrev pub IsElementWrappable : ℕ → Element → Type 0
IsElementWrappable gutter e = ElementFits e × (gutter ≤ 20)

-- whether each line of a text is no wider than so many columns, the first than what is left of them
abbrev pub lines_fit : ℕ → ℕ → List Letter → Bool
lines_fit room left [] = true
lines_fit room left (l ∷ ls) =
    if is_feed l then lines_fit room room ls else nat_le (letter_width l) left && lines_fit room (left - letter_width l) ls
