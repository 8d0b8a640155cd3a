-- Lines of the input as they are handed on.
use Rattle.std.specs.Prelude.{ℕ, ◌==◌, ◌++◌, Bool, true, if◌then◌else◌, List, [], ◌∷◌, codes, replicate}
use Rattle.redraw_command.specs.Unheeded.{unheeded}
use Rattle.redraw_command.specs.declared.terminal.Markup.{Markup}
use Rattle.redraw_command.specs.declared.terminal.Markup.TheVariants.{Bare, Html, Markdown}
use Rattle.snippet_grid.specs.Html.{escaped}

-- what stands before a byte of a text in Markdown, given whether it starts a line: four blanks, which make a line of code of it
abbrev pub indent : Bool → List ℕ
indent starts = if starts then replicate 4 32 else []

-- a text as code in Markdown, given whether it starts a line. A carriage return, which may end a line there, is a blank
abbrev pub quoted : Bool → List ℕ → List ℕ
quoted starts [] = []
quoted starts (b ∷ bs) = indent starts ++ (if b == 13 then 32 else b) ∷ quoted (b == 10) bs

-- a line in HTML: with escapes, in an element of its own. The line feed after its tag is no part of what stands in it
abbrev pub preformatted : List ℕ → List ℕ
preformatted line = codes "<pre>\n" ++ escaped line ++ codes "</pre>\n"

-- a line of the input as it is handed on: in HTML with escapes, in Markdown as code, among workflow commands as none, and else as it is
abbrev pub handed : Markup → (is_workflow : Bool) → List ℕ → List ℕ
handed Html is_workflow line = preformatted line
handed Markdown is_workflow line = quoted true line
handed Bare is_workflow line = if is_workflow then unheeded line else line
