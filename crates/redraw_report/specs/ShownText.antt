-- The text that places are shown in, whether its lines are known or not.
use Rattle.std.specs.Prelude.{ℕ, List}
use Rattle.redraw_report.specs.declared.shown_text.ShownText.{ShownText}
use Rattle.redraw_report.specs.declared.shown_text.ShownText.TheVariants.{Text, Lines}

abbrev pub shown_text : ShownText → List ℕ
shown_text (Text text) = text.now
shown_text (Lines lines) = lines.now
