use Rattle.std.specs.Str.{chars}
use Rattle.snippet_strokes.proofs.CellLemmas.{shown_short}
use Rattle.snippet_strokes.proofs.BesideLemmas.{barred_last, bars_first, bars_left}
use Rattle.snippet_strokes.proofs.SourceRowLemmas.{front_short}
use Rattle.snippet_strokes.proofs.Common.{arith, common_steps}
use Rattle.snippet_strokes.proofs.source_row.write_source_row.Goals as goal

pub returns-clause-added : goal.returns-clause-added
returns-clause-added c = grind (arith, common_steps, bars_left, front_short, barred_last, bars_first)

pub returns-clause-short : goal.returns-clause-short
returns-clause-short c =
    let window = c.args.texts.window in
    shown_short c.args.layout.decor window.start (chars window.text.now) window.end c.requires.start c.requires.text c.requires.end
