use Rattle.snippet_strokes.proofs.Common.{◌≤◌, ◌+◌, ◌∙◌, ap, length, subst, sym, Layout, separator_cell, layout_of}
use Rattle.std.proofs.Common.{chars}
use Rattle.snippet_strokes.proofs.BesideLemmas.{number_first}
use Rattle.snippet_strokes.proofs.source_row.begin_source_row.Goals as goal

pub returns-clause-added : goal.returns-clause-added
returns-clause-added c =
    let layout = layout_of c.layout.inside in
    let ok = rw (c.separator_cell.ensures.value ∙ ap separator_cell (sym c.layout.view_is)) at c.in_ok-putc.ensures.ok in
    let short = subst (λ (l : Layout). length (chars c.args.number.now) ≤ l.gutter + 1) (sym c.layout.view_is) c.requires.number in
    rw (← c.layout.view_is) (number_first layout c.args.number.now c.args.buffer.now c.puts.new.self c.putc.new.self c.num_lines-row.result
    c.separator.result c.num_lines-row.ensures.count short c.separator.ensures.value c.in_ok-puts.ensures.ok c.puts.ensures.empty ok)
