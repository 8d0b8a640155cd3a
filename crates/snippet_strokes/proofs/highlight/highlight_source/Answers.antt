use Rattle.std.proofs.lemmas.Grind.{common_steps}
use Rattle.snippet_strokes.proofs.Common.{◌∙◌, arith, take_all}
use Rattle.snippet_strokes.proofs.HighlightLaws.{lit_by-asked, lit_by-end, lit_by-none, lit_by-unasked, lit_by-width}
use Rattle.snippet_strokes.proofs.highlight.highlight_source.Goals as goal
use Rattle.snippet_strokes.proofs.highlight.highlight_source.Goals.{then-entry+then-not-is_end_part+in_ok-highlight_entry, else-entry}
use Rattle.snippet_strokes.proofs.highlight.highlight_source.Goals.{else-entry-via-then-entry+else-not-is_end_part, else-entry-via-else-entry}

pub loop-entry-init : goal.loop-entry-init
loop-entry-init c = lit_by-none c.args.layout.code c.args.dropped c.args.row c.args.buffer.now c.args.entries.now

pub highlight_entry-requires-clause-short : goal.highlight_entry-requires-clause-short
highlight_entry-requires-clause-short c = grind (arith, common_steps, lit_by-width)

pub loop-entry-preserved : goal.loop-entry-preserved
loop-entry-preserved c =
    let es = c.args.entries.now in
    let old = c.args.buffer.now in
    let row = c.args.row in
    let code = c.args.layout.code in
    let dropped = c.args.dropped in
    let i = c.loop-entry.entry-index in
    let within = c.loop-entry-test.true in
    let item = c.entry-item.result in
    let is = c.entry-item.is in
    elim c.if-entry.branch [
      | then-entry+then-not-is_end_part+in_ok-highlight_entry w ↦
          grind (arith, common_steps, lit_by-asked, code, dropped, row, old, es, i, item, is, within, c.loop-entry.invariant)
      | else-entry w ↦ w.buffer-is ∙ c.loop-entry.invariant ∙ elim w.else-entry.branch [
        | else-entry-via-then-entry+else-not-is_end_part v ↦ grind (arith, common_steps, lit_by-end, code, dropped, row, old, es, i, item, is, within)
        | else-entry-via-else-entry v ↦ lit_by-unasked code dropped row old es i item is within v.if-entry.false
      ]
    ]

pub returns : goal.returns
returns c = grind (arith, common_steps, take_all)
