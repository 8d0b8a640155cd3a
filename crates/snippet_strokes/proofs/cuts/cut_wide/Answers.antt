use Rattle.snippet_strokes.proofs.Common.{◌∙◌, ◌+◌, ◌<◌, List, false, sym, ap, arith, length, drop, get_or, PlacedEntry}
use Rattle.snippet_strokes.proofs.CutWords.{Stretch, cut_of, cut_rows, cuts_of}
use Rattle.snippet_strokes.proofs.CutLemmas.{cut_rows-append, cuts_of-more, cuts_of-none}
use Rattle.snippet_strokes.proofs.CutPairs.{entries_cut, entry_cut}
use Rattle.snippet_strokes.proofs.Common.{common_steps}
use Rattle.snippet_strokes.proofs.cuts.cut_wide.Goals as goal

pub loop-k-preserved : goal.loop-k-preserved
loop-k-preserved c =
    let layout = c.args.layout in
    let placed = c.args.placed.now in
    let flags = c.args.overlapped.now in
    let k = c.loop-k.k in
    let x = c.index-placed-k.result in
    let flag = false in
    let within : k < length placed = omega (arith, c.loop-k-test.true, c.requires.count) in
    let row = c.args.row in
    let of : PlacedEntry → List Stretch = λ y. cut_of layout c.args.room (y, get_or flags k flag) in
    let rest = cuts_of layout c.args.room (drop (k + 1) placed) (drop (k + 1) flags) in
    let more = cuts_of-more layout c.args.room placed flags k x flag within c.loop-k-test.true in
    ap (cut_rows layout.decor row rest) (c.in_ok-cut_entry.ensures.value
    ∙ sym (entry_cut layout c.args.room row (x, get_or flags k flag) c.loop-k.buffer))
    ∙ ap (λ y. cut_rows layout.decor row rest (cut_rows layout.decor row (of y) c.loop-k.buffer)) c.index-placed-k.is
    ∙ sym (cut_rows-append layout.decor row (of (get_or placed k x)) rest c.loop-k.buffer)
    ∙ ap (λ cuts. cut_rows layout.decor row cuts c.loop-k.buffer) (sym more)
    ∙ c.loop-k.invariant

pub returns : goal.returns
returns c = grind (arith, common_steps, cuts_of-none, entries_cut)
