use Rattle.snippet_grid.proofs.Common.{common_steps, arith, refl, string_bytes, false≢true}
use Rattle.snippet_grid.proofs.AddedRows.{FIRST, so_far_all, so_far_blank, so_far_more, so_far_none}
use Rattle.snippet_grid.proofs.RunLemmas.{BeginsWith-same, BeginsWith-trans}
use Rattle.snippet_grid.proofs.added_row.add_stretches.Goals as goal

pub loop-from-init : goal.loop-from-init
loop-from-init c = grind (arith, common_steps, BeginsWith-same, so_far_none)

pub loop-from-preserved-then-is_blank : goal.loop-from-preserved-then-is_blank
loop-from-preserved-then-is_blank c =
    record {
      grows = c.loop-from.invariant.grows;
      so_far = so_far_blank (string_bytes c.loop-from.text) c.args.row c.args.cells.now c.args.runs.now.items c.loop-from.runs.items c.loop-from.from FIRST
          c.loop-from-test.true (c.if-is_blank.ensures.value.0 refl) c.loop-from.invariant.so_far;
    }

pub loop-from-preserved : goal.loop-from-preserved
loop-from-preserved c =
    let old = string_bytes c.args.text.now in
    let mid = string_bytes c.loop-from.text in
    let new = string_bytes c.add_stretch.new.text in
    record {
      grows = BeginsWith-trans old mid new c.loop-from.invariant.grows c.add_stretch.ensures.text;
      so_far = so_far_more mid new c.args.row c.args.cells.now c.args.runs.now.items c.loop-from.runs.items c.add_stretch.new.runs.items c.loop-from.from
          c.in_ok-from.from FIRST c.add_stretch.ensures.text (λ blank. absurd (false≢true (c.if-is_blank.ensures.value.1 blank))) c.in_ok-from.ensures.ok
          c.loop-from.invariant.so_far;
    }

pub returns-clause-ok : goal.returns-clause-ok
returns-clause-ok c = grind (arith, common_steps, so_far_all, c.loop-from.text, c.loop-from.from, c.loop-from-test.false, c.loop-from.invariant.so_far)
