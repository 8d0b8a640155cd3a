use Rattle.snippet_grid.proofs.Common.{arith, length, get_or, ◌-◌, ◌+◌, refl, get_or_default}
use Rattle.snippet_grid.proofs.RunLemmas.{none}
use Rattle.snippet_grid.proofs.PieceLemmas.{IsBack-none, IsBack-some, end_before}
use Rattle.snippet_grid.proofs.put.back_of.Goals as goal

pub returns-then-to-from : goal.returns-then-to-from
returns-then-to-from c =
    record {
      back = IsBack-none c.args.text.now c.args.touched.now c.args.run.now
          (end_before c.args.text.now c.args.run.now c.args.touched.now (c.args.run.now.cell + c.args.run.now.count)
          (length c.args.touched.now - 1) none c.requires.touched (omega arith) c.if-to-from.true);
    }

pub returns : goal.returns
returns c =
    record {
      back = IsBack-some c.args.text.now c.args.touched.now c.args.run.now (get_or c.args.touched.now (length c.args.touched.now - 1) none)
          c.clipped.result (length c.args.touched.now - 1) _ _ c.requires.touched (omega arith)
          (get_or_default c.args.touched.now (length c.args.touched.now - 1) none (get_or c.args.touched.now (length c.args.touched.now - 1) none)
          (omega arith)) refl refl c.if-to-from.false c.clipped.ensures.part;
    }
