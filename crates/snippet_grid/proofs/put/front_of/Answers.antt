use Rattle.snippet_grid.proofs.Common.{arith, get_or, get_or_default}
use Rattle.snippet_grid.proofs.RunLemmas.{none}
use Rattle.snippet_grid.proofs.PieceLemmas.{IsFront-none, IsFront-some, begin_after}
use Rattle.snippet_grid.proofs.put.front_of.Goals as goal

pub returns-then-run-first : goal.returns-then-run-first
returns-then-run-first c =
    record {
      front = IsFront-none c.args.text.now c.args.touched.now c.args.run.now
          (begin_after c.args.text.now c.args.run.now c.args.touched.now c.args.run.now.cell none c.requires.touched c.if-run-first.true);
    }

pub returns : goal.returns
returns c =
    record {
      front = IsFront-some c.args.text.now c.args.touched.now c.args.run.now (get_or c.args.touched.now 0 none)
          c.clipped.result c.requires.touched (omega arith) (get_or_default c.args.touched.now 0 none (get_or c.args.touched.now 0 none) (omega arith))
          c.if-run-first.false c.clipped.ensures.part;
    }
