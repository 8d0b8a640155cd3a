use Rattle.snippet_grid.proofs.Common.{arith, None, leb-true, Run, MainHeaderMsg}
use Rattle.snippet_grid.proofs.PutLemmas.{all_before}
use Rattle.snippet_grid.proofs.put.are_before.Goals as goal

-- what stands where a list has no run
abbrev none : Run
none = record { row = 0; cell = 0; count = 0; start = 0; end = 0; role = MainHeaderMsg; link = None }

pub returns-then-last-run : goal.returns-then-last-run
returns-then-last-run c =
    record {
      yes = λ h. all_before c.args.runs.now c.args.run.now none (omega arith) c.requires.ordered record
          { rows = omega (arith, c.if-last-run.true); cells = λ same. omega arith };
    }

pub returns-then-last-run-2 : goal.returns-then-last-run-2
returns-then-last-run-2 c =
    record {
      yes = λ h. all_before c.args.runs.now c.args.run.now none (omega arith) c.requires.ordered record
          { rows = omega (arith, c.if-last-run-2.true); cells = λ same. leb-true _ _ h };
    }
