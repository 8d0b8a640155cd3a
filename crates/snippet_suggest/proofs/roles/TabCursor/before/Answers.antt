use Rattle.std.proofs.lemmas.Grind.{common_steps}
use Rattle.snippet_suggest.proofs.Common.{arith, refl}
use Rattle.snippet_suggest.proofs.StretchRows.{cursor_ended, cursor_next, cursor_there}
use Rattle.snippet_suggest.proofs.roles.TabCursor.before.Goals as goal
use Rattle.snippet_suggest.proofs.roles.TabCursor.before.Goals.{then-loop-self-test+in_default}

pub loop-self-init : goal.loop-self-init
loop-self-init c = grind (arith, common_steps)

pub loop-self-preserved : goal.loop-self-preserved
loop-self-preserved c =
    let inv = c.loop-self.invariant in
    record {
      at = cursor_next c.loop-self.self _ c.in-Some.c c.from.result inv.at refl c.in-Some.ensures.steps.0 refl c.from.ensures c.saturating_add-self.ensures;
      line = inv.line;
      few = omega (arith, c.loop-self-test.true);
    }

pub returns-clause-value : goal.returns-clause-value
returns-clause-value c = grind (arith, common_steps, cursor_there, cursor_ended)
