use Rattle.std.proofs.lemmas.Result.{on_ok_weaker}
use Rattle.serde_json.specs.View.{view}
use Rattle.redraw_tools.proofs.Indexing.{added-new}
use Rattle.redraw_tools.proofs.rules.RuleNumbers.add.Goals as goal

pub returns-in-Some-clause-added : goal.returns-in-Some-clause-added
returns-in-Some-clause-added c =
    λ o. on_ok_weaker c.put.result
    (λ is. added-new c.args.self.now c.put.new.self (view c.args.rule.now) c.in-Some.id.now c.args.number c.in-Some.ensures.value o is)
    (c.put.ensures.put o)
