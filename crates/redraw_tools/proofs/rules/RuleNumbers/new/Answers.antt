use Rattle.std.proofs.Common.{◌∙◌, None, Some, ap, if◌then◌else◌}
use Rattle.std.specs.Option.{option_or}
use Rattle.serde_json.specs.View.{view}
use Rattle.redraw_tools.specs.Rule.{has_id}
use Rattle.redraw_tools.proofs.Indexing.{first-more}
use Rattle.redraw_tools.proofs.rules.RuleNumbers.new.Goals as goal

pub loop-number-preserved : goal.loop-number-preserved
loop-number-preserved c = (
  c.in_ok-add.ensures.measured,
  λ id.
      c.in_ok-add.ensures.added id
      ∙ ap (λ p. option_or p (if has_id id (view c.index-rules-number.result) then Some c.loop-number.number else None)) (c.loop-number.invariant.1 id)
      ∙ first-more c.args.rules.now c.loop-number.number c.index-rules-number.result id c.loop-number-test.true c.index-rules-number.is,
)
