use Rattle.std.proofs.Common.{◌∙◌, Some, ap, length, sym}
use Rattle.std.specs.Prelude.{codes, option_and_then}
use Rattle.redraw_tools.specs.Rule as spec
use Rattle.redraw_tools.specs.Rule.{items_in}
use Rattle.redraw_tools.specs.RuleIndex.{indexed}
use Rattle.redraw_tools.proofs.Indexing.{none-of}
use Rattle.redraw_tools.proofs.rules.RunRules.number_in.Goals as goal

pub returns-in-Some : goal.returns-in-Some
returns-in-Some c =
    record {
      value = λ run are.
          c.number.ensures.value (items_in (codes "rules") (spec.tool_part run (Some c.args.extension)))
          (λ id. ap (option_and_then (λ numbers. indexed numbers id)) c.in-Some.ensures.value ∙ are (Some c.args.extension) id);
    }

pub returns-in-None : goal.returns-in-None
returns-in-None c =
    record {
      value = λ run are.
          sym (none-of (length c.args.id.now) (items_in (codes "rules") (spec.tool_part run (Some c.args.extension))) c.args.id.now
          (λ id. ap (option_and_then (λ numbers. indexed numbers id)) c.in-None.ensures.value ∙ are (Some c.args.extension) id));
    }
