use Rattle.std.proofs.Common.{List, sym, subst}
use Rattle.redraw_report.specs.declared.finding.Shown.{Shown}
use Rattle.redraw_report.specs.SourceKey.{AreKeysOf}
use Rattle.redraw_report.proofs.Keyed.{keys_push}
use Rattle.redraw_report.proofs.marks.add_shown.Goals as goal

pub returns-in_ok-push-clause-keyed : goal.returns-in_ok-push-clause-keyed
returns-in_ok-push-clause-keyed c =
    subst (λ (order : List Shown). AreKeysOf c.insert.new.self order) (sym c.in_ok-push.ensures.items)
    (keys_push c.args.keys.now c.insert.new.self c.key_of.result c.args.source c.args.order.now.items
    c.key_of.ensures.of c.requires.keyed c.in_ok-is_new.ensures.updates)
