use Rattle.std.proofs.Common.{List, [], ◌∷◌, ◌++◌, ◌∙◌, ap}
use Rattle.redraw_report.specs.SourceKey.{places_in}
use Rattle.redraw_report.specs.declared.finding.MarkedSpan.{MarkedSpan}
use Rattle.redraw_report.proofs.Keyed.{groups_push}
use Rattle.redraw_report.proofs.marks.add_mark.Goals as goal

pub returns : goal.returns
returns c =
    let m = c.args.mark.now in
    record {
      added = λ marks groups. groups_push c.args.groups.now c.remove-found.new.self c.insert.new.self c.key_of-key.result m c.push.new.self
          c.key_of-key.ensures.of c.remove-found.ensures.updates c.in_ok-insert.ensures.updates
          (c.in_ok-push.ensures.items
          ∙ ap (λ (l : List MarkedSpan). l ++ m ∷ []) (c.found_or_none-within.ensures.value ∙ ap places_in c.remove-found.ensures.value))
          marks groups;
    }
