use Rattle.snippet_shown.proofs.Common.{length, subst, sym, YieldsList-from_vec, YieldsList-end, YieldsList-turn, All-get_or, IsGroupMade, IsGroupTaken}
use Rattle.snippet_shown.proofs.ReportLemmas.{zip_all, zip_more}
use Rattle.snippet_shown.proofs.remake.groups_remade.Goals as goal

pub group_remade-requires : goal.group_remade-requires
group_remade-requires g c =
    let turn = YieldsList-turn (YieldsList-from_vec c.args.groups.items (cc) (cc)) c.loop-group.yielded c.loop-group.group-iterator
    c.loop-group.yielded_by c.next.result c.next.new.self c.in-Some.group c.in-Some.is c.next.ensures.steps in
    let Taken = IsGroupTaken (g.R.Remake.takes_title c.args.how.now) (g.R.Remake.takes_element c.args.how.now) in
    record { taken = subst Taken (sym turn.1) (All-get_or Taken c.args.groups.items (length c.loop-group.yielded) c.in-Some.group turn.0 c.requires.taken) }

pub loop-group-preserved : goal.loop-group-preserved
loop-group-preserved g c =
    zip_more (IsGroupMade (g.R.Remake.makes_title c.args.how.now) (g.R.Remake.makes_element c.args.how.now)) c.loop-group.yielded
    c.loop-group.made.items _ c.in-Some.group c.in_ok-group_remade.field-0 c.in_ok-push.ensures.items c.loop-group.invariant
    c.in_ok-group_remade.ensures.made

pub returns : goal.returns
returns g c =
    let end = YieldsList-end (YieldsList-from_vec c.args.groups.items (cc) (cc)) c.loop-group.yielded c.loop-group.group-iterator
    c.loop-group.yielded_by c.next.result c.next.new.self c.in-None.is c.next.ensures.steps in
    record {
      made = zip_all (IsGroupMade (g.R.Remake.makes_title c.args.how.now) (g.R.Remake.makes_element c.args.how.now)) c.loop-group.yielded _
          c.loop-group.made.items end.0 c.loop-group.invariant;
    }
