use Rattle.snippet_shown.proofs.Common.{length, subst, sym, YieldsList-from_vec, YieldsList-end, YieldsList-turn, All-get_or}
use Rattle.snippet_shown.proofs.ReportLemmas.{zip_all, zip_more}
use Rattle.snippet_shown.proofs.remake.elements_remade.Goals as goal

pub element-requires : goal.element-requires
element-requires g c =
    let turn = YieldsList-turn (YieldsList-from_vec c.args.elements.items (cc) (cc)) c.loop-element.yielded c.loop-element.element-iterator
    c.loop-element.yielded_by c.next.result c.next.new.self c.in-Some.element c.in-Some.is c.next.ensures.steps in
    let Taken = g.R.Remake.takes_element c.args.how.now in
    let taken = All-get_or Taken c.args.elements.items (length c.loop-element.yielded) c.in-Some.element turn.0 c.requires.taken in
    record { taken = subst Taken (sym turn.1) taken }

pub loop-element-preserved : goal.loop-element-preserved
loop-element-preserved g c =
    zip_more (g.R.Remake.makes_element c.args.how.now) c.loop-element.yielded c.loop-element.made.items _ c.in-Some.element
    c.in_ok-element.field-0 c.in_ok-push.ensures.items c.loop-element.invariant c.in_ok-element.ensures.made

pub returns : goal.returns
returns g c =
    let end = YieldsList-end (YieldsList-from_vec c.args.elements.items (cc) (cc)) c.loop-element.yielded c.loop-element.element-iterator
    c.loop-element.yielded_by c.next.result c.next.new.self c.in-None.is c.next.ensures.steps in
    record {
      made = zip_all (g.R.Remake.makes_element c.args.how.now) c.loop-element.yielded _ c.loop-element.made.items end.0 c.loop-element.invariant;
    }
