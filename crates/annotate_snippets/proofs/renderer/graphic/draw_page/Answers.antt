use Rattle.annotate_snippets.proofs.Common.{◌≡◌, ◌∙◌, ◌==◌, ◌+◌, alloc_error, ap, drop, arith, inr, length, map, refl, subst, sym, take}
use Rattle.annotate_snippets.proofs.Common.{true, YieldsList-from_vec, YieldsList-end, YieldsList-from_enumerate, YieldsList-turn, length_push, take_all}
use Rattle.annotate_snippets.proofs.Common.{option_copied, graphic_form, gutter_of_report, Stops, Takes}
use Rattle.annotate_snippets.proofs.AreTexts.{prepared_texts}
use Rattle.annotate_snippets.proofs.GridRows.{page_count, room_at, stands_at, taken_here, turn_group, turn_prepared, turns_all}
use Rattle.annotate_snippets.proofs.PageWords.{page_at}
use Rattle.annotate_snippets.proofs.PreparedLemmas.{group_of}
use Rattle.annotate_snippets.proofs.ReportLemmas.{page_laws}
use Rattle.annotate_snippets.proofs.SinkLemmas.{err_same, takes_more}
use Rattle.annotate_snippets.proofs.renderer.graphic.draw_page.Goals as goal

pub loop-i-init : goal.loop-i-init
loop-i-init g c = record { empty = c.new-buffer.ensures.empty; taken = refl }

pub group_context-around-requires : goal.group_context-around-requires
group_context-around-requires g c =
    let turn = YieldsList-turn (YieldsList-from_enumerate (YieldsList-from_vec c.in_ok-prepared.prepared.items (cc) (cc))
    (cc)) c.loop-i.yielded c.loop-i.i-iterator c.loop-i.yielded_by c.next.result c.next.new.self
    (c.in-Some.i, c.in-Some.group) c.in-Some.is c.next.ensures.steps in
    let same : map group_of c.deref.result.now ≡ c.args.groups.now = ap (map group_of) c.deref.ensures.value ∙ c.in_ok-prepared.ensures.groups in
    record {
      prepared = turn_prepared c.in_ok-prepared.prepared.items (length c.loop-i.yielded) c.in-Some.i c.in-Some.group c.in_ok-prepared.ensures.prepared turn;
      gutter = c.gutter_of-gutter.ensures.value ∙ ap (gutter_of_report c.args.renderer.now) same;
      small = c.gutter_of-gutter.ensures.small;
      file = c.report_file-file.ensures.value;
    }

pub add-requires : goal.add-requires
add-requires g c =
    let turn = YieldsList-turn (YieldsList-from_enumerate (YieldsList-from_vec c.in_ok-prepared.prepared.items (cc) (cc))
    (cc)) c.loop-i.yielded c.loop-i.i-iterator c.loop-i.yielded_by c.next.result c.next.new.self
    (c.in-Some.i, c.in-Some.group) c.in-Some.is c.next.ensures.steps in
    let prepared = turn_prepared c.in_ok-prepared.prepared.items (length c.loop-i.yielded) c.in-Some.i c.in-Some.group c.in_ok-prepared.ensures.prepared turn in
    record {
      empty = c.loop-i.invariant.empty;
      prepared = prepared;
      room = room_at c.args.renderer.now c.args.groups.now c.in-Some.i c.in-Some.group c.group_context-around.result.layout c.requires.drawable prepared
          (turn_group c.args.groups.now c.in_ok-prepared.prepared.items (length c.loop-i.yielded) c.in-Some.i c.in-Some.group
          c.in_ok-prepared.ensures.groups turn) c.group_context-around.ensures.layout;
    }

pub loop-i-preserved : goal.loop-i-preserved
loop-i-preserved g c =
    let r = c.args.renderer.now in
    let groups = c.args.groups.now in
    let around = c.group_context-around in
    let turn = YieldsList-turn (YieldsList-from_enumerate (YieldsList-from_vec c.in_ok-prepared.prepared.items (cc) (cc))
    (cc)) c.loop-i.yielded c.loop-i.i-iterator c.loop-i.yielded_by c.next.result c.next.new.self
    (c.in-Some.i, c.in-Some.group) c.in-Some.is c.next.ensures.steps in
    let n = length c.loop-i.yielded in
    let here = page_at r groups n c.in-Some.group.group.now in
    let at = stands_at r groups c.in_ok-prepared.prepared.items n c.in-Some.i c.in-Some.group c.in_ok-prepared.ensures.groups turn in
    let took = g.S.PageSink.took in
    let form = graphic_form r groups in
    let adds = taken_here r groups c.in_ok-prepared.prepared.items n c.in-Some.i c.in-Some.group around.result.layout around.result.place
    (option_copied around.result.file) c.in_ok-prepared.ensures.groups turn around.ensures.layout around.ensures.place around.ensures.file
    (λ first page. took first page c.loop-i.sink c.add.new.self) c.in_ok-buffer.ensures.took in
    record {
      empty = c.in_ok-buffer.ensures.empty;
      taken = subst (λ page. Takes took true page c.args.sink.now c.add.new.self)
          (sym (ap (λ k. take k form) (length_push c.loop-i.yielded (c.in-Some.i, c.in-Some.group)) ∙ at.next))
          (takes_more took (take n form) here c.args.sink.now c.loop-i.sink c.add.new.self c.loop-i.invariant.taken
          (subst (λ k. took (k == 0) here c.loop-i.sink c.add.new.self) (sym at.count) adds));
    }

pub returns-in_err-buffer-clause-stopped : goal.returns-in_err-buffer-clause-stopped
returns-in_err-buffer-clause-stopped g c =
    let r = c.args.renderer.now in
    let groups = c.args.groups.now in
    let around = c.group_context-around in
    let turn = YieldsList-turn (YieldsList-from_enumerate (YieldsList-from_vec c.in_ok-prepared.prepared.items (cc) (cc))
    (cc)) c.loop-i.yielded c.loop-i.i-iterator c.loop-i.yielded_by c.next.result c.next.new.self
    (c.in-Some.i, c.in-Some.group) c.in-Some.is c.next.ensures.steps in
    let n = length c.loop-i.yielded in
    let here = page_at r groups n c.in-Some.group.group.now in
    let at = stands_at r groups c.in_ok-prepared.prepared.items n c.in-Some.i c.in-Some.group c.in_ok-prepared.ensures.groups turn in
    let stopped = g.S.PageSink.stopped in
    let form = graphic_form r groups in
    let stops = taken_here r groups c.in_ok-prepared.prepared.items n c.in-Some.i c.in-Some.group around.result.layout around.result.place
    (option_copied around.result.file) c.in_ok-prepared.ensures.groups turn around.ensures.layout around.ensures.place around.ensures.file
    (λ first page. stopped first page c.in_err-buffer.field-0.0 c.loop-i.sink c.add.new.self) c.in_err-buffer.ensures.stopped in
    err_same c.from_residual-in_err-buffer.result c.in_err-buffer.field-0.0
    (λ error. Stops g.S.PageSink.took stopped (g.S.Error.From.from_gives alloc_error) form error c.args.sink.now c.add.new.self)
    c.from_residual-in_err-buffer.ensures.1 (inr (record {
      before = take n form;
      group = here;
      after = drop (n + 1) form;
      page_is = at.whole;
      mid = c.loop-i.sink;
      taken = c.loop-i.invariant.taken;
      stops = subst (λ k. stopped (k == 0) here c.in_err-buffer.field-0.0 c.loop-i.sink c.add.new.self) (sym at.count) stops;
    }))

pub returns-clause-laws : goal.returns-clause-laws
returns-clause-laws g c =
    page_laws c.args.renderer.now c.args.groups.now c.requires.drawable (prepared_texts _ _ c.in_ok-prepared.ensures.groups c.in_ok-prepared.ensures.prepared)

pub returns-clause-took : goal.returns-clause-took
returns-clause-took g c =
    let r = c.args.renderer.now in
    let groups = c.args.groups.now in
    let n = length c.loop-i.yielded in
    let end = YieldsList-end (YieldsList-from_enumerate (YieldsList-from_vec c.in_ok-prepared.prepared.items (cc) (cc))
    (cc)) c.loop-i.yielded c.loop-i.i-iterator c.loop-i.yielded_by c.next.result c.next.new.self c.in-None.is c.next.ensures.steps in
    let all = turns_all groups c.in_ok-prepared.prepared.items n c.in_ok-prepared.ensures.groups end.1 in
    subst (λ page. Takes g.S.PageSink.took true page c.args.sink.now c.loop-i.sink)
    (take_all n (graphic_form r groups) (omega (arith, all, page_count r groups))) c.loop-i.invariant.taken
