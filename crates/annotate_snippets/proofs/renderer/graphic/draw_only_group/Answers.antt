use Rattle.std.proofs.lemmas.Grind.{common_steps}
use Rattle.annotate_snippets.proofs.Common.{◌≡◌, ◌<◌, [], ◌∷◌, alloc_error, arith, drop, inr, length, map, refl, sym, take_all, get_or, enumerate_from}
use Rattle.annotate_snippets.proofs.Common.{option_copied, graphic_form, Stops, All, suc, zero, IsGroupPrepared, PreparedGroup}
use Rattle.annotate_snippets.proofs.AreTexts.{AreTexts, prepared_texts}
use Rattle.annotate_snippets.proofs.GridRows.{page_count, room_at, stands_at, taken_here, turn_group}
use Rattle.annotate_snippets.proofs.PageWords.{page_at}
use Rattle.annotate_snippets.proofs.PreparedLemmas.{group_of}
use Rattle.annotate_snippets.proofs.ReportLemmas.{page_laws}
use Rattle.annotate_snippets.proofs.SinkLemmas.{err_same, takes_more}
use Rattle.annotate_snippets.proofs.renderer.graphic.draw_only_group.Goals as goal

-- the only group is the first
first : (p : PreparedGroup) → (0 < length (enumerate_from 0 (p ∷ []))) × ((0, p) ≡ get_or (enumerate_from 0 (p ∷ [])) 0 (0, p))
first p = (omega arith, refl)

pub group_context-around-requires : goal.group_context-around-requires
group_context-around-requires g c = grind (arith, common_steps, group_of)

pub add-requires : goal.add-requires
add-requires g c =
    let p = c.args.prepared in
    let groups = c.args.groups.now in
    record {
      empty = c.new.ensures.empty;
      prepared = c.requires.prepared;
      room = room_at c.args.renderer.now groups 0 p c.group_context-around.result.layout c.requires.drawable c.requires.prepared
          (turn_group groups (p ∷ []) 0 0 p (sym c.requires.only) (first p)) c.group_context-around.ensures.layout;
    }

-- one group is prepared
all_one : (p : PreparedGroup) → IsGroupPrepared p → All IsGroupPrepared (p ∷ [])
all_one p is zero d within = is
all_one p is (suc k) d within = absurd (omega (arith, within))

pub returns-clause-laws : goal.returns-clause-laws
returns-clause-laws g c =
    let groups = c.args.groups.now in
    let p = c.args.prepared in
    let same : map group_of (p ∷ []) ≡ groups = sym c.requires.only in
    let all : All IsGroupPrepared (p ∷ []) = all_one p c.requires.prepared in
    let texts : AreTexts groups = prepared_texts groups (p ∷ []) same all in page_laws c.args.renderer.now groups c.requires.drawable texts

pub returns-clause-took : goal.returns-clause-took
returns-clause-took g c = grind (arith, common_steps, page_at, stands_at, taken_here, take_all, page_count, takes_more)

pub returns-in_err-add-clause-stopped : goal.returns-in_err-add-clause-stopped
returns-in_err-add-clause-stopped g c =
    let r = c.args.renderer.now in
    let groups = c.args.groups.now in
    let p = c.args.prepared in
    let around = c.group_context-around in
    let here = page_at r groups 0 p.group.now in
    let at = stands_at r groups (p ∷ []) 0 0 p (sym c.requires.only) (first p) in
    let stopped = g.S.PageSink.stopped in
    let form = graphic_form r groups in
    let stops = taken_here r groups (p ∷ []) 0 0 p around.result.layout around.result.place (option_copied around.result.file) (sym c.requires.only) (first p)
    around.ensures.layout around.ensures.place around.ensures.file (λ first page. stopped first page c.in_err-add.field-0.0 c.args.sink.now c.add.new.self)
    c.in_err-add.ensures.stopped in
    err_same c.from_residual.result c.in_err-add.field-0.0
    (λ error. Stops g.S.PageSink.took stopped (g.S.Error.From.from_gives alloc_error) form error c.args.sink.now c.add.new.self)
    c.from_residual.ensures.1 (inr (record {
      before = [];
      group = here;
      after = drop 1 form;
      page_is = at.whole;
      mid = c.args.sink.now;
      taken = refl;
      stops = stops;
    }))
