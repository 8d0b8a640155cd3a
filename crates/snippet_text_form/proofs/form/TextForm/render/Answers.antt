use Rattle.std.proofs.Common.{arith}
use Rattle.std.proofs.lemmas.Grind.{common_steps}
use Rattle.snippet_text_form.proofs.Common.{◌≡◌, ◌∙◌, ◌++◌, List, ℕ, ap, drop, subst, string_bytes, drop_all, drop_more, form_bytes, FormMark}
use Rattle.snippet_text_form.proofs.FormLaws.{form-woven}
use Rattle.snippet_text_form.proofs.FormSteps.{IsRenderedTo, IsRenderedTo-all, IsRenderedTo-mark}
use Rattle.snippet_text_form.proofs.MarkLemmas.{first_place, mark_here, no_mark, place_boundary}
use Rattle.snippet_text_form.proofs.form.TextForm.render.Goals as goal

pub range-requires-clause-start_boundary : goal.range-requires-clause-start_boundary
range-requires-clause-start_boundary c =
    λ _. place_boundary c.as_str-text.result.now c.loop-mark.from c.as_str-text.utf8
    (first_place c.as_str-text.result.now c.loop-mark.from (drop c.loop-mark.mark-index c.deref-mark-items.result.now) c.loop-mark.invariant.marks_are)

pub range-requires-clause-end_boundary : goal.range-requires-clause-end_boundary
range-requires-clause-end_boundary c = grind (arith, common_steps, no_mark, place_boundary, mark_here)

pub range-requires-in-loop-mark-clause-start_boundary : goal.range-requires-in-loop-mark-clause-start_boundary
range-requires-in-loop-mark-clause-start_boundary c = grind (arith, common_steps, no_mark, place_boundary, mark_here)

pub range-requires-in-loop-mark-clause-end_boundary : goal.range-requires-in-loop-mark-clause-end_boundary
range-requires-in-loop-mark-clause-end_boundary c = grind (arith, common_steps, no_mark, place_boundary, first_place, mark_here)

pub loop-mark-preserved : goal.loop-mark-preserved
loop-mark-preserved c = grind (arith, common_steps, no_mark, drop_more, IsRenderedTo-mark)

pub range-requires-2-clause-start_boundary : goal.range-requires-2-clause-start_boundary
range-requires-2-clause-start_boundary c =
    λ _. place_boundary c.as_str-text.result.now c.loop-mark.from c.as_str-text.utf8
    (first_place c.as_str-text.result.now c.loop-mark.from (drop c.loop-mark.mark-index c.deref-mark-items.result.now) c.loop-mark.invariant.marks_are)

pub returns : goal.returns
returns c =
    let text : List ℕ = c.as_str-text.result.now in
    let left = subst (λ (ms : List FormMark). IsRenderedTo c.args.sheet.now c.args.self.now text ms c.loop-mark.from (string_bytes c.loop-mark.out))
    (drop_all c.loop-mark.mark-index c.deref-mark-items.result.now c.loop-mark-test.false) c.loop-mark.invariant in
    let whole : string_bytes c.push_some-2.new.out ≡ form_bytes c.args.sheet.now c.args.self.now = IsRenderedTo-all _ _ text _ _ _ c.as_str-text.utf8 left
    (c.in_ok-push_some-2.ensures.bytes ∙ ap (λ (bs : List ℕ). string_bytes c.loop-mark.out ++ bs) c.range-2.ensures.value) in
    record {
      text = whole;
      woven = grind (arith, common_steps, whole, form-woven, c.args.sheet.now, c.args.self.now);
    }
