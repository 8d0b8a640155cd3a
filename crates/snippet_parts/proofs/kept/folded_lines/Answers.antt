use Rattle.snippet_parts.proofs.Common.{◌≡◌, ◌<◌, ◌||◌, ℕ, List, true, not, length, ap, subst, sym, ◌∙◌, All, filter, list_any}
use Rattle.snippet_parts.proofs.Common.{range_with_len, IfOk-weaker, source_lines, keeps, IsLocated, annotations_of, LocatedSpan, is_held}
use Rattle.snippet_parts.proofs.PartLemmas.{list_any-map}
use Rattle.snippet_parts.proofs.KeptLemmas.{filter-cut, held-all, held-two, kept-within, unkept}
use Rattle.snippet_parts.proofs.kept.folded_lines.Goals as goal

pub loop-span-preserved : goal.loop-span-preserved
loop-span-preserved c k =
    let at : IsLocated c.args.source.now c.span-item.result =
    subst (IsLocated c.args.source.now) (sym c.span-item.is) (c.requires.located c.loop-span.span-index c.span-item.result c.loop-span-test.true) in
    held-two (λ j (x : LocatedSpan). keeps c.args.source.now.text j x.annotation.now) c.args.located.now c.loop-span.span-index c.span-item.result
    c.loop-span.stretches.items c.push_stretch.new.stretches.items c.push_stretch-in-loop-span.new.stretches.items
    c.kept_stretches.result.0 c.kept_stretches.result.1
    c.loop-span-test.true c.in_ok-push_stretch.ensures.held c.in_ok-push_stretch-2.ensures.held
    (λ j. c.kept_stretches.ensures.value c.args.source.now j at ∙ ap (λ (x : LocatedSpan). keeps c.args.source.now.text j x.annotation.now) c.span-item.is)
    c.loop-span.invariant k

pub returns : goal.returns
returns c =
    let text = c.args.source.now.text in
    let marks = annotations_of c.args.located.now in
    let count : ℕ = length (source_lines text) in
    let are = λ (lines : List ℕ) (is : lines ≡ filter (is_held c.loop-span.stretches.items) (range_with_len 0 c.most_lines.result)).
    is ∙ held-all (λ k (x : LocatedSpan). keeps text k x.annotation.now) (λ k. not true || list_any (keeps text k) marks) c.args.located.now
    c.loop-span.span-index c.most_lines.result c.loop-span.stretches.items c.loop-span-test.false c.loop-span.invariant
    (λ k. sym (list_any-map (keeps text k) (λ (x : LocatedSpan). x.annotation.now) c.args.located.now))
    ∙ filter-cut (λ k. not true || list_any (keeps text k) marks) count c.most_lines.result c.most_lines.ensures.enough
    (λ k after. unkept text k marks after) in
    record {
      value = IfOk-weaker c.held_lines.result _ _ (λ lines is. are lines.items is) c.held_lines.ensures.value;
      within = IfOk-weaker c.held_lines.result _ _ (λ lines is. subst (All (λ k. k < count)) (sym (are lines.items is))
          (kept-within (λ k. not true || list_any (keeps text k) marks) count)) c.held_lines.ensures.value;
    }
