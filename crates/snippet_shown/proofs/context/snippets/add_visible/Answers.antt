use Rattle.snippet_shown.proofs.Common.{common_steps, ◌≡◌, ◌∙◌, ℕ, ◌++◌, Bool, false, List, [], ◌∷◌, Option, None, length, map, refl, sym, ap, append_assoc}
use Rattle.snippet_shown.proofs.Common.{append-nil, arith, into_iter_items, Global, CowStr, Range, Annotation, AnnotationKind, Visible, visible_mark}
use Rattle.snippet_shown.proofs.context.snippets.add_visible.Goals as goal

nothing_left : (xs : List (Range ℕ)) → length xs ≡ 0 → xs ≡ []
nothing_left [] none = refl
nothing_left (x ∷ xs) none = absurd (omega arith)

-- an annotation by its parts
abbrev of_parts : Range ℕ → Option (CowStr Global) → AnnotationKind → Bool → Annotation
of_parts span label kind highlight = record { span = span; label = label; kind = kind; highlight_source = highlight }

visible_mark-is : (a : Annotation) (span : Range ℕ) → a.span ≡ span → a.label ≡ None → a.kind ≡ Visible → a.highlight_source ≡ false → a ≡ visible_mark span
visible_mark-is a span is no_label kind plain = grind (arith, common_steps, a.label, a.kind, a.highlight_source)

pub loop-span-init : goal.loop-span-init
loop-span-init c = grind (arith, common_steps, c.into_iter-span-iterator.ensures.into_iter_gives.0, c.into_iter-span-iterator.ensures.into_iter_gives.1)

pub loop-span-preserved : goal.loop-span-preserved
loop-span-preserved c =
    let at = c.loop-span in
    let x : Range ℕ = c.in-Some.span in
    let rest : List (Range ℕ) = into_iter_items c.next.new.self in
    let steps : into_iter_items at.span-iterator ≡ x ∷ rest = c.in-Some.ensures.steps.0 in
    let mark : c.span.result ≡ visible_mark x =
    visible_mark-is c.span.result x c.span.ensures.span c.span.ensures.label c.span.ensures.kind c.span.ensures.highlight_source in
    record {
      added = ap (λ (marks : List Annotation). marks ++ map visible_mark rest) c.in_ok-push.ensures.items
          ∙ ap (λ (m : Annotation). (at.markers.items ++ m ∷ []) ++ map visible_mark rest) mark
          ∙ append_assoc at.markers.items (visible_mark x ∷ []) (map visible_mark rest)
          ∙ sym (ap (λ (spans : List (Range ℕ)). at.markers.items ++ map visible_mark spans) steps) ∙ at.invariant.added;
      left = let was = at.invariant.left in
          let gone = c.in-Some.ensures.steps.1 in
          let short = ap length steps in
          omega arith;
    }

pub returns : goal.returns
returns c =
    let at = c.loop-span in
    let empty : into_iter_items at.span-iterator ≡ [] = nothing_left _ (sym at.invariant.left ∙ c.in-None.ensures.steps.0) in
    record {
      added = sym (append-nil at.markers.items) ∙ sym (ap (λ (spans : List (Range ℕ)). at.markers.items ++ map visible_mark spans) empty)
          ∙ at.invariant.added;
    }
