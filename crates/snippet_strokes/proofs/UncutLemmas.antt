-- Where no entry of a line is wide none is cut; and a wide one that others overlap isn't, either.
use Rattle.snippet_strokes.proofs.Common.{◌≡◌, ◌∙◌, ℕ, ◌+◌, Bool, true, false, not, cond, List, [], ◌∷◌, length, map, refl, sym, ap}
use Rattle.snippet_strokes.proofs.Common.{Layout, arith, and_from, sum_by-cons, list_all, zip, placed_of, PlacedEntry, is_wide_entry, LineAnnotation}
use Rattle.snippet_strokes.proofs.Common.{placeholder_of, DecorStyle, Ascii, Primary, Context, is_cut, overlapped, with_blocks, painting_order, is_uncut}
use Rattle.snippet_strokes.proofs.Common.{cut_pairs}
use Rattle.snippet_strokes.proofs.Common.{nat_tests, squeezed}
use Rattle.std.specs.Prelude.{◌==◌, ◌&&◌}
use Rattle.snippet_strokes.proofs.BegunLemmas.{wide_entries-order}
use Rattle.snippet_strokes.proofs.Examples.{entry, layout}
use Rattle.snippet_strokes.proofs.PlacedOf.{placed_of_are}
use Rattle.snippet_strokes.proofs.SeenRows.{wide_entries}
use Rattle.snippet_strokes.proofs.SqueezedLemmas.{narrow_same}

-- a sum of nothing
zero_parts : (b : Bool) (n : ℕ) → cond b 1 0 + n ≡ 0 → (b ≡ false) × (n ≡ 0)
zero_parts true n none = absurd (omega (arith, none))
zero_parts false n none = (refl, omega (arith, none))

-- of entries none of which is wide none is cut, whatever is known of them
none_cut : (room : ℕ) (decor : DecorStyle) (es : List PlacedEntry) (flags : List Bool) → wide_entries room decor (map (λ (e : PlacedEntry). e.entry) es) ≡ 0
    → list_all (λ pair. not (is_cut room decor pair)) (zip es flags) ≡ true
none_cut room decor [] flags narrow = refl
none_cut room decor (e ∷ es) [] narrow = refl
none_cut room decor (e ∷ es) (flag ∷ flags) narrow =
    let wide : LineAnnotation → Bool = is_wide_entry room (length (placeholder_of decor)) in
    let entries = map (λ (x : PlacedEntry). x.entry) es in
    let parts = zero_parts (wide e.entry) (wide_entries room decor entries) (sym (sum_by-cons (λ x. cond (wide x) 1 0) e.entry entries) ∙ narrow) in
    and_from (not (is_cut room decor (e, flag))) (list_all (λ pair. not (is_cut room decor pair)) (zip es flags)) (ap (λ b. not (b && not flag)) parts.0)
    (none_cut room decor es flags parts.1)

-- so a line without a wide entry has none that is cut
pub narrow_uncut : (room : ℕ) (drawn : Layout) (es : List LineAnnotation) → wide_entries room drawn.decor es ≡ 0 → is_uncut room drawn es ≡ true
narrow_uncut room drawn es narrow =
    let placed = placed_of drawn es in
    and_from (length (squeezed drawn room es).1 == 0) (list_all (λ pair. not (is_cut room drawn.decor pair)) (cut_pairs drawn placed))
    (grind (arith, nat_tests, narrow_same drawn room es narrow)) (none_cut room drawn.decor (painting_order placed)
    (with_blocks drawn (painting_order placed) (overlapped placed)) (wide_entries-order drawn room drawn.decor es placed (placed_of_are drawn es) ∙ narrow))

-- four spans that overlap one another: in twenty columns all are wide, and none is cut
abbrev nested : List LineAnnotation
nested = entry Primary 0 60 ∷ entry Context 1 60 ∷ entry Context 2 60 ∷ entry Context 3 60 ∷ []

nested_wide : wide_entries 20 Ascii nested ≡ 4
nested_wide = refl

nested_uncut : is_uncut 20 layout nested ≡ true
nested_uncut = refl

-- one alone is cut
alone_cut : is_uncut 20 layout (entry Primary 0 50 ∷ []) ≡ false
alone_cut = refl
