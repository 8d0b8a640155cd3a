-- Laws of trimmed edits and of the patched source.
use Rattle.snippet_splice.proofs.Common.{◌≡◌, ℕ, ◌+◌, ◌-◌, ◌≤◌, Option, Some, None, List, [], ◌∷◌, ◌++◌, length, map, take, drop, refl, sym}
use Rattle.snippet_splice.proofs.Common.{ap, ◌∙◌, arith, append_assoc, length-take-le, length-drop, take-append-drop, take-take, drop-drop, drop-take}
use Rattle.snippet_splice.proofs.Common.{cond_both, and_parts, leb-true, slice_range, sandwich, Edit, shrunk, trimmed_edit, edited_from, AreApart}
use Rattle.snippet_splice.proofs.Common.{IsSandwiched, rules}
use Rattle.snippet_splice.proofs.Common.{common_steps}
use Rattle.snippet_splice.proofs.TrimLemmas.{sandwich-sandwiched}

-- ---- parts of a list

-- a part is the part up to a place in it and the part from there on
pub slice_split : (s : List ℕ) (a b c : ℕ) → a ≤ b → b ≤ c → slice_range s a c ≡ slice_range s a b ++ slice_range s b c
slice_split s a b c low high =
    let rest : take (c - a) (drop a s) ≡ take (b - a) (take (c - a) (drop a s))
    ++ drop (b - a) (take (c - a) (drop a s)) = sym (take-append-drop (b - a) (take (c - a) (drop a s))) in
    let front : take (b - a) (take (c - a) (drop a s)) ≡ slice_range s a b = take-take (b - a) (c - a) (drop a s) (omega arith) in
    let n : c - a ≡ (b - a) + (c - b) = omega arith in
    let back : drop (b - a) (take (c - a) (drop a s)) ≡ slice_range s b c = ap (λ k. drop (b - a) (take k (drop a s))) n ∙ drop-take (b - a) (c - b) (drop a s)
    ∙ ap (take (c - b)) (drop-drop (b - a) a s ∙ ap (λ k. drop k s) (omega arith)) in
    rest ∙ ap (λ l. l ++ drop (b - a) (take (c - a) (drop a s))) front ∙ ap (λ l. slice_range s a b ++ l) back

-- the rest of a list is the part up to a place and the rest from there on
pub drop_split : (s : List ℕ) (a b : ℕ) → a ≤ b → drop a s ≡ slice_range s a b ++ drop b s
drop_split s a b low = grind (arith, take-append-drop (b - a) (drop a s), drop-drop (b - a) a s)

-- ---- an edit that leaves alone what another writes anew as it was

-- an edit shrunk by what its text keeps of the source
pub record IsShrunk (source : List ℕ) (e t : Edit) : Type 0 where
  pub start : e.start ≤ t.start
  pub ordered : t.start ≤ t.end
  pub end : t.end ≤ e.end
  pub text : e.text ≡ slice_range source e.start t.start ++ (t.text ++ slice_range source t.end e.end)

unchanged : (source : List ℕ) (e : Edit) → e.start ≤ e.end → IsShrunk source e e
unchanged source e ordered = search rules

-- what is kept of a replaced text: the parts of it before and after
pub shrunk-by : (source : List ℕ) (e : Edit) (a : ℕ) (m : List ℕ) (b : ℕ) → e.start ≤ e.end → e.end ≤ length source
    → IsSandwiched (slice_range source e.start e.end) e.text a m b → IsShrunk source e (shrunk e (Some (a, m, b)))
shrunk-by source e a m b ordered within h = grind (arith, length-take-le, length-drop, take-take, drop-take, drop-drop, append_assoc)

-- a trimmed edit is the edit made smaller, where that doesn't end before it starts
pub trimmed_edit-shrunk : (source : List ℕ) (e : Edit) → e.start ≤ e.end → IsShrunk source e (trimmed_edit source e)
unfolding trimmed_edit
trimmed_edit-shrunk source e ordered = grind (arith, common_steps, cond_both, kept, leb-true, and_parts, unchanged)
  where
    kept : (r : Option (ℕ × List ℕ × ℕ)) → e.end ≤ length source → sandwich (slice_range source e.start e.end) e.text ≡ r → IsShrunk source e (shrunk e r)
    kept None within is = unchanged source e ordered
    kept (Some k) within is =
        shrunk-by source e k.0 k.1 k.2 ordered within (sandwich-sandwiched (slice_range source e.start e.end) e.text k.0 k.1 k.2 is)

-- ---- the patched source

-- from an earlier byte on: the source between comes first
pub edited_from-earlier : (source : List ℕ) (a b : ℕ) (es : List Edit) → a ≤ b → AreApart b es
    → edited_from source a es ≡ slice_range source a b ++ edited_from source b es
edited_from-earlier source a b [] low apart = drop_split source a b low
edited_from-earlier source a b (e ∷ es) low apart =
    ap (λ l. l ++ (e.text ++ edited_from source e.end es)) (slice_split source a b e.start low apart.0)
    ∙ append_assoc (slice_range source a b) (slice_range source b e.start) (e.text ++ edited_from source e.end es)

-- edits that stand apart from a place on stand apart from an earlier one on
pub AreApart-earlier : (a b : ℕ) (es : List Edit) → a ≤ b → AreApart b es → AreApart a es
AreApart-earlier a b [] low apart = tt
AreApart-earlier a b (e ∷ es) low apart = (omega (arith, apart.0), apart.1, apart.2)

-- trimmed edits stand apart as the untrimmed ones do
pub trimmed-apart : (source : List ℕ) (at : ℕ) (es : List Edit) → AreApart at es → AreApart at (map (trimmed_edit source) es)
trimmed-apart source at [] apart = tt
trimmed-apart source at (e ∷ es) apart = grind (arith, trimmed_edit-shrunk, AreApart-earlier, trimmed-apart source e.end es apart.2)

-- trimmed edits give what the untrimmed ones do
pub edited_from-trimmed : (source : List ℕ) (at : ℕ) (es : List Edit) → AreApart at es
    → edited_from source at (map (trimmed_edit source) es) ≡ edited_from source at es
edited_from-trimmed source at [] apart = refl
edited_from-trimmed source at (e ∷ es) apart =
    grind (arith, common_steps, trimmed_edit-shrunk, edited_from-earlier, trimmed-apart, slice_split, regroup, edited_from-trimmed source e.end es apart.2)
  where
    regroup : (x y m z rest : List ℕ) → (x ++ y) ++ (m ++ (z ++ rest)) ≡ x ++ ((y ++ (m ++ z)) ++ rest)
    regroup x y m z rest = simp append_assoc
