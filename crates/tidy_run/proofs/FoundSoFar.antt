-- The findings so far, while a source is looked through.
use Rattle.std.proofs.Common.{◌≡◌, refl, sym, subst, ap, arith, ◌∙◌, ℕ, zero, suc, ◌+◌, ◌<◌, ◌≤◌, Option, Some, None, List, [], ◌∷◌, ◌++◌, length}
use Rattle.std.proofs.Common.{if◌then◌else◌}
use Rattle.std.proofs.lemmas.Bool.{lt-ltb, le-ltb}
use Rattle.std.proofs.lemmas.List.{append-nil, append_assoc}
use Rattle.tidy_run.specs.Findings.{AreInside, Finding, IsFinding, findings_from, findings_of, with_rest}

-- the byte at which findings from byte `at` on end
abbrev pub reached : ℕ → List Finding → ℕ
reached at [] = at
reached at (f ∷ fs) = reached f.end fs

reached-push : (at : ℕ) → (fs : List Finding) → (f : Finding) → reached at (fs ++ f ∷ []) ≡ f.end
reached-push at [] f = refl
reached-push at (g ∷ fs) f = reached-push g.end fs f

-- one more finding
inside-push : (source : List ℕ) → (at : ℕ) → (fs : List Finding) → (f : Finding) → AreInside source at fs → IsFinding source (reached at fs) f
    → AreInside source at (fs ++ f ∷ [])
inside-push source at [] f are is = (is, tt)
inside-push source at (g ∷ fs) f are is = (are.0, inside-push source g.end fs f are.1 is)

-- the findings so far are inside the source, and reach to a byte
pub record ReachesTo (source : List ℕ) (found : List Finding) (from : ℕ) : Type 0 where
  pub inside : AreInside source 0 found
  pub reach : reached 0 found ≡ from

-- before any finding the start is reached
pub reaches-none-yet : (source : List ℕ) → ReachesTo source [] 0
reaches-none-yet source = record { inside = tt; reach = refl }

-- with one more finding its end is reached
pub reaches-next : (source : List ℕ) → (found : List Finding) → (from : ℕ) → (f : Finding) → ReachesTo source found from → IsFinding source from f
    → ReachesTo source (found ++ f ∷ []) f.end
reaches-next source found from f so_far is =
    record {
      inside = inside-push source 0 found f so_far.inside (subst (λ at. IsFinding source at f) (sym so_far.reach) is);
      reach = reached-push 0 found f;
    }

-- what is found so far, up to byte `from`, where the rest comes after it: `fuel` is more than the bytes that are left
pub record FoundSoFar (find : ℕ → Option Finding) (source : List ℕ) (found : List Finding) (from : ℕ) : Type 0 where
  pub within : from ≤ length source
  pub fuel : ℕ
  pub enough : length source < fuel + from
  pub whole : found ++ findings_from find fuel from ≡ findings_of find source

-- before the first
pub found-none-yet : (find : ℕ → Option Finding) → (source : List ℕ) → FoundSoFar find source [] 0
unfolding findings_of
found-none-yet find source =
    record { within = omega arith; fuel = length source + 1; enough = omega arith; whole = refl }

-- what is found from a byte on, where there is something, that takes a byte or more
begun : (find : ℕ → Option Finding) → (more from : ℕ) → (f : Finding) → find from ≡ Some f → f.start < f.end
    → findings_from find (suc more) from ≡ f ∷ findings_from find more f.end
begun find more from f some takes =
    ap (with_rest (findings_from find more)) some
    ∙ ap (λ b. f ∷ (if b then findings_from find more f.end else [])) (lt-ltb f.start f.end takes)

next-at : (find : ℕ → Option Finding) → (source : List ℕ) → (found : List Finding) → (from : ℕ) → (f : Finding)
    → from ≤ length source → find from ≡ Some f → IsFinding source from f → f.start < f.end
    → (fuel : ℕ) → length source < fuel + from → found ++ findings_from find fuel from ≡ findings_of find source
    → FoundSoFar find source (found ++ f ∷ []) f.end
next-at find source found from f within some is takes zero enough whole = absurd (omega (arith, enough, within))
next-at find source found from f within some is takes (suc more) enough whole =
    record {
      within = is.inside;
      fuel = more;
      enough = omega (arith, enough, is.after, takes);
      whole = append_assoc found (f ∷ []) (findings_from find more f.end)
          ∙ ap (λ rest. found ++ rest) (sym (begun find more from f some takes)) ∙ whole;
    }

-- one more, that takes a byte or more
pub found-next : (find : ℕ → Option Finding) → (source : List ℕ) → (found : List Finding) → (from : ℕ) → (f : Finding)
    → FoundSoFar find source found from → find from ≡ Some f → IsFinding source from f → f.start < f.end
    → FoundSoFar find source (found ++ f ∷ []) f.end
found-next find source found from f so_far some is takes =
    next-at find source found from f so_far.within some is takes so_far.fuel so_far.enough so_far.whole

none_at : (find : ℕ → Option Finding) → (source : List ℕ) → (found : List Finding) → (from : ℕ)
    → from ≤ length source → find from ≡ None
    → (fuel : ℕ) → length source < fuel + from → found ++ findings_from find fuel from ≡ findings_of find source
    → found ≡ findings_of find source
none_at find source found from within none zero enough whole = absurd (omega (arith, enough, within))
none_at find source found from within none (suc more) enough whole =
    sym (append-nil found) ∙ ap (λ rest. found ++ rest) (sym (ap (with_rest (findings_from find more)) none)) ∙ whole

-- where nothing more is found, these are the findings
pub found_none : (find : ℕ → Option Finding) → (source : List ℕ) → (found : List Finding) → (from : ℕ)
    → FoundSoFar find source found from → find from ≡ None → found ≡ findings_of find source
found_none find source found from so_far none =
    none_at find source found from so_far.within none so_far.fuel so_far.enough so_far.whole

last-at : (find : ℕ → Option Finding) → (source : List ℕ) → (found : List Finding) → (from : ℕ) → (f : Finding)
    → from ≤ length source → find from ≡ Some f → f.end ≤ f.start
    → (fuel : ℕ) → length source < fuel + from → found ++ findings_from find fuel from ≡ findings_of find source
    → found ++ f ∷ [] ≡ findings_of find source
last-at find source found from f within some empty zero enough whole = absurd (omega (arith, enough, within))
last-at find source found from f within some empty (suc more) enough whole =
    ap (λ rest. found ++ rest)
    (sym (ap (with_rest (findings_from find more)) some
    ∙ ap (λ b. f ∷ (if b then findings_from find more f.end else [])) (le-ltb f.start f.end empty)))
    ∙ whole

-- after one that takes no byte, these and that are the findings
pub found-last : (find : ℕ → Option Finding) → (source : List ℕ) → (found : List Finding) → (from : ℕ) → (f : Finding)
    → FoundSoFar find source found from → find from ≡ Some f → f.end ≤ f.start
    → found ++ f ∷ [] ≡ findings_of find source
found-last find source found from f so_far some empty =
    last-at find source found from f so_far.within some empty so_far.fuel so_far.enough so_far.whole
