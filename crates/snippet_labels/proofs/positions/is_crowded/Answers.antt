use Rattle.snippet_labels.proofs.Common.{◌≡◌, ◌∙◌, ◌==◌, ◌&&◌, ◌||◌, ℕ, Bool, true, false, List, [], ◌∷◌, PlacedEntry, ap, refl, sym, list_any}
use Rattle.snippet_labels.proofs.Common.{arith, blocks, has_label, reaches, nat_tests}
use Rattle.snippet_labels.specs.Positions.{is_near}
use Rattle.snippet_labels.proofs.positions.is_crowded.Goals as goal
use Rattle.snippet_labels.proofs.positions.is_crowded.Goals.{else-position-eq0-via-else-position-eq0}
use Rattle.snippet_labels.proofs.positions.is_crowded.Goals.{else-position-eq0-via-then-position-eq0+else-has_mark_past}

-- two tests that say the same of each are passed by one of some, or by none, alike
any_alike : {X : Type 0} (f g : X → Bool) (xs : List X) → ((x : X) → f x ≡ g x) → list_any f xs ≡ list_any g xs
any_alike f g [] same = refl
any_alike f g (x ∷ xs) same = ap (λ b. b || list_any f xs) (same x) ∙ ap (λ b. g x || b) (any_alike f g xs same)

-- where it does, in the first row, each label is crowded
past_crowds : (p : ℕ) (e other : PlacedEntry) → (p == 0 && e.label.past) ≡ true → (blocks e other || has_label other) ≡ (blocks e other || reaches p e other)
past_crowds p e other past = ap (λ b. blocks e other || b) (by_label (has_label other) (is_near p e other) (p == 0 && e.label.past) past)
  where
    by_label : (has near far : Bool) → far ≡ true → has ≡ (has && (near || far))
    by_label true true far is = refl
    by_label true false far is = sym is
    by_label false near far is = refl

near_crowds : (p : ℕ) (e other : PlacedEntry) → (p == 0 && e.label.past) ≡ false
    → (blocks e other || (has_label other && is_near p e other)) ≡ (blocks e other || reaches p e other)
near_crowds p e other none = ap (λ b. blocks e other || b) (by_label (has_label other) (is_near p e other) (p == 0 && e.label.past) none)
  where
    by_label : (has near far : Bool) → far ≡ false → (has && near) ≡ (has && (near || far))
    by_label true true far is = refl
    by_label true false far is = sym is
    by_label false near far is = refl

pub returns-then-has_mark_past : goal.returns-then-has_mark_past
returns-then-has_mark_past c =
    let e = c.args.entry.now in
    let p = c.args.position in
    let past : (p == 0 && e.label.past) ≡ true = ap (λ n. n == 0 && e.label.past) c.if-position-eq0.true
    ∙ sym c.has_mark_past.ensures.value ∙ c.if-has_mark_past.true in
    record {
      value = c.is_crowded_past.ensures.value
          ∙ any_alike (λ other. blocks e other || has_label other) (λ other. blocks e other || reaches p e other) c.args.others.now
          (λ other. past_crowds p e other past);
    }

pub returns-else-position-eq0 : goal.returns-else-position-eq0
returns-else-position-eq0 c =
    let e = c.args.entry.now in
    let p : ℕ = c.args.position in
    let none : (p == 0 && e.label.past) ≡ false = elim c.else-position-eq0.branch [
      | else-position-eq0-via-then-position-eq0+else-has_mark_past w ↦ ap (λ b. p == 0 && b) (sym w.has_mark_past.ensures.value ∙ w.if-has_mark_past.false)
          ∙ never (p == 0)
      | else-position-eq0-via-else-position-eq0 w ↦ grind (arith, nat_tests, w.if-position-eq0.false)
    ] in
    record {
      value = c.is_crowded_near.ensures.value
          ∙ any_alike (λ other. blocks e other || (has_label other && is_near p e other)) (λ other. blocks e other || reaches p e other)
          c.args.others.now (λ other. near_crowds p e other none);
    }
  where
    never : (b : Bool) → (b && false) ≡ false
    never true = refl
    never false = refl
