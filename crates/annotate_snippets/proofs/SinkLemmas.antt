-- What a sink is after it took up groups of a page in order.
use Rattle.annotate_snippets.proofs.Common.{◌≡◌, ◌==◌, suc, ℕ, Bool, true, false, List, [], ◌∷◌, ◌++◌, arith, length, refl, subst, sym}
use Rattle.annotate_snippets.proofs.Common.{IfErr, IsErrAnd, nat_tests, append_assoc, append-nil, GroupPage, Takes}
use Rattle.std.specs.Prelude.{Err, Ok, Result}

-- whether the group after some is the first, where the first of them is or isn't
abbrev next_first : Bool → List GroupPage → Bool
next_first first [] = first
next_first first (g ∷ page) = false

next_is : (page : List GroupPage) → (length page == 0) ≡ next_first true page
next_is [] = refl
next_is (g ∷ page) = more (length page)
  where
    more : (n : ℕ) → (suc n == 0) ≡ false
    more n = grind (arith, nat_tests)

never_first : (page : List GroupPage) → false ≡ next_first false page
never_first [] = refl
never_first (g ∷ page) = refl

-- no group after another is the first
later : (before : List GroupPage) (g : GroupPage) → false ≡ (length (before ++ g ∷ []) == 0)
later [] g = refl
later (h ∷ before) g = sym (next_is (h ∷ before ++ g ∷ []))

module _ {S : Type 0} (took : Bool → GroupPage → S → S → Type 0) where
  -- one more group
  takes_last : (first : Bool) (page : List GroupPage) (g : GroupPage) (old mid new : S) → Takes took first page old mid
      → took (next_first first page) g mid new → Takes took first (page ++ g ∷ []) old new
  takes_last first [] g old mid new taken adds = (new, (subst (λ (s : S). took first g s new) taken adds, refl))
  takes_last first (h ∷ page) g old mid new taken adds =
      (taken.0, (taken.1.0, takes_last false page g taken.0 mid new taken.1.1 (subst (λ b. took b g mid new) (never_first page) adds)))

  pub takes_more : (page : List GroupPage) (g : GroupPage) (old mid new : S) → Takes took true page old mid
      → took (length page == 0) g mid new → Takes took true (page ++ g ∷ []) old new
  takes_more page g old mid new taken adds = takes_last true page g old mid new taken (subst (λ b. took b g mid new) (next_is page) adds)

  -- what holds of the sink before any group, and after one more wherever it did, holds after all
  module _ (Holds : List GroupPage → S → Type 0)
      (next : (before : List GroupPage) (g : GroupPage) (old new : S) → Holds before old → took (length before == 0) g old new
      → Holds (before ++ g ∷ []) new) where
    holds_along : (before page : List GroupPage) (first : Bool) (old new : S) → first ≡ (length before == 0) → Holds before old
        → Takes took first page old new → Holds (before ++ page) new
    holds_along before [] first old new is holds taken =
        subst (Holds (before ++ [])) (sym taken) (subst (λ (ps : List GroupPage). Holds ps old) (sym (append-nil before)) holds)
    holds_along before (g ∷ page) first old new is holds taken =
        let here = next before g old taken.0 holds (subst (λ b. took b g old taken.0) is taken.1.0) in
        subst (λ (ps : List GroupPage). Holds ps new) (append_assoc before (g ∷ []) page)
        (holds_along (before ++ g ∷ []) page false taken.0 new (later before g) here taken.1.1)

    pub holds_after : (page : List GroupPage) (old new : S) → Holds [] old → Takes took true page old new → Holds page new
    holds_after page old new holds taken = holds_along [] page true old new refl holds taken

-- what holds of an error holds of an answer that is it
pub err_same : {A E : Type 0} (answer : Result A E) (error : E) (P : E → Type 0) → IsErrAnd answer (λ other. other ≡ error) → P error → IfErr answer P
err_same (Ok value) error P is holds = tt
err_same (Err other) error P is holds = subst P (sym is) holds
