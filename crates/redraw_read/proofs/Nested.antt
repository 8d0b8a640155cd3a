-- Places by a file of their project, and there by their names.
use Rattle.std.proofs.lemmas.Grind.{common_steps}
use Rattle.std.proofs.Common.{◌≡◌, ℕ, ◌&&◌, Bool, true, false, cond, List, []}
use Rattle.std.proofs.Common.{Option, Some, None, String, BTreeMap, string_bytes, refl, ap, if◌then◌else◌, arith}
use Rattle.std.specs.Prelude.{Result, Ok, Err, OnErr}
use Rattle.std.specs.Global.{Global}
use Rattle.std.specs.BTreeMap.{get_by_text}
use Rattle.std.specs.Cmp.Lexicographic.{slice_cmp}
use Rattle.std.specs.Map.{lookup}
use Rattle.std.specs.Option.{option_and_then}
use Rattle.std.specs.Ordering.{is_eq, nat_cmp}
use Rattle.std.specs.Str.{bytes_eq}
use Rattle.std.proofs.lemmas.Slice.Eq.{bytes_eq-Decides}

-- the places of files by their names
abbrev pub Places : Type 0
Places = BTreeMap (String Global) ℕ

-- what stands there by a name
abbrev pub by_name : List ℕ → Option Places → Option ℕ
by_name name places = option_and_then (λ (p : Places). get_by_text p name) places

-- what holds where it went wrong, by what else does
pub on_err : {T E P Q : Type 0} (r : Result T E) → (P → Q) → OnErr r P → OnErr r Q
on_err (Ok x) f p = tt
on_err (Err e) f p = f p

-- of no places none has a name
pub no_places : (p : Places) (name : List ℕ) → p.entries ≡ [] → get_by_text p name ≡ None
no_places p name none = ap (lookup (λ (k : String Global). is_eq (slice_cmp nat_cmp name (string_bytes k)))) none

pub same_places : (p q : Places) (name : List ℕ) → p.entries ≡ q.entries → get_by_text p name ≡ get_by_text q name
same_places p q name same = ap (lookup (λ (k : String Global). is_eq (slice_cmp nat_cmp name (string_bytes k)))) same

and_true : (b : Bool) → b ≡ (b && true)
and_true true = refl
and_true false = refl

and_false : (b : Bool) → false ≡ (b && false)
and_false true = refl
and_false false = refl

module _ (old new : BTreeMap (String Global) Places) (places : Places) (home : List ℕ)
    (set : (h : List ℕ) → get_by_text new h ≡ cond (bytes_eq home h) (Some places) (get_by_text old h)) (n : List ℕ) where
  -- one more place
  pub one_more : (name : List ℕ) (place : ℕ)
      → get_by_text places n ≡ (if bytes_eq name n then Some place else by_name n (get_by_text old home)) → (h : List ℕ)
      → by_name n (get_by_text new h) ≡ (if bytes_eq name n && bytes_eq home h then Some place else by_name n (get_by_text old h))
  one_more name place added h = grind (arith, common_steps, bytes_eq-Decides, and_true, and_false)

  -- places that stay as they were
  pub none_more : get_by_text places n ≡ by_name n (get_by_text old home) → (h : List ℕ) → by_name n (get_by_text new h) ≡ by_name n (get_by_text old h)
  none_more same h = grind (arith, common_steps, bytes_eq-Decides)
