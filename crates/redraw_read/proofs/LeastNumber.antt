-- The least number by a text that is a message's, among texts in order.
use Rattle.std.proofs.lemmas.Grind.{common_steps}
use Rattle.std.proofs.Common.{◌≡◌, ◌∙◌, ◌≤◌, ◌⊎◌, ℕ, Bool, true, false, List, [], ◌∷◌, ◌++◌, Option, Some, None, String}
use Rattle.std.proofs.Common.{ap, arith, cond, eqb, refl, string_bytes, subst, sym}
use Rattle.std.specs.Global.{Global}
use Rattle.std.specs.BTreeMap.{BTreeMap}
use Rattle.std.specs.BTreeMap.Range.{entries_between, range_contains}
use Rattle.std.specs.Cmp.Lexicographic.{slice_cmp}
use Rattle.std.specs.List.{starts_with}
use Rattle.std.specs.Map.{lookup}
use Rattle.std.specs.Option.{IfSome, IsSomeAnd, option_or}
use Rattle.std.specs.Ordering.{is_gt, nat_cmp}
use Rattle.std.specs.String.{string_cmp, string_cmp_total}
use Rattle.std.specs.declared.ops.Bound.TheVariants.{Included, Unbounded}
use Rattle.std.proofs.lemmas.Map.Entries.{lookup-filter-keys}
use Rattle.std.proofs.lemmas.Map.Views.{range_contains-from_IsInRange}
use Rattle.redraw_read.proofs.Begins.{begins-after, is_key, key_is, lookup-further}
use Rattle.redraw_read.specs.Rendered.{is_of}
use Rattle.redraw_read.specs.ShownLines.{number_of}
use Rattle.redraw_read.specs.declared.rendered.Stand.{Stand}

-- a text that is a message's begins with it
of-starts : (place : Stand) (m t : List ℕ) → is_of place m t ≡ true → starts_with eqb t m ≡ true
of-starts place m t of = grind (arith, common_steps)

-- some P holds of the lesser of two numbers that it holds of
pub step-is : (P : ℕ → Type 0) (least new : Option ℕ) (number : ℕ) (counts : Bool)
    → (counts ≡ true → IfSome new (λ n. (n ≡ number) ⊎ (least ≡ Some n))) → (counts ≡ false → new ≡ least)
    → IfSome least P → (counts ≡ true → P number) → IfSome new P
step-is P least new number true of kept before here = grind (arith, common_steps, here, of refl)
step-is P least new number false of kept before here = subst (λ o. IfSome o P) (sym (kept refl)) before

-- the lesser is no greater than any of them
pub step-least : (of : List ℕ → Bool) (e : String Global × ℕ) (ys : List (String Global × ℕ)) (least new : Option ℕ)
    → ((t : List ℕ) (n : ℕ) → lookup (is_key t) ys ≡ Some n → of t ≡ true → IsSomeAnd least (λ k. k ≤ n))
    → (of (string_bytes e.0) ≡ true → IsSomeAnd new (λ n. n ≤ e.1)) → IfSome least (λ n. IsSomeAnd new (λ r. r ≤ n))
    → (t : List ℕ) (n : ℕ) → lookup (is_key t) (ys ++ e ∷ []) ≡ Some n → of t ≡ true → IsSomeAnd new (λ k. k ≤ n)
step-least of e ys least new before within less t n at its =
    by (lookup (is_key t) ys) refl (is_key t e.0) refl (sym (lookup-further (is_key t) ys (e ∷ [])) ∙ at)
  where
    lesser : (a b : ℕ) → a ≡ b → IsSomeAnd new (λ k. k ≤ a) → IsSomeAnd new (λ k. k ≤ b)
    lesser a b same is = subst (λ (c : ℕ). IsSomeAnd new (λ k. k ≤ c)) same is

    among : (o : Option ℕ) (k : ℕ) → IsSomeAnd o (λ l. l ≤ k) → IfSome o (λ l. IsSomeAnd new (λ r. r ≤ l)) → IsSomeAnd new (λ r. r ≤ k)
    among None k some all = absurd some
    among (Some l) k some all = further new all some
      where
        further : (p : Option ℕ) → IsSomeAnd p (λ r. r ≤ l) → l ≤ k → IsSomeAnd p (λ r. r ≤ k)
        further None is within = absurd is
        further (Some r) is within = omega (arith, is, within)

    by : (o : Option ℕ) → lookup (is_key t) ys ≡ o → (b : Bool) → is_key t e.0 ≡ b
        → option_or (lookup (is_key t) ys) (cond b (Some e.1) None) ≡ Some n → IsSomeAnd new (λ k. k ≤ n)
    by (Some k) is b key sum =
        let same : k ≡ n = cc (ap (λ o. option_or o (cond b (Some e.1) None)) is, sum) in
        lesser k n same (among least k (before t k is its) less)
    by None is true key sum =
        let same : e.1 ≡ n = cc (ap (λ o. option_or o (Some e.1)) is, sum) in
        lesser e.1 n same (within (ap of (sym (key_is t e.0 key)) ∙ its))
    by None is false key sum = absurd (cc (ap (λ o. option_or {T = ℕ} o None) is, sum))

-- the least of the texts that were gone through is that of all, where none of the others begins with the words
pub least-of-all : (place : Stand) (numbers : BTreeMap (String Global) ℕ) (m : String Global) (ys rest : List (String Global × ℕ)) (least : Option ℕ)
    → entries_between string_cmp (Included m) Unbounded numbers.entries ≡ ys ++ rest
    → ((t : List ℕ) → starts_with eqb t (string_bytes m) ≡ true → lookup (is_key t) rest ≡ None)
    → ((t : List ℕ) (n : ℕ) → lookup (is_key t) ys ≡ Some n → is_of place (string_bytes m) t ≡ true → IsSomeAnd least (λ k. k ≤ n))
    → (t : List ℕ) (n : ℕ) → number_of numbers t ≡ Some n → is_of place (string_bytes m) t ≡ true → IsSomeAnd least (λ k. k ≤ n)
least-of-all place numbers m ys rest least parts none among t n at its = among t n here its
  where
    begins : starts_with eqb t (string_bytes m) ≡ true
    begins = of-starts place (string_bytes m) t its

    within : (k : String Global) → is_key t k ≡ true → range_contains string_cmp (Included m) Unbounded k ≡ true
    within k is =
        range_contains-from_IsInRange string_cmp_total (Included m) Unbounded k
        (ap (λ l. is_gt (slice_cmp nat_cmp (string_bytes m) l)) (sym (key_is t k is)) ∙ begins-after (string_bytes m) t begins, tt)

    all : lookup (is_key t) (ys ++ rest) ≡ Some n
    all =
        ap (lookup (is_key t)) (sym parts)
        ∙ lookup-filter-keys (is_key t) (λ k. range_contains string_cmp (Included m) Unbounded k) true within numbers.entries
        ∙ at

    no_more : (o : Option ℕ) → option_or o None ≡ o
    no_more None = refl
    no_more (Some k) = refl

    here : lookup (is_key t) ys ≡ Some n
    here =
        sym (no_more (lookup (is_key t) ys))
        ∙ ap (option_or (lookup (is_key t) ys)) (sym (none t begins))
        ∙ sym (lookup-further (is_key t) ys rest)
        ∙ all
