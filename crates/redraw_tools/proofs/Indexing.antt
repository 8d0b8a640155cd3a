-- Numbers of rules that are put under their ids.
use Rattle.std.proofs.Common.{◌≡◌, ◌∙◌, ℕ, zero, suc, ◌+◌, ◌<◌, Bool, true, false, List, [], ◌∷◌, ◌++◌, Option, Some, None}
use Rattle.std.proofs.Common.{ap, arith, get_or, refl, sym, length, is_some, map, take}
use Rattle.std.specs.Cmp.{nat_cmp_is}
use Rattle.std.specs.List.{AllZip, slice_get}
use Rattle.std.specs.declared.cmp.Ordering.TheVariants.{Equal}
use Rattle.std.proofs.lemmas.List.{length-map, length-take-le}
use Rattle.serde_json.specs.Find.{get}
use Rattle.serde_json.specs.View.{view}
use Rattle.serde_json.specs.declared.value.Value.{Value}
use Rattle.redraw_tools.proofs.Listed.{seen_more}
use Rattle.std.specs.Prelude.{bytes_eq, codes, if◌then◌else◌, option_and_then, option_map}
use Rattle.std.specs.Option.{option_or}
use Rattle.std.specs.Ordering.{is_eq, nat_cmp}
use Rattle.std.proofs.lemmas.Slice.Eq.{bytes_eq-Decides}
use Rattle.serde_json.specs.Data.{Data}
use Rattle.json_lines.specs.Field.{text_field}
use Rattle.redraw_tools.specs.Rule.{first_with, has_id, items_in, named_within, shorter, tool_part}
use Rattle.redraw_tools.specs.RuleIndex.{AreIndexesOf, IsIndexOf, IsMeasured, has_length, if_new, indexed, number_under}
use Rattle.redraw_tools.specs.declared.rules.RuleNumbers.{RuleNumbers}
use Rattle.redraw_tools.specs.declared.rules.RunRules.{RunRules}

same : (n : ℕ) → is_eq (nat_cmp n n) ≡ true
same n = ap is_eq (sym (nat_cmp_is n n Equal refl))

-- an index with one more id, and with its length
module _ (old new : RuleNumbers) (id : List ℕ) (n : ℕ) (measured : IsMeasured old)
    (put : (o : List ℕ) → number_under new o ≡ (if bytes_eq id o then Some n else number_under old o))
    (long : (o : List ℕ) → has_length new o ≡ (if is_eq (nat_cmp (length id) (length o)) then true else has_length old o)) where
  long-here : (o : List ℕ) → bytes_eq id o ≡ true → has_length new o ≡ true
  long-here o is =
      long o
      ∙ ap (λ (b : Bool). if b then true else has_length old o)
      (sym (ap (λ (xs : List ℕ). is_eq (nat_cmp (length id) (length xs))) ((bytes_eq-Decides id o).0 is)) ∙ same (length id))

  neither : (a b : Bool) → (if a then true else b) ≡ false → b ≡ false
  neither true b is = absurd (cc is)
  neither false b is = is

  pub put-measured : IsMeasured new
  put-measured o absent = go (bytes_eq id o) refl
    where
      go : (b : Bool) → bytes_eq id o ≡ b → number_under new o ≡ None
      go true is = absurd (cc (sym absent ∙ long-here o is))
      go false is =
          put o ∙ ap (λ (b : Bool). if b then Some n else number_under old o) is
          ∙ measured o (neither (is_eq (nat_cmp (length id) (length o))) (has_length old o) (sym (long o) ∙ absent))

  kept : (o : List ℕ) (a l : Bool) → has_length old o ≡ l
      → (if (if a then true else l) then number_under old o else None) ≡ (if l then number_under old o else None)
  kept o true true is = refl
  kept o false l is = refl
  kept o true false is = measured o is

  pub put-indexed : (o : List ℕ) → indexed new o ≡ (if bytes_eq id o then Some n else indexed old o)
  put-indexed o = go (bytes_eq id o) refl
    where
      go : (b : Bool) → bytes_eq id o ≡ b → indexed new o ≡ (if b then Some n else indexed old o)
      go true is =
          ap (λ (l : Bool). if l then number_under new o else None) (long-here o is) ∙ put o
          ∙ ap (λ (b : Bool). if b then Some n else number_under old o) is
      go false is =
          ap (λ (p : Option ℕ). if has_length new o then p else None) (put o ∙ ap (λ (b : Bool). if b then Some n else number_under old o) is)
          ∙ ap (λ (l : Bool). if l then number_under old o else None) (long o)
          ∙ kept o (is_eq (nat_cmp (length id) (length o))) (has_length old o) refl

or_none : (p : Option ℕ) → p ≡ option_or p None
or_none None = refl
or_none (Some k) = refl

-- an id that is new has no number yet
new-is : (old : RuleNumbers) (t id : List ℕ) → Some id ≡ if_new old t → (t ≡ id) × (indexed old id ≡ None) × (id ≡ [] → ⊥)
new-is old [] id is = absurd (cc is)
new-is old (c ∷ cs) id is = go (indexed old (c ∷ cs)) refl
  where
    some-is : (xs ys : List ℕ) → Some xs ≡ Some ys → ys ≡ xs
    some-is xs ys e = cc e

    go : (p : Option ℕ) → indexed old (c ∷ cs) ≡ p → ((c ∷ cs) ≡ id) × (indexed old id ≡ None) × (id ≡ [] → ⊥)
    go None none =
        let this : (c ∷ cs) ≡ id = some-is id (c ∷ cs) (is ∙ ap (λ (p : Option ℕ). if is_some p then None else Some (c ∷ cs)) none) in
        (this, ap (indexed old) (sym this) ∙ none, λ empty. cc (this, empty))
    go (Some k) some = absurd (cc (is ∙ ap (λ (p : Option ℕ). if is_some p then None else Some (c ∷ cs)) some))

-- whether a rule with this text as its id has an id
has : List ℕ → Option (List ℕ) → Bool
has [] t = false
has (c ∷ cs) None = false
has (c ∷ cs) (Some own) = bytes_eq own (c ∷ cs)

is-has : (o : List ℕ) (rule : Data) (t : Option (List ℕ)) → text_field (codes "id") rule ≡ t → has_id o rule ≡ has o t
unfolding has
is-has [] rule t is = refl
is-has (c ∷ cs) rule None is = cc is
is-has (c ∷ cs) rule (Some own) is = cc is

-- with the number of a rule by its new id an index has what it had, else this
pub added-new : (old new : RuleNumbers) (rule : Data) (id : List ℕ) (n : ℕ) → Some id ≡ option_and_then (if_new old) (text_field (codes "id") rule)
    → (o : List ℕ) → indexed new o ≡ (if bytes_eq id o then Some n else indexed old o)
    → indexed new o ≡ option_or (indexed old o) (if has_id o rule then Some n else None)
unfolding has
added-new old new rule id n is o put = of-text (text_field (codes "id") rule) refl
  where
    has-none : (own : List ℕ) → (own ≡ [] → ⊥) → has [] (Some own) ≡ bytes_eq own []
    has-none [] some = absurd (some refl)
    has-none (c ∷ cs) some = refl

    has-own : (o own : List ℕ) → (own ≡ [] → ⊥) → has o (Some own) ≡ bytes_eq own o
    has-own [] own some = has-none own some
    has-own (c ∷ cs) own some = refl

    by-case : (b : Bool) → bytes_eq id o ≡ b → indexed old id ≡ None
        → (if b then Some n else indexed old o) ≡ option_or (indexed old o) (if b then Some n else None)
    by-case true e none =
        sym (ap (λ (p : Option ℕ). option_or p (Some n)) (ap (indexed old) (sym ((bytes_eq-Decides id o).0 e)) ∙ none))
    by-case false e none = or_none (indexed old o)

    of-text : (t : Option (List ℕ)) → text_field (codes "id") rule ≡ t
        → indexed new o ≡ option_or (indexed old o) (if has_id o rule then Some n else None)
    of-text None e = absurd (cc (is ∙ ap (λ (t : Option (List ℕ)). option_and_then (if_new old) t) e))
    of-text (Some own) e =
        let new = new-is old own id (is ∙ ap (λ (t : Option (List ℕ)). option_and_then (if_new old) t) e) in
        let same_id : has_id o rule ≡ bytes_eq id o =
        is-has o rule (Some own) e ∙ ap (λ (t : List ℕ). has o (Some t)) new.0 ∙ has-own o id new.2 in
        put ∙ by-case (bytes_eq id o) refl new.1
        ∙ sym (ap (λ (b : Bool). option_or (indexed old o) (if b then Some n else None)) same_id)

-- the first of some rules and one more
first-push : (rules : List Data) (rule : Data) (id : List ℕ)
    → first_with id (rules ++ rule ∷ []) ≡ option_or (first_with id rules) (if has_id id rule then Some (length rules) else None)
first-push [] rule id = refl
first-push (r ∷ rules) rule id = more (first-push rules rule id) (has_id id r)
  where
    further : (p : Option ℕ) (b : Bool) (k : ℕ)
        → option_map suc (option_or p (if b then Some k else None)) ≡ option_or (option_map suc p) (if b then Some (suc k) else None)
    further (Some i) b k = refl
    further None true k = refl
    further None false k = refl

    more : first_with id (rules ++ rule ∷ []) ≡ option_or (first_with id rules) (if has_id id rule then Some (length rules) else None)
        → (b : Bool) → (if b then Some 0 else option_map suc (first_with id (rules ++ rule ∷ [])))
        ≡ option_or (if b then Some 0 else option_map suc (first_with id rules)) (if has_id id rule then Some (suc (length rules)) else None)
    more later true = refl
    more later false = ap (option_map suc) later ∙ further (first_with id rules) (has_id id rule) (length rules)

pub first-more : (vs : List Value) (i : ℕ) (v : Value) (id : List ℕ) → i < length vs → v ≡ get_or vs i v
    → option_or (first_with id (map view (take i vs))) (if has_id id (view v) then Some i else None) ≡ first_with id (map view (take (i + 1) vs))
first-more vs i v id within is =
    let so_many : length (map view (take i vs)) ≡ i = length-map (take i vs) view ∙ length-take-le i vs (omega (arith, within)) in
    sym (ap (first_with id) (seen_more vs i v within is) ∙ first-push (map view (take i vs)) (view v) id
    ∙ ap (λ (k : ℕ). option_or (first_with id (map view (take i vs))) (if has_id id (view v) then Some k else None)) so_many)

-- an index is that of a part's rules
abbrev pub IsPartIndex : RuleNumbers → Data → Type 0
IsPartIndex numbers part = IsIndexOf numbers (items_in (codes "rules") (Some part))

-- where each part has its index, each has the numbers of its rules
pub all-indexed : (all : List RuleNumbers) (parts : List Data) → AllZip IsPartIndex all parts → (k : ℕ) (id : List ℕ)
    → option_and_then (λ numbers. indexed numbers id) (slice_get all k) ≡ first_with id (items_in (codes "rules") (slice_get parts k))
all-indexed [] [] h k id = refl
all-indexed [] (p ∷ parts) h k id = absurd h
all-indexed (x ∷ all) [] h k id = absurd h
all-indexed (x ∷ all) (p ∷ parts) h zero id = h.0 id
all-indexed (x ∷ all) (p ∷ parts) h (suc k) id = all-indexed all parts h.1 k id

-- an id names none of the rules of which none has an id
pub none-of : (n : ℕ) (rules : List Data) (id : List ℕ) → ((o : List ℕ) → None ≡ first_with o rules) → named_within n rules id ≡ None
none-of zero rules id none = refl
none-of (suc n) rules id none =
    sym (ap (λ (p : Option ℕ). option_or p (option_and_then (named_within n rules) (shorter id))) (none id))
    ∙ next (shorter id) (λ t. none-of n rules t none)
  where
    next : (s : Option (List ℕ)) → ((t : List ℕ) → named_within n rules t ≡ None) → option_and_then (named_within n rules) s ≡ None
    next None is = refl
    next (Some t) is = is t

-- one more index, of one more part
pub index-push : (all : List RuleNumbers) (parts : List Data) (numbers : RuleNumbers) (part : Data) → AllZip IsPartIndex all parts
    → IsPartIndex numbers part → AllZip IsPartIndex (all ++ numbers ∷ []) (parts ++ part ∷ [])
index-push [] [] numbers part h this = (this, tt)
index-push [] (p ∷ parts) numbers part h this = absurd h
index-push (x ∷ all) [] numbers part h this = absurd h
index-push (x ∷ all) (p ∷ parts) numbers part h this = (h.0, index-push all parts numbers part h.1 this)

-- the indexes of the driver and of each extension are those of the run
pub all-parts : (rules : RunRules) (run : Data) → IsIndexOf rules.driver (items_in (codes "rules") (tool_part run None))
    → AllZip IsPartIndex rules.extensions.items (items_in (codes "extensions") (get (codes "tool") run)) → AreIndexesOf rules run
all-parts rules run first others None id = first id
all-parts rules run first others (Some k) id =
    all-indexed rules.extensions.items (items_in (codes "extensions") (get (codes "tool") run)) others k id
