-- The depths of spans of several lines: how great they are, where they differ, and the longest chain.
use Rattle.snippet_parts.proofs.Common.{common_steps, ◌≡◌, ℕ, zero, suc, ◌+◌, ◌-◌, ◌<◌, ◌≤◌, Bool, true, false, ◌||◌, cond, max, fold, take, drop, add-one}
use Rattle.snippet_parts.proofs.Common.{◌++◌, List, [], ◌∷◌, map, length, get_or, set, inl, inr, refl, sym, ap, subst, ◌∙◌, arith, All, Contains, list_any}
use Rattle.snippet_parts.proofs.Common.{cases_Bool, cases_lt, and_from, and_parts, cond-true, cond-false, both_ways, take_at, length-map, get_or-map, greatest}
use Rattle.snippet_parts.proofs.Common.{LongExtent, same_place, share_line, places_of, raw_depth, raw_depth_among, greatest_raw_depth, greatest_depth}
use Rattle.snippet_parts.proofs.Common.{depth_among, SharesWithFirst, IsChainOf, IsLongestChain, raw_depths, map-map}
use Rattle.snippet_parts.proofs.RawDepthLemmas.{among_after, among-most, among-new, any-at, fold-max, greatest-bound, greatest-is, length-raw_depths}
use Rattle.snippet_parts.proofs.RawDepthLemmas.{places-bound, raw_depths-are, same-true}
use Rattle.snippet_parts.proofs.DepthSearchLemmas.{near_max-after, no_place, raw_depth-near, raw_depth-some}

-- ---- depths

-- depths that are counted from the greatest raw one are those of the places
pub depths-are : (ps : List LongExtent) → map (λ raw. greatest_depth ps - raw + 1) (raw_depths ps) ≡ map (depth_among ps) ps
depths-are ps = grind (arith, raw_depths-are, map-map)

-- the greatest depth is at most the count of places
pub greatest-depth-bound : (ps : List LongExtent) → greatest_depth ps ≤ length ps
greatest-depth-bound ps = omega (arith, greatest-bound (places_of ps), places-bound ps)

-- the greatest of the raw depths is the greatest depth
pub greatest-fold : (ps : List LongExtent) (raws : List ℕ) → raws ≡ raw_depths ps → fold max 0 raws ≡ greatest_depth ps
greatest-fold ps raws is = let e : fold max 0 raws ≡ max 0 (greatest raws) = fold-max 0 raws in omega (arith, e, ap greatest is, greatest-is ps)

among-some : (ps : List LongExtent) (p : LongExtent) → list_any (same_place p) ps ≡ true → 1 ≤ raw_depth_among (places_of ps) p
among-some [] p stands = cc
among-some (q ∷ ps) p stands =
    elim (cases_Bool (list_any (same_place p) ps)) [
      | inl again ↦ omega (arith, among_after q p ps again, among-some ps p again)
      | inr fails ↦
          let same : p ≡ q = same-true p q (here (same_place p q) (list_any (same_place p) ps) stands fails) in
          let e : raw_depth_among (places_of (q ∷ ps)) p ≡ raw_depth p (places_of ps) = ap (λ x. raw_depth_among (places_of (x ∷ ps)) p) (sym same)
          ∙ among-new p ps fails in
          omega (arith, raw_depth-some p (places_of ps))
    ]
  where
    here : (a b : Bool) → (a || b) ≡ true → b ≡ false → a ≡ true
    here true b any none = refl
    here false b any none = absurd (both_ways b none any)

-- each depth is at least 1 and at most the greatest
pub depths-within : (ps : List LongExtent) → All (λ n. (1 ≤ n) × (n ≤ greatest_depth ps)) (map (depth_among ps) ps)
depths-within ps k d below = grind (arith, common_steps, get_or-map, among-some, any-at, among-most (places_of ps) (get_or ps k no_place))

share-swap : (p q : LongExtent) → share_line p q ≡ true → share_line q p ≡ true
share-swap p q share = grind (arith, and_parts, and_from)

-- spans that share a line and differ in place have different raw depths
raw-apart : (ps : List LongExtent) (p q : LongExtent) → list_any (same_place p) ps ≡ true → list_any (same_place q) ps ≡ true → share_line p q ≡ true
    → raw_depth_among (places_of ps) p ≡ raw_depth_among (places_of ps) q → p ≡ q
raw-apart [] p q in-p in-q share same = cc
raw-apart (r ∷ ps) p q in-p in-q share same =
    elim (cases_Bool (list_any (same_place p) ps)) [
      | inl p-again ↦ elim (cases_Bool (list_any (same_place q) ps)) [
        | inl q-again ↦ raw-apart ps p q p-again q-again share (sym (among_after r p ps p-again) ∙ same ∙ among_after r q ps q-again)
        | inr q-new ↦
            let is : q ≡ r = same-true q r (here (same_place q r) (list_any (same_place q) ps) in-q q-new) in
            let e : raw_depth_among (places_of (r ∷ ps)) q ≡ raw_depth q (places_of ps) = ap (λ x. raw_depth_among (places_of (x ∷ ps)) q) (sym is)
            ∙ among-new q ps q-new in
            absurd (omega (arith, e, same, among_after r p ps p-again, raw_depth-near q ps, near_max-after q p ps (share-swap p q share) p-again))
      ]
      | inr p-new ↦
          let is : p ≡ r = same-true p r (here (same_place p r) (list_any (same_place p) ps) in-p p-new) in
          let e : raw_depth_among (places_of (r ∷ ps)) p ≡ raw_depth p (places_of ps) = ap (λ x. raw_depth_among (places_of (x ∷ ps)) p) (sym is)
          ∙ among-new p ps p-new in
          elim (cases_Bool (list_any (same_place q) ps)) [
            | inl q-again ↦ absurd (omega (arith, e, same, among_after r q ps q-again, raw_depth-near p ps, near_max-after p q ps share q-again))
            | inr q-new ↦ is ∙ sym (same-true q r (here (same_place q r) (list_any (same_place q) ps) in-q q-new))
          ]
    ]
  where
    here : (a b : Bool) → (a || b) ≡ true → b ≡ false → a ≡ true
    here true b any none = refl
    here false b any none = absurd (both_ways b none any)

any-contains : (ps : List LongExtent) (p : LongExtent) → Contains ps p → list_any (same_place p) ps ≡ true
any-contains ps p among = subst (λ (q : LongExtent). list_any (same_place q) ps ≡ true) among.2 (any-at ps among.0 p among.1)

-- the same of places that stand among those of the spans
pub distinct-places : (ps : List LongExtent) (p q : LongExtent) → list_any (same_place p) ps ≡ true → list_any (same_place q) ps ≡ true → share_line p q ≡ true
    → depth_among ps p ≡ depth_among ps q → p ≡ q
distinct-places ps p q in-p in-q share same = raw-apart ps p q in-p in-q share (omega (arith, same, among-most (places_of ps) p, among-most (places_of ps) q))

-- places that share a line and have the same depth are the same
pub depths-distinct : (ps : List LongExtent) (p q : LongExtent) → Contains ps p → Contains ps q → share_line p q ≡ true → depth_among ps p ≡ depth_among ps q
    → p ≡ q
depths-distinct ps p q among-p among-q share same =
    raw-apart ps p q (any-contains ps p among-p) (any-contains ps q among-q) share
    (omega (arith, same, among-most (places_of ps) p, among-most (places_of ps) q))

-- ---- chains

-- a chain that goes on from a place is no longer than its raw depth says
chain-short : (p : LongExtent) (ps chain : List LongExtent) → IsChainOf ps chain → SharesWithFirst p chain → length chain + 1 ≤ raw_depth p ps
chain-short p [] chain is linked = omega (arith, ap length is)
chain-short p (q ∷ ps) chain (inl is) linked = omega (arith, chain-short p ps chain is linked)
chain-short p (q ∷ ps) chain (inr (rest, begins, first, is)) linked = grind (arith, cond-true, chain-short q ps rest is first)

any-chain-short : (ps chain : List LongExtent) → IsChainOf ps chain → length chain ≤ greatest_raw_depth ps
any-chain-short [] chain is = omega (arith, ap length is)
any-chain-short (p ∷ ps) chain (inl is) = omega (arith, any-chain-short ps chain is)
any-chain-short (p ∷ ps) chain (inr (rest, begins, first, is)) = omega (arith, ap length begins, chain-short p ps rest is first)

-- a chain that goes on from a place, as long as its raw depth says
record IsRest (p : LongExtent) (ps : List LongExtent) : Type 0 where
  chain : List LongExtent
  is : IsChainOf ps chain
  linked : SharesWithFirst p chain
  long : length chain + 1 ≡ raw_depth p ps

rest_of : (p : LongExtent) (ps : List LongExtent) → IsRest p ps
rest_of p [] = record { chain = []; is = refl; linked = tt; long = omega arith }
rest_of p (q ∷ ps) =
    let here : IsRest p ps = rest_of p ps in
    let there : IsRest q ps = rest_of q ps in
    elim (cases_Bool (share_line p q)) [
      | inl share ↦
          let e : cond (share_line p q) (raw_depth q ps + 1) 1 ≡ raw_depth q ps + 1 = cond-true (share_line p q) (raw_depth q ps + 1) 1 share in
          elim (cases_lt (raw_depth q ps) (raw_depth p ps)) [
            | inl less ↦ record { chain = here.chain; is = inl here.is; linked = here.linked; long = omega (arith, here.long) }
            | inr more ↦ record {
              chain = q ∷ there.chain;
              is = inr (there.chain, refl, there.linked, there.is);
              linked = share;
              long = omega
                  (arith, there.long);
            }
          ]
      | inr apart ↦
          let e : cond (share_line p q) (raw_depth q ps + 1) 1 ≡ 1 = cond-false (share_line p q) (raw_depth q ps + 1) 1 apart in
          record { chain = here.chain; is = inl here.is; linked = here.linked; long = omega (arith, here.long, raw_depth-some p ps) }
    ]

-- the greatest raw depth is the length of the longest chain
pub longest-chain : (ps : List LongExtent) → IsLongestChain ps (greatest_raw_depth ps)
longest-chain [] = record { chain = []; is_chain = refl; long = refl; longest = any-chain-short [] }
longest-chain (p ∷ ps) =
    let here : IsRest p ps = rest_of p ps in
    let there : IsLongestChain ps (greatest_raw_depth ps) = longest-chain ps in
    elim (cases_lt (raw_depth p ps) (greatest_raw_depth ps)) [
      | inl less ↦ record { chain = there.chain; is_chain = inl there.is_chain; long = omega (arith, there.long); longest = any-chain-short (p ∷ ps) }
      | inr more ↦ record {
        chain = p ∷ here.chain;
        is_chain = inr (here.chain, refl, here.linked, here.is);
        long = omega
            (arith, here.long);
        longest = any-chain-short (p ∷ ps);
      }
    ]

-- ---- a list that is mapped in place

turn-at : (f : ℕ → ℕ) (old : List ℕ) (i : ℕ) → i < length old → get_or (map f (take i old) ++ drop i old) i 0 ≡ get_or old i 0
turn-at f [] i within = absurd (omega arith)
turn-at f (x ∷ old) zero within = refl
turn-at f (x ∷ old) (suc i) within = turn-at f old i (omega arith)

turn-step : (f : ℕ → ℕ) (old : List ℕ) (i : ℕ) → i < length old
    → set (map f (take i old) ++ drop i old) i (f (get_or old i 0)) ≡ map f (take (suc i) old) ++ drop (suc i) old
turn-step f [] i within = absurd (omega arith)
turn-step f (x ∷ old) zero within = refl
turn-step f (x ∷ old) (suc i) within = ap (λ xs. f x ∷ xs) (turn-step f old i (omega arith))

-- a number that isn't turned yet is as it was
pub turn-read : (f : ℕ → ℕ) (old now : List ℕ) (i : ℕ) → now ≡ map f (take i old) ++ drop i old → i < length old → get_or now i 0 ≡ get_or old i 0
turn-read f old now i is within = ap (λ xs. get_or xs i 0) is ∙ turn-at f old i within

-- with one more number turned the numbers so far are turned
pub turn-more : (f : ℕ → ℕ) (old now : List ℕ) (i : ℕ) → now ≡ map f (take i old) ++ drop i old → i < length old
    → set now i (f (get_or now i 0)) ≡ map f (take (i + 1) old) ++ drop (i + 1) old
turn-more f old now i is within =
    ap (λ n. set now i (f n)) (turn-read f old now i is within) ∙ ap (λ xs. set xs i (f (get_or old i 0))) is ∙ turn-step f old i within
    ∙ ap (λ n. map f (take n old) ++ drop n old) (sym (add-one i))

-- a list that was mapped through a borrow of it
pub mapped : (f : ℕ → ℕ) (xs lent now : List ℕ) (n : ℕ) → lent ≡ xs → now ≡ map f lent → n ≡ length xs → take n (now ++ drop (length now) xs) ≡ map f xs
mapped f xs lent now n is value len = grind (arith, length-map, take_at)

-- no raw depth is greater than the greatest depth
pub raw-most : (ps : List LongExtent) → All (λ raw. raw ≤ greatest_depth ps) (raw_depths ps)
raw-most ps k d below = grind (arith, common_steps, length-raw_depths ps, raw_depths-are ps, get_or-map, among-most (places_of ps) (get_or ps k no_place))
