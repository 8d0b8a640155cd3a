-- The search for the raw depth of a place, from the last place on.
use Rattle.snippet_parts.proofs.Common.{◌≡◌, ℕ, zero, suc, ◌+◌, ◌-◌, ◌<◌, ◌≤◌, Bool, true, false, ◌||◌, cond, leb, max, take}
use Rattle.snippet_parts.proofs.Common.{drop, List, [], ◌∷◌, length, get_or, set, inl, inr, refl, sym, ap, subst, ◌∙◌, arith, All, list_any}
use Rattle.snippet_parts.proofs.Common.{IsNonDecreasingBy, cases_Bool, le-leb, lt-leb, and_from, and_right, or_left, or_right, or_cases, cond-true, cond-false}
use Rattle.snippet_parts.proofs.Common.{both_ways, false_from_ne_true, drop_more, drop_all, get_or-take, get_or-drop, take_rest, drop-set, length-take-le}
use Rattle.snippet_parts.proofs.Common.{length-drop, get_or_default, LongExtent, same_place, share_line, places_of, raw_depth, raw_depth_among, raw_depths}
use Rattle.snippet_parts.proofs.RawDepthLemmas.{among_after, among-new, length-raw_depths, places-again, places-new, same-true}

-- ---- the search for a raw depth

-- the first k of some places share a line with a place, and the others don't
pub IsNearUpTo : LongExtent → ℕ → List LongExtent → Type 0
IsNearUpTo p zero ps = list_any (share_line p) ps ≡ false
IsNearUpTo p (suc k) [] = ⊥
IsNearUpTo p (suc k) (q ∷ ps) = (share_line p q ≡ true) × IsNearUpTo p k ps

-- the greatest raw depth of those that share a line with a place
pub near_max : LongExtent → List LongExtent → ℕ
near_max p [] = 0
near_max p (q ∷ ps) = max (cond (share_line p q) (raw_depth_among (places_of (q ∷ ps)) q) 0) (near_max p ps)

-- a later place that shares a line is no deeper than the deepest near one
pub near_max-after : (p q : LongExtent) (ps : List LongExtent) → share_line p q ≡ true → list_any (same_place q) ps ≡ true
    → raw_depth_among (places_of ps) q ≤ near_max p ps
unfolding near_max
near_max-after p q [] share again = cc
near_max-after p q (r ∷ ps) share again =
    elim (cases_Bool (list_any (same_place q) ps)) [
      | inl holds ↦
          let h : raw_depth_among (places_of ps) q ≤ near_max p ps = near_max-after p q ps share holds in
          let e : raw_depth_among (places_of (r ∷ ps)) q ≡ raw_depth_among (places_of ps) q = among_after r q ps holds in
          omega arith
      | inr fails ↦
          let same : q ≡ r = same-true q r (here (same_place q r) (list_any (same_place q) ps) again fails) in
          let e : cond (share_line p r) (raw_depth_among (places_of (r ∷ ps)) r) 0
          ≡ raw_depth_among (places_of (r ∷ ps)) r = cond-true (share_line p r) (raw_depth_among (places_of (r ∷ ps)) r) 0
          (subst (λ (x : LongExtent). share_line p x ≡ true) same share) in
          let f : raw_depth_among (places_of (r ∷ ps)) q ≡ raw_depth_among (places_of (r ∷ ps)) r = ap (λ x. raw_depth_among (places_of (r ∷ ps)) x) same in
          omega arith
    ]
  where
    here : (a b : Bool) → (a || b) ≡ true → b ≡ false → a ≡ true
    here true b any fails = refl
    here false b any fails = absurd (both_ways b fails any)

-- a raw depth is at least 1
pub raw_depth-some : (p : LongExtent) (qs : List LongExtent) → 1 ≤ raw_depth p qs
raw_depth-some p [] = omega arith
raw_depth-some p (q ∷ qs) = let h : 1 ≤ raw_depth p qs = raw_depth-some p qs in omega arith

-- a raw depth is one more than the deepest near one
pub raw_depth-near : (p : LongExtent) (ps : List LongExtent) → raw_depth p (places_of ps) ≡ near_max p ps + 1
unfolding near_max
raw_depth-near p [] = omega arith
raw_depth-near p (q ∷ ps) = grind (arith, places-again, near_max-after, cond-true, among_after, cond-false, places-new, among-new, raw_depth-near p ps)

-- where no place is near, none is in the way
near_max-none : (p : LongExtent) (ps : List LongExtent) → list_any (share_line p) ps ≡ false → near_max p ps ≡ 0
unfolding near_max
near_max-none p [] none = refl
near_max-none p (q ∷ ps) none =
    let parts : (share_line p q ≡ false) × (list_any (share_line p) ps ≡ false) = neither (share_line p q) (list_any (share_line p) ps) none in
    let e : cond (share_line p q) (raw_depth_among (places_of (q ∷ ps)) q) 0
    ≡ 0 = cond-false (share_line p q) (raw_depth_among (places_of (q ∷ ps)) q) 0 parts.0 in
    let h : near_max p ps ≡ 0 = near_max-none p ps parts.1 in
    omega arith
  where
    neither : (a b : Bool) → (a || b) ≡ false → (a ≡ false) × (b ≡ false)
    neither true b none = cc
    neither false b none = (refl, none)

-- what is found from `deepest` on: the raw depth of the same place, or one more than the deepest
pub search_from : ℕ → LongExtent → List LongExtent → List ℕ → ℕ
search_from deepest p [] ns = deepest + 1
search_from deepest p (q ∷ qs) [] = deepest + 1
search_from deepest p (q ∷ qs) (n ∷ ns) = cond (same_place p q) n (search_from (max n deepest) p qs ns)

search-same : (p : LongExtent) (k deepest : ℕ) (ps : List LongExtent) → share_line p p ≡ true → IsNearUpTo p k ps → list_any (same_place p) ps ≡ true
    → search_from deepest p (take k ps) (raw_depths ps) ≡ raw_depth_among (places_of ps) p
unfolding search_from IsNearUpTo
search-same p zero deepest ps own near again = absurd (none ps near again)
  where
    none : (ps : List LongExtent) → list_any (share_line p) ps ≡ false → list_any (same_place p) ps ≡ true → ⊥
    none [] near again = cc
    none (q ∷ ps) near again =
        elim (or_cases (same_place p q) (list_any (same_place p) ps) again) [
          | inl same ↦ both_ways (list_any (share_line p) (q ∷ ps)) near
              (or_left (share_line p q) (list_any (share_line p) ps) (subst (λ (x : LongExtent). share_line p x ≡ true) (same-true p q same) own))
          | inr more ↦ none ps (false_from_ne_true (list_any (share_line p) ps) (λ holds.
              both_ways (list_any (share_line p) (q ∷ ps)) near (or_right (share_line p q) (list_any (share_line p) ps) holds))) more
        ]
search-same p (suc k) deepest [] own near again = absurd near
search-same p (suc k) deepest (q ∷ ps) own near again =
    elim (cases_Bool (same_place p q)) [
      | inl same ↦ cond-true (same_place p q) (raw_depth_among (places_of (q ∷ ps)) q)
          (search_from (max (raw_depth_among (places_of (q ∷ ps)) q) deepest) p (take k ps) (raw_depths ps)) same
          ∙ ap (raw_depth_among (places_of (q ∷ ps))) (sym (same-true p q same))
      | inr other ↦
          let after : list_any (same_place p) ps ≡ true = there (same_place p q) (list_any (same_place p) ps) again other in
          cond-false (same_place p q) (raw_depth_among (places_of (q ∷ ps)) q)
          (search_from (max (raw_depth_among (places_of (q ∷ ps)) q) deepest) p (take k ps) (raw_depths ps)) other
          ∙ search-same p k (max (raw_depth_among (places_of (q ∷ ps)) q) deepest) ps own near.1 after ∙ sym (among_after q p ps after)
    ]
  where
    there : (a b : Bool) → (a || b) ≡ true → a ≡ false → b ≡ true
    there true b any fails = cc
    there false b any fails = any

search-new : (p : LongExtent) (k deepest : ℕ) (ps : List LongExtent) → IsNearUpTo p k ps → list_any (same_place p) ps ≡ false
    → search_from deepest p (take k ps) (raw_depths ps) ≡ max deepest (near_max p ps) + 1
unfolding search_from IsNearUpTo near_max
search-new p zero deepest ps near new = let e : near_max p ps ≡ 0 = near_max-none p ps near in omega arith
search-new p (suc k) deepest [] near new = absurd near
search-new p (suc k) deepest (q ∷ ps) near new =
    let n : ℕ = raw_depth_among (places_of (q ∷ ps)) q in
    let parts : (same_place p q ≡ false) × (list_any (same_place p) ps ≡ false) = neither (same_place p q) (list_any (same_place p) ps) new in
    let h : search_from (max n deepest) p (take k ps) (raw_depths ps)
    ≡ max (max n deepest) (near_max p ps) + 1 = search-new p k (max n deepest) ps near.1 parts.1 in
    let e : cond (share_line p q) n 0 ≡ n = cond-true (share_line p q) n 0 near.0 in
    cond-false (same_place p q) n (search_from (max n deepest) p (take k ps) (raw_depths ps)) parts.0 ∙ h
    ∙ regroup n deepest (cond (share_line p q) n 0) (near_max p ps) e
  where
    neither : (a b : Bool) → (a || b) ≡ false → (a ≡ false) × (b ≡ false)
    neither true b none = cc
    neither false b none = (refl, none)

    regroup : (n d m r : ℕ) → m ≡ n → max (max n d) r + 1 ≡ max d (max m r) + 1
    regroup n d m r e = omega arith

-- the search finds the raw depth
pub search-is : (p : LongExtent) (k : ℕ) (ps : List LongExtent) → p.first ≤ p.last → IsNearUpTo p k ps
    → search_from 0 p (take k ps) (raw_depths ps) ≡ raw_depth_among (places_of (p ∷ ps)) p
search-is p k ps own near = grind (arith, search-same, and_from, le-leb, among_after, search-new, raw_depth-near, among-new)

-- places in the order of their first lines, none before that of p, are near up to those that start after p's last
pub near_up_to : (p : LongExtent) (k : ℕ) (ps : List LongExtent) → k ≤ length ps → ((j : ℕ) (d : LongExtent) → j < k → (get_or ps j d).first ≤ p.last)
    → ((j : ℕ) (d : LongExtent) → k ≤ j → j < length ps → p.last < (get_or ps j d).first) → All (λ q. p.first ≤ q.first) ps
    → All (λ q. q.first ≤ q.last) ps → IsNearUpTo p k ps
unfolding IsNearUpTo
near_up_to p zero [] within near far after lines = refl
near_up_to p zero (q ∷ ps) within near far after lines =
    let b : p.last < q.first = far 0 q (omega arith) (omega arith) in
    let apart : share_line p q ≡ false = and_right (leb p.first q.last) (leb q.first p.last) (lt-leb q.first p.last b) in
    let rest : list_any (share_line p) ps ≡ false = near_up_to p zero ps (omega arith) (λ j d below. absurd (omega arith)) (λ j d from to.
    far (suc j) d (omega arith) (omega arith)) (λ j d in'. after (suc j) d (omega arith)) (λ j d in'. lines (suc j) d (omega arith)) in
    either (share_line p q) (list_any (share_line p) ps) apart rest
  where
    either : (a b : Bool) → a ≡ false → b ≡ false → (a || b) ≡ false
    either true b x y = cc
    either false b x y = y
near_up_to p (suc k) [] within near far after lines = absurd (omega arith)
near_up_to p (suc k) (q ∷ ps) within near far after lines =
    let a : q.first ≤ p.last = near 0 q (omega arith) in
    let b : p.first ≤ q.first = after 0 q (omega arith) in
    let c : q.first ≤ q.last = lines 0 q (omega arith) in (
      and_from (leb p.first q.last) (leb q.first p.last) (le-leb p.first q.last (omega arith)) (le-leb q.first p.last a),
      near_up_to p k ps (omega arith) (λ j d below. near (suc j) d (omega arith)) (λ j d from to. far (suc j) d (omega arith) (omega arith))
          (λ j d in'. after (suc j) d (omega arith)) (λ j d in'. lines (suc j) d (omega arith)),
    )

-- one step of the search
pub search-more : (deepest : ℕ) (p : LongExtent) (qs : List LongExtent) (ns : List ℕ) (i : ℕ) (d : LongExtent) (n : ℕ) → i < length qs → i < length ns
    → n ≡ get_or ns i n → same_place p (get_or qs i d) ≡ false
    → search_from deepest p (drop i qs) (drop i ns) ≡ search_from (max n deepest) p (drop (i + 1) qs) (drop (i + 1) ns)
unfolding search_from
search-more deepest p qs ns i d n in-qs in-ns is other = grind (arith, drop_more, cond-false)

pub search-found : (deepest : ℕ) (p : LongExtent) (qs : List LongExtent) (ns : List ℕ) (i : ℕ) (d : LongExtent) (n : ℕ) → i < length qs → i < length ns
    → n ≡ get_or ns i n → same_place p (get_or qs i d) ≡ true → search_from deepest p (drop i qs) (drop i ns) ≡ n
unfolding search_from
search-found deepest p qs ns i d n in-qs in-ns is same = grind (arith, drop_more, cond-true)

pub search-done : (deepest : ℕ) (p : LongExtent) (ns : List ℕ) → search_from deepest p [] ns ≡ deepest + 1
unfolding search_from
search-done deepest p ns = refl

-- ---- the search in the first `near` of some places

-- a place that stands for none
abbrev pub no_place : LongExtent
no_place = record { from = 0; to = 0; first = 0; last = 0 }

-- a place that stands again has the raw depth that is found there
pub found_at : (p : LongExtent) (later : List LongExtent) (raws : List ℕ) (near i deepest : ℕ) → raws ≡ raw_depths later → near ≤ length later
    → i < near → p.first ≤ p.last → IsNearUpTo p near later
    → search_from deepest p (drop i (take near later)) (drop i raws) ≡ search_from 0 p (take near later) raws
    → same_place p (get_or later i no_place) ≡ true → get_or raws i 0 ≡ raw_depth_among (places_of (p ∷ later)) p
found_at p later raws near i deepest is within below own up_to before same =
    let e : length raws ≡ length later = ap length is ∙ length-raw_depths later in
    sym (search-found deepest p (take near later) raws i no_place (get_or raws i 0) (omega (arith, length-take-le near later within)) (omega arith)
    (get_or_default raws i 0 (get_or raws i 0) (omega arith)) (ap (same_place p) (get_or-take near later i no_place below) ∙ same))
    ∙ before ∙ ap (search_from 0 p (take near later)) is ∙ search-is p near later own up_to

-- another place is passed, with its raw depth where it is deeper
pub passed_at : (p : LongExtent) (later : List LongExtent) (raws : List ℕ) (near i deepest : ℕ) → raws ≡ raw_depths later → near ≤ length later
    → i < near → search_from deepest p (drop i (take near later)) (drop i raws) ≡ search_from 0 p (take near later) raws
    → same_place p (get_or later i no_place) ≡ false
    → search_from (max (get_or raws i 0) deepest) p (drop (i + 1) (take near later)) (drop (i + 1) raws) ≡ search_from 0 p (take near later) raws
passed_at p later raws near i deepest is within below before other =
    grind (arith, length-raw_depths, search-more, length-take-le, get_or_default, get_or-take)

-- a place that doesn't stand again is one deeper than the deepest passed
pub found_none : (p : LongExtent) (later : List LongExtent) (raws : List ℕ) (near i deepest : ℕ) → raws ≡ raw_depths later → near ≤ length later
    → near ≤ i → p.first ≤ p.last → IsNearUpTo p near later
    → search_from deepest p (drop i (take near later)) (drop i raws) ≡ search_from 0 p (take near later) raws
    → deepest + 1 ≡ raw_depth_among (places_of (p ∷ later)) p
found_none p later raws near i deepest is within all own up_to before = grind (arith, drop_all, length-take-le, search-done, search-is)

-- ---- all raw depths, from the last on

-- places after one in order start on its first line or below
pub after_in : (ps : List LongExtent) (i m : ℕ) → IsNonDecreasingBy (λ p. p.first) ps → i < length ps → m ≡ i + 1
    → All (λ q. (get_or ps i no_place).first ≤ q.first) (take (length ps - m) (drop m ps))
after_in ps i m ordered within is k d below =
    let e : take (length ps - m) (drop m ps) ≡ drop m ps = take_rest ps m in
    let f : get_or (take (length ps - m) (drop m ps)) k d ≡ get_or ps (m + k) d = ap (λ qs. get_or qs k d) e ∙ get_or-drop m ps k d in
    let g : get_or ps i no_place ≡ get_or ps i d = get_or_default ps i no_place d within in
    let len : length (take (length ps - m) (drop m ps)) ≡ length ps - m = ap length e ∙ length-drop m ps in
    omega (arith, ap (λ (q : LongExtent). q.first) f, ap (λ (q : LongExtent). q.first) g, ordered i (m + k) d (omega arith) (omega arith))

-- with one more raw depth set, those from there on are the raw depths of the places from there on
pub filled : (ps : List LongExtent) (raws : List ℕ) (j m r : ℕ) → j < length ps → length raws ≡ length ps → m ≡ j + 1
    → drop m raws ≡ raw_depths (drop m ps) → r ≡ raw_depth_among (places_of (get_or ps j no_place ∷ take (length ps - m) (drop m ps)))
    (get_or ps j no_place) → drop j (set raws j r) ≡ raw_depths (drop j ps)
filled ps raws j m r within same is before value = grind (arith, drop-set, take_rest, drop_more)
