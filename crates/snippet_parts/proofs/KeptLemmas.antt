-- Which lines are kept.
use Rattle.snippet_parts.proofs.Common.{◌≡◌, ℕ, zero, suc, ◌+◌, ◌-◌, ◌^◌, ◌<◌, ◌≤◌, Bool, true, false, ◌&&◌, ◌||◌, cond, not, eqb, leb, ltb, min, max, List}
use Rattle.snippet_parts.proofs.Common.{[], ◌∷◌, ◌++◌, length, take, get_or, inl, inr, ◌⊎◌, Result, nat_cmp, refl, sym, ap, subst, ◌∙◌, arith, All, filter}
use Rattle.snippet_parts.proofs.Common.{list_any, range_with_len, IsNonDecreasingBy, IsBinarySearchResult, IsPermutation, is_ok, and-false, and-true}
use Rattle.snippet_parts.proofs.Common.{or-false, cases_lt, or_from, le-leb, le-ltb, lt-leb, eq-eqb, ne_eqb, eqb-true, or_left, or_right, append-nil}
use Rattle.snippet_parts.proofs.Common.{take_more, take_all, get_or-take, length-take, All-nil, All-cons, All-head, All-tail, All-filter, All-from_get_or}
use Rattle.snippet_parts.proofs.Common.{All-weaker, filter-append, filter_agree, list_any_more, list_any_at, list_any_none, length-range_with_len}
use Rattle.snippet_parts.proofs.Common.{get_or-range_with_len, IsNonDecreasingBy-filter, list_any-IsPermutation, searched, any-filter_same, Annotation}
use Rattle.snippet_parts.proofs.Common.{Stretch, keeps, touches, source_lines, line_of-within, holds_line, is_held, is_seen}
use Rattle.snippet_parts.proofs.PartLemmas.{All-range}

-- ---- which lines a span keeps

or-same : (b : Bool) → (b || b) ≡ b
or-same x = grind (arith)

-- a span of one line, or one that isn't marked, keeps all its lines
pub keeps-all : (f l k : ℕ) (marked bar : Bool) → (f ≡ l) ⊎ (marked ≡ false)
    → ((leb f k && leb k l) || (leb f k && leb k l)) ≡ (leb f k && leb k l && (eqb k f || eqb k l || not marked || bar))
keeps-all f l k marked bar why = grind (arith, or-same, lt-leb, eq-eqb)

-- one that is marked keeps its beginning and its end: u is the last line of its beginning, t the first of its end
pub keeps-ends : (f l u t k : ℕ) (marked shown last_bar : Bool) → f < l → f ≤ u → u ≤ l → marked ≡ true → (f < k → leb k u ≡ shown)
    → (k + 1 ≡ l → leb t k ≡ last_bar) → ((k + 1 ≡ l → ⊥) → last_bar ≡ false) → t ≤ l → l ≤ t + 1
    → ((leb f k && leb k u) || (leb t k && leb k l)) ≡ (leb f k && leb k l && (eqb k f || eqb k l || not marked || (shown || last_bar)))
keeps-ends f l u t k marked shown last_bar ordered from to is bars ends apart tl tail = grind (arith, lt-leb, le-leb, eq-eqb, ne_eqb)

-- the bar beside the line before the last
pub last_bar-is : (l k m : ℕ) (trivial : ℕ → Bool) (closing : ℕ) (b : Bool) → 1 ≤ l → b ≡ (ltb m (l - 1) && not (trivial (l - 1))) → (b ≡ true → closing ≡ 1)
    → (b ≡ false → closing ≡ 0) → k + 1 ≡ l → leb (l - closing) k ≡ (eqb (k + 1) l && ltb m k && not (trivial k))
last_bar-is l k m trivial closing b some is one none' next = grind (arith, le-leb, eq-eqb, lt-leb)

-- a line before the last lies after the lesser of a number and the last, where it lies after the number
pub after-least : (n l : ℕ) → ltb (min n l) (l - 1) ≡ ltb n (l - 1)
after-least n l = grind (arith, le-ltb)

-- only the line right above the last one can have the last bar
pub last_bar-apart : (l k m : ℕ) (trivial : ℕ → Bool) → (k + 1 ≡ l → ⊥) → (eqb (k + 1) l && ltb m k && not (trivial k)) ≡ false
last_bar-apart l k m trivial apart = ap (λ z. z && ltb m k && not (trivial k)) (ne_eqb (k + 1) l apart)

-- ---- ranges, of which a test keeps some numbers

pub range-split : (a m n : ℕ) → range_with_len a (m + n) ≡ range_with_len a m ++ range_with_len (a + m) n
range-split a zero n = grind (arith)
range-split a (suc m) n =
    let more : suc m + n ≡ suc (m + n) = omega arith in
    let same : (a + 1) + m ≡ a + suc m = omega arith in
    ap (range_with_len a) more ∙ ap (λ ks. a ∷ ks) (range-split (a + 1) m n ∙ ap (λ b. range_with_len (a + 1) m ++ range_with_len b n) same)

pub lines-split : (m n : ℕ) → range_with_len 0 (m + n) ≡ range_with_len 0 m ++ range_with_len m n
lines-split m n = grind (arith, range-split)

range-agree : (p q : ℕ → Bool) (a n : ℕ) → ((k : ℕ) → a ≤ k → k < a + n → p k ≡ q k) → filter p (range_with_len a n) ≡ filter q (range_with_len a n)
range-agree p q a zero same = refl
range-agree p q a (suc n) same =
    ap (λ b. cond b (a ∷ filter p (range_with_len (a + 1) n)) (filter p (range_with_len (a + 1) n))) (same a (omega arith) (omega arith))
    ∙ ap (λ ks. cond (q a) (a ∷ ks) ks) (range-agree p q (a + 1) n (λ k from to. same k (omega arith) (omega arith)))

filter-true : (ks : List ℕ) → filter (λ k. true) ks ≡ ks
filter-true [] = refl
filter-true (k ∷ ks) = ap (λ js. k ∷ js) (filter-true ks)

filter-false : (ks : List ℕ) → filter (λ k. false) ks ≡ []
filter-false [] = refl
filter-false (k ∷ ks) = filter-false ks

pub range-all : (p : ℕ → Bool) (a n : ℕ) → ((k : ℕ) → a ≤ k → k < a + n → p k ≡ true) → filter p (range_with_len a n) ≡ range_with_len a n
range-all p a n all = range-agree p (λ k. true) a n all ∙ filter-true (range_with_len a n)

pub range-none : (p : ℕ → Bool) (a n : ℕ) → ((k : ℕ) → a ≤ k → k < a + n → p k ≡ false) → filter p (range_with_len a n) ≡ []
range-none p a n none = range-agree p (λ k. false) a n none ∙ filter-false (range_with_len a n)

-- a range in three parts, of which a test keeps what another one keeps of the first, nothing of the second, and all of the third
range-parts : (p q : ℕ → Bool) (a b c : ℕ) → a ≤ b → b ≤ c → ((k : ℕ) → k < a → q k ≡ p k) → ((k : ℕ) → a ≤ k → k < b → q k ≡ false)
    → ((k : ℕ) → b ≤ k → k < c → q k ≡ true) → filter q (range_with_len 0 c) ≡ filter p (range_with_len 0 a) ++ range_with_len b (c - b)
range-parts p q a b c ab bc first second third =
    let all : c ≡ a + ((b - a) + (c - b)) = omega arith in
    ap (λ n. filter q (range_with_len 0 n)) all ∙ ap (filter q) (lines-split a ((b - a) + (c - b)))
    ∙ filter-append q (range_with_len 0 a) (range_with_len a ((b - a) + (c - b)))
    ∙ ap (λ ks. ks ++ filter q (range_with_len a ((b - a) + (c - b)))) (range-agree q p 0 a (λ k from to. first k (omega arith)))
    ∙ ap (λ ks. filter p (range_with_len 0 a) ++ ks) rest
  where
    rest : filter q (range_with_len a ((b - a) + (c - b))) ≡ range_with_len b (c - b)
    rest =
        let at : a + (b - a) ≡ b = omega arith in
        ap (filter q) (range-split a (b - a) (c - b)) ∙ filter-append q (range_with_len a (b - a)) (range_with_len (a + (b - a)) (c - b))
        ∙ ap (λ ks. ks ++ filter q (range_with_len (a + (b - a)) (c - b))) (range-none q a (b - a) (λ k from to. second k from (omega arith)))
        ∙ ap (λ n. filter q (range_with_len n (c - b))) at ∙ range-all q b (c - b) (λ k from to. third k from (omega arith))

-- ---- the lines that stretches hold

-- some stretches are merged up to a line: these are the lines above it that they hold, none from it on is held, and all
-- are held from the last of their first lines on
pub record IsMerged (stretches : List Stretch) (count next : ℕ) (ks : List ℕ) : Type 0 where
  pub lines : ks ≡ filter (is_held stretches) (range_with_len 0 next)
  pub within : next ≤ count
  pub above : (k : ℕ) → next ≤ k → k < count → is_held stretches k ≡ false
  pub filled : (m k : ℕ) → All (λ (s : Stretch). s.first ≤ m) stretches → m ≤ k → k < next → is_held stretches k ≡ true

holds : (s : Stretch) (k : ℕ) → s.first ≤ k → k ≤ s.last → holds_line s k ≡ true
holds s k from to = ap (λ b. b && leb k s.last) (le-leb s.first k from) ∙ le-leb k s.last to

holds-not_above : (s : Stretch) (k : ℕ) → k < s.first → holds_line s k ≡ false
holds-not_above s k before = ap (λ b. b && leb k s.last) (lt-leb s.first k before)

holds-not_below : (s : Stretch) (k : ℕ) → s.last < k → holds_line s k ≡ false
holds-not_below s k after = ap (λ b. leb s.first k && b) (lt-leb k s.last after) ∙ and-false (leb s.first k)

unpushed : {X : Type 0} (P : X → Type 0) (xs : List X) (y : X) → All P (xs ++ y ∷ []) → All P xs × P y
unpushed P [] y all = (All-nil P, All-head P y [] all)
unpushed P (x ∷ xs) y all = grind (arith, All-tail, All-cons, All-head, unpushed P xs y (All-tail P x (xs ++ y ∷ []) all))

-- one more stretch, which starts no earlier than those so far: of its lines those that aren't there yet come after them
merged-more : (stretches : List Stretch) (count i : ℕ) (s d : Stretch) (next from to : ℕ) (now new : List ℕ) → i < length stretches
    → s ≡ get_or stretches i d → IsNonDecreasingBy (λ (t : Stretch). t.first) stretches → IsMerged (take i stretches) count next now
    → from ≡ min (max next s.first) count → to ≡ max (min (s.last + 1) count) from → new ≡ now ++ range_with_len from (to - from)
    → IsMerged (take (i + 1) stretches) count to new
merged-more stretches count i s d next from to now new among at sorted before from-is to-is pushed =
    let ordered : from ≤ to = omega arith in
    let reached : next ≤ from = omega (arith, before.within) in record {
      lines = pushed ∙ ap (λ ks. ks ++ range_with_len from (to - from)) before.lines ∙ sym (range-parts old held next from to reached ordered
          first (λ k a b. more k ∙ or_from (old k) (holds_line s k) (before.above k a (omega arith)) (holds-not_above s k (omega arith)))
          (λ k a b. more k ∙ or_right (old k) (holds_line s k) (holds s k (omega arith) (omega arith))));
      within = omega arith;
      above = λ k a b. more k ∙ or_from (old k) (holds_line s k) (before.above k (omega arith) b) (holds-not_below s k (omega arith));
      filled = filled;
    }
  where
    old : ℕ → Bool
    old = is_held (take i stretches)

    held : ℕ → Bool
    held = is_held (take (i + 1) stretches)

    more : (k : ℕ) → held k ≡ (old k || holds_line s k)
    more k = list_any_more (λ (t : Stretch). holds_line t k) stretches i d among ∙ ap (λ (t : Stretch). old k || holds_line t k) (sym at)

    upto : All (λ (t : Stretch). t.first ≤ s.first) (take i stretches)
    upto = All-from_get_or (λ (t : Stretch). t.first ≤ s.first) (take i stretches) d (λ j within.
        omega (
          arith,
          ap (λ (t : Stretch). t.first) (get_or-take i stretches j d (omega (arith, length-take i stretches))),
          sorted j i d (omega (arith, length-take i stretches)) among,
          ap (λ (t : Stretch). t.first) at,
        ))

    first : (k : ℕ) → k < next → held k ≡ old k
    first k below =
        elim (cases_lt k s.first) [
          | inl above ↦ more k ∙ ap (λ b. old k || b) (holds-not_above s k above) ∙ or-false (old k)
          | inr from ↦ let there = before.filled s.first k upto from below in more k ∙ or_left (old k) (holds_line s k) there ∙ sym there
        ]

    filled : (m k : ℕ) → All (λ (t : Stretch). t.first ≤ m) (take (i + 1) stretches) → m ≤ k → k < to → held k ≡ true
    filled m k all a b =
        let parts = unpushed (λ (t : Stretch). t.first ≤ m) (take i stretches) (get_or stretches i d)
        (subst (All (λ (t : Stretch). t.first ≤ m)) (take_more stretches i d among) all) in
        let low : s.first ≤ m = omega (arith, parts.1, ap (λ (t : Stretch). t.first) at) in
        elim (cases_lt k next) [
          | inl below ↦ more k ∙ or_left (old k) (holds_line s k) (before.filled m k parts.0 a below)
          | inr past ↦ more k ∙ or_right (old k) (holds_line s k) (holds s k (omega arith) (omega arith))
        ]

-- the same as it is computed
pub merged-step : (stretches : List Stretch) (count i : ℕ) (d : Stretch) (next start from after cut to : ℕ) (now new : List ℕ) → i < length stretches
    → IsNonDecreasingBy (λ (t : Stretch). t.first) stretches → IsMerged (take i stretches) count next now
    → start ≡ max (get_or stretches i d).first next → from ≡ min start count → after ≡ min ((get_or stretches i d).last + 1) (2 ^ 64 - 1)
    → cut ≡ min after count → to ≡ max cut from → count < 2 ^ 64 → new ≡ now ++ range_with_len from (to - from)
    → IsMerged (take (i + 1) stretches) count to new
merged-step stretches count i d next start from after cut to now new among sorted before start-is from-is after-is cut-is to-is fits pushed =
    merged-more stretches count i (get_or stretches i d) d next from to now new among refl sorted before (omega arith) (omega arith) pushed

-- all stretches
pub merged-all : (stretches : List Stretch) (count i next : ℕ) (lines : List ℕ) → length stretches ≤ i → IsMerged (take i stretches) count next lines
    → lines ≡ filter (is_held stretches) (range_with_len 0 count)
merged-all stretches count i next lines all merged =
    let are : take i stretches ≡ stretches = take_all i stretches all in
    let upto : count ≡ next + (count - next) = omega (arith, merged.within) in
    merged.lines ∙ ap (λ ss. filter (is_held ss) (range_with_len 0 next)) are
    ∙ sym (ap (λ n. filter (is_held stretches) (range_with_len 0 n)) upto ∙ ap (filter (is_held stretches)) (lines-split next (count - next))
    ∙ filter-append (is_held stretches) (range_with_len 0 next) (range_with_len next (count - next))
    ∙ ap (λ ks. filter (is_held stretches) (range_with_len 0 next) ++ ks) (range-none (is_held stretches) next (count - next)
    (λ k from to. sym (ap (λ ss. is_held ss k) are) ∙ merged.above k from (omega (arith, merged.within))))
    ∙ append-nil (filter (is_held stretches) (range_with_len 0 next)))

-- the order of stretches doesn't matter
pub held-permuted : (stretches sorted : List Stretch) (count : ℕ) → IsPermutation stretches sorted
    → filter (is_held sorted) (range_with_len 0 count) ≡ filter (is_held stretches) (range_with_len 0 count)
held-permuted stretches sorted count same = grind (arith, filter_agree, list_any-IsPermutation)

-- the two stretches of one more span
pub held-two : {A : Type 0} (p : ℕ → A → Bool) (spans : List A) (i : ℕ) (x : A) (old mid new : List Stretch) (s t : Stretch) → i < length spans
    → ((k : ℕ) → is_held mid k ≡ (is_held old k || holds_line s k)) → ((k : ℕ) → is_held new k ≡ (is_held mid k || holds_line t k))
    → ((k : ℕ) → (holds_line s k || holds_line t k) ≡ p k (get_or spans i x))
    → ((k : ℕ) → is_held old k ≡ list_any (p k) (take i spans)) → (k : ℕ) → is_held new k ≡ list_any (p k) (take (i + 1) spans)
held-two p spans i x old mid new s t within first second are so_far k = grind (arith, list_any_more)

-- with all spans
pub held-all : {A : Type 0} (p : ℕ → A → Bool) (q : ℕ → Bool) (spans : List A) (i count : ℕ) (stretches : List Stretch) → length spans ≤ i
    → ((k : ℕ) → is_held stretches k ≡ list_any (p k) (take i spans)) → ((k : ℕ) → list_any (p k) spans ≡ q k)
    → filter (is_held stretches) (range_with_len 0 count) ≡ filter q (range_with_len 0 count)
held-all p q spans i count stretches all so_far are = grind (arith, filter_agree, take_all)

-- one more line
pub range-pushed : (from line : ℕ) → from ≤ line → range_with_len from (line + 1 - from) ≡ range_with_len from (line - from) ++ line ∷ []
range-pushed from line le = grind (arith, range-split)

-- ---- lines in order

range-ascends : (a n : ℕ) → IsNonDecreasingBy (λ (k : ℕ). k) (range_with_len a n)
range-ascends a n i j d le within = grind (arith, length-range_with_len, get_or-range_with_len)

-- lines that pass a test ascend
pub kept-ascend : (p : ℕ → Bool) (n : ℕ) → IsNonDecreasingBy (λ (k : ℕ). k) (filter p (range_with_len 0 n))
kept-ascend p n = IsNonDecreasingBy-filter (λ (k : ℕ). k) p (range_with_len 0 n) (range-ascends 0 n)

-- a line is among those that pass a test if it passes
pub among-kept : (p : ℕ → Bool) (n k : ℕ) → k < n → list_any (λ j. eqb j k) (filter p (range_with_len 0 n)) ≡ p k
among-kept p n k within =
    any-filter_same (λ j. eqb j k) p (p k) (λ j same. ap p (eqb-true j k same)) (range_with_len 0 n)
    ∙ ap (λ b. p k && b) (list_any_at (λ j. eqb j k) (range_with_len 0 n) k 0 (omega (arith, length-range_with_len 0 n))
    (eq-eqb (get_or (range_with_len 0 n) k 0) k (omega (arith, get_or-range_with_len 0 n k 0 within)))) ∙ and-true (p k)

-- what is found by halves is among lines in order
pub among-found : (ks : List ℕ) (k : ℕ) (r : Result ℕ ℕ) → IsBinarySearchResult (λ y. nat_cmp y k) ks r → IsNonDecreasingBy (λ (j : ℕ). j) ks
    → is_ok r ≡ list_any (λ j. eqb j k) ks
among-found x y z u v = grind (arith, searched, list_any_at, eq-eqb, list_any_none, ne_eqb)

-- each line that is kept is one of the lines
pub kept-within : (p : ℕ → Bool) (n : ℕ) → All (λ k. k < n) (filter p (range_with_len 0 n))
kept-within p n = All-filter p (λ k. k < n) (range_with_len 0 n)
    (All-weaker (λ k. (0 ≤ k) × (k < 0 + n)) (λ k. k < n) (λ k within. omega (arith, within.1)) (range_with_len 0 n) (All-range 0 n))

-- all lines pass a test that each passes
pub all-kept : (p : ℕ → Bool) (n count : ℕ) (none new : List ℕ) → ((k : ℕ) → p k ≡ true) → count ≡ n → none ≡ []
    → new ≡ none ++ range_with_len 0 (count - 0) → new ≡ filter p (range_with_len 0 n)
all-kept p n count none new all are empty pushed = grind (arith, range-all)

-- ---- lines after a source

-- no span touches a line after the source, nor keeps or sees it
untouched : (source : List ℕ) (k : ℕ) (a : Annotation) → length (source_lines source) ≤ k → touches source a k ≡ false
untouched source k a after = grind (arith, line_of-within, lt-leb)

pub unkept : (source : List ℕ) (k : ℕ) (marks : List Annotation) → length (source_lines source) ≤ k → list_any (keeps source k) marks ≡ false
unkept source k marks after = grind (arith, list_any_none, untouched)

pub unseen : {A : Type 0} (source : List ℕ) (k : ℕ) (f : A → Annotation) (xs : List A) → length (source_lines source) ≤ k
    → list_any (λ x. is_seen source k (f x)) xs ≡ false
unseen {A} source k f xs after = grind (arith, list_any_none, untouched)

-- where a test keeps none of the lines from n on, it keeps those of the first n
pub filter-cut : (q : ℕ → Bool) (n m : ℕ) → n ≤ m → ((k : ℕ) → n ≤ k → q k ≡ false) → filter q (range_with_len 0 m) ≡ filter q (range_with_len 0 n)
filter-cut q n m le none =
    let all : m ≡ n + (m - n) = omega arith in
    ap (λ i. filter q (range_with_len 0 i)) all ∙ ap (filter q) (lines-split n (m - n))
    ∙ filter-append q (range_with_len 0 n) (range_with_len n (m - n))
    ∙ ap (λ ks. filter q (range_with_len 0 n) ++ ks) (range-none q n (m - n) (λ k from to. none k from))
    ∙ append-nil (filter q (range_with_len 0 n))
