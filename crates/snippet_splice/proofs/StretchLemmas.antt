-- Tables of stretches, the pieces of a text, and what stands in a line before a byte.
use Rattle.snippet_splice.proofs.Common.{◌≡◌, ◌≢◌, ◌∙◌, ◌⊎◌, inl, inr, ℕ, zero, suc, ◌+◌, ◌<◌, ◌==◌, eqb, List, [], ◌∷◌, ◌++◌, Vec, count_by, drop}
use Rattle.snippet_splice.proofs.Common.{length, take, ◌≤◌, set, get_or, lit<, refl, sym, ap, arith, if◌then◌else◌, subst, slice_split, IsUtf8}
use Rattle.snippet_splice.proofs.Common.{Global, eq-eqb, eqb-true, cond-true, cond-false, false_from_ne_true, cases_Bool, nat_tests, append-nil}
use Rattle.snippet_splice.proofs.Common.{get_or_default, get_or-drop, get_or-map, get_or-set_other, get_or-set_same, length-append, length-drop, length-map}
use Rattle.snippet_splice.proofs.Common.{map-set, places, same_lists, slice_split_at, slice_split_none, sum_by-cons, chars-append, is_lf, last_byte-not}
use Rattle.snippet_splice.proofs.Common.{length-chars_le, SubstitutionHighlight, after_last_lf, capped, taken_on, without_cr, line_stretches, rules}
use Rattle.snippet_splice.proofs.Common.{common_steps}
use Rattle.std.proofs.Common.{chars}
use Rattle.snippet_splice.proofs.RangeLemmas.{feeds-append}
use Rattle.snippet_splice.proofs.WriteLemmas.{utf8-after}

-- ---- tables

abbrev Row : Type 0
Row = Vec SubstitutionHighlight Global

-- with a stretch more in one line, each other has those that it had
pub line_set : (lines : List Row) (i : ℕ) (was now : Row) (x : SubstitutionHighlight) (k : ℕ) → i < length lines → was ≡ get_or lines i was
    → now.items ≡ was.items ++ x ∷ [] → line_stretches (set lines i now) k ≡ line_stretches lines k ++ (if i == k then x ∷ [] else [])
line_set lines i was now x k within is more =
    search (rules, length-map, map-set, get_or-map, get_or-set_same, cond-true, eq-eqb, get_or-set_other, append-nil, cond-false, false_from_ne_true, eqb-true)

-- a line more at the end has its own stretches, and each other has those that it had
pub line_added : (lines : List Row) (row : Row) (k : ℕ)
    → line_stretches (lines ++ row ∷ []) k ≡ line_stretches lines k ++ (if length lines == k then row.items else [])
line_added [] row zero = refl
line_added [] row (suc k) = search rules
line_added (l ∷ lines) row zero = search rules
line_added (l ∷ lines) row (suc k) = grind (arith, eq-eqb, false_from_ne_true, eqb-true, line_added lines row k)

-- ---- pieces

-- a text holds no LF
abbrev pub HoldsNoLf : List ℕ → Type 0
HoldsNoLf text = (i : ℕ) → i < length text → get_or text i 0 ≢ 10

-- a piece and its line feed come off the front of a text that is split
pub pieces_cut : (text piece after : List ℕ) → text ≡ piece ++ 10 ∷ after → HoldsNoLf piece → slice_split is_lf text ≡ piece ∷ slice_split is_lf after
pieces_cut text piece after is none =
    ap (slice_split is_lf) is ∙ slice_split_at is_lf piece 10 after (λ i d within.
    false_from_ne_true _ (λ t. none i within (get_or_default piece i 0 d within ∙ eqb-true _ 10 t))) refl

-- a text without line feeds is one piece
pub pieces_whole : (text : List ℕ) → HoldsNoLf text → slice_split is_lf text ≡ text ∷ []
pieces_whole text none =
    slice_split_none is_lf text (λ i d within. false_from_ne_true _ (λ t. none i within (get_or_default text i 0 d within ∙ eqb-true _ 10 t)))

-- it has no line feed to count
pub feeds_whole : (text : List ℕ) → HoldsNoLf text → count_by is_lf text ≡ 0
feeds_whole [] none = refl
feeds_whole (b ∷ bs) none =
    let other : b ≢ 10 = none 0 (omega arith) in
    let rest : count_by is_lf bs ≡ 0 = feeds_whole bs (λ i within. none (suc i) (omega (arith, within))) in
    grind (arith, nat_tests, other, rest)

-- and one that is cut has one more than what stands after the cut
pub feeds_cut : (text piece after : List ℕ) → text ≡ piece ++ 10 ∷ after → HoldsNoLf piece → count_by is_lf text ≡ 1 + count_by is_lf after
feeds_cut text piece after is none = grind (arith, common_steps, count_by, sum_by-cons, feeds-append, feeds_whole)

-- ---- what stands after the last LF

zero_or : (n : ℕ) → (n ≡ 0) ⊎ (0 < n)
zero_or x = search rules

after_none : (bs : List ℕ) → count_by is_lf bs ≡ 0 → after_last_lf bs ≡ bs
after_none [] none = refl
after_none (b ∷ bs) none = cond-true (eqb (count_by is_lf (b ∷ bs)) 0) (b ∷ bs) (after_last_lf bs) (eq-eqb _ 0 none)

after_some : (b : ℕ) (bs : List ℕ) → 0 < count_by is_lf (b ∷ bs) → after_last_lf (b ∷ bs) ≡ after_last_lf bs
after_some b bs some = search rules

after_append : (front text : List ℕ) → count_by is_lf text ≡ 0 → after_last_lf (front ++ text) ≡ after_last_lf front ++ text
after_append [] text none = after_none text none
after_append (b ∷ front) text none = grind (arith, common_steps, count_by, feeds-append, zero_or, after_none, after_some, after_append front text none)

after_other : (front text : List ℕ) → 0 < count_by is_lf text → after_last_lf (front ++ text) ≡ after_last_lf text
after_other [] text some = refl
after_other (b ∷ front) text some = grind (arith, common_steps, after_some, feeds-append, after_other front text some)

one_lf : (after : List ℕ) → 0 < count_by is_lf (10 ∷ after)
one_lf after = grind (arith, common_steps, count_by, sum_by-cons)

-- it is that of what stands after one of them
pub after_piece : (text piece after : List ℕ) → text ≡ piece ++ 10 ∷ after → after_last_lf text ≡ after_last_lf after
after_piece text piece after is = grind (arith, common_steps, after_other, one_lf, after_some)

-- a text without line feeds is what stands after its last one
pub after_whole : (text : List ℕ) → HoldsNoLf text → after_last_lf text ≡ text
after_whole text none = after_none text (feeds_whole text none)

-- a text with LF is cut at its last
record Cut (text : List ℕ) : Type 0 where
  pub front : List ℕ
  pub whole : text ≡ front ++ 10 ∷ after_last_lf text

cut : (text : List ℕ) → 0 < count_by is_lf text → Cut text
cut [] some = absurd (omega (arith, some))
cut (b ∷ bs) some =
    elim (zero_or (count_by is_lf bs)) [
      | inl zeros ↦ record { front = []; whole = cc (lf b bs some zeros, after_some b bs some, after_none bs zeros) }
      | inr later ↦ let rest = cut bs later in record { front = b ∷ rest.front; whole = rw (after_some b bs some) (ap (λ l. b ∷ l) rest.whole) }
    ]
  where
    lf : (b : ℕ) (bs : List ℕ) → 0 < count_by is_lf (b ∷ bs) → count_by is_lf bs ≡ 0 → b ≡ 10
    lf b bs some zeros = grind (arith, common_steps)

-- what stands after the last LF has no more bytes, and so no more characters, than there are bytes
pub after_few : (text : List ℕ) → length (chars (after_last_lf text)) ≤ length text
after_few text = elim (zero_or (count_by is_lf text)) [
  | inl zeros ↦ omega (arith, length-chars_le (after_last_lf text), ap length (after_none text zeros))
  | inr some ↦ omega (arith, length-chars_le (after_last_lf text), ap length (cut text some).whole, length-append {A = ℕ})
]

after_utf8 : (text : List ℕ) → IsUtf8 text → IsUtf8 (after_last_lf text)
after_utf8 text utf8 = elim (zero_or (count_by is_lf text)) [
  | inl zeros ↦ subst IsUtf8 (sym (after_none text zeros)) utf8
  | inr some ↦ let c = cut text some in utf8-after text c.front (after_last_lf text) 10 utf8 (lit< tt) c.whole
]

-- ---- characters of a line

-- before the end of a text without LF stand those before it, and its own
pub chars_more : (front text : List ℕ) (before : ℕ) → IsUtf8 front → before ≡ length (chars (after_last_lf front)) → HoldsNoLf text
    → before + length (chars text) ≡ length (chars (after_last_lf (front ++ text)))
chars_more front text before utf8 is none = grind (arith, common_steps, after_append, feeds_whole, chars-append, after_utf8, length-append)

-- no LF stands after this place
abbrev pub HasNoLfAfter : List ℕ → ℕ → Type 0
HasNoLfAfter text i = (k : ℕ) → i + 1 ≤ k → k < length text → get_or text k 0 ≢ 10

cut_at : (text : List ℕ) (i : ℕ) → i < length text → text ≡ take i text ++ (get_or text i 0 ∷ drop (i + 1) text)
cut_at text i within = same_lists _ _ (grind (arith, places)) (λ k d h. grind (arith, places))

-- before the end of a text with LF stand those after the last of them
pub chars_anew : (front text : List ℕ) (i : ℕ) → i < length text → get_or text i 0 ≡ 10 → HasNoLfAfter text i
    → length (chars (drop (i + 1) text)) ≡ length (chars (after_last_lf (front ++ text)))
chars_anew front text i within lf none =
    let piece : List ℕ = take i text in
    let after : List ℕ = drop (i + 1) text in
    let whole : text ≡ piece ++ 10 ∷ after = cut_at text i within ∙ ap (λ b. piece ++ (b ∷ after)) lf in
    let some : 0 < count_by is_lf text = omega (arith, ap (count_by is_lf) whole, feeds-append piece (10 ∷ after), one_lf after) in
    let left : HoldsNoLf after = λ k h is. none (i + 1 + k) (omega arith) (omega (arith, h, length-drop (i + 1) text))
    (sym (get_or-drop (i + 1) text k 0) ∙ is) in
    ap (λ t. length (chars t)) (sym (after_other front text some ∙ after_piece text piece after whole ∙ after_whole after left))

-- ---- pieces of the source

-- each text has a first piece
record Pieces (text : List ℕ) : Type 0 where
  pub first : List ℕ
  pub rest : List (List ℕ)
  pub are : slice_split is_lf text ≡ first ∷ rest

pieces_some : (text : List ℕ) → Pieces text
pieces_some [] = record { first = []; rest = []; are = refl }
pieces_some (b ∷ bs) =
    let later = pieces_some bs in
    elim (cases_Bool (is_lf b)) [
      | inl lf ↦ record { first = []; rest = slice_split is_lf bs; are = rw lf refl }
      | inr other ↦ record { first = b ∷ later.first; rest = later.rest; are = rw (other, later.are) refl }
    ]

-- what the first of several takes, and the others
pub taken_cut : (k line before start end : ℕ) (piece after : List ℕ)
    → taken_on k line before start end (piece ∷ slice_split is_lf after)
    ≡ (if line == k then record { start = start; end = capped (before + length (chars (without_cr piece))) } ∷ [] else [])
    ++ taken_on k (capped (line + 1)) 0 0 end (slice_split is_lf after)
taken_cut k line before start end piece after = grind (arith, pieces_some after)

-- a text that doesn't end in a carriage return stays
pub without_cr-stays : (text : List ℕ) → ((front : List ℕ) → text ≢ front ++ 13 ∷ []) → without_cr text ≡ text
without_cr-stays text open_end = grind (arith, cond-false, false_from_ne_true, last_byte-not, lit<, eqb-true)
