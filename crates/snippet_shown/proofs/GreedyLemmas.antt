-- Where the rows of a text that is wrapped end.
use Rattle.snippet_shown.proofs.Common.{common_steps, ◌≡◌, ℕ, ◌+◌, ◌-◌, ◌<◌, ◌≤◌, nat_le, true, false, List, [], ◌∷◌, ◌++◌, Option, None, Some, filter, inl}
use Rattle.snippet_shown.proofs.Common.{inr, refl, sym, ap, ◌∙◌, subst, arith, drop, get_or, is_some, unwrap_or, false≢true, nat_tests, All-cons, All-nil}
use Rattle.snippet_shown.proofs.Common.{sum_by-cons, char_width, char_width-bound, Letter, is_blank, is_feed, letter_width, at_blank, columns_ahead, ended}
use Rattle.snippet_shown.proofs.Common.{feed, in_word, inside_after, kept, next_width, row_start, rows, shown_at, IsRowEnd, columns_from, columns_of, is_gap}
use Rattle.snippet_shown.proofs.Common.{is_inside, Stage, Indentation, Gap, Word, Step}
use Rattle.snippet_shown.proofs.LawLemmas.{before-blank, before-code, before-word, code-width, columns_left, either-step, gap_of_blank, keep-own, left-same}
use Rattle.snippet_shown.proofs.LawLemmas.{next-own, next-same, next-word-columns, next_columns, next_within, own-width, row_at}
use Rattle.snippet_shown.proofs.PlaceLemmas.{step-cases}

-- ---- where a row ends among others

inside_gap : (l : Letter) (ls : List Letter) → is_gap l ≡ true → filter is_inside (l ∷ ls) ≡ filter is_inside ls
inside_gap l ls gap = rw gap refl

module _ (room : ℕ) where
  -- each row of what is shown ends where it may, if so many columns stand before it
  abbrev AllEnd : ℕ → List Letter → List Letter → Type 0
  AllEnd n ls shown = (before after : List Letter) → shown ≡ before ++ feed ∷ after → IsRowEnd room n ls before

  first-of : (x : Letter) (xs : List Letter) (y : Letter) (ys : List Letter) → x ∷ xs ≡ y ∷ ys → (x ≡ y) × (xs ≡ ys)
  first-of x xs y ys same = (ap (λ (ls : List Letter). get_or ls 0 feed) same, ap (λ (ls : List Letter). drop 1 ls) same)

  from-own : (n : ℕ) (l : Letter) (ls : List Letter) → is_feed l ≡ false → columns_from n (l ∷ ls) ≡ columns_from (n + letter_width l) ls
  from-own n l ls is = rw is refl

  from-feed : (n : ℕ) (l : Letter) (ls : List Letter) → is_feed l ≡ true → columns_from n (l ∷ ls) ≡ columns_from 0 ls
  from-feed n l ls is = rw is refl

  -- one character more before a row's end
  more-own : (n m : ℕ) (l x : Letter) (ls before : List Letter) → l ≡ x → columns_from n (l ∷ before) ≡ columns_from m before
      → IsRowEnd room m ls before → IsRowEnd room n (l ∷ ls) (x ∷ before)
  more-own n m l x ls before same goes end =
      subst (λ (y : Letter). IsRowEnd room n (l ∷ ls) (y ∷ before)) same (record {
        given = l ∷ end.given;
        gap = end.gap;
        rest = end.rest;
        is = ap (λ (t : List Letter). l ∷ t) end.is;
        same = keep-own l before end.given end.same;
        ends = elim end.ends [
          | inl line ↦ inl line
          | inr here ↦ inr (here.0, subst (λ (k : ℕ). room < k + columns_of end.gap + columns_ahead false end.rest) (sym goes) here.1)
        ];
      })

  more-gap : (n : ℕ) (l : Letter) (ls before : List Letter) → is_gap l ≡ true → IsRowEnd room n ls before → IsRowEnd room n (l ∷ ls) before
  more-gap n l ls before gap end = record {
    given = l ∷ end.given;
    gap = end.gap;
    rest = end.rest;
    is = ap (λ (t : List Letter). l ∷ t) end.is;
    same = end.same ∙ sym (inside_gap l end.given gap);
    ends = end.ends;
  }

  more-row : (n : ℕ) (x : Letter) (ls before : List Letter) → feed ≡ x → IsRowEnd room 0 ls before → IsRowEnd room n ls (x ∷ before)
  more-row n x ls before same end = grind arith

  keep-ends : (n : ℕ) (l : Letter) (ls xs : List Letter) → is_feed l ≡ false → AllEnd (n + letter_width l) ls xs → AllEnd n (l ∷ ls) (l ∷ xs)
  keep-ends n l ls xs is rest [] after same = grind (arith, first-of)
  keep-ends n l ls xs is rest (x ∷ before) after same =
      grind (arith, common_steps, first-of l xs x (before ++ feed ∷ after) same, more-own, from-own n l before is, is, rest)

  line-ends : (n : ℕ) (l : Letter) (ls xs : List Letter) → is_feed l ≡ true → AllEnd 0 ls xs → AllEnd n (l ∷ ls) (l ∷ xs)
  line-ends n l ls xs is rest [] after same = record {
    given = [];
    gap = l ∷ [];
    rest = ls;
    is = refl;
    same = refl;
    ends = inl (l, refl, is);
  }
  line-ends n l ls xs is rest (x ∷ before) after same =
      grind (arith, common_steps, first-of l xs x (before ++ feed ∷ after) same, more-own, from-feed n l before is, is, rest)

  drop-ends : (n : ℕ) (l : Letter) (ls xs : List Letter) → is_gap l ≡ true → AllEnd n ls xs → AllEnd n (l ∷ ls) xs
  drop-ends n l ls xs gap rest before after same = more-gap n l ls before gap (rest before after same)

  gap-ends : (n : ℕ) (l : Letter) (ls xs : List Letter) → is_blank l ≡ true → room < n + letter_width l + columns_ahead false ls → AllEnd 0 ls xs
      → AllEnd n (l ∷ ls) (feed ∷ xs)
  gap-ends n l ls xs blank wide rest [] after same = record {
    given = [];
    gap = l ∷ [];
    rest = ls;
    is = refl;
    same = refl;
    ends = inr (All-cons (λ c. is_blank c ≡ true) l [] blank (All-nil (λ c. is_blank c ≡ true)), omega (arith, sum_by-cons letter_width l [], wide));
  }
  gap-ends n l ls xs blank wide rest (x ∷ before) after same =
      let parts = first-of feed xs x (before ++ feed ∷ after) same in
      more-row n x (l ∷ ls) before parts.0 (more-gap 0 l ls before (gap_of_blank l blank) (rest before after parts.1))

  seam-ends : (n : ℕ) (ls xs : List Letter) → room < n + columns_ahead false ls → AllEnd 0 ls xs → AllEnd n ls (feed ∷ xs)
  seam-ends n ls xs wide rest [] after same = record {
    given = [];
    gap = [];
    rest = ls;
    is = refl;
    same = refl;
    ends = inr (All-nil (λ c. is_blank c ≡ true), omega (arith, wide));
  }
  seam-ends n ls xs wide rest (x ∷ before) after same = grind (arith, common_steps, first-of, more-row)

  no-end : (before after : List Letter) → [] ≡ before ++ feed ∷ after → ⊥
  no-end [] after same = cc
  no-end (x ∷ before) after same = cc

-- ---- where the rows of a text end

module _ (room : ℕ) (enough : 4 ≤ room) where
  record HasEnds (ls : List Letter) : Type 0 where
    row : (stage : Stage) (left n : ℕ) → columns_left stage left ls + n ≡ room → AllEnd room n ls (rows room (row_at stage left) ls)
    last : (n : ℕ) → next_width ls ≡ None → AllEnd room n ls (rows room (row_at Gap 0) ls)

  abbrev Ends : ℕ → Letter → List Letter → Step → Type 0
  Ends n l ls s = AllEnd room n (l ∷ ls) (shown_at s l ++ rows room s.row ls)

  start-ends : (n : ℕ) (l : Letter) (ls : List Letter) → is_feed l ≡ true → HasEnds ls → AllEnd room n (l ∷ ls) (l ∷ rows room (row_start room ls) ls)
  start-ends n l ls is rest =
      line-ends room n l ls (rows room (row_start room ls) ls) is
      (rest.row Indentation (room - next_columns ls) 0 (omega (arith, next_within ls, enough)))

  own-ends : (n : ℕ) (l : Letter) (ls : List Letter) (stage : Stage) (left : ℕ) → is_feed l ≡ false → HasEnds ls
      → columns_left stage left ls + (n + letter_width l) ≡ room → AllEnd room n (l ∷ ls) (l ∷ rows room (row_at stage left) ls)
  own-ends n l ls stage left is rest whole = keep-ends room n l ls (rows room (row_at stage left) ls) is (rest.row stage left (n + letter_width l) whole)

  ended-ends : (n : ℕ) (l : Letter) (ls : List Letter) (found : Option ℕ) → next_width ls ≡ found → is_blank l ≡ true → HasEnds ls
      → room < n + letter_width l + columns_ahead false ls → Ends n l ls (ended room found)
  ended-ends n l ls None is blank rest wide = drop-ends room n l ls (rows room (row_at Gap 0) ls) (gap_of_blank l blank) (rest.last n is)
  ended-ends n l ls (Some w) is blank rest wide =
      let some : next_columns ls ≡ w = ap (λ (o : Option ℕ). unwrap_or o 0) is in
      gap-ends room n l ls (rows room (row_at Gap (room - w)) ls) blank wide (rest.row Gap (room - w) 0 (omega (arith, some, next_within ls, enough)))

  blank-ends : (n : ℕ) (l : Letter) (ls : List Letter) (stage : Stage) (left : ℕ) → is_feed l ≡ false → l.code ≡ false → is_blank l ≡ true → HasEnds ls
      → columns_left stage left ls + n ≡ room → Ends n l ls (at_blank room stage left (char_width l.char) ls)
  blank-ends n l ls Gap left is plain blank rest whole =
      drop-ends room n l ls (rows room (row_at Gap left) ls) (gap_of_blank l blank) (rest.row Gap left n whole)
  blank-ends n l ls Indentation left is plain blank rest whole =
      either-step (Ends n l ls) (nat_le (char_width l.char) left) (kept (row_at Indentation (left - char_width l.char)))
      (record { breaks = false; keeps = false; row = row_at Indentation left })
      (λ fits. (
      let fit : char_width l.char ≤ left = grind (arith, nat_tests, fits) in
      own-ends n l ls Indentation (left - char_width l.char) is rest (omega (arith, own-width l plain, fit, whole))))
      (λ wide. drop-ends room n l ls (rows room (row_at Indentation left) ls) (gap_of_blank l blank) (rest.row Indentation left n whole))
  blank-ends n l ls Word left is plain blank rest whole =
      either-step (Ends n l ls) (nat_le (char_width l.char + columns_ahead false ls) left) (kept (row_at Word (left - char_width l.char)))
      (ended room (next_width ls))
      (λ fits. (
      let fit : char_width l.char + columns_ahead false ls ≤ left = grind (arith, nat_tests, fits) in
      own-ends n l ls Word (left - char_width l.char) is rest (omega (arith, own-width l plain, fit, whole))))
      (λ wide. (
      let more : left < char_width l.char + columns_ahead false ls = grind (arith, nat_tests, wide) in
      ended-ends n l ls (next_width ls) refl blank rest (omega (arith, own-width l plain, more, whole))))

  word-ahead : (l : Letter) (ls : List Letter) → is_feed l ≡ false → columns_ahead false (l ∷ ls) ≡ letter_width l + columns_ahead (inside_after false l) ls
  word-ahead l ls is = rw is refl

  word-ends : (n : ℕ) (l : Letter) (ls : List Letter) (stage : Stage) (left : ℕ) → is_feed l ≡ false → l.code ≡ false → is_blank l ≡ false → HasEnds ls
      → columns_left stage left (l ∷ ls) + n ≡ room → Ends n l ls (in_word room stage left (char_width l.char))
  word-ends n l ls Indentation left is plain word rest whole =
      own-ends n l ls Word left is rest (omega (arith, own-width l plain, next-word-columns left l ls is (before-word l plain word), whole))
  word-ends n l ls Gap left is plain word rest whole =
      own-ends n l ls Word left is rest (omega (arith, own-width l plain, next-word-columns left l ls is (before-word l plain word), whole))
  word-ends n l ls Word left is plain word rest whole =
      let w = own-width l plain in
      either-step (Ends n l ls) (nat_le (char_width l.char) left) (kept (row_at Word (left - char_width l.char)))
      (record { breaks = true; keeps = true; row = row_at Word (room - char_width l.char) })
      (λ fits. (
      let fit : char_width l.char ≤ left = grind (arith, nat_tests, fits) in
      own-ends n l ls Word (left - char_width l.char) is rest (omega (arith, w, fit, whole))))
      (λ wide. (
      let more : left < char_width l.char = grind (arith, nat_tests, wide) in
      seam-ends room n (l ∷ ls) (l ∷ rows room (row_at Word (room - char_width l.char)) ls) (omega (arith, w, more, whole, word-ahead l ls is))
      (own-ends 0 l ls Word (room - char_width l.char) is rest (omega (arith, w, char_width-bound l.char, enough)))))

  has-ends : (ls : List Letter) → HasEnds ls
  has-ends [] = grind (arith, common_steps, no-end)
  has-ends (l ∷ ls) =
      let rest = has-ends ls in
      record {
        row = λ stage left n whole. step-cases (Ends n l ls) room (row_at stage left) l ls (λ f. start-ends n l ls f rest)
            (λ is code. own-ends n l ls stage left is rest
            (omega (arith, code-width l code, left-same stage left l ls is (before-code l code), whole)))
            (λ is plain blank. blank-ends n l ls stage left is plain blank rest
            (omega (arith, left-same stage left l ls is (before-blank l plain blank), whole)))
            (λ is plain word. word-ends n l ls stage left is plain word rest whole);
        last = λ n none. step-cases (Ends n l ls) room (row_at Gap 0) l ls (λ f. start-ends n l ls f rest)
            (λ is code. keep-ends room n l ls (rows room (row_at Gap 0) ls) is
            (rest.last (n + letter_width l) (sym (next-same l ls is (before-code l code)) ∙ none)))
            (λ is plain blank. drop-ends room n l ls (rows room (row_at Gap 0) ls) (gap_of_blank l blank)
            (rest.last n (sym (next-same l ls is (before-blank l plain blank)) ∙ none)))
            (λ is plain word. absurd (false≢true (ap (λ (o : Option ℕ). is_some o) (sym none ∙ next-own l ls is (before-word l plain word)))));
      }

  -- each row ends at the end of a line, or where the next word has no room
  pub rows-end : (ls : List Letter) → AllEnd room 0 ls (rows room (row_start room ls) ls)
  rows-end ls =
      let ends = has-ends ls in
      ends.row Indentation (room - next_columns ls) 0 (omega (arith, next_within ls, enough))
