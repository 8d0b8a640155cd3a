-- The words of a text that is wrapped.
use Rattle.snippet_shown.proofs.Common.{common_steps, ◌≡◌, ℕ, ◌+◌, ◌-◌, ◌<◌, ◌≤◌, nat_le, not, Bool, true, false, List, [], ◌∷◌, ◌++◌, Option, None, Some}
use Rattle.snippet_shown.proofs.Common.{filter, length, refl, sym, ap, ap₂, ◌∙◌, subst, arith, is_some, if◌then◌else◌, unwrap_or, onto_first, false≢true}
use Rattle.snippet_shown.proofs.Common.{nat_tests, All-cons, All-head, All-nil, All-tail, char_width, Letter, is_blank, is_feed, letter_width, at_blank}
use Rattle.snippet_shown.proofs.Common.{columns_ahead, ended, in_word, inside_after, kept, next_width, row_start, rows, shown_at, AreWithin, columns_of}
use Rattle.snippet_shown.proofs.Common.{is_empty, parts_from, words_of, Indentation, Gap, Word, Step}
use Rattle.snippet_shown.proofs.LawLemmas.{before-blank, before-code, before-word, columns-none, columns-same, either-step, next-feed, next-own, next-same}
use Rattle.snippet_shown.proofs.LawLemmas.{next_columns, next_within, own-width, row_at}
use Rattle.snippet_shown.proofs.LineLemmas.{AreLinesWithin, lines_all, onto_within, within_onto}
use Rattle.snippet_shown.proofs.PlaceLemmas.{step-cases}

-- ---- parts

pick : (Q : Type 0) (a b c : Bool) → (a ≡ true → Q) → (a ≡ false → b ≡ true → Q) → (a ≡ false → b ≡ false → c ≡ true → Q)
    → (a ≡ false → b ≡ false → c ≡ false → Q) → Q
pick Q true b c one two three four = one refl
pick Q false true c one two three four = two refl refl
pick Q false false true one two three four = three refl refl refl
pick Q false false false one two three four = four refl refl refl

-- a line feed, a code, a blank or a character of a word
letter-cases : (Q : Type 0) (l : Letter) → (is_feed l ≡ true → Q) → (is_feed l ≡ false → l.code ≡ true → Q)
    → (is_feed l ≡ false → l.code ≡ false → is_blank l ≡ true → Q) → (is_feed l ≡ false → l.code ≡ false → is_blank l ≡ false → Q) → Q
letter-cases Q l one two three four = pick Q (is_feed l) l.code (is_blank l) one two three four

parts-feed : (b : Bool) (l : Letter) (ls : List Letter) → is_feed l ≡ true → parts_from b (l ∷ ls) ≡ [] ∷ parts_from false ls
parts-feed b l ls is = rw is refl

parts-code : (b : Bool) (l : Letter) (ls : List Letter) → is_feed l ≡ false → l.code ≡ true → parts_from b (l ∷ ls) ≡ parts_from b ls
parts-code b l ls is code = rw (is, code) refl

parts-blank : (b : Bool) (l : Letter) (ls : List Letter) → is_feed l ≡ false → l.code ≡ false → is_blank l ≡ true
    → parts_from b (l ∷ ls) ≡ (if b then [] ∷ parts_from true ls else onto_first l (parts_from false ls))
parts-blank b l ls is plain blank = rw (is, blank, plain) refl

parts-word : (b : Bool) (l : Letter) (ls : List Letter) → is_feed l ≡ false → l.code ≡ false → is_blank l ≡ false
    → parts_from b (l ∷ ls) ≡ onto_first l (parts_from true ls)
parts-word b l ls is plain word = rw (is, word, plain) refl

onto_some : (l : Letter) (parts : List (List Letter)) → 0 < length parts → 0 < length (onto_first l parts)
onto_some l [] some = absurd (omega (arith, some))
onto_some l (part ∷ parts) some = omega arith

some_parts : (ls : List Letter) (b : Bool) → 0 < length (parts_from b ls)
some_parts [] b = omega arith
some_parts (l ∷ ls) true = grind (arith, letter-cases, parts-feed, parts-code, parts-blank, parts-word, onto_some, some_parts ls true)
some_parts (l ∷ ls) false = grind (arith, letter-cases, parts-feed, parts-code, parts-blank, onto_some, parts-word, some_parts ls false, some_parts ls true)

abbrev worded : List (List Letter) → List (List Letter)
worded parts = filter (λ word. not (is_empty word)) parts

-- parts of which the first are the same, and the others that are words
abbrev AreSame : List (List Letter) → List (List Letter) → Type 0
AreSame [] ys = ⊥
AreSame (x ∷ xs) [] = ⊥
AreSame (x ∷ xs) (y ∷ ys) = (x ≡ y) × (worded xs ≡ worded ys)

same-worded : (xs ys : List (List Letter)) → AreSame xs ys → worded xs ≡ worded ys
same-worded [] ys same = absurd same
same-worded (x ∷ xs) [] same = absurd same
same-worded (x ∷ xs) (y ∷ ys) same =
    ap₂ (λ (part : List Letter) (parts : List (List Letter)). if not (is_empty part) then part ∷ parts else parts) same.0 same.1

same-onto : (l : Letter) (xs ys : List (List Letter)) → AreSame xs ys → AreSame (onto_first l xs) (onto_first l ys)
same-onto l [] ys same = absurd same
same-onto l (x ∷ xs) [] same = absurd same
same-onto l (x ∷ xs) (y ∷ ys) same = (ap (λ (part : List Letter). l ∷ part) same.0, same.1)

one-more : (xs parts : List (List Letter)) → AreSame xs ([] ∷ parts) → AreSame xs ([] ∷ [] ∷ parts)
one-more [] parts same = absurd same
one-more (x ∷ xs) parts same = same

worded_within : (room : ℕ) (parts : List (List Letter)) → AreWithin room (worded parts) → AreWithin room parts
worded_within room [] within = within
worded_within room ([] ∷ parts) within = All-cons (λ part. columns_of part ≤ room) [] parts (omega arith) (worded_within room parts within)
worded_within room ((l ∷ part) ∷ parts) within =
    grind (arith, All-cons, All-head, All-tail, worded_within room parts (All-tail (λ p. columns_of p ≤ room) (l ∷ part) (worded parts) within))

lines_wider : (room b : ℕ) (parts : List (List Letter)) → b ≤ room → AreLinesWithin room b parts → AreWithin room parts
lines_wider room b [] less within = absurd within
lines_wider room b (part ∷ parts) less within = All-cons (λ p. columns_of p ≤ room) part parts (omega (arith, less, within.0)) within.1

within_tail : (room : ℕ) (parts : List (List Letter)) → AreWithin room ([] ∷ parts) → AreWithin room parts
within_tail room parts within = All-tail (λ p. columns_of p ≤ room) [] parts within

-- the rest of a word has room where what is ahead has
module _ (room : ℕ) where
  ahead-of : (inside : Bool) (l : Letter) (ls : List Letter) → is_feed l ≡ false → is_blank l ≡ false
      → columns_ahead inside (l ∷ ls) ≡ letter_width l + columns_ahead (inside_after inside l) ls
  ahead-of true l ls is word = rw (is, word) refl
  ahead-of false l ls is word = rw is refl

  no_blank : (l : Letter) → l.code ≡ true → is_blank l ≡ false
  no_blank l code = rw code refl

  onto_parts : (l : Letter) (parts : List (List Letter)) → 0 < length parts → AreWithin room (onto_first l parts)
      → (letter_width l ≤ room) × AreLinesWithin room (room - letter_width l) parts
  onto_parts l parts some within = within_onto room room l parts some (lines_all room (onto_first l parts) (onto_some l parts some) within)

  ahead-parts : (ls : List Letter) (inside : Bool) (b : ℕ) → AreWithin room (parts_from true ls) → columns_ahead inside ls ≤ b
      → AreLinesWithin room b (parts_from true ls)
  ahead-parts [] inside b within less = (omega arith, All-nil (λ p. columns_of p ≤ room))
  ahead-parts (l ∷ ls) inside b within less =
      letter-cases (AreLinesWithin room b (parts_from true (l ∷ ls))) l
      (λ is. (
      let all = subst (AreWithin room) (parts-feed true l ls is) within in
      subst (AreLinesWithin room b) (sym (parts-feed true l ls is)) (omega arith, within_tail room (parts_from false ls) all)))
      (λ is code. (
      let all = subst (AreWithin room) (parts-code true l ls is code) within in
      subst (AreLinesWithin room b) (sym (parts-code true l ls is code))
      (ahead-parts ls (inside_after inside l) b all (omega (arith, ahead-of inside l ls is (no_blank l code), less)))))
      (λ is plain blank. (
      let all = subst (AreWithin room) (parts-blank true l ls is plain blank) within in
      subst (AreLinesWithin room b) (sym (parts-blank true l ls is plain blank)) (omega arith, within_tail room (parts_from true ls) all)))
      (λ is plain word. (
      let all = onto_parts l (parts_from true ls) (some_parts ls true) (subst (AreWithin room) (parts-word true l ls is plain word) within) in
      let more = ahead-of inside l ls is word in
      subst (AreLinesWithin room b) (sym (parts-word true l ls is plain word))
      (onto_within room b l (parts_from true ls) (omega (arith, more, less))
      (ahead-parts ls (inside_after inside l) (b - letter_width l)
      (lines_wider room (room - letter_width l) (parts_from true ls) (omega arith) all.1) (omega (arith, more, less))))))

  -- and the first character of the next word where its indentation has
  next-part : (ls : List Letter) (b : ℕ) → AreLinesWithin room b (parts_from false ls) → next_columns ls ≤ b
  next-part [] b within = omega arith
  next-part (l ∷ ls) b within =
      letter-cases (next_columns (l ∷ ls) ≤ b) l (λ is. omega (arith, columns-none (l ∷ ls) (next-feed l ls is)))
      (λ is code. (
      let rest = next-part ls b (subst (AreLinesWithin room b) (parts-code false l ls is code) within) in
      omega (arith, columns-same l ls is (before-code l code), rest)))
      (λ is plain blank. (
      let parts = within_onto room b l (parts_from false ls) (some_parts ls false)
      (subst (AreLinesWithin room b) (parts-blank false l ls is plain blank) within) in
      let rest = next-part ls (b - letter_width l) parts.1 in
      omega (arith, columns-same l ls is (before-blank l plain blank), rest)))
      (λ is plain word. (
      let parts = within_onto room b l (parts_from true ls) (some_parts ls true)
      (subst (AreLinesWithin room b) (parts-word false l ls is plain word) within) in
      omega (arith, ap (λ (o : Option ℕ). unwrap_or o 0) (next-own l ls is (before-word l plain word)), own-width l plain, parts.0)))

-- ---- words stay where they have room

module _ (room : ℕ) (enough : 4 ≤ room) where
  -- within a word, in an indentation, in a gap before a word, and in one with which a line ends
  record HasWords (ls : List Letter) : Type 0 where
    word : (left : ℕ) → AreLinesWithin room left (parts_from true ls)
        → AreSame (parts_from true (rows room (row_at Word left) ls)) (parts_from true ls)
    indented : (left : ℕ) → AreLinesWithin room (left + next_columns ls) (parts_from false ls)
        → AreSame (parts_from false (rows room (row_at Indentation left) ls)) (parts_from false ls)
    gap : (left : ℕ) → left + next_columns ls ≡ room → is_some (next_width ls) ≡ true → AreWithin room (parts_from true ls)
        → worded (parts_from false (rows room (row_at Gap left) ls)) ≡ worded (parts_from true ls)
    last : next_width ls ≡ None → AreWithin room (parts_from true ls)
        → AreSame (parts_from true (rows room (row_at Gap 0) ls)) ([] ∷ parts_from true ls)

  abbrev Has : Bool → List (List Letter) → Letter → List Letter → Step → Type 0
  Has inside parts l ls s = AreSame (parts_from inside (shown_at s l ++ rows room s.row ls)) parts

  line-words : (ls : List Letter) → HasWords ls → AreWithin room (parts_from false ls)
      → worded (parts_from false (rows room (row_start room ls) ls)) ≡ worded (parts_from false ls)
  line-words ls rest within = grind (arith, next_within, same-worded, lines_all, some_parts)

  feed-words : (inside : Bool) (l : Letter) (ls : List Letter) → is_feed l ≡ true → HasWords ls → AreWithin room (parts_from false ls)
      → AreSame (parts_from inside (l ∷ rows room (row_start room ls) ls)) ([] ∷ parts_from false ls)
  feed-words inside l ls is rest within = grind (arith, parts-feed, line-words)

  ended-words : (l : Letter) (ls : List Letter) (found : Option ℕ) → next_width ls ≡ found → HasWords ls → AreWithin room (parts_from true ls)
      → Has true ([] ∷ parts_from true ls) l ls (ended room found)
  ended-words l ls None is rest within = rest.last is within
  ended-words l ls (Some w) is rest within = grind (arith, next_within)

  -- a character of a word that is kept
  own-words : (inside : Bool) (left : ℕ) (l : Letter) (ls : List Letter) → is_feed l ≡ false → l.code ≡ false → is_blank l ≡ false → HasWords ls
      → AreLinesWithin room left (parts_from true ls)
      → AreSame (parts_from inside (l ∷ rows room (row_at Word left) ls)) (onto_first l (parts_from true ls))
  own-words inside left l ls is plain word rest within = grind (arith, parts-word, same-onto)

  code-words : (inside : Bool) (l : Letter) (xs : List Letter) (parts : List (List Letter)) → is_feed l ≡ false → l.code ≡ true
      → AreSame (parts_from inside xs) parts → AreSame (parts_from inside (l ∷ xs)) parts
  code-words inside l xs parts is code same = subst (λ (ps : List (List Letter)). AreSame ps parts) (sym (parts-code inside l xs is code)) same

  blank-words : (left : ℕ) (l : Letter) (ls : List Letter) → is_feed l ≡ false → l.code ≡ false → is_blank l ≡ true → HasWords ls
      → AreWithin room (parts_from true ls) → Has true ([] ∷ parts_from true ls) l ls (at_blank room Word left (char_width l.char) ls)
  blank-words left l ls is plain blank rest within =
      let w = own-width l plain in
      either-step (Has true ([] ∷ parts_from true ls) l ls) (nat_le (char_width l.char + columns_ahead false ls) left)
      (kept (row_at Word (left - char_width l.char))) (ended room (next_width ls))
      (λ fits. (
      let fit : char_width l.char + columns_ahead false ls ≤ left = grind (arith, nat_tests, fits) in
      let after = left - char_width l.char in
      subst (λ (parts : List (List Letter)). AreSame parts ([] ∷ parts_from true ls))
      (sym (parts-blank true l (rows room (row_at Word after) ls) is plain blank)) (
        refl,
        same-worded (parts_from true (rows room (row_at Word after) ls)) (parts_from true ls)
            (rest.word after (ahead-parts room ls false after within (omega (arith, fit)))),
      )))
      (λ wide. ended-words l ls (next_width ls) refl rest within)

  wide-word : (left : ℕ) (l : Letter) (ls : List Letter) → is_feed l ≡ false → l.code ≡ false → is_blank l ≡ false → HasWords ls
      → AreLinesWithin room left (onto_first l (parts_from true ls))
      → Has true (onto_first l (parts_from true ls)) l ls (in_word room Word left (char_width l.char))
  wide-word left l ls is plain word rest within = grind (arith, common_steps, own-width, within_onto, some_parts, l.char, nat_tests, own-words)

  indented-blank : (left : ℕ) (l : Letter) (ls : List Letter) → is_feed l ≡ false → l.code ≡ false → is_blank l ≡ true → HasWords ls
      → AreLinesWithin room (left + next_columns ls) (onto_first l (parts_from false ls))
      → Has false (onto_first l (parts_from false ls)) l ls (at_blank room Indentation left (char_width l.char) ls)
  indented-blank left l ls is plain blank rest within =
      let w = own-width l plain in
      let b = left + next_columns ls in
      let parts = within_onto room b l (parts_from false ls) (some_parts ls false) within in
      let next = next-part room ls (b - letter_width l) parts.1 in
      let fit : nat_le (char_width l.char) left ≡ true = grind (arith, nat_tests, w, parts.0, next) in
      let after = left - char_width l.char in
      let same : b - letter_width l ≡ after + next_columns ls = omega (arith, w, parts.0, next) in
      either-step (Has false (onto_first l (parts_from false ls)) l ls) (nat_le (char_width l.char) left) (kept (row_at Indentation after))
      (record { breaks = false; keeps = false; row = row_at Indentation left })
      (λ fits. subst (λ (ps : List (List Letter)). AreSame ps (onto_first l (parts_from false ls)))
      (sym (parts-blank false l (rows room (row_at Indentation after) ls) is plain blank))
      (same-onto l (parts_from false (rows room (row_at Indentation after) ls)) (parts_from false ls)
      (rest.indented after (subst (λ (n : ℕ). AreLinesWithin room n (parts_from false ls)) same parts.1))))
      (λ wide. absurd (false≢true (sym wide ∙ fit)))

  -- a text in which the next part follows
  Same-parts : (inside : Bool) (l : Letter) (ls : List Letter) (parts : List (List Letter)) → parts_from inside (l ∷ ls) ≡ parts → (xs : List (List Letter))
      → AreSame xs parts → AreSame xs (parts_from inside (l ∷ ls))
  Same-parts inside l ls parts is xs same = subst (AreSame xs) (sym is) same

  word-step : (left : ℕ) (l : Letter) (ls : List Letter) → HasWords ls → AreLinesWithin room left (parts_from true (l ∷ ls))
      → AreSame (parts_from true (rows room (row_at Word left) (l ∷ ls))) (parts_from true (l ∷ ls))
  word-step left l ls rest within =
      step-cases (Has true (parts_from true (l ∷ ls)) l ls) room (row_at Word left) l ls
      (λ f. (
      let own = parts-feed true l ls f in
      let all = subst (AreLinesWithin room left) own within in
      Same-parts true l ls ([] ∷ parts_from false ls) own (parts_from true (l ∷ rows room (row_start room ls) ls)) (feed-words true l ls f rest all.1)))
      (λ is code. (
      let own = parts-code true l ls is code in
      Same-parts true l ls (parts_from true ls) own (parts_from true (l ∷ rows room (row_at Word left) ls))
      (code-words true l (rows room (row_at Word left) ls) (parts_from true ls) is code (rest.word left (subst (AreLinesWithin room left) own within)))))
      (λ is plain blank. (
      let own = parts-blank true l ls is plain blank in
      let all = subst (AreLinesWithin room left) own within in
      subst (λ (parts : List (List Letter)). Has true parts l ls (at_blank room Word left (char_width l.char) ls)) (sym own)
      (blank-words left l ls is plain blank rest all.1)))
      (λ is plain word. (
      let own = parts-word true l ls is plain word in
      let all = subst (AreLinesWithin room left) own within in
      subst (λ (parts : List (List Letter)). Has true parts l ls (in_word room Word left (char_width l.char))) (sym own)
      (wide-word left l ls is plain word rest all)))

  indented-step : (left : ℕ) (l : Letter) (ls : List Letter) → HasWords ls → AreLinesWithin room (left + next_columns (l ∷ ls)) (parts_from false (l ∷ ls))
      → AreSame (parts_from false (rows room (row_at Indentation left) (l ∷ ls))) (parts_from false (l ∷ ls))
  indented-step left l ls rest within =
      let b = left + next_columns (l ∷ ls) in
      step-cases (Has false (parts_from false (l ∷ ls)) l ls) room (row_at Indentation left) l ls
      (λ f. (
      let own = parts-feed false l ls f in
      let all = subst (AreLinesWithin room b) own within in
      Same-parts false l ls ([] ∷ parts_from false ls) own (parts_from false (l ∷ rows room (row_start room ls) ls)) (feed-words false l ls f rest all.1)))
      (λ is code. (
      let own = parts-code false l ls is code in
      let same : b ≡ left + next_columns ls = omega (arith, columns-same l ls is (before-code l code)) in
      Same-parts false l ls (parts_from false ls) own (parts_from false (l ∷ rows room (row_at Indentation left) ls))
      (code-words false l (rows room (row_at Indentation left) ls) (parts_from false ls) is code
      (rest.indented left (subst (λ (n : ℕ). AreLinesWithin room n (parts_from false ls)) same (subst (AreLinesWithin room b) own within))))))
      (λ is plain blank. (
      let own = parts-blank false l ls is plain blank in
      let same : b ≡ left + next_columns ls = omega (arith, columns-same l ls is (before-blank l plain blank)) in
      let all = subst (λ (n : ℕ). AreLinesWithin room n (onto_first l (parts_from false ls))) same (subst (AreLinesWithin room b) own within) in
      subst (λ (parts : List (List Letter)). Has false parts l ls (at_blank room Indentation left (char_width l.char) ls)) (sym own)
      (indented-blank left l ls is plain blank rest all)))
      (λ is plain word. (
      let own = parts-word false l ls is plain word in
      let parts = within_onto room b l (parts_from true ls) (some_parts ls true) (subst (AreLinesWithin room b) own within) in
      let some : next_columns (l ∷ ls) ≡ char_width l.char = ap (λ (o : Option ℕ). unwrap_or o 0) (next-own l ls is (before-word l plain word)) in
      let same : b - letter_width l ≡ left = omega (arith, some, own-width l plain) in
      Same-parts false l ls (onto_first l (parts_from true ls)) own (parts_from false (l ∷ rows room (row_at Word left) ls))
      (own-words false left l ls is plain word rest (subst (λ (n : ℕ). AreLinesWithin room n (parts_from true ls)) same parts.1))))

  abbrev Gaps : List (List Letter) → Letter → List Letter → Step → Type 0
  Gaps parts l ls s = worded (parts_from false (shown_at s l ++ rows room s.row ls)) ≡ worded parts

  gap-step : (left : ℕ) (l : Letter) (ls : List Letter) → HasWords ls → left + next_columns (l ∷ ls) ≡ room → is_some (next_width (l ∷ ls)) ≡ true
      → AreWithin room (parts_from true (l ∷ ls)) → worded (parts_from false (rows room (row_at Gap left) (l ∷ ls))) ≡ worded (parts_from true (l ∷ ls))
  gap-step left l ls rest whole some within =
      step-cases (Gaps (parts_from true (l ∷ ls)) l ls) room (row_at Gap left) l ls
      (λ f. absurd (false≢true (sym (ap (λ (o : Option ℕ). is_some o) (next-feed l ls f)) ∙ some)))
      (λ is code. (
      let own = parts-code true l ls is code in
      let next = next-same l ls is (before-code l code) in
      ap worded (parts-code false l (rows room (row_at Gap left) ls) is code)
      ∙ rest.gap left (ap (λ (o : Option ℕ). left + unwrap_or o 0) (sym next) ∙ whole) (ap (λ (o : Option ℕ). is_some o) (sym next) ∙ some)
      (subst (AreWithin room) own within)
      ∙ ap worded (sym own)))
      (λ is plain blank. (
      let own = parts-blank true l ls is plain blank in
      let next = next-same l ls is (before-blank l plain blank) in
      rest.gap left (ap (λ (o : Option ℕ). left + unwrap_or o 0) (sym next) ∙ whole) (ap (λ (o : Option ℕ). is_some o) (sym next) ∙ some)
      (within_tail room (parts_from true ls) (subst (AreWithin room) own within))
      ∙ ap worded (sym own)))
      (λ is plain word. (
      let own = parts-word true l ls is plain word in
      let parts = onto_parts room l (parts_from true ls) (some_parts ls true) (subst (AreWithin room) own within) in
      let first : next_columns (l ∷ ls) ≡ char_width l.char = ap (λ (o : Option ℕ). unwrap_or o 0) (next-own l ls is (before-word l plain word)) in
      let same : room - letter_width l ≡ left = omega (arith, first, own-width l plain, whole) in
      same-worded (parts_from false (l ∷ rows room (row_at Word left) ls)) (onto_first l (parts_from true ls))
      (own-words false left l ls is plain word rest (subst (λ (n : ℕ). AreLinesWithin room n (parts_from true ls)) same parts.1))
      ∙ ap worded (sym own)))

  last-step : (l : Letter) (ls : List Letter) → HasWords ls → next_width (l ∷ ls) ≡ None → AreWithin room (parts_from true (l ∷ ls))
      → AreSame (parts_from true (rows room (row_at Gap 0) (l ∷ ls))) ([] ∷ parts_from true (l ∷ ls))
  last-step l ls rest none within =
      step-cases (Has true ([] ∷ parts_from true (l ∷ ls)) l ls) room (row_at Gap 0) l ls
      (λ f. (
      let own = parts-feed true l ls f in
      let all = within_tail room (parts_from false ls) (subst (AreWithin room) own within) in
      subst (λ (parts : List (List Letter)). AreSame (parts_from true (l ∷ rows room (row_start room ls) ls)) ([] ∷ parts)) (sym own)
      (subst (λ (parts : List (List Letter)). AreSame parts ([] ∷ [] ∷ parts_from false ls))
      (sym (parts-feed true l (rows room (row_start room ls) ls) f)) (refl, line-words ls rest all))))
      (λ is code. (
      let own = parts-code true l ls is code in
      let next = next-same l ls is (before-code l code) in
      subst (λ (parts : List (List Letter)). AreSame (parts_from true (l ∷ rows room (row_at Gap 0) ls)) ([] ∷ parts)) (sym own)
      (code-words true l (rows room (row_at Gap 0) ls) ([] ∷ parts_from true ls) is code (rest.last (sym next ∙ none) (subst (AreWithin room) own within)))))
      (λ is plain blank. (
      let own = parts-blank true l ls is plain blank in
      let next = next-same l ls is (before-blank l plain blank) in
      subst (λ (parts : List (List Letter)). AreSame (parts_from true (rows room (row_at Gap 0) ls)) ([] ∷ parts)) (sym own)
      (one-more (parts_from true (rows room (row_at Gap 0) ls)) (parts_from true ls)
      (rest.last (sym next ∙ none) (within_tail room (parts_from true ls) (subst (AreWithin room) own within))))))
      (λ is plain word. absurd (false≢true (ap (λ (o : Option ℕ). is_some o) (sym none ∙ next-own l ls is (before-word l plain word)))))

  has-words : (ls : List Letter) → HasWords ls
  has-words [] = grind (arith, common_steps)
  has-words (l ∷ ls) = grind (arith, common_steps, has-words ls, word-step, indented-step, gap-step, last-step)

  -- so the words are the same, where each has room
  pub rows-words : (ls : List Letter) → AreWithin room (words_of ls) → words_of (rows room (row_start room ls) ls) ≡ words_of ls
  rows-words ls within = line-words ls (has-words ls) (worded_within room (parts_from false ls) within)
