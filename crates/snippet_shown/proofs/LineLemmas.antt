-- The lines of a text that is wrapped: how wide they are, and which are empty.
use Rattle.snippet_shown.proofs.Common.{common_steps, ◌≡◌, ℕ, ◌+◌, ◌-◌, ◌<◌, ◌≤◌, Bool, true, false, List, [], ◌∷◌, ◌++◌, Option, None, Some, length, filter}
use Rattle.snippet_shown.proofs.Common.{refl, sym, ap, ◌∙◌, arith, is_some, if◌then◌else◌, unwrap_or, onto_first, false≢true, All-cons, All-head, All-nil}
use Rattle.snippet_shown.proofs.Common.{All-tail, length-slice_split, slice_split-cons_no, slice_split-cons_yes, sum_by-cons, char_width, char_width-bound}
use Rattle.snippet_shown.proofs.Common.{Letter, is_before_word, is_feed, letter_width, at_blank, ended, in_word, next_width, row_start, rows, shown_at}
use Rattle.snippet_shown.proofs.Common.{lines_fit, AreWithin, columns_of, empty_lines, is_empty, lines_in, Stage, Indentation, Gap, Word, Step}
use Rattle.snippet_shown.proofs.LawLemmas.{before-blank, either-step, next-feed, next-same, next_columns, next_within, row_at}
use Rattle.snippet_shown.proofs.PlaceLemmas.{step-cases}
use Rattle.snippet_shown.proofs.StepLemmas.{fit-rest, lines_fit-feed, lines_fit-next}

-- ---- how wide lines are

-- the first of some lines takes at most so many columns, and each other one has room
abbrev pub AreLinesWithin : ℕ → ℕ → List (List Letter) → Type 0
AreLinesWithin room b [] = ⊥
AreLinesWithin room b (line ∷ lines) = (columns_of line ≤ b) × AreWithin room lines

pub columns-cons : (l : Letter) (ls : List Letter) → columns_of (l ∷ ls) ≡ letter_width l + columns_of ls
columns-cons l ls = sum_by-cons letter_width l ls

pub all_lines : (room : ℕ) (lines : List (List Letter)) → AreLinesWithin room room lines → AreWithin room lines
all_lines room [] within = absurd within
all_lines room (line ∷ lines) within = All-cons (λ part. columns_of part ≤ room) line lines within.0 within.1

pub lines_all : (room : ℕ) (lines : List (List Letter)) → 0 < length lines → AreWithin room lines → AreLinesWithin room room lines
lines_all room [] some within = absurd (omega (arith, some))
lines_all room (line ∷ lines) some within =
    (All-head (λ part. columns_of part ≤ room) line lines within, All-tail (λ part. columns_of part ≤ room) line lines within)

some_lines : (ls : List Letter) → 0 < length (lines_in ls)
some_lines ls = omega (arith, length-slice_split is_feed ls)

pub onto_within : (room b : ℕ) (l : Letter) (lines : List (List Letter)) → letter_width l ≤ b → AreLinesWithin room (b - letter_width l) lines
    → AreLinesWithin room b (onto_first l lines)
onto_within room b l [] fits within = absurd within
onto_within room b l (line ∷ lines) fits within = (omega (arith, columns-cons l line, fits, within.0), within.1)

pub within_onto : (room b : ℕ) (l : Letter) (lines : List (List Letter)) → 0 < length lines → AreLinesWithin room b (onto_first l lines)
    → (letter_width l ≤ b) × AreLinesWithin room (b - letter_width l) lines
within_onto room b l [] some within = absurd (omega (arith, some))
within_onto room b l (line ∷ lines) some within =
    (omega (arith, columns-cons l line, within.0), (omega (arith, columns-cons l line, within.0), within.1))

lines_one : (room b : ℕ) (l : Letter) (ls : List Letter) (feeds : Bool) → is_feed l ≡ feeds → lines_fit room b (l ∷ ls) ≡ true
    → ((b : ℕ) → lines_fit room b ls ≡ true → AreLinesWithin room b (lines_in ls)) → AreLinesWithin room b (lines_in (l ∷ ls))
lines_one room b l ls true is all rest = grind (arith, slice_split-cons_yes, all_lines, lines_fit-feed)
lines_one room b l ls false is all rest = grind (arith, fit-rest, slice_split-cons_no, onto_within)

-- lines that fit have room
fit-lines : (room : ℕ) (ls : List Letter) (b : ℕ) → lines_fit room b ls ≡ true → AreLinesWithin room b (lines_in ls)
fit-lines room [] b all = (omega arith, All-nil (λ part. columns_of part ≤ room))
fit-lines room (l ∷ ls) b all = lines_one room b l ls (is_feed l) refl all (fit-lines room ls)

pub fit-within : (room : ℕ) (ls : List Letter) → lines_fit room room ls ≡ true → AreWithin room (lines_in ls)
fit-within room ls all = all_lines room (lines_in ls) (fit-lines room ls room all)

one_lines : (room b : ℕ) (l : Letter) (ls : List Letter) (feeds : Bool) → is_feed l ≡ feeds → AreLinesWithin room b (lines_in (l ∷ ls))
    → ((b : ℕ) → AreLinesWithin room b (lines_in ls) → lines_fit room b ls ≡ true) → lines_fit room b (l ∷ ls) ≡ true
one_lines room b l ls true is within rest = grind (arith, slice_split-cons_yes, lines_fit-feed, lines_all, some_lines)
one_lines room b l ls false is within rest = grind (arith, within_onto, some_lines, slice_split-cons_no, lines_fit-next)

-- and those that have room fit
lines-fit : (room : ℕ) (ls : List Letter) (b : ℕ) → AreLinesWithin room b (lines_in ls) → lines_fit room b ls ≡ true
lines-fit room [] b within = refl
lines-fit room (l ∷ ls) b within = one_lines room b l ls (is_feed l) refl within (lines-fit room ls)

pub within-fit : (room : ℕ) (ls : List Letter) → AreWithin room (lines_in ls) → lines_fit room room ls ≡ true
within-fit room ls within = lines-fit room ls room (lines_all room (lines_in ls) (some_lines ls) within)

-- ---- which lines are empty

-- how many lines are empty, the first of which has something already or not
abbrev and_first : Bool → ℕ → ℕ
and_first true n = n
and_first false n = n + 1

abbrev empties : Bool → List Letter → ℕ
empties started [] = and_first started 0
empties started (l ∷ ls) = if is_feed l then and_first started (empties false ls) else empties true ls

empties-feed : (started : Bool) (l : Letter) (ls : List Letter) → is_feed l ≡ true → empties started (l ∷ ls) ≡ and_first started (empties false ls)
empties-feed started l ls is = rw is refl

empties-own : (started : Bool) (l : Letter) (ls : List Letter) → is_feed l ≡ false → empties started (l ∷ ls) ≡ empties true ls
empties-own started l ls is = rw is refl

abbrev later_empties : List (List Letter) → ℕ
later_empties [] = 0
later_empties (line ∷ lines) = length (filter is_empty lines)

record IsCounted (ls : List Letter) : Type 0 where
  later : empties true ls ≡ later_empties (lines_in ls)
  all : empties false ls ≡ empty_lines ls

later_onto : (l : Letter) (lines : List (List Letter)) → 0 < length lines
    → (later_empties (onto_first l lines) ≡ later_empties lines) × (length (filter is_empty (onto_first l lines)) ≡ later_empties lines)
later_onto l [] some = absurd (omega (arith, some))
later_onto l (line ∷ lines) some = (refl, refl)

counted_one : (l : Letter) (ls : List Letter) (feeds : Bool) → is_feed l ≡ feeds → IsCounted ls → IsCounted (l ∷ ls)
counted_one l ls true is rest = grind (arith, slice_split-cons_yes, empties-feed)
counted_one l ls false is rest = grind (arith, slice_split-cons_no, later_onto, some_lines, empties-own)

counted : (ls : List Letter) → IsCounted ls
counted [] = record { later = refl; all = refl }
counted (l ∷ ls) = counted_one l ls (is_feed l) refl (counted ls)

abbrev IsOwed : Stage → Type 0
IsOwed Word = ⊥
IsOwed other = Unit {0}

module _ (room : ℕ) (enough : 4 ≤ room) where
  -- as many lines are empty: where the row has something, at the start of a line, and where the row has nothing yet, but its line has another
  -- word
  record IsAsEmpty (ls : List Letter) : Type 0 where
    begun : (stage : Stage) (left : ℕ) → empties true (rows room (row_at stage left) ls) ≡ empties true ls
    fresh : (left : ℕ) → left + next_columns ls ≡ room → empties false (rows room (row_at Indentation left) ls) ≡ empties false ls
    owed : (stage : Stage) (left : ℕ) → IsOwed stage → is_some (next_width ls) ≡ true
        → empties false (rows room (row_at stage left) ls) ≡ empties true ls

  abbrev Shows : Bool → ℕ → Letter → List Letter → Step → Type 0
  Shows started n l ls s = empties started (shown_at s l ++ rows room s.row ls) ≡ n

  start-fresh : (ls : List Letter) → IsAsEmpty ls → empties false (rows room (row_start room ls) ls) ≡ empties false ls
  start-fresh ls rest = rest.fresh (room - next_columns ls) (omega (arith, next_within ls, enough))

  -- a line feed
  feed-same : (started : Bool) (l : Letter) (ls : List Letter) → is_feed l ≡ true → IsAsEmpty ls
      → empties started (l ∷ rows room (row_start room ls) ls) ≡ empties started (l ∷ ls)
  feed-same started l ls is rest = grind (arith, empties-feed, start-fresh)

  -- any other that is shown
  own-same : (started : Bool) (l : Letter) (ls : List Letter) (stage : Stage) (left : ℕ) → is_feed l ≡ false → IsAsEmpty ls
      → empties started (l ∷ rows room (row_at stage left) ls) ≡ empties true ls
  own-same started l ls stage left is rest = empties-own started l (rows room (row_at stage left) ls) is ∙ rest.begun stage left

  ended-begun : (l : Letter) (ls : List Letter) (found : Option ℕ) → next_width ls ≡ found → IsAsEmpty ls
      → Shows true (empties true ls) l ls (ended room found)
  ended-begun l ls None is rest = rest.begun Gap 0
  ended-begun l ls (Some w) is rest = rest.owed Gap (room - w) tt (ap (λ (o : Option ℕ). is_some o) is)

  blank-begun : (l : Letter) (ls : List Letter) (stage : Stage) (left : ℕ) → is_feed l ≡ false → IsAsEmpty ls
      → Shows true (empties true ls) l ls (at_blank room stage left (char_width l.char) ls)
  blank-begun l ls Gap left is rest = rest.begun Gap left
  blank-begun l ls Indentation left is rest = grind (arith, either-step, own-same)
  blank-begun l ls Word left is rest = grind (arith, either-step, own-same, ended-begun)

  word-begun : (l : Letter) (ls : List Letter) (stage : Stage) (left : ℕ) → is_feed l ≡ false → IsAsEmpty ls
      → Shows true (empties true ls) l ls (in_word room stage left (char_width l.char))
  word-begun l ls Indentation left is rest = own-same true l ls Word left is rest
  word-begun l ls Gap left is rest = own-same true l ls Word left is rest
  word-begun l ls Word left is rest = grind (arith, either-step, own-same)

  has_next : (left w n : ℕ) (found : Option ℕ) → unwrap_or found 0 ≡ n → left < w → w ≤ 4 → left + n ≡ room → is_some found ≡ true
  has_next left w n (Some k) is wide small whole = refl
  has_next left w n None is wide small whole = absurd (omega (arith, is, wide, small, whole, enough))

  blank-fresh : (l : Letter) (ls : List Letter) (left : ℕ) → is_feed l ≡ false → left + next_columns ls ≡ room → IsAsEmpty ls
      → Shows false (empties true ls) l ls (at_blank room Indentation left (char_width l.char) ls)
  blank-fresh l ls left is whole rest = grind (arith, either-step, own-same, has_next, char_width-bound)

  blank-owed : (l : Letter) (ls : List Letter) (stage : Stage) (left : ℕ) → is_feed l ≡ false → IsOwed stage → is_some (next_width ls) ≡ true
      → IsAsEmpty ls → Shows false (empties true ls) l ls (at_blank room stage left (char_width l.char) ls)
  blank-owed l ls Word left is owes some rest = absurd owes
  blank-owed l ls Gap left is owes some rest = rest.owed Gap left tt some
  blank-owed l ls Indentation left is owes some rest = grind (arith, either-step, own-same)

  word-owed : (l : Letter) (ls : List Letter) (stage : Stage) (left : ℕ) → is_feed l ≡ false → IsOwed stage → IsAsEmpty ls
      → Shows false (empties true ls) l ls (in_word room stage left (char_width l.char))
  word-owed l ls Word left is owes rest = absurd owes
  word-owed l ls Indentation left is owes rest = own-same false l ls Word left is rest
  word-owed l ls Gap left is owes rest = own-same false l ls Word left is rest

  next_some : (l : Letter) (ls : List Letter) → is_feed l ≡ false → is_before_word l ≡ true → is_some (next_width (l ∷ ls)) ≡ true
      → is_some (next_width ls) ≡ true
  next_some l ls is before some = ap (λ (o : Option ℕ). is_some o) (sym (next-same l ls is before)) ∙ some

  rows-empty : (ls : List Letter) → IsAsEmpty ls
  rows-empty [] = grind (arith, common_steps)
  rows-empty (l ∷ ls) =
      let rest = rows-empty ls in
      record {
        begun = λ stage left. step-cases (Shows true (empties true (l ∷ ls)) l ls) room (row_at stage left) l ls (λ f. feed-same true l ls f rest)
            (λ is code. own-same true l ls stage left is rest ∙ sym (empties-own true l ls is))
            (λ is plain blank. blank-begun l ls stage left is rest ∙ sym (empties-own true l ls is))
            (λ is plain word. word-begun l ls stage left is rest ∙ sym (empties-own true l ls is));
        fresh = λ left whole. step-cases (Shows false (empties false (l ∷ ls)) l ls) room (row_at Indentation left) l ls
            (λ f. feed-same false l ls f rest) (λ is code. own-same false l ls Indentation left is rest ∙ sym (empties-own false l ls is))
            (λ is plain blank. blank-fresh l ls left is
            (ap (λ (o : Option ℕ). left + unwrap_or o 0) (sym (next-same l ls is (before-blank l plain blank))) ∙ whole) rest
            ∙ sym (empties-own false l ls is))
            (λ is plain word. own-same false l ls Word left is rest ∙ sym (empties-own false l ls is));
        owed = λ stage left owes some. step-cases (Shows false (empties true (l ∷ ls)) l ls) room (row_at stage left) l ls
            (λ f. absurd (false≢true (sym (ap (λ (o : Option ℕ). is_some o) (next-feed l ls f)) ∙ some)))
            (λ is code. own-same false l ls stage left is rest ∙ sym (empties-own true l ls is))
            (λ is plain blank. blank-owed l ls stage left is owes (next_some l ls is (before-blank l plain blank) some) rest
            ∙ sym (empties-own true l ls is))
            (λ is plain word. word-owed l ls stage left is owes rest ∙ sym (empties-own true l ls is));
      }

  -- so as many lines are empty as of the text
  pub rows-lines : (ls : List Letter) → empty_lines (rows room (row_start room ls) ls) ≡ empty_lines ls
  rows-lines ls = grind (arith, common_steps, counted (rows room (row_start room ls) ls), counted ls, start-fresh ls (rows-empty ls), rows-empty ls)
