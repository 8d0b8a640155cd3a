-- What follows of a text that is wrapped.
use Rattle.snippet_shown.proofs.Common.{common_steps, ◌≡◌, ℕ, ◌+◌, ◌-◌, ◌≤◌, ◌||◌, Bool, true, false, List, [], ◌∷◌, ◌++◌, Option, None, Some, All}
use Rattle.snippet_shown.proofs.Common.{filter, ◌⊎◌, inl, inr, refl, sym, ap, ◌∙◌, arith, if◌then◌else◌, unwrap_or, Contains, false≢true, All-cons}
use Rattle.snippet_shown.proofs.Common.{All-contains_itself, All-head, All-nil, All-tail, All-weaker, filter-append, char_width, char_width-bound, Letter}
use Rattle.snippet_shown.proofs.Common.{is_before_word, is_blank, is_feed, letter_width, at_blank, columns_ahead, ended, ends_ahead, feed, in_word, next_width}
use Rattle.snippet_shown.proofs.Common.{row_start, rows, lines_fit, shown_at, shown_by, step, IsAmong, is_gap, is_inside, Row, Stage, Indentation, Gap, Word}
use Rattle.snippet_shown.proofs.Common.{Step}
use Rattle.snippet_shown.proofs.PlaceLemmas.{step-cases}
use Rattle.snippet_shown.proofs.StepLemmas.{fit-rest, lines_fit-feed, lines_fit-next}

-- ---- no character is lost but blanks

pub gap_of_blank : (l : Letter) → is_blank l ≡ true → is_gap l ≡ true
gap_of_blank l blank = grind (arith, blank)

keeps_either : (fits : Bool) (a b : Step) → a.keeps ≡ true → b.keeps ≡ true → (if fits then a else b).keeps ≡ true
keeps_either true a b one other = one
keeps_either false a b one other = other

in_word-keeps : (room : ℕ) (stage : Stage) (left w : ℕ) → (in_word room stage left w).keeps ≡ true
in_word-keeps room Indentation left w = refl
in_word-keeps room Gap left w = refl
in_word-keeps room Word left w = grind (arith, keeps_either)

abbrev IsKept : Letter → Step → Type 0
IsKept l s = (s.keeps ≡ true) ⊎ (is_gap l ≡ true)

step-kept : (room : ℕ) (row : Row) (l : Letter) (ls : List Letter) → IsKept l (step room row l ls)
step-kept room row l ls = grind (arith, step-cases, gap_of_blank, in_word-keeps)

pub keep-own : (l : Letter) (xs ys : List Letter) → filter is_inside xs ≡ filter is_inside ys → filter is_inside (l ∷ xs) ≡ filter is_inside (l ∷ ys)
keep-own l xs ys rest =
    filter-append is_inside (l ∷ []) xs ∙ ap (λ (t : List Letter). filter is_inside (l ∷ []) ++ t) rest ∙ sym (filter-append is_inside (l ∷ []) ys)

keep-one : (breaks keeps : Bool) (l : Letter) (xs ys : List Letter) → (keeps ≡ true) ⊎ (is_gap l ≡ true)
    → filter is_inside xs ≡ filter is_inside ys → filter is_inside (shown_by breaks keeps l ++ xs) ≡ filter is_inside (l ∷ ys)
keep-one false true l xs ys how rest = keep-own l xs ys rest
keep-one true true l xs ys how rest = keep-own l xs ys rest
keep-one breaks false l xs ys (inl shows) rest = absurd (false≢true shows)
keep-one false false l xs ys (inr gap) rest = rw gap rest
keep-one true false l xs ys (inr gap) rest = rw gap rest

pub rows-kept : (room : ℕ) (ls : List Letter) (row : Row) → filter is_inside (rows room row ls) ≡ filter is_inside ls
rows-kept room [] row = refl
rows-kept room (l ∷ ls) row = grind (arith, keep-one, step-kept, rows-kept room ls (step room row l ls).row)

-- ---- no other character

module _ (P : Letter → Type 0) (feeds : P feed) where
  all_one : (breaks keeps : Bool) (l : Letter) (xs : List Letter) → P l → All P xs → All P (shown_by breaks keeps l ++ xs)
  all_one false false l xs own all = all
  all_one false true l xs own all = All-cons P l xs own all
  all_one true false l xs own all = All-cons P feed xs feeds all
  all_one true true l xs own all = All-cons P feed (l ∷ xs) feeds (All-cons P l xs own all)

  pub rows-all : (room : ℕ) (ls : List Letter) (row : Row) → All P ls → All P (rows room row ls)
  rows-all room [] row all = All-nil P
  rows-all room (l ∷ ls) row all = grind (arith, all_one, All-head, All-tail, rows-all room ls (step room row l ls).row (All-tail P l ls all))

pub among_own : (ls : List Letter) → All (IsAmong ls) ls
among_own ls = All-weaker (Contains ls) (IsAmong ls) (λ l own. inr own) ls (All-contains_itself ls)

-- ---- lines have room

-- the columns of the first character of the next word, none where there is no word
abbrev pub next_columns : List Letter → ℕ
next_columns ls = unwrap_or (next_width ls) 0

next_one : (f before : Bool) (l : Letter) (ls : List Letter) → next_columns ls ≤ 4
    → unwrap_or (if f then None else if before then next_width ls else Some (char_width l.char)) 0 ≤ 4
next_one true before l ls rest = omega arith
next_one false true l ls rest = rest
next_one false false l ls rest = char_width-bound l.char

pub next_within : (ls : List Letter) → next_columns ls ≤ 4
next_within [] = omega arith
next_within (l ∷ ls) = next_one (is_feed l) (is_before_word l) l ls (next_within ls)

-- what comes next after a character that may stand before a word
pub next-same : (l : Letter) (ls : List Letter) → is_feed l ≡ false → is_before_word l ≡ true → next_width (l ∷ ls) ≡ next_width ls
next-same l ls other before = rw (other, before) refl

pub next-own : (l : Letter) (ls : List Letter) → is_feed l ≡ false → is_before_word l ≡ false → next_width (l ∷ ls) ≡ Some (char_width l.char)
next-own l ls other word = rw (other, word) refl

-- the columns that are left in a row, those of the first character that has room counted
abbrev pub columns_left : Stage → ℕ → List Letter → ℕ
columns_left Word left ls = left
columns_left other left ls = left + next_columns ls

pub left-same : (stage : Stage) (left : ℕ) (l : Letter) (ls : List Letter) → is_feed l ≡ false → is_before_word l ≡ true
    → columns_left stage left (l ∷ ls) ≡ columns_left stage left ls
left-same Word left l ls other before = refl
left-same Indentation left l ls other before = ap (λ (found : Option ℕ). left + unwrap_or found 0) (next-same l ls other before)
left-same Gap left l ls other before = ap (λ (found : Option ℕ). left + unwrap_or found 0) (next-same l ls other before)

pub next-word-columns : (left : ℕ) (l : Letter) (ls : List Letter) → is_feed l ≡ false → is_before_word l ≡ false
    → left + next_columns (l ∷ ls) ≡ left + char_width l.char
next-word-columns left l ls other word = ap (λ (found : Option ℕ). left + unwrap_or found 0) (next-own l ls other word)

-- what may stand before a word, and what may not
pub before-code : (l : Letter) → l.code ≡ true → is_before_word l ≡ true
before-code l code = rw code refl

pub before-blank : (l : Letter) → l.code ≡ false → is_blank l ≡ true → is_before_word l ≡ true
before-blank l plain blank = rw (blank, plain) refl

pub before-word : (l : Letter) → l.code ≡ false → is_blank l ≡ false → is_before_word l ≡ false
before-word l plain word = rw (word, plain) refl

pub code-width : (l : Letter) → l.code ≡ true → letter_width l ≡ 0
code-width l code = rw code refl

pub own-width : (l : Letter) → l.code ≡ false → letter_width l ≡ char_width l.char
own-width l plain = rw plain refl

-- what holds of both steps holds of the one that is chosen
pub either-step : (P : Step → Type 0) (test : Bool) (a b : Step) → (test ≡ true → P a) → (test ≡ false → P b) → P (if test then a else b)
either-step P true a b one other = one refl
either-step P false a b one other = other refl

abbrev pub row_at : Stage → ℕ → Row
row_at stage left = record { stage = stage; left = left }

module _ (room : ℕ) (enough : 4 ≤ room) where
  -- what is shown of the rest of a text has room, in each row with so many columns left
  abbrev AllFit : List Letter → Type 0
  AllFit ls = (stage : Stage) (left b : ℕ) → columns_left stage left ls ≤ b → lines_fit room b (rows room (row_at stage left) ls) ≡ true

  fit-keep : (l : Letter) (ls : List Letter) (stage : Stage) (left b : ℕ) → is_feed l ≡ false → AllFit ls → columns_left stage left ls + letter_width l ≤ b
      → lines_fit room b (l ∷ rows room (row_at stage left) ls) ≡ true
  fit-keep l ls stage left b other rest less =
      lines_fit-next room b l (rows room (row_at stage left) ls) other (omega (arith, less)) ∙ rest stage left (b - letter_width l) (omega (arith, less))

  abbrev Fits : Letter → List Letter → ℕ → Step → Type 0
  Fits l ls b s = lines_fit room b (shown_at s l ++ rows room s.row ls) ≡ true

  fit-ended : (l : Letter) (ls : List Letter) (b : ℕ) (found : Option ℕ) → next_width ls ≡ found → AllFit ls → Fits l ls b (ended room found)
  fit-ended l ls b None is rest = grind arith
  fit-ended l ls b (Some w) is rest = grind (arith, next_within)

  fit-blank : (l : Letter) (ls : List Letter) (stage : Stage) (left b : ℕ) → is_feed l ≡ false → l.code ≡ false → AllFit ls
      → columns_left stage left ls ≤ b → Fits l ls b (at_blank room stage left (char_width l.char) ls)
  fit-blank l ls Indentation left b other plain rest less = grind (arith, own-width, either-step, fit-keep)
  fit-blank l ls Gap left b other plain rest less = rest Gap left b less
  fit-blank l ls Word left b other plain rest less = grind (arith, own-width, either-step, fit-keep, fit-ended)

  fit-word : (l : Letter) (ls : List Letter) (stage : Stage) (left b : ℕ) → is_feed l ≡ false → l.code ≡ false → is_blank l ≡ false → AllFit ls
      → columns_left stage left (l ∷ ls) ≤ b → Fits l ls b (in_word room stage left (char_width l.char))
  fit-word l ls Indentation left b other plain word rest less =
      fit-keep l ls Word left b other rest (omega (arith, own-width l plain, next-word-columns left l ls other (before-word l plain word), less))
  fit-word l ls Gap left b other plain word rest less =
      fit-keep l ls Word left b other rest (omega (arith, own-width l plain, next-word-columns left l ls other (before-word l plain word), less))
  fit-word l ls Word left b other plain word rest less = grind (arith, own-width, either-step, fit-keep, char_width-bound)

  pub rows-fit : (ls : List Letter) → AllFit ls
  rows-fit [] stage left b less = refl
  rows-fit (l ∷ ls) stage left b less =
      step-cases (Fits l ls b) room (row_at stage left) l ls
      (λ f. lines_fit-feed room b l (rows room (row_start room ls) ls) f
      ∙ rows-fit ls Indentation (room - next_columns ls) room (omega (arith, next_within ls, enough)))
      (λ other code. fit-keep l ls stage left b other (rows-fit ls)
      (omega (arith, code-width l code, left-same stage left l ls other (before-code l code), less)))
      (λ other plain blank. fit-blank l ls stage left b other plain (rows-fit ls)
      (omega (arith, left-same stage left l ls other (before-blank l plain blank), less)))
      (λ other plain word. fit-word l ls stage left b other plain word (rows-fit ls) less)

-- ---- what fits stays

either_false : (a b : Bool) → (a || b) ≡ false → (a ≡ false) × (b ≡ false)
either_false true b is = absurd (false≢true (sym is))
either_false false b is = (refl, is)

pub columns-none : (ls : List Letter) → next_width ls ≡ None → next_columns ls ≡ 0
columns-none ls is = ap (λ (o : Option ℕ). unwrap_or o 0) is

pub columns-same : (l : Letter) (ls : List Letter) → is_feed l ≡ false → is_before_word l ≡ true → next_columns (l ∷ ls) ≡ next_columns ls
columns-same l ls other before = ap (λ (o : Option ℕ). unwrap_or o 0) (next-same l ls other before)

pub next-feed : (l : Letter) (ls : List Letter) → is_feed l ≡ true → next_width (l ∷ ls) ≡ None
next-feed l ls feeds = rw feeds refl

next_fits : (room b : ℕ) (l : Letter) (ls : List Letter) (feeds before : Bool) → is_feed l ≡ feeds → is_before_word l ≡ before
    → lines_fit room b (l ∷ ls) ≡ true → ((less : ℕ) → lines_fit room less ls ≡ true → next_columns ls ≤ less) → next_columns (l ∷ ls) ≤ b
next_fits room b l ls true before is own all rest = omega (arith, columns-none (l ∷ ls) (next-feed l ls is))
next_fits room b l ls false true is own all rest = grind (arith, fit-rest, columns-same)
next_fits room b l ls false false is own all rest = grind (arith, fit-rest, either_false, next-word-columns, own-width)

-- where a line fits, the first character of its next word does
next-fits : (room : ℕ) (ls : List Letter) (b : ℕ) → lines_fit room b ls ≡ true → next_columns ls ≤ b
next-fits room [] b all = omega arith
next-fits room (l ∷ ls) b all = next_fits room b l ls (is_feed l) (is_before_word l) refl refl all (next-fits room ls)

ahead_fits : (room b : ℕ) (l : Letter) (ls : List Letter) (inside ends : Bool) → ends_ahead inside l ≡ ends → lines_fit room b (l ∷ ls) ≡ true
    → ((inside : Bool) (less : ℕ) → lines_fit room less ls ≡ true → columns_ahead inside ls ≤ less) → columns_ahead inside (l ∷ ls) ≤ b
ahead_fits room b l ls inside true is all rest = grind arith
ahead_fits room b l ls inside false is all rest = grind (arith, fit-rest, either_false)

-- and so does what is ahead
ahead-fits : (room : ℕ) (ls : List Letter) (inside : Bool) (b : ℕ) → lines_fit room b ls ≡ true → columns_ahead inside ls ≤ b
ahead-fits room [] inside b all = omega arith
ahead-fits room (l ∷ ls) inside b all = ahead_fits room b l ls inside (ends_ahead inside l) refl all (ahead-fits room ls)

-- a row that a line didn't end within
abbrev IsWhole : Stage → Type 0
IsWhole Gap = ⊥
IsWhole other = Unit {0}

module _ (room : ℕ) (enough : 4 ≤ room) where
  abbrev IsSame : List Letter → Type 0
  IsSame ls = (stage : Stage) (left : ℕ) → IsWhole stage → lines_fit room (columns_left stage left ls) ls ≡ true → rows room (row_at stage left) ls ≡ ls

  abbrev StaysSame : Letter → List Letter → Step → Type 0
  StaysSame l ls s = shown_at s l ++ rows room s.row ls ≡ l ∷ ls

  own-same : (l : Letter) (ls : List Letter) (stage : Stage) (left b : ℕ) → IsSame ls → IsWhole stage → b ≡ columns_left stage left ls
      → lines_fit room b ls ≡ true → l ∷ rows room (row_at stage left) ls ≡ l ∷ ls
  own-same l ls stage left b rest whole is all =
      ap (λ (t : List Letter). l ∷ t) (rest stage left whole (ap (λ (n : ℕ). lines_fit room n ls) (sym is) ∙ all))

  same-blank : (l : Letter) (ls : List Letter) (stage : Stage) (left : ℕ) → is_feed l ≡ false → l.code ≡ false → IsSame ls → IsWhole stage
      → lines_fit room (columns_left stage left ls) (l ∷ ls) ≡ true → StaysSame l ls (at_blank room stage left (char_width l.char) ls)
  same-blank l ls Gap left other plain rest whole all = absurd whole
  same-blank l ls Indentation left other plain rest whole all = grind (arith, own-width, fit-rest, next-fits, either-step, own-same)
  same-blank l ls Word left other plain rest whole all = grind (arith, own-width, fit-rest, ahead-fits, either-step, own-same)

  same-word : (l : Letter) (ls : List Letter) (stage : Stage) (left : ℕ) → is_feed l ≡ false → l.code ≡ false → is_blank l ≡ false → IsSame ls
      → IsWhole stage → lines_fit room (columns_left stage left (l ∷ ls)) (l ∷ ls) ≡ true
      → StaysSame l ls (in_word room stage left (char_width l.char))
  same-word l ls Gap left other plain word rest whole all = absurd whole
  same-word l ls Indentation left other plain word rest whole all = grind (arith, fit-rest, own-same, own-width, next-word-columns, before-word)
  same-word l ls Word left other plain word rest whole all = grind (arith, own-width, fit-rest, either-step, own-same)

  same-code : (l : Letter) (ls : List Letter) (stage : Stage) (left : ℕ) → is_feed l ≡ false → l.code ≡ true → IsSame ls → IsWhole stage
      → lines_fit room (columns_left stage left (l ∷ ls)) (l ∷ ls) ≡ true → l ∷ rows room (row_at stage left) ls ≡ l ∷ ls
  same-code l ls stage left other code rest whole all = grind (arith, fit-rest, own-same, code-width, left-same, before-code)

  pub rows-same : (ls : List Letter) → IsSame ls
  rows-same [] stage left whole all = refl
  rows-same (l ∷ ls) stage left whole all =
      grind (arith, common_steps, own-same, rows-same ls, next_within, lines_fit-feed, same-code, same-blank, left-same, before-blank, same-word)
