-- What is shown of a character, by its kind; and that no code is torn.
use Rattle.snippet_shown.proofs.Common.{◌≡◌, ℕ, ◌==◌, ◌||◌, Bool, true, false, List, [], ◌∷◌, ◌++◌, ◌⊎◌, inl, inr, refl, sym, arith, ap, ◌∙◌, not}
use Rattle.snippet_shown.proofs.Common.{if◌then◌else◌, false≢true, char_width, Letter, is_blank, is_code, is_feed, letter, letters, place_after, at_blank, feed}
use Rattle.snippet_shown.proofs.Common.{in_word, kept, row_start, rows, shown_by, step, Place, Untrusted, Outside, Escape, Bracket, Command, CommandEscape, Row}
use Rattle.snippet_shown.proofs.Common.{Step}
use Rattle.snippet_shown.proofs.StepLemmas.{spelled}

-- ---- kinds

pick : (P : Step → Type 0) (a b c : Bool) (w x y z : Step) → (a ≡ true → P w) → (a ≡ false → b ≡ true → P x)
    → (a ≡ false → b ≡ false → c ≡ true → P y) → (a ≡ false → b ≡ false → c ≡ false → P z) → P (if a then w else if b then x else if c then y else z)
pick P true b c w x y z one two three four = one refl
pick P false true c w x y z one two three four = two refl refl
pick P false false true w x y z one two three four = three refl refl refl
pick P false false false w x y z one two three four = four refl refl refl

-- what holds of a step for each kind of character holds of each step
pub step-cases : (P : Step → Type 0) (room : ℕ) (row : Row) (l : Letter) (ls : List Letter) → (is_feed l ≡ true → P (kept (row_start room ls)))
    → (is_feed l ≡ false → l.code ≡ true → P (kept row))
    → (is_feed l ≡ false → l.code ≡ false → is_blank l ≡ true → P (at_blank room row.stage row.left (char_width l.char) ls))
    → (is_feed l ≡ false → l.code ≡ false → is_blank l ≡ false → P (in_word room row.stage row.left (char_width l.char))) → P (step room row l ls)
step-cases P room row l ls one two three four = grind (arith, pick)

-- ---- codes

-- where a character stands that belongs to no code, each that does neither leaves the place
pub record IsSteady (place : Place) (c : ℕ) : Type 0 where
  pub after : place_after place c ≡ place
  pub line : place_after place 10 ≡ place

first_false : (a b : Bool) → (a || b) ≡ false → a ≡ false
first_false true b same = same
first_false false b same = refl

in_code : (c : ℕ) (place : Place) → (c == 10) ≡ false → not (c == 10) ≡ false → IsSteady place c
in_code c place other is = absurd (false≢true (sym is ∙ ap not other))

pub steady : (place : Place) (c : ℕ) → (c == 10) ≡ false → is_code place c ≡ false → IsSteady place c
steady Untrusted c other is = record { after = refl; line = refl }
steady Outside c other is = grind (arith, first_false)
steady Escape c other is = in_code c Escape other is
steady Bracket c other is = in_code c Bracket other is
steady Command c other is = in_code c Command other is
steady CommandEscape c other is = in_code c CommandEscape other is

no_code : (place : Place) → is_code place 10 ≡ false
no_code Untrusted = refl
no_code Outside = refl
no_code Escape = refl
no_code Bracket = refl
no_code Command = refl
no_code CommandEscape = refl

feed-letter : (place : Place) → letter place 10 ≡ feed
feed-letter place = ap (λ (b : Bool). record { char = 10; code = b }) (no_code place)

-- what is shown of a character, before more, is read as the same letters
shown-same : (breaks keeps : Bool) (place : Place) (c : ℕ) (more : List Letter)
    → ((breaks ≡ false) × (keeps ≡ true)) ⊎ IsSteady place c → letters (place_after place c) (spelled more) ≡ more
    → letters place (spelled (shown_by breaks keeps (letter place c) ++ more)) ≡ shown_by breaks keeps (letter place c) ++ more
shown-same false true place c more how rest = ap (λ (t : List Letter). letter place c ∷ t) rest
shown-same true keeps place c more (inl alone) rest = absurd (false≢true (sym alone.0))
shown-same false false place c more (inl alone) rest = absurd (false≢true alone.1)
shown-same false false place c more (inr still) rest =
    ap (λ (p : Place). letters p (spelled more)) (sym still.after) ∙ rest
shown-same true false place c more (inr still) rest = grind (arith, feed-letter)
shown-same true true place c more (inr still) rest = grind (arith, feed-letter)

-- so what is shown of a text are the letters of what is written: no code is torn, and none is made
abbrev IsRead : Place → ℕ → List Letter → Step → Type 0
IsRead place c ls s = ((s.breaks ≡ false) × (s.keeps ≡ true)) ⊎ IsSteady place c

pub rows-read : (room : ℕ) (cs : List ℕ) (place : Place) (row : Row)
    → letters place (spelled (rows room row (letters place cs))) ≡ rows room row (letters place cs)
rows-read room [] place row = refl
rows-read room (c ∷ cs) place row =
    let ls = letters (place_after place c) cs in
    let s = step room row (letter place c) ls in
    shown-same s.breaks s.keeps place c (rows room s.row ls)
    (step-cases (IsRead place c ls) room row (letter place c) ls (λ feed. inl (refl, refl)) (λ other code. inl (refl, refl))
    (λ other code blank. inr (steady place c other code)) (λ other code word. inr (steady place c other code)))
    (rows-read room cs (place_after place c) s.row)
