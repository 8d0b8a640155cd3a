-- What is shown in place of a text, and what follows of it.
use Rattle.snippet_shown.proofs.Common.{common_steps, ◌≡◌, ◌∙◌, ℕ, ◌+◌, ◌-◌, ◌<◌, ◌≤◌, nat_lt, Bool, true, false, List, [], ◌∷◌, ◌⊎◌, All, inl, inr, refl}
use Rattle.snippet_shown.proofs.Common.{sym, ap, subst, arith, chars, if◌then◌else◌, Contains, nat_tests, All-cons, All-contains_itself, All-head, All-map}
use Rattle.snippet_shown.proofs.Common.{All-nil, All-tail, All-weaker, Letter, first_place, letters, letters_of, place_after, row_start, rows, shown_letters}
use Rattle.snippet_shown.proofs.Common.{wrapped, lines_fit, IsAmong, IsRewrapped, Place, Row, Indentation, Step, shown_at, shown_by, step, length, suc}
use Rattle.std.proofs.lemmas.List.{length-append}
use Rattle.snippet_shown.proofs.GreedyLemmas.{rows-end}
use Rattle.snippet_shown.proofs.LawLemmas.{among_own, next_columns, next_within, rows-all, rows-fit, rows-kept, rows-same}
use Rattle.snippet_shown.proofs.LineLemmas.{fit-within, rows-lines, within-fit}
use Rattle.snippet_shown.proofs.PlaceLemmas.{rows-read}
use Rattle.snippet_shown.proofs.StepLemmas.{Writes, spelled}
use Rattle.snippet_shown.proofs.WordLemmas.{rows-words}

-- the letters of a text spell it
pub spelled-letters : (cs : List ℕ) (place : Place) → spelled (letters place cs) ≡ cs
spelled-letters [] place = refl
spelled-letters (c ∷ cs) place = ap (λ (t : List ℕ). c ∷ t) (spelled-letters cs (place_after place c))

-- in a room that is wide enough its rows are shown
shown-wide : (room : ℕ) (ls : List Letter) → 4 ≤ room → shown_letters room ls ≡ rows room (row_start room ls) ls
shown-wide room ls enough = grind arith

-- nothing is written yet
pub Writes-none : (room : ℕ) (trusted : Bool) (row : Row) (place : Place) (written text : List ℕ) → 4 ≤ room → written ≡ []
    → place ≡ first_place trusted → row ≡ row_start room (letters place (chars text)) → Writes room row place written text (wrapped room trusted (chars text))
Writes-none room trusted row place written text enough nothing is start = grind (arith, shown-wide)

-- what fits stays
same-start : (room : ℕ) (ls : List Letter) → 4 ≤ room → lines_fit room room ls ≡ true → rows room (row_start room ls) ls ≡ ls
same-start room ls enough all = grind (arith, next_within, rows-same)

same_either : (room : ℕ) (ls : List Letter) (small : Bool) → nat_lt room 4 ≡ small → lines_fit room room ls ≡ true
    → (let shown : List Letter = if small then ls else rows room (row_start room ls) ls in shown ≡ ls)
same_either room ls true is all = refl
same_either room ls false is all = grind (arith, same-start)

pub wrapped-same : (room : ℕ) (trusted : Bool) (cs : List ℕ) → lines_fit room room (letters_of trusted cs) ≡ true → wrapped room trusted cs ≡ cs
wrapped-same room trusted cs all =
    ap spelled (same_either room (letters_of trusted cs) (nat_lt room 4) refl all) ∙ spelled-letters cs (first_place trusted)

pub wrapped-small : (room : ℕ) (trusted : Bool) (cs : List ℕ) → room < 4 → wrapped room trusted cs ≡ cs
wrapped-small room trusted cs less = grind (arith, spelled-letters)

-- ---- laws

either_laws : (room : ℕ) (ls : List Letter) (small : Bool) → nat_lt room 4 ≡ small
    → IsRewrapped room ls (if small then ls else rows room (row_start room ls) ls)
either_laws room ls true is = grind (arith, among_own)
either_laws room ls false is =
    let enough : 4 ≤ room = grind (arith, nat_tests, is) in
    record {
      kept = rows-kept room ls (row_start room ls);
      words = rows-words room enough ls;
      rows = λ wide. fit-within room (rows room (row_start room ls) ls)
          (rows-fit room enough ls Indentation (room - next_columns ls) room (omega (arith, next_within ls, enough)));
      same = λ within. same-start room ls enough (within-fit room ls within);
      empty = rows-lines room enough ls;
      ends = λ wide. rows-end room enough ls;
      among = rows-all (IsAmong ls) (inl refl) room ls (row_start room ls) (among_own ls);
    }

read_either : (room : ℕ) (cs : List ℕ) (place : Place) (small : Bool)
    → (let ls = letters place cs in let shown : List Letter = if small then ls else rows room (row_start room ls) ls in letters place (spelled shown) ≡ shown)
read_either room cs place true = ap (letters place) (spelled-letters cs place)
read_either room cs place false = rows-read room cs place (row_start room (letters place cs))

-- the text that is shown has the laws of one that is wrapped, and no code in it is torn
pub wrapped-laws : (room : ℕ) (trusted : Bool) (cs : List ℕ) → IsRewrapped room (letters_of trusted cs) (letters_of trusted (wrapped room trusted cs))
wrapped-laws room trusted cs =
    let ls = letters_of trusted cs in
    subst (IsRewrapped room ls) (sym (read_either room cs (first_place trusted) (nat_lt room 4))) (either_laws room ls (nat_lt room 4) refl)

-- ---- characters

letters-all : (P : ℕ → Type 0) (cs : List ℕ) (place : Place) → All P cs → All (λ (l : Letter). P l.char) (letters place cs)
letters-all P [] place all = All-nil (λ (l : Letter). P l.char)
letters-all P (c ∷ cs) place all = grind (arith, All-cons, All-head, All-tail, letters-all P cs (place_after place c) (All-tail P c cs all))

abbrev IsOf : List ℕ → ℕ → Type 0
IsOf cs c = (c ≡ 10) ⊎ Contains cs c

chars_either : (room : ℕ) (cs : List ℕ) (ls : List Letter) (small : Bool) → All (λ (l : Letter). IsOf cs l.char) ls
    → (let shown : List Letter = if small then ls else rows room (row_start room ls) ls in All (λ (l : Letter). IsOf cs l.char) shown)
chars_either room cs ls true own = own
chars_either room cs ls false own = rows-all (λ (l : Letter). IsOf cs l.char) (inl refl) room ls (row_start room ls) own

-- each character that is shown is one of the text, or a line feed
pub wrapped-chars : (room : ℕ) (trusted : Bool) (cs : List ℕ) → All (λ (c : ℕ). (c ≡ 10) ⊎ Contains cs c) (wrapped room trusted cs)
wrapped-chars room trusted cs =
    let ls = letters_of trusted cs in
    let own = letters-all (IsOf cs) cs (first_place trusted) (All-weaker (Contains cs) (IsOf cs) (λ c is. inr is) cs (All-contains_itself cs)) in
    All-map (IsOf cs) (λ (l : Letter). l.char) (shown_letters room ls) (chars_either room cs ls (nat_lt room 4) own)

-- ---- how many characters

shown_short : (breaks keeps : Bool) (l : Letter) → length (shown_by breaks keeps l) ≤ 2
shown_short true true l = omega arith
shown_short true false l = omega arith
shown_short false true l = omega arith
shown_short false false l = omega arith

rows_short : (room : ℕ) (row : Row) (ls : List Letter) → length (rows room row ls) ≤ length ls + length ls
rows_short room row [] = omega arith
rows_short room row (l ∷ ls) =
    let next : Step = step room row l ls in
    omega (arith, shown_short next.breaks next.keeps l, rows_short room next.row ls, length-append (shown_at next l) (rows room next.row ls))

letters_long : (place : Place) (cs : List ℕ) → length (letters place cs) ≡ length cs
letters_long place [] = refl
letters_long place (c ∷ cs) = ap suc (letters_long (place_after place c) cs)

-- a text that is wrapped has at most twice as many characters
pub wrapped-length : (room : ℕ) (trusted : Bool) (cs : List ℕ) → length (wrapped room trusted cs) ≤ length cs + length cs
wrapped-length room trusted cs = grind (arith, common_steps, letters_long, rows_short)
