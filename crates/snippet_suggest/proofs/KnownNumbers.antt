-- Which lines a suggestion that is prepared shows.
use Rattle.snippet_suggest.proofs.Common.{◌≡◌, ℕ, ◌≤◌, Bool, None, Some, if◌then◌else◌, List, [], ◌∷◌, length, map, sym, ap}
use Rattle.snippet_suggest.proofs.Common.{◌∙◌, arith, slice_get, length-map, LineRange, PreparedSuggestion, DisplaySuggestion, Diff, given_lines}
use Rattle.snippet_suggest.proofs.Common.{is_left_out, is_touched, numbers_of, IsPrepared, common_steps, rules}
use Rattle.snippet_suggest.proofs.GutterFits.{one_given}

cond_same : (b : Bool) → ◌≡◌ {A = List ℕ} (if b then [] else []) []
cond_same x = search rules

-- in a diff the one line that is given is shown where a patch touches it and it isn't left out
pub diff_numbers : (folds : Bool) (ranges : List LineRange) (line last : List ℕ) (touched : Bool) → is_touched folds ranges 0 ≡ touched
    → numbers_of Diff folds ranges (line ∷ []) last ≡ (if touched then (if is_left_out Diff (line ∷ []) last then [] else 0 ∷ []) else [])
diff_numbers x y z u v w = grind (arith, cond_same)

-- where no line is given none is shown
pub none_numbers : (kind : DisplaySuggestion) (folds : Bool) (ranges : List LineRange) (last : List ℕ) → numbers_of kind folds ranges [] last ≡ []
none_numbers kind folds ranges last = cond_same (is_left_out kind [] last)

-- no texts are made of no lines
pub lines_none : {X : Type 0} (text_of : X → List ℕ) (lines : List X) (texts : List (List ℕ)) → slice_get lines 0 ≡ None → map text_of lines ≡ texts
    → texts ≡ []
lines_none text_of [] texts none are = sym are
lines_none text_of (l ∷ ls) texts none are = absurd (cc)

-- where one is given, it is the first
pub lines_some : {X : Type 0} (text_of : X → List ℕ) (lines : List X) (texts : List (List ℕ)) (line : X) → slice_get lines 0 ≡ Some line
    → map text_of lines ≡ texts → (rest : List (List ℕ)) × (texts ≡ text_of line ∷ rest)
lines_some text_of [] texts line some are = absurd (cc)
lines_some text_of (l ∷ ls) texts line some are = grind (arith)

-- in a diff one line is given, where one is
known_few : (p : PreparedSuggestion) → IsPrepared p → p.kind ≡ Diff → length (given_lines p.snippet.now) ≤ 1
known_few p is diff = grind (arith, common_steps, one_given, length-map)

-- a suggestion shown as a diff that gives a line gives that one alone
pub known_one : {X : Type 0} (p : PreparedSuggestion) → IsPrepared p → p.kind ≡ Diff → (text_of : X → List ℕ) (lines : List X) (line : X)
    → slice_get lines 0 ≡ Some line → map text_of lines ≡ given_lines p.snippet.now → given_lines p.snippet.now ≡ text_of line ∷ []
known_one p is diff text_of [] line some are = absurd (cc)
known_one p is diff text_of (l ∷ []) line some are = let same : l ≡ line = cc in sym are ∙ ap (λ x. text_of x ∷ []) same
known_one p is diff text_of (l ∷ m ∷ ls) line some are = absurd (omega (arith, ap length are, known_few p is diff))
