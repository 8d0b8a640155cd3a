-- Which lines are shown, one line after another.
use Rattle.snippet_suggest.proofs.Common.{◌≡◌, ℕ, suc, ◌+◌, ◌-◌, ◌<◌, Bool, true, false, List, [], ◌∷◌, ◌++◌}
use Rattle.snippet_suggest.proofs.Common.{arith, append_assoc, map, SuggestionLine, Line, shown_run, shown_from, range_with_len}

-- the lines of a run from one to before another
abbrev pub run_of : ℕ → ℕ → List SuggestionLine
run_of from to = map Line (range_with_len from (to - from))

-- one line more of a run
pub run_step : (done new all : List SuggestionLine) (line to : ℕ) → line < to → new ≡ done ++ Line line ∷ [] → done ++ run_of line to ≡ all
    → new ++ run_of (line + 1) to ≡ all
run_step done new all line to below pushed is =
    let left : to - line ≡ suc (to - (line + 1)) = omega arith in cc (pushed, append_assoc done (Line line ∷ []) (run_of (line + 1) to), left, is)

-- what is still to come, where the line is touched, and where it isn't
pub touched_step : (touched : ℕ → Bool) (done mid new all : List SuggestionLine) (after line count : ℕ) → line < count → touched line ≡ true
    → mid ≡ done ++ shown_run after line → new ≡ mid ++ Line line ∷ [] → done ++ shown_from touched after line (count - line) ≡ all
    → new ++ shown_from touched (line + 1) (line + 1) (count - (line + 1)) ≡ all
touched_step touched done mid new all after line count below holds run pushed is = grind (arith, append_assoc)

-- a line that isn't touched adds no shown line
pub untouched_step : (touched : ℕ → Bool) (done all : List SuggestionLine) (after line count : ℕ) → line < count → touched line ≡ false
    → done ++ shown_from touched after line (count - line) ≡ all → done ++ shown_from touched after (line + 1) (count - (line + 1)) ≡ all
untouched_step touched done all after line count below holds is =
    let left : count - line ≡ suc (count - (line + 1)) = omega arith in
    cc (holds, left, is)
