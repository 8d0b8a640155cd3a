-- Which lines of the spliced text are shown.
use Rattle.std.specs.Prelude.{ℕ, zero, suc, ◌+◌, ◌-◌, nat_le, Bool, ◌&&◌, ◌||◌, not, List, [], ◌∷◌, ◌++◌, map, if◌then◌else◌}
use Rattle.std.specs.List.{list_any, range_with_len}
use Rattle.snippet_splice.specs.declared.splice.LineRange.{LineRange}
use Rattle.snippet_suggest.specs.declared.shown_lines.SuggestionLine.{SuggestionLine}
use Rattle.snippet_suggest.specs.declared.shown_lines.SuggestionLine.TheVariants.{Line, Gap}

-- whether line k is shown by itself: one of some ranges holds it, or lines aren't folded
abbrev pub is_touched : Bool → List LineRange → ℕ → Bool
is_touched fold ranges k = not fold || list_any (λ r. nat_le r.first k && nat_le k r.last) ranges

-- what is shown of the untouched lines from one to before another: all, or of more than three the first and the last
abbrev pub shown_run : ℕ → ℕ → List SuggestionLine
shown_run from to =
    if nat_le (to - from) 3 then map Line (range_with_len from (to - from)) else Line from ∷ Gap ∷ Line (to - 1) ∷ []

-- what is shown from line k on, of so many lines, where the untouched ones from line `from` on wait for a touched one: from line 0
-- on, with none that wait, all that are shown
abbrev pub shown_from : (ℕ → Bool) → ℕ → ℕ → ℕ → List SuggestionLine
shown_from touched from k zero = []
shown_from touched from k (suc left) =
    if touched k then shown_run from k ++ (Line k ∷ shown_from touched (k + 1) (k + 1) left) else shown_from touched from (k + 1) left
