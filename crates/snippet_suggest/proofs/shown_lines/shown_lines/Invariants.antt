use Rattle.snippet_suggest.proofs.Common.{◌≡◌, ◌++◌, ◌-◌, ◌≤◌, ℕ, Bool, List, SuggestionLine, is_touched, shown_from}
use Rattle.snippet_suggest.proofs.shown_lines.shown_lines.Given as goal

-- what is shown so far, and what is still to come, is all
pub record Shows (touched : ℕ → Bool) (count after line : ℕ) (shown : List SuggestionLine) : Type 0 where
  pub before : after ≤ line
  pub whole : shown ++ shown_from touched after line (count - line) ≡ shown_from touched 0 0 count

abbrev pub invariant-loop-line : goal.invariant-loop-line
invariant-loop-line l = Shows (is_touched l.fold l.ranges) l.count l.after l.line l.shown.items
