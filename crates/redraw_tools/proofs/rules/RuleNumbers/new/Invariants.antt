use Rattle.std.proofs.Common.{◌≡◌, ℕ, List, map, take}
use Rattle.serde_json.specs.View.{view}
use Rattle.redraw_tools.specs.Rule.{first_with}
use Rattle.redraw_tools.specs.RuleIndex.{IsMeasured, indexed}
use Rattle.redraw_tools.proofs.rules.RuleNumbers.new.Given as goal

-- the numbers are those of the rules up to here
abbrev pub invariant-loop-number : goal.invariant-loop-number
invariant-loop-number l = IsMeasured l.numbers × ((id : List ℕ) → indexed l.numbers id ≡ first_with id (map view (take l.number l.rules)))
