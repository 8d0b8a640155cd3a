use Rattle.std.proofs.Common.{◌≡◌, ◌-◌, List, length}
use denote.Text.{Utf8}
use denote.Shadow.{shadow}
use Rattle.serde_json.specs.Data.{Data}
use Rattle.redraw_tools.specs.Rule.{named, named_within}
use Rattle.redraw_tools.specs.RuleIndex.{IsIndexOf}
use Rattle.redraw_tools.proofs.rules.RuleNumbers.number.Given as goal

-- the names that are left to try name the same rule as all of them
abbrev pub invariant-loop-count : goal.invariant-loop-count
invariant-loop-count l =
    shadow (Utf8 l.part)
    × ((rules : List Data) → IsIndexOf l.self rules → named_within (length l.id - l._count) rules l.part ≡ named rules l.id)
