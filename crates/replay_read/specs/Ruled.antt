-- What finds places in a source by a unit.
use Rattle.std.specs.Prelude.{◌≡◌, ℕ, List, Option}
use Rattle.replay_read.specs.declared.ruler.Ruler.{Ruler}
use Rattle.replay_read.specs.declared.span.SpanUnit.{SpanUnit}

-- it is of this source, and counts in this unit, or in the one that stands for none
abbrev pub IsRulerOf : List ℕ → Option SpanUnit → Ruler → Type 0
IsRulerOf source unit ruler = (ruler.source.now ≡ source) × (ruler.unit ≡ unit)
