-- The depths of spans of several lines: how far right the bar of each stands.
use Rattle.std.specs.Prelude.{ℕ, ◌+◌, ◌-◌, ◌==◌, ◌&&◌, nat_le, max, Bool, List, [], ◌∷◌, if◌then◌else◌}
use Rattle.std.specs.List.{list_any}
use Rattle.snippet_parts.specs.declared.depths.LongExtent.{LongExtent}

-- whether two places of spans of several lines are the same; their lines follow from their bytes
abbrev pub same_place : LongExtent → LongExtent → Bool
same_place p q = p.from == q.from && (p.to == q.to && (p.first == q.first && p.last == q.last))

-- whether two such places share a line
abbrev pub share_line : LongExtent → LongExtent → Bool
share_line p q = nat_le p.first q.last && nat_le q.first p.last

-- the places of some spans, each once: where the last span of that place stands
abbrev pub places_of : List LongExtent → List LongExtent
places_of [] = []
places_of (p ∷ ps) = if list_any (same_place p) ps then places_of ps else p ∷ places_of ps

-- the raw depth of a place, from the places after it: one more than the greatest raw depth of those that share a line
-- with it, and 1 where none does
abbrev pub raw_depth : LongExtent → List LongExtent → ℕ
raw_depth p [] = 1
raw_depth p (q ∷ later) = max (raw_depth p later) (if share_line p q then raw_depth q later + 1 else 1)

-- the raw depth of a place that stands among some, and 0 of another one
abbrev pub raw_depth_among : List LongExtent → LongExtent → ℕ
raw_depth_among [] p = 0
raw_depth_among (q ∷ later) p = if same_place p q then raw_depth q later else raw_depth_among later p

-- the greatest raw depth of some places, 0 where there are none
abbrev pub greatest_raw_depth : List LongExtent → ℕ
greatest_raw_depth [] = 0
greatest_raw_depth (p ∷ later) = max (raw_depth p later) (greatest_raw_depth later)

-- the greatest depth of some spans of several lines
abbrev pub greatest_depth : List LongExtent → ℕ
greatest_depth ps = greatest_raw_depth (places_of ps)

-- the depth of a span of several lines at one of the places of these: the places that are deepest come first
abbrev pub depth_among : List LongExtent → LongExtent → ℕ
depth_among ps p = greatest_depth ps - raw_depth_among (places_of ps) p + 1
