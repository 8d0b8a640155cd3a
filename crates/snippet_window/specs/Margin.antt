-- The bounds between which a snippet's lines are shown.
use Rattle.std.specs.Prelude.{ℕ, ◌+◌, ◌-◌, ◌*◌, ◌/◌, ◌&&◌, nat_le, nat_lt, min, max, if◌then◌else◌}
use Rattle.snippet_style.specs.Bounds.{max_usize}
use Rattle.snippet_window.specs.declared.margin.Margin.{Margin}

-- a sum, which stops at the greatest number that there is
abbrev pub capped_sum : ℕ → ℕ → ℕ
capped_sum a b = min (a + b) max_usize

-- how far the lines of a snippet reach, in columns
pub record Reach : Type 0 where
  -- the width of the whitespace that all of them begin with, and that of the widest line
  pub whitespace : ℕ
  pub widest : ℕ
  -- the least and the greatest column of its spans, and the greatest one after a label
  pub first : ℕ
  pub last : ℕ
  pub label_end : ℕ

-- the margin of a snippet that reaches so far, between the bounds of which its lines are shown, in a room of so many columns. Six columns
-- stay free around the spans and after the labels, for the placeholders.
-- Of whitespace that is wider than 20 columns, less those six, all but 16 is cut. If a line then still reaches past the
-- room, the room begins, with the first of these that brings all of it inside, where the whitespace ends; or farther right,
-- with spans and labels in the middle; or with the spans so that two fifths of what is left stand before them. If nothing
-- does, the spans alone are shown
abbrev pub margin_bounds : ℕ → Reach → Margin
margin_bounds room reach =
    let blank = min reach.whitespace reach.first - 6 in
    let from = reach.first - 6 in
    let to = capped_sum reach.last 6 in
    let after = capped_sum reach.label_end 6 in
    let left = if nat_lt 20 blank then blank - 16 else 0 in
    let right = max reach.widest left in
    let between : ℕ → ℕ → Margin = λ start end. record { computed_left = start; computed_right = end; term_width = room } in
    let room_from : ℕ → Margin = λ start. between start (capped_sum start room) in
    if nat_le (right - left) room then between left right
    else if nat_le (after - blank) room && nat_le blank after then room_from blank
    else if nat_le (after - from) room then room_from (from - (room - (after - from)) / 2)
    else if nat_le (to - from) room then room_from (from - (room - (to - from)) / 5 * 2)
    else between from to
