-- How wide the marks are that a compiler puts below a line of the source.
use Rattle.std.specs.Prelude.{ℕ, ◌+◌, ◌-◌, ◌==◌, ◌&&◌, ◌||◌, Bool, List, [], ◌∷◌, Option, Some, None, drop, length, nat_le, nat_lt, suc, take}
use Rattle.std.specs.Prelude.{if◌then◌else◌}
use Rattle.std.specs.List.{list_all}

-- whether a byte stands in a gutter before its bar: a blank, a digit, `+` or `-`
abbrev pub is_in_gutter : ℕ → Bool
is_in_gutter b = b == 32 || ((nat_le 48 b && nat_le b 57) || (b == 43 || b == 45))

-- how many bytes come up to a bar and with it, after so many; 0 where something that is in no gutter comes before
abbrev pub bar_after : ℕ → List ℕ → ℕ
bar_after count [] = 0
bar_after count (b ∷ bs) = if b == 124 then count + 1 else if is_in_gutter b then bar_after (count + 1) bs else 0

-- how many bytes a gutter has with its bar, which begins with a blank; 0 where a row has no gutter
abbrev pub gutter_length : List ℕ → ℕ
gutter_length [] = 0
gutter_length (b ∷ bs) = if b == 32 then bar_after 0 (b ∷ bs) else 0

-- whether a byte is a blank
abbrev pub is_blank : ℕ → Bool
is_blank b = b == 32

-- what stands after a gutter that has no number; the row where it has none
abbrev pub after_gutter : List ℕ → List ℕ
after_gutter row =
    if list_all is_blank (take (gutter_length row - 1) row) then drop (gutter_length row) row else row

-- a mark, and what else stands in a row of marks
abbrev pub is_mark : ℕ → Bool
is_mark b = b == 94 || b == 126

abbrev pub is_in_marks : ℕ → Bool
is_in_marks b = b == 32 || (b == 9 || (b == 94 || (b == 126 || b == 13)))

-- how many bytes come before the first caret, and how many marks some bytes begin with
abbrev pub before_caret : List ℕ → ℕ
before_caret [] = 0
before_caret (b ∷ bs) = if b == 94 then 0 else suc (before_caret bs)

abbrev pub marks_before : List ℕ → ℕ
marks_before [] = 0
marks_before (b ∷ bs) = if is_mark b then suc (marks_before bs) else 0

-- whether a row has marks alone, and a caret among them
abbrev pub are_marks : List ℕ → Bool
are_marks row = list_all is_in_marks row && nat_lt (before_caret row) (length row)

-- how many marks a row of marks has from its caret on
abbrev pub width_of : List ℕ → Option ℕ
width_of marks = if are_marks marks then Some (marks_before (drop (before_caret marks) marks)) else None

abbrev pub marked_width : List ℕ → Option ℕ
marked_width row = width_of (after_gutter row)
