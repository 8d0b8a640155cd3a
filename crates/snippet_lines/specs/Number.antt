-- Line numbers, as the gutter shows them.
use Rattle.std.specs.Prelude.{ℕ, ◌-◌, List, ◌++◌, codes, length, replicate}
use Rattle.std.specs.Fmt.{decimal}
use Rattle.snippet_lines.specs.declared.number.LineNumbers.{LineNumbers}
use Rattle.snippet_lines.specs.declared.number.LineNumbers.TheVariants.{Shown, Anonymized, Hidden}

-- these digits at the right end of a field of this width, filled up with spaces
abbrev pub set_right : ℕ → List ℕ → List ℕ
set_right width digits = replicate (width - length digits) 32 ++ digits

-- what stands in the gutter beside a line: its number, `LL` in its place, or spaces
abbrev pub shown_number : LineNumbers → ℕ → ℕ → List ℕ
shown_number Shown gutter number = set_right gutter (decimal number)
shown_number Anonymized gutter number = set_right gutter (codes "LL")
shown_number Hidden gutter number = replicate gutter 32

-- the cells that the gutter needs, where this is the greatest number
abbrev pub number_width : LineNumbers → ℕ → ℕ
number_width Shown number = length (decimal number)
number_width Anonymized number = 2
number_width Hidden number = 0
