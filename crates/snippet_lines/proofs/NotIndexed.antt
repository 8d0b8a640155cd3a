-- Tables of starts that aren't those of a source.
use Rattle.snippet_lines.proofs.Common.{◌≡◌, ◌≢◌, ℕ, List, [], ◌∷◌, arith, codes, line_starts}

-- a table with a line too few: of two lines it has the first alone
pub line_too_few : (starts : List ℕ) → starts ≡ line_starts (codes "a\nb") → starts ≢ 0 ∷ []
line_too_few starts is few = grind arith

-- an index of another text, whose first line is longer
pub index_of_another_text : (starts : List ℕ) → starts ≡ line_starts (codes "a\nb") → starts ≢ line_starts (codes "ab\nc")
index_of_another_text starts is other = grind arith
