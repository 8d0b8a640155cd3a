-- What stands in one place of a page.
use Rattle.std.specs.Prelude.{◌+◌, ◌-◌, ℕ, Bool, true, false, List, ◌++◌, length, map, take, drop, replicate, Option, None, encode_utf8_all}
use Rattle.snippet_style.specs.declared.role.ElementStyle.{ElementStyle}
use Rattle.snippet_style.specs.declared.role.ElementStyle.TheVariants.{NoStyle, Quotation}

-- one cell of the grid: a character, what it is part of, and the URL of the linked text that it belongs to, if any
pub record Cell : Type 0 where
  pub ch : ℕ
  pub role : ElementStyle
  pub link : Option (List ℕ)

-- the cell that fills a row up
abbrev pub SPACE : Cell
SPACE = record { ch = 32; role = NoStyle; link = None }

-- the cell of this character in this role, with no link
abbrev pub unlinked_cell : ElementStyle → ℕ → Cell
unlinked_cell role ch = record { ch = ch; role = role; link = None }

-- the cells of these characters in this role, one for each, with no link
abbrev pub text_cells : ElementStyle → List ℕ → List Cell
text_cells role chars = map (λ ch. unlinked_cell role ch) chars

-- the list with these elements from `at` on; a shorter list is first filled up to there with the blank
unfoldable pub written : {X : Type 0} → X → List X → ℕ → List X → List X
written blank xs at new = take at (xs ++ replicate (at - length xs) blank) ++ new ++ drop (at + length new) xs

-- whether a cell of this role may be given another one where overwriting is not allowed: a space between other parts, or
-- part of a line of the source
abbrev pub gives_way : ElementStyle → Bool
gives_way NoStyle = true
gives_way Quotation = true
gives_way other = false

-- how many bytes characters take
abbrev pub bytes_of : List ℕ → ℕ
bytes_of cs = length (encode_utf8_all cs)
