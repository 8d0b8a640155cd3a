-- The place that a line of a compiler begins with, and what it says of it.
use Rattle.std.specs.Prelude.{ℕ, ◌==◌, ◌||◌, ◌&&◌, Bool, false, not, List, [], ◌∷◌, Option, Some, None, codes, option_and_then, option_map}
use Rattle.std.specs.Prelude.{if◌then◌else◌}
use Rattle.std.specs.Borrow.{Bor}
use Rattle.std.specs.Char.{is_ascii_alphabetic}
use Rattle.std.specs.Option.{option_or}
use Rattle.json_lines.specs.Field.{lent_text}
use Rattle.redraw_tools.specs.Cut.{Parts, after, before, number_of, parted, parted_last}
use Rattle.redraw_tools.specs.declared.heading.Heading.{Heading}
use Rattle.redraw_tools.specs.declared.heading.Named as declared

-- what a line says: the letter of a drive, the file after it, the line, the column, and the text
pub record Line : Type 0 where
  pub drive : Option (List ℕ)
  pub file : List ℕ
  pub line : ℕ
  pub column : Option ℕ
  pub text : List ℕ

abbrev pub line_view : Heading → Line
line_view h = record { drive = lent_text h.drive; file = h.file.now; line = h.line; column = h.column; text = h.text.now }

-- the letter of a drive, the file up to a colon, and what comes after that
pub record Named : Type 0 where
  pub drive : Option (List ℕ)
  pub file : List ℕ
  pub rest : List ℕ

abbrev pub named_view : declared.Named → Named
named_view n = record { drive = lent_text n.drive; file = n.file.now; rest = n.rest.now }

-- whether a letter before a colon and what comes after that begin a path on a drive: `C:\` or `C:/`
abbrev pub is_drive : List ℕ → List ℕ → Bool
is_drive (letter ∷ []) (b ∷ bs) = (b == 92 || b == 47) && is_ascii_alphabetic letter
is_drive letters rest = false

-- a line is `FILE:REST` or `DRIVE:FILE:REST`, where FILE has no colon
abbrev pub named_by : Parts → Option Named
named_by p =
    if is_drive p.0 p.1
    then option_map (λ (q : Parts). record { drive = Some p.0; file = q.0; rest = q.1 }) (parted (codes ":") p.1)
    else Some record { drive = None; file = p.0; rest = p.1 }

abbrev pub named_in : List ℕ → Option Named
named_in line = option_and_then named_by (parted (codes ":") line)

-- whether a text begins with something that is no blank
abbrev pub is_text : List ℕ → Bool
is_text [] = false
is_text (b ∷ bs) = not (b == 32 || b == 9)

-- ` TEXT`
abbrev pub if_text : List ℕ → Option (List ℕ)
if_text text = if is_text text then Some text else None

abbrev pub text_after : List ℕ → Option (List ℕ)
text_after rest = option_and_then if_text (after (codes " ") rest)

-- a column, if there is one, and the text after it
abbrev pub Column : Type 0
Column = Option ℕ × List ℕ

abbrev pub column_view : Option ℕ × Bor (List ℕ) → Column
column_view c = (c.0, c.1.now)

abbrev pub column_by : Option ℕ → Option (List ℕ) → Option Column
column_by (Some column) (Some text) = Some (Some column, text)
column_by (Some column) None = None
column_by None text = None

-- ` TEXT` or `COLUMN: TEXT`
abbrev pub column_in : List ℕ → Option Column
column_in rest =
    option_or (option_map (λ text. (None, text)) (text_after rest))
    (option_and_then (λ (p : Parts). column_by (number_of p.0) (text_after p.1)) (parted (codes ":") rest))

-- what is said at a line and a column
abbrev pub line_at : Named → List ℕ → ℕ → Column → Line
line_at n file line c = record { drive = n.drive; file = file; line = line; column = c.0; text = c.1 }

abbrev pub lined : Named → List ℕ → Option ℕ → Option Column → Option Line
lined n file (Some line) (Some c) = Some (line_at n file line c)
lined n file (Some line) None = None
lined n file None c = None

-- `FILE:LINE: TEXT` or `FILE:LINE:COLUMN: TEXT`
abbrev pub after_colons : Named → Option Line
after_colons n = option_and_then (λ (p : Parts). lined n n.file (number_of p.0) (column_in p.1)) (parted (codes ":") n.rest)

-- a line and a column, if there is one
abbrev pub Numbers : Type 0
Numbers = ℕ × Option ℕ

abbrev pub numbers_by : Option ℕ → Option ℕ → Option Numbers
numbers_by (Some line) (Some column) = Some (line, Some column)
numbers_by (Some line) None = None
numbers_by None column = None

abbrev pub numbers_of : List ℕ → Option Parts → Option Numbers
numbers_of inner (Some p) = numbers_by (number_of p.0) (number_of p.1)
numbers_of inner None = option_map (λ line. (line, None)) (number_of inner)

-- `LINE` or `LINE,COLUMN`
abbrev pub numbers_in : List ℕ → Option Numbers
numbers_in inner = numbers_of inner (parted (codes ",") inner)

-- what stands before a bracket that isn't closed but at the end, and in it
abbrev pub bracketed : List ℕ → Option Parts
bracketed name = option_and_then (parted_last (codes "(")) (before (codes ")") name)

abbrev pub in_bracket : Named → List ℕ → Parts → Option Line
in_bracket n text p = option_map (λ (l : Numbers). line_at n p.0 l.0 (l.1, text)) (numbers_in p.1)

abbrev pub bracketed_by : Named → List ℕ → Option Line
bracketed_by n text = option_and_then (in_bracket n text) (bracketed n.file)

-- `FILE(LINE): TEXT` or `FILE(LINE,COLUMN): TEXT`
abbrev pub in_brackets : Named → Option Line
in_brackets n = option_and_then (bracketed_by n) (text_after n.rest)

-- what a line says of the place that it begins with, if it does
abbrev pub heading_by : Named → Option Line
heading_by n = option_or (in_brackets n) (after_colons n)

abbrev pub heading_of : List ℕ → Option Line
heading_of line = option_and_then heading_by (named_in line)
