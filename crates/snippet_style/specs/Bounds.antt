-- How large the numbers are that rows are drawn with. Sums of a few of them stay below 2^64.
use Rattle.std.specs.Prelude.{ℕ, ◌+◌, ◌-◌, ◌^◌, ◌<◌, ◌≤◌, List, length}

-- ---- columns of a line

-- a column at which something stands in a source that fits: a byte takes four columns at most
abbrev pub IsSourceColumn : ℕ → Type 0
IsSourceColumn n = n < 2 ^ 58

-- a column at which something may end in a source that fits
abbrev pub IsSourceEnd : ℕ → Type 0
IsSourceEnd n = n ≤ 2 ^ 58

-- the columns, or the characters, of a text that fits as it is shown, with some more beside it
abbrev pub IsTextWidth : ℕ → Type 0
IsTextWidth n = n < 2 ^ 59

-- the column that no mark reaches
abbrev pub max_column : ℕ
max_column = 2 ^ 60

-- a column of a row, or the place of a character in it
abbrev pub IsColumn : ℕ → Type 0
IsColumn n = n < max_column

-- characters that fit into a row
abbrev pub FitsRow : List ℕ → Type 0
FitsRow chs = length chs < 2 ^ 60

-- a column in the window of a line, with the placeholders at its ends
abbrev pub IsWindowColumn : ℕ → Type 0
IsWindowColumn n = n < 2 ^ 61

-- a number of cells that the window of a line takes
abbrev pub IsWindowEnd : ℕ → Type 0
IsWindowEnd n = n < 2 ^ 61 + 4

-- ---- cells and rows

-- the number of a row
abbrev pub IsRowNumber : ℕ → Type 0
IsRowNumber n = n < 2 ^ 60

-- a number of rows
abbrev pub AreRows : ℕ → Type 0
AreRows n = n ≤ 2 ^ 60

-- a number of cells that may be added to any cell at which code stands
abbrev pub IsAddable : ℕ → Type 0
IsAddable n = n < 2 ^ 62

-- a number of bars that stand side by side
abbrev pub IsDepth : ℕ → Type 0
IsDepth n = n < 2 ^ 63 + 2 ^ 31

-- the cell left of which code begins
abbrev pub code_limit : ℕ
code_limit = 2 ^ 63 + 2 ^ 32

-- a cell at which code may begin: right of the deepest bar
abbrev pub IsCodeCell : ℕ → Type 0
IsCodeCell n = n < code_limit

-- a number of cells that a row of code takes
abbrev pub IsRowEnd : ℕ → Type 0
IsRowEnd n = n < 2 ^ 63 + 2 ^ 62

-- ---- what the machine counts

-- how many things a list in memory holds, or a place among them
abbrev pub IsCount : ℕ → Type 0
IsCount n = n < 2 ^ 63

-- the greatest number of 64 bits
abbrev pub max_usize : ℕ
max_usize = 2 ^ 64 - 1

-- a number of 64 bits
abbrev pub IsUsize : ℕ → Type 0
IsUsize n = n < 2 ^ 64

-- a number of 64 bits that has a next one
abbrev pub HasNext : ℕ → Type 0
HasNext n = n + 1 < 2 ^ 64
