-- How far texts go: the one limit of the library, and what follows from it for places in a text.
use Rattle.std.specs.Prelude.{ℕ, ◌^◌, ◌<◌, ◌≤◌, List, length}

-- a text fits: it has fewer than 2^56 bytes
abbrev pub TextFits : List ℕ → Type 0
TextFits text = length text < 2 ^ 56

-- a number of bytes or characters of a text that fits, or of fewer
abbrev pub IsOffset : ℕ → Type 0
IsOffset n = n ≤ 2 ^ 56

-- a place of a byte or character before the end of the longest text that fits
abbrev pub IsInText : ℕ → Type 0
IsInText n = n < 2 ^ 56
