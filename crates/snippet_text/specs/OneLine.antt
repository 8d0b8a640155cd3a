-- Texts of one line.
use Rattle.std.specs.Prelude.{◌≢◌, ℕ, List, All}

-- the text holds no line feed
abbrev pub IsOneLine : List ℕ → Type 0
IsOneLine text = All (λ b. b ≢ 10) text
