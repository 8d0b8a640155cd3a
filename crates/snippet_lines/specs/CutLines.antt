-- That a text is cut into its lines: each ends where the first line feed of it stands, the last where the text does.
use Rattle.std.specs.Prelude.{◌≡◌, ◌≢◌, ℕ, ◌-◌, ◌<◌, ◌⊎◌, List, [], ◌∷◌, All, length}
use Rattle.std.specs.Prelude.{take}
use Rattle.snippet_lines.specs.declared.lines.EndLine.TheVariants.{Eof, Lf}
use Rattle.snippet_lines.specs.Lines.{Line, joined, last_byte}

-- some bytes are one line at most, its end counted: no byte but the last is an LF
abbrev pub IsLineWithEnd : List ℕ → Type 0
IsLineWithEnd bytes = All (λ b. b ≢ 10) (take (length bytes - 1) bytes)

-- what one line may hold: no LF in its text, and no CR before an LF alone, since CR LF is one line end
pub record IsLine (l : Line) : Type 0 where
  pub no_lf : All (λ b. b ≢ 10) l.0
  pub no_cr : l.1 ≡ Lf → last_byte l.0 ≢ 13

-- what some lines may hold: each is a line, and only the last may have no end, if it has a text
abbrev pub AreLines : List Line → Type 0
AreLines [] = Unit {0}
AreLines (l ∷ ls) = IsLine l × (l.1 ≡ Eof → (0 < length l.0) × (ls ≡ [])) × AreLines ls

-- these lines are the cut of a text: joined they are the text. An empty text has none.
pub record IsCutOf (text : List ℕ) (ls : List Line) : Type 0 where
  pub whole : joined ls ≡ text
  pub lines : AreLines ls

-- these lines are the lines of a source: its cut, but an empty source has one empty line
pub record AreLinesOf (source : List ℕ) (ls : List Line) : Type 0 where
  pub whole : joined ls ≡ source
  pub lines : (ls ≡ ([], Eof) ∷ []) ⊎ ((0 < length ls) × AreLines ls)
