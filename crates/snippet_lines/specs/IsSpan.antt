-- That two numbers are a span of a source.
use Rattle.std.specs.Prelude.{◌≡◌, ℕ, ◌+◌, ◌≤◌, ◌⊎◌, List, length}
use Rattle.std.specs.Str.{IsCharBoundary}

-- a span may start and end where a character of the source starts or ends, and one byte after the source
abbrev pub IsSpanBorder : List ℕ → ℕ → Type 0
IsSpanBorder source b = IsCharBoundary source b ⊎ (b ≡ length source + 1)

-- a span that is taken
pub record IsSpan (source : List ℕ) (start end : ℕ) : Type 0 where
  pub ordered : start ≤ end
  pub within : end ≤ length source + 1
  pub from : IsSpanBorder source start
  pub to : IsSpanBorder source end
