-- What a file has to hold so that it is read as a source.
use Rattle.std.specs.Prelude.{ℕ, List}
use Rattle.std.specs.Str.{IsUtf8}
use Rattle.annotate_snippets.specs.Fits.{TextFits}

-- UTF-8 within the library's limit
abbrev pub IsSource : List ℕ → Type 0
IsSource bytes = IsUtf8 bytes × TextFits bytes
