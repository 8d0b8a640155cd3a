-- Where lines start, as a map of a source has it.
use Rattle.std.specs.Prelude.{ℕ, List}
use Rattle.snippet_parts.specs.declared.starts.Starts.{Starts}
use Rattle.snippet_parts.specs.declared.starts.Starts.TheVariants.{Found, Lent}

-- the bytes at which lines start, found or lent
abbrev pub starts_of : Starts → List ℕ
starts_of (Found starts) = starts.items
starts_of (Lent starts) = starts.now
