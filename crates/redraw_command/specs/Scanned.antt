-- What a look for the end of a document finds.
use Rattle.std.specs.Prelude.{ℕ, ◌≤◌}
use Rattle.redraw_command.specs.declared.scanner.Scan.{Scan}
use Rattle.redraw_command.specs.declared.scanner.Scan.TheVariants.{More, Ends, Fails}

-- an end that is found lies within so many bytes
abbrev pub IsWithin : ℕ → Scan → Type 0
IsWithin length More = Unit {0}
IsWithin length (Ends count) = count ≤ length
IsWithin length Fails = Unit {0}
