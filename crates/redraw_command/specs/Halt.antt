-- Why no more is read.
use Rattle.redraw_command.specs.declared.stop.Stop.{Stop}
use Rattle.redraw_command.specs.declared.stop.Stop.TheVariants.{Memory, Unwritable, Unreadable, Utf16}

-- no more can be read, or there is no memory for it
abbrev pub IsHalt : Stop → Type 0
IsHalt Memory = Unit {0}
IsHalt (Unwritable error) = ⊥
IsHalt (Unreadable error) = Unit {0}
IsHalt Utf16 = ⊥
