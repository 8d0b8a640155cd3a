-- What is told on standard error.
use Rattle.std.specs.Prelude.{◌≡◌, ℕ, ◌⊎◌, List, ◌++◌, codes}
use Rattle.output_stream.specs.Standing.{Gets, Standing}
use Rattle.program.specs.Stream.{ended_line}
pub use Rattle.program.specs.Message.{message_text, normalized_text}
use Rattle.redraw_command.specs.Unheeded.{apart}

-- what is told where this is said: the program's name, and that on one line as it may be shown, without the start of a command of GitHub
abbrev pub told_line : List ℕ → List ℕ
told_line said = codes "redraw: " ++ apart (message_text said)

-- a line that is told: a message, or that there was no memory for one
abbrev pub IsMessage : List ℕ → Type 0
IsMessage line = ((said : List ℕ) × (line ≡ told_line said)) ⊎ (line ≡ codes "redraw: out of memory")

-- one message is told, and nothing else: all of it and a line feed, or, only where a write failed, a first part
pub record Tells (old new : Standing) : Type 0 where
  pub line : List ℕ
  pub message : IsMessage line
  pub given : Gets old new (ended_line line)

-- that there is no memory to tell more is told, and nothing else
abbrev pub TellsMemory : Standing → Standing → Type 0
TellsMemory old new = Gets old new (ended_line (codes "redraw: out of memory"))

-- one text is told of wrong arguments, as it may be shown, or that there was no memory for it; and nothing else
abbrev pub TellsOfArguments : Standing → Standing → Type 0
TellsOfArguments old new = ((text : List ℕ) × Gets old new (ended_line (normalized_text text))) ⊎ TellsMemory old new
