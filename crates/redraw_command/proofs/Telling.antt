-- What is told.
use Rattle.std.proofs.Common.{◌≡◌, ℕ, List, codes, inl, inr, refl, subst}
use Rattle.output_stream.specs.Standing.{Gets, Standing}
use Rattle.program.specs.Stream.{ended_line}
use Rattle.redraw_command.specs.Told.{IsMessage, Tells, TellsMemory, TellsOfArguments, normalized_text}

-- a line that is given is told
pub tells_line : (old new : Standing) (text line : List ℕ) → text ≡ line → IsMessage line → Gets old new (ended_line text) → Tells old new
tells_line old new text line is message given =
    record { line = line; message = message; given = subst (λ (l : List ℕ). Gets old new (ended_line l)) is given }

-- so is the message that there was no memory for another
pub tells_memory : (old new : Standing) → TellsMemory old new → Tells old new
tells_memory old new given = record { line = codes "redraw: out of memory"; message = inr refl; given = given }

-- a text that is given tells what is wrong with arguments
pub tells_text : (old new : Standing) (text said : List ℕ) → text ≡ normalized_text said → Gets old new (ended_line text) → TellsOfArguments old new
tells_text old new text said is given = inl (said, subst (λ (l : List ℕ). Gets old new (ended_line l)) is given)
