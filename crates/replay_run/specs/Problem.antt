-- What stops a run, and what is told of it.
use Rattle.std.specs.Prelude.{◌≡◌, ◌⊎◌, ℕ, Bool, true, List, ◌++◌, Some, None, Result, String, IsOkAnd, codes, decimal, if◌then◌else◌}
use Rattle.std.specs.Prelude.{string_bytes}
use Rattle.std.specs.declared.alloc.Global.{Global}
use Rattle.std.specs.declared.io.Error.{Error}
pub use Rattle.program.specs.Message.{message_text, normalized_text}
use Rattle.program.specs.Stream.{Output, Told}
use Rattle.output_stream.specs.Standing.{Standing}
use Rattle.serde_json.specs.Data.{Data}
use Rattle.serde_json.specs.Read.{read}
use Rattle.replay_answer.specs.Answer.{not_json_text}
use Rattle.replay_run.specs.declared.problem.InputLine.{InputLine}
use Rattle.replay_run.specs.declared.problem.InputLine.TheVariants.{Case, Expected}
use Rattle.replay_run.specs.declared.problem.Problem.{Problem}
use Rattle.replay_run.specs.declared.problem.Problem.TheVariants.{NotText, NotJson, Wrong, Unpaired, TooManyLines, NotCases, Read, Clock, Write, Memory}
use Rattle.replay_run.specs.Arguments.{Argument}

-- a line, by its number
abbrev pub line_label : InputLine → List ℕ
line_label (Case number) = codes "line " ++ decimal number
line_label (Expected number) = codes "line " ++ (decimal number ++ codes " of what is expected")

-- what is told of a line that isn't JSON from a column on, or that ends before it is
abbrev pub json_text : InputLine → ℕ → Bool → List ℕ
json_text line column ends_early =
    line_label line ++ (codes ", column " ++ (decimal column ++ (if ends_early then codes ": not valid JSON: it ends too early" else codes ": not valid JSON")))

-- what is told where there is a case at a line or an answer, and not both
abbrev pub unpaired_text : ℕ → List ℕ
unpaired_text number =
    codes "line " ++ (decimal number ++ codes ": a case without an expected answer, or an answer without a case")

-- what is told of problem, where this is what the system says of it
abbrev pub problem_text : Problem → List ℕ → List ℕ
problem_text (NotText line) said = line_label line ++ codes ": not valid UTF-8"
problem_text (NotJson line column ends_early) said = json_text line column ends_early
problem_text (Wrong line words) said = line_label line ++ (codes ": " ++ string_bytes words)
problem_text (Unpaired number) said = unpaired_text number
problem_text TooManyLines said = codes "too many lines"
problem_text NotCases said = codes "not each line was a case"
problem_text (Read error) said = codes "cannot read: " ++ said
problem_text (Clock error) said = codes "cannot read the clock: " ++ said
problem_text (Write error) said = codes "cannot write: " ++ said
problem_text Memory said = codes "out of memory"

-- what is told where problem with what has this name stops a run
abbrev pub stop_text : Argument → Problem → List ℕ → List ℕ
stop_text name problem said = codes "replay: " ++ (name ++ (codes ": " ++ problem_text problem said))

-- that is told; or that there was no memory for it
abbrev pub TellsStop : Argument → Problem → (Output → Type 0) → Type 0
TellsStop name problem Err =
    ((said : List ℕ) × Err (Told (message_text (stop_text name problem said)))) ⊎ Err (Told (codes "replay: out of memory"))

-- that there was no memory is told
abbrev pub TellsMemory : (Output → Type 0) → Type 0
TellsMemory Err = Err (Told (codes "replay: out of memory"))

-- what is wrong with arguments is told, by a text as it may be shown; or that there was no memory for it
abbrev pub TellsUsageError : (Output → Type 0) → Type 0
TellsUsageError Err = ((text : List ℕ) × Err (Told (normalized_text text))) ⊎ TellsMemory Err

-- the problem is a write that failed, to a stream that stands so
abbrev pub IsWrite : Standing → Problem → Type 0
IsWrite stream problem = (stream.has_failed ≡ true) × (error : Error) × (problem ≡ Write error)

-- it is an input that can't be read
abbrev pub IsRead : Problem → Type 0
IsRead problem = (error : Error) × (problem ≡ Read error)

-- a line has this place and is no case: it is no text, or no JSON, or JSON that describes none; or it couldn't be read, or there was no
-- memory for that
abbrev pub IsProblemWith : {E : Type 0} → InputLine → Result (String Global) E → Problem → Type 0
IsProblemWith at line (NotText place) = place ≡ at
IsProblemWith at line (NotJson place column ends_early) = (place ≡ at) × IsOkAnd line (λ text. read (string_bytes text) ≡ None)
IsProblemWith at line (Wrong place words) =
    (place ≡ at) × IsOkAnd line (λ text. (d : Data) × (read (string_bytes text) ≡ Some d))
IsProblemWith at line (Unpaired number) = ⊥
IsProblemWith at line TooManyLines = ⊥
IsProblemWith at line NotCases = ⊥
IsProblemWith at line (Read error) = Unit {0}
IsProblemWith at line (Clock error) = ⊥
IsProblemWith at line (Write error) = ⊥
IsProblemWith at line Memory = Unit {0}

-- the problem is told by these words without the line that it is with, which isn't JSON, or JSON that describes none
abbrev pub IsFault : Problem → List ℕ → Type 0
IsFault (NotText place) told = ⊥
IsFault (NotJson place column ends_early) told = told ≡ not_json_text column ends_early
IsFault (Wrong place words) told = told ≡ string_bytes words
IsFault (Unpaired number) told = ⊥
IsFault TooManyLines told = ⊥
IsFault NotCases told = ⊥
IsFault (Read error) told = ⊥
IsFault (Clock error) told = ⊥
IsFault (Write error) told = ⊥
IsFault Memory told = ⊥

-- it isn't with what a line says: nothing is answered to a line with it
abbrev pub IsFinal : Problem → Type 0
IsFinal problem = (told : List ℕ) → IsFault problem told → ⊥

-- a value in a line that has this place describes nothing, or there was no memory to read it
abbrev pub IsMisread : InputLine → Problem → Type 0
IsMisread at (NotText place) = ⊥
IsMisread at (NotJson place column ends_early) = ⊥
IsMisread at (Wrong place words) = place ≡ at
IsMisread at (Unpaired number) = ⊥
IsMisread at TooManyLines = ⊥
IsMisread at NotCases = ⊥
IsMisread at (Read error) = ⊥
IsMisread at (Clock error) = ⊥
IsMisread at (Write error) = ⊥
IsMisread at Memory = Unit {0}
