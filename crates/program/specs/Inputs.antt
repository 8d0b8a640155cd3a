-- Inputs: standard input and files, each by the argument that names it.
use Rattle.std.specs.Prelude.{◌≡◌, ◌⊎◌, ℕ, List, Option, codes, if◌then◌else◌, bytes_eq}
use Rattle.std.proofs.Common.{inl, inr}
use Rattle.std.specs.Io.Buffered.{reader_inner}
use Rattle.std.specs.declared.io.buffered.BufReader.{BufReader}
use Rattle.either.specs.declared.Either.{Either}
use Rattle.either.specs.declared.Either.TheVariants.{Left, Right}
use Rattle.program.specs.Arguments.{Argument}

-- the argument that names standard input
abbrev pub hyphen : Argument
hyphen = codes "-"

-- what an argument names: standard input where it is a hyphen, and a file where it isn't
abbrev pub IsNamed : {File Standard : Type 0} → Argument → File ⊎ Standard → Type 0
IsNamed argument (inl file) = argument ≡ hyphen → ⊥
IsNamed argument (inr standard) = argument ≡ hyphen

-- what a file or standard input holds, where that is known
abbrev pub held_by : {File Standard : Type 0} → (File → Option (List ℕ)) → (Standard → Option (List ℕ)) → File ⊎ Standard → Option (List ℕ)
held_by file standard (inl source) = file source
held_by file standard (inr source) = standard source

-- the file or standard input that was opened
abbrev pub opened_source : {File Standard : Type 0} → Either File Standard → File ⊎ Standard
opened_source (Left file) = inl file
opened_source (Right standard) = inr standard

-- what a reader of it reads
abbrev pub source_in : {File Standard A : Type 0} → BufReader (Either File Standard) A → File ⊎ Standard
source_in reader = opened_source (reader_inner reader)

-- how an input is called where something is told of it
abbrev pub input_name : Argument → Argument
input_name argument = if bytes_eq argument hyphen then codes "standard input" else argument
