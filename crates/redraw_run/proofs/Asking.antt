-- What a run answers, by why its arguments can't be read.
use Rattle.std.proofs.Common.{◌≡◌, ◌≢◌, ◌⊎◌, ℕ, List, Option, inl, inr, refl, subst}
use Rattle.clap.specs.Kinds.{IsAmong}
use Rattle.clap.specs.Faults.{fault_of}
use Rattle.clap.specs.Simple.{App}
use Rattle.clap.specs.declared.error.kind.ErrorKind.{ErrorKind}
use Rattle.clap.specs.declared.error.kind.ErrorKind.TheVariants.{DisplayHelp, DisplayVersion, OutOfMemory}
use Rattle.output_stream.specs.Standing.{Standing}
use Rattle.redraw_command.specs.Told.{TellsMemory, TellsOfArguments}
use Rattle.redraw_command.specs.Arguments.{AsksToShow, Argument}
use Rattle.redraw_command.specs.declared.terminal.Surroundings.{Surroundings}
use Rattle.redraw_run.specs.ReadLines.{IsTextPrinted}
use Rattle.redraw_run.specs.Run.{AnswersBy}

-- the help or the version is asked for
abbrev IsShown : ErrorKind → Type 0
IsShown kind = (kind ≡ DisplayHelp) ⊎ (kind ≡ DisplayVersion)

-- or it isn't
shown_or_not : (kind : ErrorKind) → IsShown kind ⊎ ((kind ≢ DisplayHelp) × (kind ≢ DisplayVersion))
shown_or_not DisplayHelp = inl (inl refl)
shown_or_not DisplayVersion = inl (inr refl)
shown_or_not _ = inr ((λ h. cc h), (λ h. cc h))

asks_to_show : (app : App) (args : List Argument) (kind : ErrorKind) → IsAmong kind (fault_of app args) → IsShown kind → AsksToShow app args
asks_to_show app args kind found (inl help) = inl (subst (λ (k : ErrorKind). IsAmong k (fault_of app args)) help found)
asks_to_show app args kind found (inr version) = inr (subst (λ (k : ErrorKind). IsAmong k (fault_of app args)) version found)

-- want of memory is neither
pub memory_mistake : (kind : ErrorKind) → kind ≡ OutOfMemory → (kind ≢ DisplayHelp) × (kind ≢ DisplayVersion)
memory_mistake kind memory = ((λ help. cc (memory, help)), (λ version. cc (memory, version)))

-- what becomes of a reason of this kind
pub record EndsBy (kind : ErrorKind) (old_out old_err out err : Standing) (status : ℕ) : Type 0 where
  pub usage_error : kind ≢ DisplayHelp → kind ≢ DisplayVersion → (status ≡ 2) × (out ≡ old_out)
  pub told : kind ≢ DisplayHelp → kind ≢ DisplayVersion → TellsOfArguments old_err err
  pub memory : kind ≡ OutOfMemory → TellsMemory old_err err
  pub asked : IsShown kind → err ≡ old_err
  pub printed : IsShown kind → IsTextPrinted old_out out status

by_kind : {File Standard : Type 0} (held : File ⊎ Standard → Option (List ℕ)) (app : App) (args : List Argument) (around : Surroundings) (kind : ErrorKind)
    (old_out old_err out err : Standing) (status : ℕ) → EndsBy kind old_out old_err out err status → IsAmong kind (fault_of app args)
    → IsShown kind ⊎ ((kind ≢ DisplayHelp) × (kind ≢ DisplayVersion))
    → AnswersBy held app args around old_out old_err out err status
by_kind held app args around kind old_out old_err out err status e found (inl shown) =
    inl record { asked = asks_to_show app args kind found shown; printed = e.printed shown; untold = e.asked shown }
by_kind held app args around kind old_out old_err out err status e found (inr other) =
    let ends = e.usage_error other.0 other.1 in
    inr (inl record {
      wrong = record { kind = kind; found = found; no_help = other.0; no_version = other.1 };
      unprinted = ends.1;
      told = e.told other.0 other.1;
      ends = ends.0;
    })

-- so a run answers
pub answers_error : {File Standard : Type 0} (held : File ⊎ Standard → Option (List ℕ)) (app : App) (args : List Argument) (around : Surroundings)
    (kind : ErrorKind) (old_out old_err out err : Standing) (status : ℕ) → EndsBy kind old_out old_err out err status
    → (kind ≡ OutOfMemory) ⊎ IsAmong kind (fault_of app args) → AnswersBy held app args around old_out old_err out err status
answers_error held app args around kind old_out old_err out err status e (inl memory) =
    let mistake = memory_mistake kind memory in
    let ends = e.usage_error mistake.0 mistake.1 in
    inr (inr (inr record { unprinted = ends.1; told = e.memory memory; ends = ends.0 }))
answers_error held app args around kind old_out old_err out err status e (inr found) =
    by_kind held app args around kind old_out old_err out err status e found (shown_or_not kind)
