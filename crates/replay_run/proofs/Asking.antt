-- What a command's parts say of what is asked for.
use Rattle.std.proofs.Common.{◌≡◌, Bool, true, false, List, [], Option, Some, None, Bor, codes, refl}
use Rattle.std.specs.Prelude.{option_map, unwrap_or}
use Rattle.std.specs.Option.{UnwrapsOrElse}
use Rattle.clap.specs.Walk.{Row, first_of}
use Rattle.program.specs.CommandLine.{was_given}
use Rattle.replay_run.specs.Arguments.{Argument, asked, asked_to_check, asked_to_draw, files_in, arguments_at}

-- ---- files

-- a list of references or none, and the arguments that it leads to
pub arguments_or_none : (o : Option (Bor (List (Bor Argument)))) (P : Bor (List (Bor Argument)) → Type 0) (r : Bor (List (Bor Argument)))
    → ((x : Bor (List (Bor Argument))) → P x → x.now ≡ []) → UnwrapsOrElse o P r → arguments_at r.now ≡ unwrap_or (option_map (λ s. arguments_at s.now) o) []
arguments_or_none None P r none h = rw (none r h) refl
arguments_or_none (Some x) P r none h = rw h refl

-- ---- the whole

-- what is asked for with `--check`, and without
pub asked_with_check : (found : List Row) (texts keep_going : Bool) (repeat : Option Argument) (files : List Argument)
    → texts ≡ was_given (codes "text") found → keep_going ≡ was_given (codes "keep-going") found → repeat ≡ first_of (codes "repeat") found
    → files ≡ files_in found → true ≡ was_given (codes "check") found → asked_to_check texts keep_going repeat files ≡ asked found
asked_with_check found texts keep_going repeat files text keep times file checks =
    rw (text, keep, times, file, ← checks) refl

pub asked_without : (found : List Row) (texts keep_going : Bool) (repeat : Option Argument) (files : List Argument)
    → texts ≡ was_given (codes "text") found → keep_going ≡ was_given (codes "keep-going") found → repeat ≡ first_of (codes "repeat") found
    → files ≡ files_in found → false ≡ was_given (codes "check") found → asked_to_draw texts keep_going repeat files ≡ asked found
asked_without found texts keep_going repeat files text keep times file checks =
    rw (text, keep, times, file, ← checks) refl
