-- Arguments that can't be read, and arguments that can.
use Rattle.std.proofs.Common.{◌≡◌, true, List, inl, map}
use Rattle.std.specs.Prelude.{Err, IfOk, IsErrAnd, Ok, Result}
use Rattle.std.specs.Borrow.{Bor}
use Rattle.clap.proofs.WalkLemmas.{both}
use Rattle.clap.specs.Faults.{is_simple_and_free}
use Rattle.clap.specs.Kinds.{FailsBy, Kinds}
use Rattle.clap.specs.Simple.{App, HasMatchesOf, matches_of}
use Rattle.clap.specs.Words.{found_of, kind_of, rows_of}
use Rattle.clap.specs.declared.error.Error.{Error}
use Rattle.clap.specs.declared.error.kind.ErrorKind.TheVariants.{OutOfMemory}
use Rattle.clap.specs.declared.parser.matches.ArgMatches.{ArgMatches}
use Rattle.redraw_command.specs.Arguments.{Argument}

-- it fails for want of memory
pub fails_for_memory : {T : Type 0} (r : Result T Error) (kinds : Kinds) → IsErrAnd r (λ e. kind_of e ≡ OutOfMemory) → FailsBy kinds r
fails_for_memory (Ok m) kinds h = absurd h
fails_for_memory (Err e) kinds h = inl h

-- nothing is said of what isn't there then
pub none_matched : {T E : Type 0} (P : T → Type 0) (Q : E → Type 0) (r : Result T E) → IsErrAnd r Q → IfOk r P
none_matched P Q (Ok m) h = absurd h
none_matched P Q (Err e) h = tt

-- arguments that are lent, wherever they stand
abbrev pub lent_arguments : List Argument → Bor (List (Bor Argument))
lent_arguments args = record { ref_ptr = (0, 0); now = map (λ (w : Argument). record { ref_ptr = (0, 0); now = w }) args }

-- what is found in the arguments of a simple command
pub matched_rows : (app : App) (args : List Argument) (r : Result ArgMatches Error) → is_simple_and_free app ≡ true → IfOk r (HasMatchesOf app args)
    → IfOk r (λ m. rows_of (found_of m) ≡ matches_of app args)
matched_rows app args (Ok m) simple h = (h (both _ _ simple).0).0
matched_rows app args (Err e) simple h = tt
