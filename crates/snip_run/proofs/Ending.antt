-- How a run ends.
use Rattle.std.proofs.Common.{◌≡◌, ◌⊎◌, List, Option, Some, None, ℕ, Bor, IsSomeAnd, IfSome, IsNone, MatchOption, SomeIff, alloc_error}
use Rattle.std.proofs.Common.{codes, inl, inr, refl, subst}
use Rattle.std.specs.Option.{option_copied}
use Rattle.annotate_snippets.specs.declared.renderer.RenderError.{RenderError}
use Rattle.annotate_snippets.specs.declared.renderer.RenderError.TheVariants.{Memory}
use Rattle.program.specs.Ending.{Ends}
use Rattle.program.specs.Source.{IsSource}
use Rattle.program.specs.Stream.{Output, Silent, Whole, CutShort, Told}
use Rattle.snip_run.specs.declared.arguments.SnipCommand.{SnipCommand}
use Rattle.snip_run.specs.declared.run.SnipFailure.{SnipFailure}
use Rattle.snip_run.specs.declared.run.SnipFailure.TheVariants.{Refused}
use Rattle.snip_run.specs.Report.{RefusesCommand}
use Rattle.snip_run.specs.Run.{BadUsage, Failed, IsReadable, MaySnip, Printed, ShowsFile, SnipFails, Unprinted, snip_end, snip_message, snip_usage}
use Rattle.snip_run.specs.Arguments.{AreLine, CommandLine, Argument, IsCommandLine, IsCommandOf}

-- where FILE gives no text to be shown, it holds none
pub no_text : (file : Option (List ℕ)) (given : Option (Bor (List ℕ)))
    → MatchOption file (IsNone given) (λ bytes. SomeIff (option_copied given) (IsSource bytes) bytes)
    → given ≡ None → IsSomeAnd file IsSource → ⊥
no_text None given value none shown = absurd shown
no_text (Some bytes) None value none shown = value shown
no_text (Some bytes) (Some source) value none shown = cc

-- where it gives one, it holds that one
pub some_text : (file : Option (List ℕ)) (source : Bor (List ℕ))
    → MatchOption file (IsNone (Some source)) (λ bytes. SomeIff (option_copied (Some source)) (IsSource bytes) bytes) → IsSomeAnd file IsSource
some_text None source value = cc
some_text (Some bytes) source value = value.0

-- what holds of that one holds of what FILE holds
pub of_text : (P : List ℕ → Type 0) (file : Option (List ℕ)) (source : Bor (List ℕ))
    → MatchOption file (IsNone (Some source)) (λ bytes. SomeIff (option_copied (Some source)) (IsSource bytes) bytes)
    → P source.now → IfSome file P
of_text P None source value holds = tt
of_text P (Some bytes) source value holds = subst P value.1 holds

-- a report of that one that is refused is one of what FILE holds
pub refused_file : (args : List Argument) (file : Option (List ℕ)) (command : SnipCommand) (source : Bor (List ℕ)) (refusal : RenderError)
    → IsReadable args file → MatchOption file (IsNone (Some source)) (λ bytes. SomeIff (option_copied (Some source)) (IsSource bytes) bytes)
    → (refusal ≡ Memory alloc_error) ⊎ RefusesCommand command source.now refusal → SnipFails args file command (Refused refusal)
refused_file args file command source refusal readable value (inl want) = inl want
refused_file args file command source refusal readable value (inr refused) =
    inr record { readable = readable; refused = of_text (λ s. RefusesCommand command s refusal) file source value refused }

-- a run that tells why there is no report, or that there was no memory for that
pub ends_failed : (args : List Argument) (file : Option (List ℕ)) (command : SnipCommand) (failure : SnipFailure) (Out Err : Output → Type 0)
    → IsCommandOf args command → SnipFails args file command failure → Out Silent
    → Err (Told (snip_message command.file.now failure)) ⊎ Err (Told (codes "snip: out of memory")) → Ends (MaySnip args file) snip_end 1 Out Err
ends_failed args file command failure Out Err of fails silent (inl told) =
    record {
      way = Failed command.file.now failure;
      may = (command, of, refl, fails);
      status_is = refl;
      out = silent;
      err = told;
    }
ends_failed args file command failure Out Err of fails silent (inr told) =
    record {
      way = Failed command.file.now (Refused (Memory alloc_error));
      may = (command, of, refl, inl refl);
      status_is = refl;
      out = silent;
      err = told;
    }

-- a run whose report is printed, and one whose report couldn't be
pub ends_printed : (args : List Argument) (file : Option (List ℕ)) (command : SnipCommand) (text : List ℕ) (Out Err : Output → Type 0)
    → IsCommandOf args command → ShowsFile args file command text → Out (Whole text) → Err Silent → Ends (MaySnip args file) snip_end 0 Out Err
ends_printed args file command text Out Err of shows out err =
    record { way = Printed text; may = (command, of, shows); status_is = refl; out = out; err = err }

pub ends_unprinted : (args : List Argument) (file : Option (List ℕ)) (command : SnipCommand) (text : List ℕ) (Out Err : Output → Type 0)
    → IsCommandOf args command → ShowsFile args file command text → Out (CutShort text) → Err Silent → Ends (MaySnip args file) snip_end 1 Out Err
ends_unprinted args file command text Out Err of shows out err =
    record { way = Unprinted text; may = (command, of, shows); status_is = refl; out = out; err = err }

-- a run for arguments that aren't of the form
pub ends_bad_usage : (args : List Argument) (file : Option (List ℕ)) (Out Err : Output → Type 0) → (IsCommandLine args → ⊥) → Out Silent → Err (Told snip_usage)
    → Ends (MaySnip args file) snip_end 2 Out Err
ends_bad_usage args file Out Err none out err = record { way = BadUsage; may = none; status_is = refl; out = out; err = err }

-- arguments that no line is are of no form
pub no_command : (args : List Argument) → ((line : CommandLine) → AreLine args line → ⊥) → IsCommandLine args → ⊥
no_command args none is = none is.0 is.1
