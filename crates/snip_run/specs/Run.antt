-- How a run ends, and what it writes.
use Rattle.std.specs.Prelude.{◌≡◌, ℕ, ◌⊎◌, List, ◌++◌, Option, IsSomeAnd, IfSome, All, alloc_error, codes}
use Rattle.annotate_snippets.specs.Fits.{TextFits}
use Rattle.annotate_snippets.specs.Refusal.{refusal_text}
use Rattle.annotate_snippets.specs.declared.renderer.RenderError.{RenderError}
use Rattle.annotate_snippets.specs.declared.renderer.RenderError.TheVariants.{Memory}
use Rattle.program.specs.Ending.{End, printing, telling}
use Rattle.program.specs.Message.{cannot}
use Rattle.program.specs.Source.{IsSource}
use Rattle.program.specs.Stream.{Whole, CutShort}
use Rattle.snip_run.specs.Report.{RefusesCommand, ShowsCommand}
use Rattle.snip_run.specs.Arguments.{Argument, IsCommandLine, IsCommandOf}
use Rattle.snip_run.specs.declared.arguments.SnipCommand.{SnipCommand}
use Rattle.snip_run.specs.declared.run.SnipFailure.{SnipFailure}
use Rattle.snip_run.specs.declared.run.SnipFailure.TheVariants.{Unreadable, Refused}

-- FILE holds a source, and each argument can be shown
pub record IsReadable (args : List Argument) (file : Option (List ℕ)) : Type 0 where
  pub text : IsSomeAnd file IsSource
  pub arguments_fit : All TextFits args

-- a text shows the command's report over what FILE holds
pub record ShowsFile (args : List Argument) (file : Option (List ℕ)) (command : SnipCommand) (text : List ℕ) : Type 0 where
  pub readable : IsReadable args file
  pub shows : IfSome file (λ source. ShowsCommand command source text)

-- the command's report over what FILE holds is refused for this reason
pub record RefusesFile (args : List Argument) (file : Option (List ℕ)) (command : SnipCommand) (refusal : RenderError) : Type 0 where
  pub readable : IsReadable args file
  pub refused : IfSome file (λ source. RefusesCommand command source refusal)

-- a command gives no report, for this reason: FILE or an argument can't be shown; or its report is refused, or memory was
abbrev pub SnipFails : List Argument → Option (List ℕ) → SnipCommand → SnipFailure → Type 0
SnipFails args file command Unreadable = IsReadable args file → ⊥
SnipFails args file command (Refused refusal) = (refusal ≡ Memory alloc_error) ⊎ RefusesFile args file command refusal

-- how the arguments are to be written
abbrev pub snip_usage : List ℕ
snip_usage = codes "usage: snip [--unicode] [--text] [--short] [--styled] [--width N] FILE START END TITLE [LABEL]"

-- what is told where FILE of this name gives no report
abbrev pub snip_message : Argument → SnipFailure → List ℕ
snip_message name Unreadable = cannot (codes "snip") (codes "read") name
snip_message name (Refused refusal) = codes "snip: " ++ refusal_text refusal

-- the ways in which a run ends: its text is printed; or that couldn't be written; or FILE of this name gives no report; or the arguments
-- aren't of the form
pub data SnipWay : Type 0 where
  Printed : (text : List ℕ) → SnipWay
  Unprinted : (text : List ℕ) → SnipWay
  Failed : (name : Argument) (failure : SnipFailure) → SnipWay
  BadUsage : SnipWay

-- whether a run of these arguments over what FILE holds may end so
abbrev pub MaySnip : List Argument → Option (List ℕ) → SnipWay → Type 0
MaySnip args file (Printed text) = (command : SnipCommand) × IsCommandOf args command × ShowsFile args file command text
MaySnip args file (Unprinted text) = (command : SnipCommand) × IsCommandOf args command × ShowsFile args file command text
MaySnip args file (Failed name failure) =
    (command : SnipCommand) × IsCommandOf args command × (command.file.now ≡ name) × SnipFails args file command failure
MaySnip args file BadUsage = IsCommandLine args → ⊥

-- the end that it is then
abbrev pub snip_end : SnipWay → End
snip_end (Printed text) = printing (Whole text) 0
snip_end (Unprinted text) = printing (CutShort text) 1
snip_end (Failed name failure) = telling (snip_message name failure) 1
snip_end BadUsage = telling snip_usage 2
