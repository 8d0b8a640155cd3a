-- What the end of a run says of its status, of FILE and of the two streams: each of these follows from it.
use Rattle.std.proofs.Common.{◌≡◌, ◌⊎◌, ℕ, List, Option, Some, None, IsSomeAnd, IfSome, inl, inr, sym, ◌∙◌}
use Rattle.program.specs.Ending.{Ends}
use Rattle.program.specs.Source.{IsSource}
use Rattle.program.specs.Stream.{Output, Silent, Whole}
use Rattle.snip_run.specs.declared.arguments.SnipCommand.{SnipCommand}
use Rattle.snip_run.specs.Report.{ShowsCommand}
use Rattle.snip_run.specs.Run.{BadUsage, Failed, MaySnip, Printed, SnipWay, Unprinted, snip_end}
use Rattle.snip_run.specs.Arguments.{Argument, IsCommandOf}

-- what holds of a text that FILE may hold tells more of it
if_some : (file : Option (List ℕ)) (P Q : List ℕ → Type 0) → ((source : List ℕ) → P source → Q source) → IfSome file P → IfSome file Q
if_some None P Q tells known = tt
if_some (Some source) P Q tells known = tells source known

module _ (args : List Argument) (file : Option (List ℕ)) (Out Err : Output → Type 0) where
  read_at : (end : SnipWay) → MaySnip args file end → (snip_end end).status ≡ 0 → IsSomeAnd file IsSource
  read_at (Printed text) may is = may.2.readable.text
  read_at (Unprinted text) may is = cc
  read_at (Failed name failure) may is = cc
  read_at BadUsage may is = cc

  -- with status 0 FILE holds a text that can be shown
  pub read : (status : ℕ) → Ends (MaySnip args file) snip_end status Out Err → status ≡ 0 → IsSomeAnd file IsSource
  read status ends is = read_at ends.way ends.may (sym ends.status_is ∙ is)

  -- a line is written that shows the report of the arguments over a source
  abbrev Prints : List ℕ → Type 0
  Prints source =
      (text : List ℕ) × Out (Whole text) × (command : SnipCommand) × IsCommandOf args command × ShowsCommand command source text

  printed_at : (end : SnipWay) → MaySnip args file end → Out (snip_end end).out → (snip_end end).status ≡ 0 → IfSome file Prints
  printed_at (Printed text) may out is =
      if_some file (λ source. ShowsCommand may.0 source text) Prints (λ source shows. (text, out, may.0, may.1, shows)) may.2.shows
  printed_at (Unprinted text) may out is = cc
  printed_at (Failed name failure) may out is = cc
  printed_at BadUsage may out is = cc

  -- with status 0 standard output is given the report that the arguments ask for, over what FILE holds
  pub printed : (status : ℕ) → Ends (MaySnip args file) snip_end status Out Err → status ≡ 0 → IfSome file Prints
  printed status ends is = printed_at ends.way ends.may ends.out (sym ends.status_is ∙ is)

  no_fault_at : (end : SnipWay) → Err (snip_end end).err → (snip_end end).status ≡ 0 → Err Silent
  no_fault_at (Printed text) err is = err
  no_fault_at (Unprinted text) err is = err
  no_fault_at (Failed name failure) err is = cc
  no_fault_at BadUsage err is = cc

  -- with status 0 standard error is given nothing
  pub no_fault : (status : ℕ) → Ends (MaySnip args file) snip_end status Out Err → status ≡ 0 → Err Silent
  no_fault status ends is = no_fault_at ends.way ends.err (sym ends.status_is ∙ is)

  failed_at : (end : SnipWay) → MaySnip args file end → Out (snip_end end).out → Err (snip_end end).err → (snip_end end).status ≡ 1
      → Out Silent ⊎ (Err Silent × IsSomeAnd file IsSource)
  failed_at (Printed text) may out err is = cc
  failed_at (Unprinted text) may out err is = inr (err, may.2.readable.text)
  failed_at (Failed name failure) may out err is = inl out
  failed_at BadUsage may out err is = cc

  -- with status 1 either standard output is given nothing; or there was a report, and standard error is given nothing
  pub failed : (status : ℕ) → Ends (MaySnip args file) snip_end status Out Err → status ≡ 1 → Out Silent ⊎ (Err Silent × IsSomeAnd file IsSource)
  failed status ends is = failed_at ends.way ends.may ends.out ends.err (sym ends.status_is ∙ is)

  no_report_at : (end : SnipWay) → Out (snip_end end).out → (snip_end end).status ≡ 2 → Out Silent
  no_report_at (Printed text) out is = cc
  no_report_at (Unprinted text) out is = cc
  no_report_at (Failed name failure) out is = out
  no_report_at BadUsage out is = out

  -- with status 2 standard output is given nothing
  pub no_report : (status : ℕ) → Ends (MaySnip args file) snip_end status Out Err → status ≡ 2 → Out Silent
  no_report status ends is = no_report_at ends.way ends.out (sym ends.status_is ∙ is)
