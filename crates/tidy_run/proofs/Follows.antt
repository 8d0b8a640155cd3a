-- What the end of a run says of its status, of FILE and of the three writers: each of these follows from it.
use Rattle.std.proofs.Common.{◌≡◌, ◌⊎◌, ℕ, ◌≤◌, List, [], ◌∷◌, Option, Some, None, IsSomeAnd, IfSome, MatchOption, arith, length, inl, inr, sym, ap, subst, ◌∙◌}
use Rattle.std.specs.Option.{option_to_list}
use Rattle.std.proofs.lemmas.Slice.Zip.{AllZip-long}
use Rattle.program.specs.Source.{IsSource}
use Rattle.program.specs.Stream.{Output, Silent, Whole}
use Rattle.tidy_run.specs.Report.{Told}
use Rattle.tidy_run.specs.Run.{AreGiven, BadUsage, Clean, Failed, Found, IsReport, MayTidy, ShowsTold, TidyEnds, TidyWay, Unlogged, Unprinted}
use Rattle.tidy_run.specs.Run.{all_logged, log_of, sheets_for, tidy_end}
use Rattle.tidy_run.specs.Arguments.{CommandLine, Argument, command_line_of}

-- what holds of the source that FILE holds
of_file : (file : Option (List ℕ)) (P : List ℕ → Type 0) (source : List ℕ) → file ≡ Some source → P source → IfSome file P
of_file None P source is holds = tt
of_file (Some bytes) P source is holds =
    let same : bytes ≡ source = cc in
    subst P (sym same) holds

in_file : (file : Option (List ℕ)) (source : List ℕ) → file ≡ Some source → IsSource source → IsSomeAnd file IsSource
in_file None source is holds = cc
in_file (Some bytes) source is holds =
    let same : bytes ≡ source = cc in
    subst IsSource (sym same) holds

-- there are as many texts as sheets
as_many : (line : CommandLine) (file : Option (List ℕ)) (tells : List ℕ → List Told) (shown : List ℕ) (logged : Option (List ℕ))
    → IsReport line file tells shown logged
    → length (sheets_for line.log) ≡ length (shown ∷ option_to_list logged)
as_many line file tells shown logged report = sym (AllZip-long _ (sheets_for line.log) (shown ∷ option_to_list logged) report.shows.shows.shows.printed)

given : (log : Option Argument) (Printed : List ℕ → Type 0) (Log : Output → Type 0) (shown : List ℕ) (logged : Option (List ℕ))
    → length (sheets_for log) ≡ length (shown ∷ option_to_list logged)
    → Printed shown → Log (all_logged logged) → AreGiven log Printed Log (shown ∷ option_to_list logged)
given None Printed Log shown None many printed log = (printed, log)
given None Printed Log shown (Some plain) many printed log = cc
given (Some name) Printed Log shown None many printed log = cc
given (Some name) Printed Log shown (Some plain) many printed log = (printed, log)

unlogged_for : (log : Option Argument) (Log : Output → Type 0) (shown : List ℕ) (logged : Option (List ℕ))
    → length (sheets_for log) ≡ length (shown ∷ option_to_list logged)
    → Log (all_logged logged) → log ≡ None → Log Silent
unlogged_for None Log shown None many given none = given
unlogged_for None Log shown (Some plain) many given none = cc
unlogged_for (Some name) Log shown logged many given none = cc

module _ (file : Option (List ℕ)) (tells : List ℕ → List Told) (Out Err Log : Output → Type 0) where
  -- what an end has to meet where the arguments are a line, or none
  abbrev May : Option CommandLine → TidyWay → Type 0
  May line end = MatchOption line (end ≡ BadUsage) (λ l. MayTidy l file tells end)

  read_at : (line : Option CommandLine) (end : TidyWay) → May line end → (tidy_end end).status ≤ 1 → IsSomeAnd file IsSource
  read_at None end may is =
      let two : (tidy_end end).status ≡ 2 = ap (λ way. (tidy_end way).status) may in
      absurd (omega (arith, two, is))
  read_at (Some line) Clean may is = in_file file may.0 may.1.file_is may.1.source_is
  read_at (Some line) (Found shown logged) may is = in_file file may.source may.reads.file_is may.reads.source_is
  read_at (Some line) (Unprinted shown logged) may is = absurd (omega (arith, is))
  read_at (Some line) (Unlogged shown plain failure) may is = absurd (omega (arith, is))
  read_at (Some line) (Failed failure) may is = absurd (omega (arith, is))
  read_at (Some line) BadUsage may is = absurd may

  -- with status 0 or 1 FILE holds a source that can be looked through
  pub read : (args : List Argument) (status : ℕ) → TidyEnds args file tells status Out Err Log → status ≤ 1 → IsSomeAnd file IsSource
  read args status ends is = read_at (command_line_of args) ends.ends.way ends.ends.may (subst (λ n. n ≤ 1) ends.ends.status_is is)

  -- nothing is written, and nothing is told of what FILE holds
  abbrev IsClean : Type 0
  IsClean = Out Silent × Err Silent × Log Silent × IfSome file (λ source. tells source ≡ [])

  clean_at : (line : Option CommandLine) (end : TidyWay) → May line end → Out (tidy_end end).out → Err (tidy_end end).err → Log (log_of end)
      → (tidy_end end).status ≡ 0 → IsClean
  clean_at None end may out err log is =
      let two : (tidy_end end).status ≡ 2 = ap (λ way. (tidy_end way).status) may in
      absurd (omega (arith, two, is))
  clean_at (Some line) Clean may out err log is = (out, err, log, of_file file (λ source. tells source ≡ []) may.0 may.1.file_is may.2)
  clean_at (Some line) (Found shown logged) may out err log is = cc
  clean_at (Some line) (Unprinted shown logged) may out err log is = cc
  clean_at (Some line) (Unlogged shown plain failure) may out err log is = cc
  clean_at (Some line) (Failed failure) may out err log is = cc
  clean_at (Some line) BadUsage may out err log is = cc

  -- with status 0 nothing is told of FILE, and nothing is written
  pub clean : (args : List Argument) (status : ℕ) → TidyEnds args file tells status Out Err Log → status ≡ 0 → IsClean
  clean args status ends is = clean_at (command_line_of args) ends.ends.way ends.ends.may ends.ends.out ends.ends.err ends.log (sym ends.ends.status_is ∙ is)

  -- what is told of a source for a line is printed, and with LOG written to that
  abbrev Writes : CommandLine → List ℕ → Type 0
  Writes line source =
      (texts : List (List ℕ)) × ShowsTold line.file source (tells source) (sheets_for line.log) texts × AreGiven line.log (λ shown. Out (Whole shown)) Log texts

  printed_at : (line : Option CommandLine) (end : TidyWay) → May line end → Out (tidy_end end).out → Log (log_of end) → (tidy_end end).status ≡ 1
      → IfSome line (λ l. IfSome file (Writes l))
  printed_at None end may out log is = tt
  printed_at (Some line) Clean may out log is = cc
  printed_at (Some line) (Found shown logged) may out log is =
      of_file file (Writes line) may.source may.reads.file_is
      (shown ∷ option_to_list logged, may.shows, given line.log (λ text. Out (Whole text)) Log shown logged (as_many line file tells shown logged may) out log)
  printed_at (Some line) (Unprinted shown logged) may out log is = cc
  printed_at (Some line) (Unlogged shown plain failure) may out log is = cc
  printed_at (Some line) (Failed failure) may out log is = cc
  printed_at (Some line) BadUsage may out log is = absurd may

  -- with status 1 what is told of FILE is printed, and with LOG written to that
  pub printed : (args : List Argument) (status : ℕ) → TidyEnds args file tells status Out Err Log → status ≡ 1
      → IfSome (command_line_of args) (λ l. IfSome file (Writes l))
  printed args status ends is = printed_at (command_line_of args) ends.ends.way ends.ends.may ends.ends.out ends.log (sym ends.ends.status_is ∙ is)

  no_fault_at : (end : TidyWay) → Err (tidy_end end).err → (tidy_end end).status ≡ 1 → Err Silent
  no_fault_at Clean err is = err
  no_fault_at (Found shown logged) err is = err
  no_fault_at (Unprinted shown logged) err is = err
  no_fault_at (Unlogged shown plain failure) err is = cc
  no_fault_at (Failed failure) err is = cc
  no_fault_at BadUsage err is = cc

  -- with status 1 standard error is given nothing
  pub no_fault : (args : List Argument) (status : ℕ) → TidyEnds args file tells status Out Err Log → status ≡ 1 → Err Silent
  no_fault args status ends is = no_fault_at ends.ends.way ends.ends.err (sym ends.ends.status_is ∙ is)

  unlogged_at : (line : Option CommandLine) (end : TidyWay) → May line end → Log (log_of end) → IfSome line (λ l. l.log ≡ None → Log Silent)
  unlogged_at None end may log = tt
  unlogged_at (Some line) Clean may log = λ none. log
  unlogged_at (Some line) (Found shown logged) may log = unlogged_for line.log Log shown logged (as_many line file tells shown logged may) log
  unlogged_at (Some line) (Unprinted shown logged) may log = unlogged_for line.log Log shown logged (as_many line file tells shown logged may) log
  unlogged_at (Some line) (Unlogged shown plain failure) may log = λ none.
      let many : length (sheets_for line.log) ≡ 2 = as_many line file tells shown (Some plain) may.0 in
      let one : length (sheets_for line.log) ≡ 1 = ap (λ (l : Option Argument). length (sheets_for l)) none in
      absurd (omega (arith, many, one))
  unlogged_at (Some line) (Failed failure) may log = λ none. log
  unlogged_at (Some line) BadUsage may log = absurd may

  -- without LOG nothing is written to it
  pub unlogged : (args : List Argument) (status : ℕ) → TidyEnds args file tells status Out Err Log
      → IfSome (command_line_of args) (λ l. l.log ≡ None → Log Silent)
  unlogged args status ends = unlogged_at (command_line_of args) ends.ends.way ends.ends.may ends.log

  failed_at : (line : Option CommandLine) (end : TidyWay) → May line end → Out (tidy_end end).out → Err (tidy_end end).err → (tidy_end end).status ≡ 2
      → Out Silent ⊎ (Err Silent × IsSomeAnd file IsSource)
  failed_at None end may out err is = inl (subst (λ e. Out (tidy_end e).out) may out)
  failed_at (Some line) Clean may out err is = cc
  failed_at (Some line) (Found shown logged) may out err is = cc
  failed_at (Some line) (Unprinted shown logged) may out err is = inr (err, in_file file may.source may.reads.file_is may.reads.source_is)
  failed_at (Some line) (Unlogged shown plain failure) may out err is = inl out
  failed_at (Some line) (Failed failure) may out err is = inl out
  failed_at (Some line) BadUsage may out err is = absurd may

  -- with status 2 either standard output is given nothing; or there was a report, and standard error is given nothing
  pub failed : (args : List Argument) (status : ℕ) → TidyEnds args file tells status Out Err Log → status ≡ 2
      → Out Silent ⊎ (Err Silent × IsSomeAnd file IsSource)
  failed args status ends is = failed_at (command_line_of args) ends.ends.way ends.ends.may ends.ends.out ends.ends.err (sym ends.ends.status_is ∙ is)
