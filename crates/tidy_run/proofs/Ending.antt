-- How a run ends.
use Rattle.std.proofs.Common.{Bor, ◌≡◌, ◌⊎◌, ℕ, List, [], ◌∷◌, Option, Some, None, IfSome, IsSomeAnd}
use Rattle.std.proofs.Common.{MatchOption, length, inl, inr, refl, sym, ap, ◌∙◌, subst}
use Rattle.std.specs.Option.{option_to_list}
use Rattle.std.proofs.lemmas.Slice.Zip.{AllZip-long}
use Rattle.annotate_snippets.specs.Fits.{TextFits}
use Rattle.program.specs.Source.{IsSource}
use Rattle.program.specs.Stream.{Output, Silent, Whole, CutShort, Told as Tells}
use Rattle.tidy_run.specs.Report.{Told}
use Rattle.tidy_run.specs.Run.{AreGiven, AreKept, AreTextsOf, BadUsage, Failed, Found, IsReport, MayTidy, MayTidyFor, Reads, ShowsTold, TidyEnds, TidyFails}
use Rattle.tidy_run.specs.Run.{TidyWay, Unlogged, Unprinted, all_logged, log_of, sheets_for, tidy_end, tidy_message, tidy_usage}
use Rattle.tidy_run.specs.Arguments.{CommandLine, Argument, command_line_of}
use Rattle.tidy_run.specs.declared.run.TidyFailure.{TidyFailure}
use Rattle.tidy_run.specs.declared.run.TidyFailure.TheVariants.{Memory, Unwritable}

-- where FILE holds this source and its name fits, it is read
pub reads_file : (line : CommandLine) (file : Option (List ℕ)) (source : List ℕ) (N : Type 0) → MatchOption file N (λ bytes. IsSource bytes × (source ≡ bytes))
    → (N → ⊥) → TextFits line.file
    → IsSomeAnd file (Reads line file)
reads_file line None source N value some fits = absurd (some value)
reads_file line (Some bytes) source N value some fits = record { file_is = refl; source_is = value.0; name_fits = fits }

-- where it holds none, it isn't read
pub reads_none : (line : CommandLine) (file : Option (List ℕ)) (N : Type 0) → MatchOption file N (λ bytes. IsSource bytes → ⊥) → (source : List ℕ)
    → Reads line file source → ⊥
reads_none line None N value source reads = let never : None ≡ Some source = reads.file_is in cc
reads_none line (Some bytes) N value source reads =
    let same : bytes ≡ source = cc reads.file_is in
    value (subst IsSource (sym same) reads.source_is)

-- there is a sheet for standard output
sheets_some : (log : Option Argument) → length (sheets_for log) ≡ 0 → ⊥
sheets_some None none = cc
sheets_some (Some log) none = cc

-- where there are no texts, nothing is told
none_told : (path source : List ℕ) (told : List Told) (log : Option Argument) (texts : List (List ℕ)) → AreTextsOf path source told (sheets_for log) texts
    → texts ≡ [] → told ≡ []
none_told path source [] log texts are none = refl
none_told path source (t ∷ ts) log texts are none =
    absurd (sheets_some log (sym (AllZip-long _ (sheets_for log) texts are.shows.shows.printed) ∙ ap length none))

pub clean_of_texts : (line : CommandLine) (file : Option (List ℕ)) (tells : List ℕ → List Told) (texts : List (List ℕ)) → IsSomeAnd file (Reads line file)
    → IfSome file (λ source. AreTextsOf line.file source (tells source) (sheets_for line.log) texts) → texts ≡ []
    → (source : List ℕ) × Reads line file source × (tells source ≡ [])
clean_of_texts line None tells texts reads are none = absurd reads
clean_of_texts line (Some source) tells texts reads are none = (source, reads, none_told line.file source (tells source) line.log texts are none)

-- texts that there are tell something
told_by : (line : CommandLine) (file : Option (List ℕ)) (tells : List ℕ → List Told) (source : List ℕ) (told : List Told) (texts : List (List ℕ))
    (shown : List ℕ) (logged : Option (List ℕ))
    → tells source ≡ told → AreTextsOf line.file source told (sheets_for line.log) texts → texts ≡ shown ∷ option_to_list logged → Reads line file source
    → IsReport line file tells shown logged
told_by line file tells source [] texts shown logged same none is reads =
    let never : [] ≡ shown ∷ option_to_list logged = sym none ∙ is in
    cc
told_by line file tells source (t ∷ ts) texts shown logged same shows is reads =
    record {
      source = source;
      reads = reads;
      told = λ none. let never : t ∷ ts ≡ [] = sym same ∙ none in cc;
      shows =
          subst (ShowsTold line.file source (tells source) (sheets_for line.log)) is
          (subst (λ told. ShowsTold line.file source told (sheets_for line.log) texts) (sym same) shows);
    }

pub report_of_texts : (line : CommandLine) (file : Option (List ℕ)) (tells : List ℕ → List Told) (texts : List (List ℕ)) (shown : List ℕ)
    (logged : Option (List ℕ)) → IsSomeAnd file (Reads line file)
    → IfSome file (λ source. AreTextsOf line.file source (tells source) (sheets_for line.log) texts) → texts ≡ shown ∷ option_to_list logged
    → IsReport line file tells shown logged
report_of_texts line None tells texts shown logged reads are is = absurd reads
report_of_texts line (Some source) tells texts shown logged reads are is =
    told_by line (Some source) tells source (tells source) texts shown logged refl are is reads

-- what was written of texts, by the two that there may be
pub given_texts : (log : Option Argument) (Printed : List ℕ → Type 0) (Log : Output → Type 0) (texts : List (List ℕ)) → AreGiven log Printed Log texts
    → (shown : List ℕ) × (logged : Option (List ℕ)) × (texts ≡ shown ∷ option_to_list logged) × Printed shown × Log (all_logged logged)
given_texts log Printed Log [] given = absurd given
given_texts None Printed Log (shown ∷ []) given = (shown, None, refl, given.0, given.1)
given_texts None Printed Log (shown ∷ plain ∷ texts) given = absurd given
given_texts (Some log) Printed Log (shown ∷ []) given = absurd given
given_texts (Some log) Printed Log (shown ∷ plain ∷ []) given = (shown, Some plain, refl, given.0, given.1)
given_texts (Some log) Printed Log (shown ∷ plain ∷ more ∷ texts) given = absurd given

pub kept_texts : (log : Option Argument) (name : Argument) (Out Log : Output → Type 0) (texts : List (List ℕ)) → AreKept log name Out Log texts
    → (shown : List ℕ) × (plain : List ℕ) × (texts ≡ shown ∷ plain ∷ []) × (log ≡ Some name) × Out Silent × Log (CutShort plain)
kept_texts log name Out Log [] kept = absurd kept
kept_texts log name Out Log (shown ∷ []) kept = absurd kept
kept_texts log name Out Log (shown ∷ plain ∷ []) kept = (shown, plain, refl, kept.0, kept.1, kept.2)
kept_texts log name Out Log (shown ∷ plain ∷ more ∷ texts) kept = absurd kept

-- a run for arguments that aren't of the form
pub ends_bad_usage : (args : List Argument) (file : Option (List ℕ)) (tells : List ℕ → List Told) (Out Err Log : Output → Type 0) → None ≡ command_line_of args
    → Out Silent → Err (Tells tidy_usage) → Log Silent → TidyEnds args file tells 2 Out Err Log
ends_bad_usage args file tells Out Err Log is out err log =
    record {
      ends = record {
        way = BadUsage;
        may = subst (λ o. MatchOption o (BadUsage ≡ BadUsage) (λ l. MayTidy l file tells BadUsage)) is refl;
        status_is = refl;
        out = out;
        err = err;
      };
      log = log;
    }

-- a run that ends in some way for a line, where the arguments are that line
module _ (args : List Argument) (file : Option (List ℕ)) (tells : List ℕ → List Told) (line : CommandLine) (is : Some line ≡ command_line_of args)
    (Out Err Log : Output → Type 0) where
  of_line : (end : TidyWay) → MayTidy line file tells end → MayTidyFor args file tells end
  of_line end may = subst (λ o. MatchOption o (end ≡ BadUsage) (λ l. MayTidy l file tells end)) is may

  pub ends_as : (end : TidyWay) → MayTidy line file tells end → Out (tidy_end end).out → Err (tidy_end end).err → Log (log_of end)
      → TidyEnds args file tells (tidy_end end).status Out Err Log
  ends_as end may out err log =
      record { ends = record { way = end; may = of_line end may; status_is = refl; out = out; err = err }; log = log }

  -- a failure is told, or that there was no memory for that
  pub ends_failed : (failure : TidyFailure) → TidyFails line file failure → Out Silent → Err (Tells (tidy_message failure)) ⊎ Err (Tells (tidy_message Memory))
      → Log Silent → TidyEnds args file tells 2 Out Err Log
  ends_failed failure fails out (inl told) log = ends_as (Failed failure) fails out told log
  ends_failed failure fails out (inr told) log = ends_as (Failed Memory) tt out told log

  pub ends_unlogged : (name : Bor Argument) (read texts : List (List ℕ)) → read ≡ texts → IsSomeAnd file (Reads line file)
      → IfSome file (λ source. AreTextsOf line.file source (tells source) (sheets_for line.log) texts)
      → AreKept line.log name.now Out Log read → Err (Tells (tidy_message (Unwritable name))) ⊎ Err (Tells (tidy_message Memory))
      → TidyEnds args file tells 2 Out Err Log
  ends_unlogged name read texts same_texts reads are kept (inl told) =
      let (shown, plain, same, log_is, out, log) = kept_texts line.log name.now Out Log texts (subst (AreKept line.log name.now Out Log) same_texts kept) in
      ends_as (Unlogged shown plain (Unwritable name)) (report_of_texts line file tells texts shown (Some plain) reads are same, log_is) out told log
  ends_unlogged name read texts same_texts reads are kept (inr told) =
      let (shown, plain, same, log_is, out, log) = kept_texts line.log name.now Out Log texts (subst (AreKept line.log name.now Out Log) same_texts kept) in
      ends_as (Unlogged shown plain Memory) (report_of_texts line file tells texts shown (Some plain) reads are same, tt) out told log

  pub ends_found : (read texts : List (List ℕ)) → read ≡ texts → IsSomeAnd file (Reads line file)
      → IfSome file (λ source. AreTextsOf line.file source (tells source) (sheets_for line.log) texts)
      → AreGiven line.log (λ shown. Out (Whole shown)) Log read → Err Silent → TidyEnds args file tells 1 Out Err Log
  ends_found read texts same_texts reads are given err =
      let (shown, logged, same, out, log) = given_texts line.log (λ shown.
      Out (Whole shown)) Log texts (subst (AreGiven line.log (λ shown. Out (Whole shown)) Log) same_texts given) in
      ends_as (Found shown logged) (report_of_texts line file tells texts shown logged reads are same) out err log

  pub ends_unprinted : (read texts : List (List ℕ)) → read ≡ texts → IsSomeAnd file (Reads line file)
      → IfSome file (λ source. AreTextsOf line.file source (tells source) (sheets_for line.log) texts)
      → AreGiven line.log (λ shown. Out (CutShort shown)) Log read → Err Silent → TidyEnds args file tells 2 Out Err Log
  ends_unprinted read texts same_texts reads are given err =
      let (shown, logged, same, out, log) = given_texts line.log (λ shown.
      Out (CutShort shown)) Log texts (subst (AreGiven line.log (λ shown. Out (CutShort shown)) Log) same_texts given) in
      ends_as (Unprinted shown logged) (report_of_texts line file tells texts shown logged reads are same) out err log

-- a run that gives three writers what they are given gives it to all that is given what they are
pub tidy_ends_for : (args : List Argument) (file : Option (List ℕ)) (tells : List ℕ → List Told) (status : ℕ) (Out Err Log ToOut ToErr ToLog : Output → Type 0)
    → TidyEnds args file tells status Out Err Log → ((output : Output) → Out output → ToOut output) → ((output : Output) → Err output → ToErr output)
    → ((output : Output) → Log output → ToLog output) → TidyEnds args file tells status ToOut ToErr ToLog
tidy_ends_for args file tells status Out Err Log ToOut ToErr ToLog ends to_out to_err to_log =
    record {
      ends = record {
        way = ends.ends.way;
        may = ends.ends.may;
        status_is = ends.ends.status_is;
        out = to_out (tidy_end ends.ends.way).out ends.ends.out;
        err = to_err (tidy_end ends.ends.way).err ends.ends.err;
      };
      log = to_log (log_of ends.ends.way) ends.log;
    }
