-- Ends of a run that the definition excludes: what a wrong program would give the writers.
use Rattle.std.proofs.Common.{◌≡◌, ◌++◌, Bor, ℕ, List, [], ◌∷◌, Option, Some, None, MatchOption, ap, arith, codes, length, length-append, refl, subst, sym, ◌∙◌}
use Rattle.std.proofs.lemmas.Slice.Zip.{AllZip-long}
use Rattle.std.specs.Str.{chars}
use Rattle.snippet_text.specs.Normalized.{norm}
use Rattle.program.specs.Message.{message_text}
use Rattle.program.specs.Stream.{Output, Silent, Whole, Receives}
use Rattle.output_stream.specs.declared.stream.Stream.{Stream}
use Rattle.program.proofs.NotGiven.{cut_unfailed, sound, told_nothing}
use Rattle.tidy_run.specs.Report.{Told}
use Rattle.tidy_run.specs.Run.{BadUsage, Clean, Failed, Found, MayTidy, TidyEnds, TidyWay, Unlogged, Unprinted, log_of, sheets_for}
use Rattle.tidy_run.specs.Run.{tidy_end, tidy_message, tidy_usage}
use Rattle.tidy_run.specs.declared.run.TidyFailure.TheVariants.{Unwritable}
use Rattle.tidy_run.specs.Arguments.{CommandLine, Argument, command_line_of}

module _ (file : Option (List ℕ)) (tells : List ℕ → List Told) (Out Err Log : Output → Type 0) where
  abbrev May : Option CommandLine → TidyWay → Type 0
  May line end = MatchOption line (end ≡ BadUsage) (λ l. MayTidy l file tells end)

  silent_at : (line : Option CommandLine) (end : TidyWay) → (file ≡ None) → May line end → Out (tidy_end end).out → Out Silent
  silent_at None end none may out = subst (λ e. Out (tidy_end e).out) may out
  silent_at (Some line) Clean none may out = out
  silent_at (Some line) (Found shown logged) none may out =
      let never : None ≡ Some may.source = sym none ∙ may.reads.file_is in
      cc
  silent_at (Some line) (Unprinted shown logged) none may out =
      let never : None ≡ Some may.source = sym none ∙ may.reads.file_is in
      cc
  silent_at (Some line) (Unlogged shown plain failure) none may out = out
  silent_at (Some line) (Failed failure) none may out = out
  silent_at (Some line) BadUsage none may out = out

  -- where FILE can't be read, standard output is given nothing
  pub silent_without_file : (args : List Argument) (status : ℕ) → file ≡ None → TidyEnds args file tells status Out Err Log → Out Silent
  silent_without_file args status none ends = silent_at (command_line_of args) ends.ends.way none ends.ends.may ends.ends.out

  quiet_at : (end : TidyWay) → (tidy_end end).status ≡ 0 → Out (tidy_end end).out → Err (tidy_end end).err → Log (log_of end)
      → Out Silent × Err Silent × Log Silent
  quiet_at Clean is out err log = (out, err, log)
  quiet_at (Found shown logged) is out err log = cc
  quiet_at (Unprinted shown logged) is out err log = cc
  quiet_at (Unlogged shown plain failure) is out err log = cc
  quiet_at (Failed failure) is out err log = cc
  quiet_at BadUsage is out err log = cc

  -- with status 0 no writer is given anything
  pub quiet : (args : List Argument) → TidyEnds args file tells 0 Out Err Log → Out Silent × Err Silent × Log Silent
  quiet args ends = quiet_at ends.ends.way (sym ends.ends.status_is) ends.ends.out ends.ends.err ends.log

-- bytes that stay the same weren't given a line
line_added : (text : List ℕ) → Receives (λ held. held) (sound []) (sound []) (Whole text) → ⊥
line_added text whole =
    let long = length-append text (10 ∷ []) in
    omega (arith, ap length whole.added, long)

-- a stream that isn't written to holds what it held
kept_as : {held : List ℕ} → sound held ≡ sound [] → held ≡ []
kept_as {held} same =
    let bytes : Some held ≡ Some [] = ap (λ (s : Stream (Option (List ℕ))). s.writer) same in
    cc

-- with LOG there are two texts
two_texts : (log : Option Argument) (shown : List ℕ) → (log ≡ None → ⊥) → length (sheets_for log) ≡ length (shown ∷ []) → ⊥
two_texts None shown named many = named refl
two_texts (Some name) shown named many = cc

module _ (file : Option (List ℕ)) (tells : List ℕ → List Told) (line : CommandLine) (named : line.log ≡ None → ⊥) (Out Err : Output → Type 0) where
  -- what was in LOG is there as it was
  abbrev Untouched : Output → Type 0
  Untouched = Receives (λ (held : Option (List ℕ)). held) (sound []) (sound [])

  unlogged_at : (end : TidyWay) → MayTidy line file tells end → (tidy_end end).status ≡ 2 → Out (tidy_end end).out → Untouched (log_of end)
      → Out Silent
  unlogged_at Clean may is out log = out
  unlogged_at (Found shown logged) may is out log = cc
  unlogged_at (Unprinted shown None) may is out log =
      absurd (two_texts line.log shown named (sym (AllZip-long _ (sheets_for line.log) (shown ∷ []) may.shows.shows.shows.printed)))
  unlogged_at (Unprinted shown (Some plain)) may is out log = absurd (line_added plain log)
  unlogged_at (Unlogged shown plain failure) may is out log = out
  unlogged_at (Failed failure) may is out log = out
  unlogged_at BadUsage may is out log = out

  -- with status 2, and nothing in LOG, standard output is given nothing: that LOG can't be written isn't told there
  pub silent_unlogged : (args : List Argument) → command_line_of args ≡ Some line → TidyEnds args file tells 2 Out Err Untouched → Out Silent
  silent_unlogged args is ends =
      let may = subst (λ l. MatchOption l (ends.ends.way ≡ BadUsage) (λ x. MayTidy x file tells ends.ends.way)) is ends.ends.may in
      unlogged_at ends.ends.way may (sym ends.ends.status_is) ends.ends.out ends.log

module _ (args : List Argument) (file : Option (List ℕ)) (tells : List ℕ → List Told) (held : List ℕ) where
  -- what a stream is given that no write to failed
  abbrev Unfailed : List ℕ → Output → Type 0
  Unfailed now = Receives (λ (bytes : Option (List ℕ)). bytes) (sound []) (sound now)

  none_at : (end : TidyWay) → (tidy_end end).status ≡ 2 → Unfailed held (tidy_end end).out → held ≡ []
  none_at Clean is out = cc
  none_at (Found shown logged) is out = cc
  none_at (Unprinted shown logged) is out = absurd (cut_unfailed shown held out)
  none_at (Unlogged shown plain failure) is out = kept_as out
  none_at (Failed failure) is out = kept_as out
  none_at BadUsage is out = kept_as out

  -- with status 2 no part of a report stands on standard output, where no write to it failed
  pub half_printed : (Err Log : Output → Type 0) → TidyEnds args file tells 2 (Unfailed held) Err Log → held ≡ []
  half_printed Err Log ends = none_at ends.ends.way (sym ends.ends.status_is) ends.ends.out

  told_at : (end : TidyWay) → (tidy_end end).status ≡ 2 → Unfailed held (tidy_end end).out → Unfailed [] (tidy_end end).err → ⊥
  told_at Clean is out err = cc
  told_at (Found shown logged) is out err = cc
  told_at (Unprinted shown logged) is out err = cut_unfailed shown held out
  told_at (Unlogged shown plain failure) is out err = told_nothing (tidy_message failure) err
  told_at (Failed failure) is out err = told_nothing (tidy_message failure) err
  told_at BadUsage is out err = told_nothing tidy_usage err

  -- and a message stands on standard error, where none failed to that
  pub failure_untold : (Log : Output → Type 0) → TidyEnds args file tells 2 (Unfailed held) (Unfailed []) Log → ⊥
  failure_untold Log ends = told_at ends.ends.way (sym ends.ends.status_is) ends.ends.out ends.ends.err

-- the name of LOG that is told as it is, here the character that begins a code
pub raw_log_told : (name : Bor (List ℕ)) → name.now ≡ 27 ∷ [] → tidy_message (Unwritable name) ≡ codes "tidy: cannot write " ++ 27 ∷ [] → ⊥
unfolding norm chars lib.Utf8.encode
raw_log_told name raw is =
    let told : tidy_message (Unwritable name) ≡ codes "tidy: cannot write " ++ message_text (27 ∷ []) =
    ap (λ text. codes "tidy: cannot write " ++ message_text text) raw in
    absurd (omega (arith, ap length (sym told ∙ is)))

-- or an `a`, a line feed and a `b`, which would be two lines
pub feeding_log_told : (name : Bor (List ℕ)) → name.now ≡ 97 ∷ 10 ∷ 98 ∷ []
    → tidy_message (Unwritable name) ≡ codes "tidy: cannot write " ++ 97 ∷ 10 ∷ 98 ∷ [] → ⊥
unfolding norm chars lib.Utf8.encode
feeding_log_told name raw is =
    let told : tidy_message (Unwritable name) ≡ codes "tidy: cannot write " ++ message_text (97 ∷ 10 ∷ 98 ∷ []) =
    ap (λ text. codes "tidy: cannot write " ++ message_text text) raw in
    absurd (omega (arith, ap length (sym told ∙ is)))
