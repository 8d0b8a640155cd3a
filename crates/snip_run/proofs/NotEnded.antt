-- Ends of a run that the definition excludes: what a wrong program would give the streams.
use Rattle.std.proofs.Common.{◌≡◌, ◌++◌, ℕ, Bool, List, [], ◌∷◌, Option, Some, None, ap, arith, codes, inl, inr, length, sym, ◌∙◌}
use Rattle.std.specs.Str.{chars}
use Rattle.snippet_text.specs.Normalized.{norm}
use Rattle.program.specs.Ending.{Ends}
use Rattle.program.specs.Stream.{Output, Silent, Told, Receives, ended_line}
use Rattle.output_stream.specs.declared.stream.Stream.{Stream}
use Rattle.program.proofs.NotGiven.{cut_unfailed, sound, told_nothing}
use Rattle.snip_run.specs.Run.{BadUsage, Failed, MaySnip, Printed, SnipWay, Unprinted, snip_end, snip_message, snip_usage}
use Rattle.snip_run.specs.declared.run.SnipFailure.TheVariants.{Unreadable}
use Rattle.snip_run.specs.Arguments.{Argument}

silent_for : (args : List Argument) (Out : Output → Type 0) (end : SnipWay) → MaySnip args None end → Out (snip_end end).out → Out Silent
silent_for args Out (Printed text) may out = absurd may.2.readable.text
silent_for args Out (Unprinted text) may out = absurd may.2.readable.text
silent_for args Out (Failed name failure) may out = out
silent_for args Out BadUsage may out = out

-- where FILE can't be read, standard output is given nothing
pub silent_without_file : (args : List Argument) (status : ℕ) (Out Err : Output → Type 0) → Ends (MaySnip args None) snip_end status Out Err → Out Silent
silent_without_file args status Out Err ends = silent_for args Out ends.way ends.may ends.out

-- so its message doesn't stand there
pub message_printed : (args : List Argument) (status : ℕ) (Err : Output → Type 0)
    → Ends (MaySnip args None) snip_end status (Receives (λ held. held) (sound []) (sound (ended_line (codes "snip: cannot read a.rs")))) Err → ⊥
message_printed args status Err ends =
    let same : sound (ended_line (codes "snip: cannot read a.rs")) ≡ sound [] = silent_without_file args status _ Err ends in
    let held : Some (ended_line (codes "snip: cannot read a.rs")) ≡ Some [] = ap (λ (s : Stream (Option (List ℕ))). s.writer) same in
    cc

usage_for : (Err : Output → Type 0) (end : SnipWay) → 2 ≡ (snip_end end).status → Err (snip_end end).err → Err (Told snip_usage)
usage_for Err (Printed text) status err = cc
usage_for Err (Unprinted text) status err = cc
usage_for Err (Failed name failure) status err = cc
usage_for Err BadUsage status err = err

-- with status 2 standard error is given how the arguments are to be written
pub usage_told : (args : List Argument) (file : Option (List ℕ)) (Out Err : Output → Type 0)
    → Ends (MaySnip args file) snip_end 2 Out Err → Err (Told snip_usage)
usage_told args file Out Err ends = usage_for Err ends.way ends.status_is ends.err

-- where no write failed, that nothing is told there
pub usage_untold : (args : List Argument) (file : Option (List ℕ)) (Out : Output → Type 0)
    → Ends (MaySnip args file) snip_end 2 Out (Receives (λ held. held) (sound []) (sound [])) → ⊥
usage_untold args file Out ends = told_nothing snip_usage (usage_told args file Out _ ends)

-- what a list begins with
abbrev first : List ℕ → ℕ
first [] = 0
first (b ∷ bs) = b

-- standard error that holds this, whether a write to it failed or not
abbrev holding : Bool → List ℕ → Stream (Option (List ℕ))
holding now held = record { writer = Some held; has_failed = now }

told_so : (now : Bool) (rest : List ℕ) → Receives (λ held. held) (sound []) (holding now (115 ∷ rest)) (Told snip_usage) → ⊥
told_so now rest (inl whole) =
    let head : 115 ≡ 117 = ap first whole.added in
    omega (arith, head)
told_so now rest (inr part) =
    let head : 117 ≡ 115 = ap first (part.split ∙ ap (λ (l : List ℕ). l ++ part.rest) (sym part.added)) in
    omega (arith, head)

-- no other line stands before it, as `snip: all is well`
pub noise_before_usage : (args : List Argument) (file : Option (List ℕ)) (Out : Output → Type 0) (now : Bool) (rest : List ℕ)
    → Ends (MaySnip args file) snip_end 2 Out (Receives (λ held. held) (sound []) (holding now (115 ∷ rest))) → ⊥
noise_before_usage args file Out now rest ends = told_so now rest (usage_told args file Out _ ends)

silent_when_printed : (Err : Output → Type 0) (end : SnipWay) → 0 ≡ (snip_end end).status → Err (snip_end end).err → Err Silent
silent_when_printed Err (Printed text) status err = err
silent_when_printed Err (Unprinted text) status err = err
silent_when_printed Err (Failed name failure) status err = cc
silent_when_printed Err BadUsage status err = cc

-- with status 0 nothing is told
pub told_when_printed : (args : List Argument) (file : Option (List ℕ)) (Out : Output → Type 0) (now : Bool) (rest : List ℕ)
    → Ends (MaySnip args file) snip_end 0 Out (Receives (λ held. held) (sound []) (holding now (115 ∷ rest))) → ⊥
told_when_printed args file Out now rest ends =
    let same : holding now (115 ∷ rest) ≡ sound [] = silent_when_printed (Receives (λ held. held) (sound []) (holding now (115 ∷ rest))) ends.way
    ends.status_is ends.err in
    let held : Some (115 ∷ rest) ≡ Some [] = ap (λ (s : Stream (Option (List ℕ))). s.writer) same in
    cc

-- what standard output is given that no write to failed
abbrev Unfailed : List ℕ → Output → Type 0
Unfailed held = Receives (λ held. held) (sound []) (sound held)

none_for : (held : List ℕ) (end : SnipWay) → 1 ≡ (snip_end end).status → Unfailed held (snip_end end).out → held ≡ []
none_for held (Printed text) status out = cc
none_for held (Unprinted text) status out = absurd (cut_unfailed text held out)
none_for held (Failed name failure) status out =
    let same : Some held ≡ Some [] = ap (λ (s : Stream (Option (List ℕ))). s.writer) out in
    cc
none_for held BadUsage status out = cc

-- with status 1 no part of a report stands on standard output, where no write to it failed
pub half_printed : (args : List Argument) (file : Option (List ℕ)) (held : List ℕ) (Err : Output → Type 0)
    → Ends (MaySnip args file) snip_end 1 (Unfailed held) Err → held ≡ []
half_printed args file held Err ends = none_for held ends.way ends.status_is ends.out

told_for : (held : List ℕ) (end : SnipWay) → 1 ≡ (snip_end end).status → Unfailed held (snip_end end).out → Unfailed [] (snip_end end).err → ⊥
told_for held (Printed text) status out err = cc
told_for held (Unprinted text) status out err = cut_unfailed text held out
told_for held (Failed name failure) status out err = told_nothing (snip_message name failure) err
told_for held BadUsage status out err = cc

-- and a message stands on standard error, where none failed to that
pub failure_untold : (args : List Argument) (file : Option (List ℕ)) (held : List ℕ) → Ends (MaySnip args file) snip_end 1 (Unfailed held) (Unfailed []) → ⊥
failure_untold args file held ends = told_for held ends.way ends.status_is ends.out ends.err

-- a name that is told as it is, here the character that begins a code
pub raw_name_told : snip_message (27 ∷ []) Unreadable ≡ codes "snip: cannot read " ++ 27 ∷ [] → ⊥
unfolding norm chars lib.Utf8.encode
raw_name_told is = absurd (omega (arith, ap length is))

-- or an `a`, a line feed and a `b`, which would be two lines
pub feeding_name_told : snip_message (97 ∷ 10 ∷ 98 ∷ []) Unreadable ≡ codes "snip: cannot read " ++ 97 ∷ 10 ∷ 98 ∷ [] → ⊥
unfolding norm chars lib.Utf8.encode
feeding_name_told is = absurd (omega (arith, ap length is))
