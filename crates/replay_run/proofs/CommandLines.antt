-- What some command lines ask for, and that some ask for nothing.
use Rattle.std.proofs.Common.{◌≡◌, List, [], ◌∷◌, Option, None, ap, codes, false, true, refl, inl, inr, sym, ◌∙◌}
use Rattle.std.specs.Prelude.{is_some}
use Rattle.std.proofs.lemmas.Bool.{false≢true}
use Rattle.clap.proofs.OnLiterals.{clap_on_literals}
use Rattle.clap.specs.Faults.{fault_of, is_simple_and_free}
use Rattle.clap.specs.Kinds.{Kinds}
use Rattle.clap.specs.Simple.{matches_of}
use Rattle.clap.specs.Walk.{is_empty}
use Rattle.program.specs.CommandLine.{AsksToShow}
use Rattle.program.specs.Inputs.{hyphen}
use Rattle.replay_run.specs.Arguments.{Answers, AsksFor, Checks, Repeats, Task, Argument, asked, replay_app}

-- what clap says of arguments it says of the arguments of this command
pub simple : is_simple_and_free replay_app ≡ true
unfolding clap_on_literals
simple = refl

-- no argument at all: standard input is answered
pub no_arguments : AsksFor [] (Answers false false (hyphen ∷ []))
unfolding clap_on_literals
no_arguments = (refl, refl)

-- `--text a` and `a --text`
pub option_first : AsksFor (codes "--text" ∷ codes "a" ∷ []) (Answers true false (codes "a" ∷ []))
unfolding clap_on_literals
option_first = (refl, refl)

pub option_last : AsksFor (codes "a" ∷ codes "--text" ∷ []) (Answers true false (codes "a" ∷ []))
unfolding clap_on_literals
option_last = (refl, refl)

-- `a --keep-going b --text -`
pub options_between : AsksFor (codes "a" ∷ codes "--keep-going" ∷ codes "b" ∷ codes "--text" ∷ hyphen ∷ [])
    (Answers true true (codes "a" ∷ codes "b" ∷ hyphen ∷ []))
unfolding clap_on_literals
options_between = (refl, refl)

-- `--check a b` and `a b --check`
pub pair : AsksFor (codes "--check" ∷ codes "a" ∷ codes "b" ∷ []) (Checks (codes "a" ∷ codes "b" ∷ []))
unfolding clap_on_literals
pair = (refl, refl)

pub pair_first : AsksFor (codes "a" ∷ codes "b" ∷ codes "--check" ∷ []) (Checks (codes "a" ∷ codes "b" ∷ []))
unfolding clap_on_literals
pair_first = (refl, refl)

-- `--repeat 3 a` and `a --repeat=3`
pub three_times : AsksFor (codes "--repeat" ∷ codes "3" ∷ codes "a" ∷ []) (Repeats 3 (codes "a" ∷ []))
unfolding clap_on_literals
three_times = (refl, refl)

pub three_times_after : AsksFor (codes "a" ∷ codes "--repeat=3" ∷ []) (Repeats 3 (codes "a" ∷ []))
unfolding clap_on_literals
three_times_after = (refl, refl)

-- `-- --text`: a file of this name
pub file_of_this_name : AsksFor (codes "--" ∷ codes "--text" ∷ []) (Answers false false (codes "--text" ∷ []))
unfolding clap_on_literals
file_of_this_name = (refl, refl)

-- `--help`, `-h` and `--version`
pub help : AsksToShow replay_app (codes "--help" ∷ [])
unfolding clap_on_literals
help = inl (inl refl)

pub help_in_short : AsksToShow replay_app (codes "a" ∷ codes "-h" ∷ [])
unfolding clap_on_literals
help_in_short = inl (inl refl)

pub version : AsksToShow replay_app (codes "--version" ∷ [])
unfolding clap_on_literals
version = inr (inl refl)

-- ---- arguments that ask for nothing

-- with which clap finds something wrong
faulty : (args : List Argument) (task : Task) → is_empty (fault_of replay_app args) ≡ false → AsksFor args task → ⊥
faulty args task wrong asks = false≢true (sym wrong ∙ ap (λ (kinds : Kinds). is_empty kinds) asks.0)

-- in which it finds nothing that is asked for
unasked : (args : List Argument) (task : Task) → asked (matches_of replay_app args) ≡ None → AsksFor args task → ⊥
unasked args task none asks = false≢true (ap (λ (o : Option Task). is_some o) (sym none ∙ asks.1))

-- `--texts`, which is no option
pub no_option : (task : Task) → AsksFor (codes "--texts" ∷ []) task → ⊥
unfolding clap_on_literals
no_option task = faulty (codes "--texts" ∷ []) task refl

-- nor is `-t`
pub no_short_option : (task : Task) → AsksFor (codes "-t" ∷ []) task → ⊥
unfolding clap_on_literals
no_short_option task = faulty (codes "-t" ∷ []) task refl

-- `--repeat` with nothing after it
pub no_number : (task : Task) → AsksFor (codes "--repeat" ∷ []) task → ⊥
unfolding clap_on_literals
no_number task = faulty (codes "--repeat" ∷ []) task refl

-- `--repeat x`
pub wrong_number : (task : Task) → AsksFor (codes "--repeat" ∷ codes "x" ∷ []) task → ⊥
unfolding clap_on_literals
wrong_number task = unasked (codes "--repeat" ∷ codes "x" ∷ []) task refl

-- `--repeat 18446744073709551616`, whose number doesn't fit in 64 bits
pub great_number : (task : Task) → AsksFor (codes "--repeat" ∷ codes "18446744073709551616" ∷ []) task → ⊥
unfolding clap_on_literals
great_number task = unasked (codes "--repeat" ∷ codes "18446744073709551616" ∷ []) task refl

-- `--check`, `--check a` and `--check a b c`
pub no_file : (task : Task) → AsksFor (codes "--check" ∷ []) task → ⊥
unfolding clap_on_literals
no_file task = unasked (codes "--check" ∷ []) task refl

pub one_file : (task : Task) → AsksFor (codes "--check" ∷ codes "a" ∷ []) task → ⊥
unfolding clap_on_literals
one_file task = unasked (codes "--check" ∷ codes "a" ∷ []) task refl

pub three_files : (task : Task) → AsksFor (codes "--check" ∷ codes "a" ∷ codes "b" ∷ codes "c" ∷ []) task → ⊥
unfolding clap_on_literals
three_files task = unasked (codes "--check" ∷ codes "a" ∷ codes "b" ∷ codes "c" ∷ []) task refl

-- `--check --text a b`, and `--check --repeat 3 a b`
pub texts_compared : (task : Task) → AsksFor (codes "--check" ∷ codes "--text" ∷ codes "a" ∷ codes "b" ∷ []) task → ⊥
unfolding clap_on_literals
texts_compared task = unasked (codes "--check" ∷ codes "--text" ∷ codes "a" ∷ codes "b" ∷ []) task refl

pub compared_again : (task : Task) → AsksFor (codes "--check" ∷ codes "--repeat" ∷ codes "3" ∷ codes "a" ∷ codes "b" ∷ []) task → ⊥
unfolding clap_on_literals
compared_again task = unasked (codes "--check" ∷ codes "--repeat" ∷ codes "3" ∷ codes "a" ∷ codes "b" ∷ []) task refl

-- `--repeat 3 --keep-going a`
pub kept_going_again : (task : Task) → AsksFor (codes "--repeat" ∷ codes "3" ∷ codes "--keep-going" ∷ codes "a" ∷ []) task → ⊥
unfolding clap_on_literals
kept_going_again task = unasked (codes "--repeat" ∷ codes "3" ∷ codes "--keep-going" ∷ codes "a" ∷ []) task refl
