-- What isn't left unread: a run that does nothing, where nothing could be opened, contradicts what a run answers.
use Rattle.std.proofs.Common.{◌≡◌, ◌⊎◌, ◌&&◌, ◌∙◌, ℕ, Bool, false, List, [], ◌∷◌, Option, None, Some, Bor, ap, inl, inr, map, refl, subst, sym}
use Rattle.std.specs.Option.{option_map}
use Rattle.clap.specs.Faults.{fault_of}
use Rattle.clap.specs.Kinds.{IsAmong, Kinds}
use Rattle.clap.specs.Simple.{App}
use Rattle.clap.specs.declared.error.kind.ErrorKind.{ErrorKind}
use Rattle.clap.specs.declared.error.kind.ErrorKind.TheVariants.{DisplayHelp, DisplayVersion}
use Rattle.output_stream.specs.Standing.{Standing}
use Rattle.redraw_command.specs.Tally.{tally_status}
use Rattle.redraw_command.specs.declared.choice.Choice.{Choice}
use Rattle.redraw_command.specs.declared.arguments.RedrawRequest.{RedrawRequest}
use Rattle.redraw_command.specs.declared.terminal.Surroundings.{Surroundings}
use Rattle.redraw_command.proofs.CommandLines.{no_arguments}
use Rattle.redraw_run.specs.Deeds.{Deed, State}
use Rattle.redraw_run.specs.Fates.{Each}
use Rattle.program.specs.Inputs.{hyphen}
use Rattle.redraw_run.specs.Inputs.{AreAllIn, Input, IsOf, are_whole, asked_names, given_names, names_of}
use Rattle.redraw_run.specs.Run.{Answers, AnswersBy, Draws, Finishes, Runs}

-- no file and no standard input can be opened
abbrev pub Nothing : Type 0
Nothing = ⊥ ⊎ ⊥

unopened : (source : Option Nothing) → source ≡ None
unopened None = refl
unopened (Some (inl file)) = absurd file
unopened (Some (inr input)) = absurd input

unread : (held : Nothing → Option (List ℕ)) (input : Input ⊥ ⊥) (c : Choice) (ds : List Deed) → IsOf held input c ds → input.is_whole ≡ false
unread held input c ds (is, inl h) =
    absurd (subst (λ (source : Option Nothing). AreAllIn (option_map held source) input.pieces) (unopened input.source) h.all)
unread held input c ds (is, inr h) = h.partial

unread_all : (held : Nothing → Option (List ℕ)) (inputs : List (Input ⊥ ⊥)) (name : List ℕ) (names : List (List ℕ)) (c : Choice) (ds : List Deed)
    → names_of inputs ≡ name ∷ names → Each (IsOf held) inputs c ds → are_whole inputs ≡ false
unread_all held [] name names c ds named each = cc named
unread_all held (input ∷ inputs) name names c ds named each =
    ap (λ (b : Bool). b && are_whole inputs) (unread held input c each.before each.first)

-- the status 0 of a run that was to read something, and read nothing
pub unread_and_clean : (held : Nothing → Option (List ℕ)) (name : List ℕ) (names : List (List ℕ)) (a : State) (out err : Standing)
    → Finishes ⊥ ⊥ held (name ∷ names) a out err 0 → ⊥
unread_and_clean held name names a out err run =
    let drawn = run.drawn.drawn in
    let partial : run.is_whole ≡ false = sym drawn.whole
    ∙ unread_all held drawn.inputs name names a.choice drawn.does.deeds drawn.named drawn.does.fit in
    let two : ◌≡◌ {A = ℕ} 0 2 = run.ends ∙ ap (λ (whole : Bool). tally_status a.choice.form run.end.tally whole) partial in
    cc two

unread_run : (held : Nothing → Option (List ℕ)) (names : List (List ℕ)) (name : List ℕ) (rest : List (List ℕ)) (a : State) (out err : Standing)
    → names ≡ name ∷ rest → Runs held names a out err 0 → ⊥
unread_run held names name rest a out err are (inl run) =
    unread_and_clean held name rest a out err (subst (λ (ns : List (List ℕ)). Finishes ⊥ ⊥ held ns a out err 0) are run)
unread_run held names name rest a out err are (inr cut) = let two : ◌≡◌ {A = ℕ} 0 2 = cut.ends in cc two

undrawn : (held : Nothing → Option (List ℕ)) (request : RedrawRequest) (around : Surroundings) (name : List ℕ) (rest : List (List ℕ))
    (out err : Standing) → asked_names request.inputs ≡ name ∷ rest → Draws held request around out err out err 0 → ⊥
undrawn held request around name rest out err are (inl (c, is, run)) = unread_run held (asked_names request.inputs) name rest _ out err are run
undrawn held request around name rest out err are (inr none) = let two : ◌≡◌ {A = ℕ} 0 2 = none.ends in cc two

-- some input is always asked for
some_given : (names : List (Bor (List ℕ))) → (name : List ℕ) × (rest : List (List ℕ)) × (given_names names ≡ name ∷ rest)
some_given [] = (hyphen, [], refl)
some_given (name ∷ names) = (name.now, map (λ (n : Bor (List ℕ)). n.now) names, refl)

some_asked : (names : Option (Bor (List (Bor (List ℕ))))) → (name : List ℕ) × (rest : List (List ℕ)) × (asked_names names ≡ name ∷ rest)
some_asked None = (hyphen, [], refl)
some_asked (Some names) = some_given names.now

no_kind : (kind : ErrorKind) (kinds : Kinds) → kinds ≡ [] → IsAmong kind kinds → ⊥
no_kind kind [] none h = h
no_kind kind (k ∷ ks) none h = cc none

by_answer : (held : Nothing → Option (List ℕ)) (app : App) (around : Surroundings) (out err : Standing) → fault_of app [] ≡ []
    → AnswersBy held app [] around out err out err 0 → ⊥
by_answer held app around out err clean (inl h) = elim h.asked [
  | inl help ↦ no_kind DisplayHelp (fault_of app []) clean help
  | inr version ↦ no_kind DisplayVersion (fault_of app []) clean version
]
by_answer held app around out err clean (inr (inl h)) = no_kind h.wrong.kind (fault_of app []) clean h.wrong.found
by_answer held app around out err clean (inr (inr (inl h))) =
    let (name, rest, are) = some_asked h.request.inputs in
    undrawn held h.request around name rest out err are h.draws
by_answer held app around out err clean (inr (inr (inr h))) = let two : ◌≡◌ {A = ℕ} 0 2 = h.ends in cc two

-- the same where no arguments are given: a run that reads and writes nothing, and ends with the status 0
pub nothing_done : (held : Nothing → Option (List ℕ)) (around : Surroundings) (out err : Standing) → Answers held [] around out err out err 0 → ⊥
nothing_done held around out err (app, is, h) = by_answer held app around out err (no_arguments app is) h
