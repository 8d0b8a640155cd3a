-- What a command does, by what is asked for.
use Rattle.std.proofs.Common.{◌≡◌, ◌∙◌, ◌≢◌, ◌⊎◌, ℕ, Bool, Bor, Option, List, [], None, Some, inl, inr, length, refl, subst, sym}
use Rattle.std.proofs.lemmas.List.{length-map}
use Rattle.clap.specs.Faults.{fault_of}
use Rattle.clap.specs.Kinds.{HasKind, IsAmong, Kinds}
use Rattle.clap.specs.Simple.{matches_of}
use Rattle.clap.specs.Values.{kind_of}
use Rattle.clap.specs.declared.error.Error.{Error}
use Rattle.clap.specs.declared.error.kind.ErrorKind.{ErrorKind}
use Rattle.clap.specs.declared.error.kind.ErrorKind.TheVariants.{DisplayHelp, DisplayVersion, OutOfMemory}
use Rattle.output_stream.specs.Standing.{Standing}
use Rattle.program.specs.CommandLine.{AsksToShow}
use Rattle.replay_run.specs.Arguments.{Checks, IsCommandLine, Task, Argument, asked, replay_app, task_of, arguments_at}
use Rattle.replay_run.specs.declared.command.ReplayCommand.{ReplayCommand}
use Rattle.replay_run.specs.declared.command.ReplayCommand.TheVariants.{Answer, Check, Repeat}
use Rattle.replay_run.specs.Compared.{EndsComparison}
use Rattle.replay_run.specs.Inputs.{IfAnswers, IfComparison, IsComparison, answers, are_texts, form_asked, way_of}
use Rattle.replay_run.specs.declared.lines.AnswerForm.{AnswerForm}
use Rattle.replay_run.specs.declared.lines.AnswerForm.TheVariants.{Json, Texts}
use Rattle.replay_run.specs.declared.lines.Way.{Way}

-- the form of answers that are texts where this form is texts is this form
same_form : (form : AnswerForm) → form_asked (are_texts form) ≡ form
same_form Json = refl
same_form Texts = refl

way_is : (way : Way) (texts keep_going : Bool) → texts ≡ are_texts way.form → keep_going ≡ way.keep_going
    → way_of texts keep_going ≡ way
way_is way texts keep_going text keep = rw (text, keep, same_form way.form) refl

-- what is known of the kind of a command's answers and of its inputs is known of those that are asked for
pub answers_asked : (command : ReplayCommand) (P : Way → List Argument → Type 0) (way : Way) (names : List Argument) → task_of command ≡ answers way names
    → IfAnswers command P → P way names
answers_asked (Answer texts keep_going inputs) P way names is known =
    let text : texts ≡ are_texts way.form = cc is in
    let keep : keep_going ≡ way.keep_going = cc is in
    let name : arguments_at inputs.now ≡ names = cc is in
    subst (λ (ns : List Argument). P way ns) name (subst (λ (w : Way). P w (arguments_at inputs.now)) (way_is way texts keep_going text keep) known)
answers_asked (Check files) P way names is known = absurd cc
answers_asked (Repeat times inputs) P way names is known = absurd cc

-- the same of the files that it compares
pub comparison_asked : (command : ReplayCommand) (P : List Argument → Type 0) (files : List Argument) → task_of command ≡ Checks files → IfComparison command P
    → P files
comparison_asked (Answer texts keep_going inputs) P files is known = absurd cc
comparison_asked (Check given) P files is known =
    let same : arguments_at given.now ≡ files = cc is in
    subst P same known
comparison_asked (Repeat times inputs) P files is known = absurd cc

-- a comparison is asked for
pub files_compared : (command : ReplayCommand) → IsComparison command → (files : List Argument) × (task_of command ≡ Checks files)
files_compared (Answer texts keep_going inputs) h = absurd h
files_compared (Check files) h = (arguments_at files.now, refl)
files_compared (Repeat times inputs) h = absurd h

-- what is known of a command's answers tells more
pub if_answers : (command : ReplayCommand) (P Q : Way → List Argument → Type 0) → ((way : Way) (names : List Argument) → P way names → Q way names)
    → IfAnswers command P → IfAnswers command Q
if_answers (Answer texts keep_going inputs) P Q tells h = tells _ _ h
if_answers (Check files) P Q tells h = tt
if_answers (Repeat times inputs) P Q tells h = tt

pub if_comparison : (command : ReplayCommand) (P Q : List Argument → Type 0) → ((files : List Argument) → P files → Q files) → IfComparison command P
    → IfComparison command Q
if_comparison (Answer texts keep_going inputs) P Q tells h = tt
if_comparison (Check files) P Q tells h = tells _ h
if_comparison (Repeat times inputs) P Q tells h = tt

-- what is known of answers, or of a comparison, is known of those of the command
pub answers_done : (command : ReplayCommand) (texts keep_going : Bool) (inputs : Bor (List (Bor Argument))) (P : Way → List Argument → Type 0) (way : Way)
    → command ≡ Answer texts keep_going inputs → way ≡ way_of texts keep_going → P way (arguments_at inputs.now) → IfAnswers command P
answers_done command texts keep_going inputs P way is same known =
    subst (λ (c : ReplayCommand). IfAnswers c P) (sym is) (subst (λ (w : Way). P w (arguments_at inputs.now)) same known)

pub comparison_done : {File : Type 0} (bytes : File → Option (List ℕ)) (command : ReplayCommand) (files : Bor (List (Bor Argument))) (old new : Standing)
    (status : ℕ) → command ≡ Check files → EndsComparison File bytes (length files.now) old new status
    → IfComparison command (λ names. EndsComparison File bytes (length names) old new status)
comparison_done {File} bytes command files old new status is ends =
    subst (λ (c : ReplayCommand). IfComparison c (λ names. EndsComparison File bytes (length names) old new status)) (sym is)
    (subst (λ (n : ℕ). EndsComparison File bytes n old new status) (sym (length-map files.now (λ (w : Bor Argument). w.now))) ends)

-- ---- what is asked for

-- one thing is asked for
pub same_task : (o : Option Task) (a b : Task) → o ≡ Some a → o ≡ Some b → a ≡ b
same_task o a b one other =
    let both : Some a ≡ Some b = sym one ∙ other in
    cc both

-- something and nothing aren't asked for at once
pub something_asked : (o : Option Task) (a : Task) → o ≡ Some a → o ≡ None → ⊥
something_asked o a some none =
    let both : Some a ≡ None = sym some ∙ none in
    absurd cc

-- arguments that aren't of the form, with which clap finds nothing wrong, ask for nothing
pub nothing_asked : (args : List Argument) (o : Option Task) → o ≡ asked (matches_of replay_app args) → fault_of replay_app args ≡ []
    → (IsCommandLine args → ⊥) → o ≡ None
nothing_asked args None is sound neither = refl
nothing_asked args (Some task) is sound neither = absurd (neither (inl (task, (sound, sym is))))

-- arguments with which clap finds nothing wrong don't ask for the help or the version
pub nothing_shown : (args : List Argument) → fault_of replay_app args ≡ [] → AsksToShow replay_app args → ⊥
nothing_shown args sound (inl help) = subst (λ (kinds : Kinds). IsAmong DisplayHelp kinds) sound help
nothing_shown args sound (inr version) = subst (λ (kinds : Kinds). IsAmong DisplayVersion kinds) sound version

-- the error is neither of those by which clap hands on the help and the version
abbrev pub IsMistake : Error → Type 0
IsMistake e = (kind_of e ≢ DisplayHelp) × (kind_of e ≢ DisplayVersion)

pub memory_mistake : (e : Error) → kind_of e ≡ OutOfMemory → IsMistake e
memory_mistake e memory = (
  λ is. let both : OutOfMemory ≡ DisplayHelp = sym memory ∙ is in absurd cc,
  λ is. let both : OutOfMemory ≡ DisplayVersion = sym memory ∙ is in absurd cc,
)

-- of arguments that aren't of the form
pub mistake_told : (args : List Argument) (e : Error) → HasKind (fault_of replay_app args) e → (IsCommandLine args → ⊥) → IsMistake e
mistake_told args e (inl memory) neither = memory_mistake e memory
mistake_told args e (inr among) neither = (
  λ is. neither (inr (inl (subst (λ (k : ErrorKind). IsAmong k (fault_of replay_app args)) is among))),
  λ is. neither (inr (inr (subst (λ (k : ErrorKind). IsAmong k (fault_of replay_app args)) is among))),
)

-- of arguments with which nothing is wrong: there was no memory to match them
pub memory_only : (args : List Argument) (e : Error) → HasKind (fault_of replay_app args) e → fault_of replay_app args ≡ [] → kind_of e ≡ OutOfMemory
memory_only args e (inl memory) sound = memory
memory_only args e (inr among) sound = absurd (subst (λ (kinds : Kinds). IsAmong (kind_of e) kinds) sound among)

-- where something is asked for, there was no memory to tell what
pub memory_asked : (o : Option Task) (a : Task) (e : Error) → (o ≡ None) ⊎ (kind_of e ≡ OutOfMemory) → o ≡ Some a → kind_of e ≡ OutOfMemory
memory_asked o a e (inl none) some = absurd (something_asked o a some none)
memory_asked o a e (inr memory) some = memory
