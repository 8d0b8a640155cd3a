-- What is written where the lines that readers hold are answered.
use Rattle.std.specs.Prelude.{◌≡◌, ◌⊎◌, ℕ, Bool, true, List, [], ◌∷◌, ◌++◌, Option, Some, None, Result, String, IfSome, IsOkAnd, IsTrue, codes, length}
use Rattle.std.specs.Prelude.{map}
use Rattle.std.specs.Prelude.{All}
use Rattle.std.specs.Prelude.{string_bytes}
use Rattle.std.specs.Io.KnownBytes.{Appends, Keeps}
use Rattle.std.specs.declared.alloc.Global.{Global}
use Rattle.std.specs.List.{concat, flat_map}
use Rattle.output_stream.specs.Standing.{Standing}
use Rattle.serde_json.specs.Data.{Data}
use Rattle.serde_json.specs.Read.{read}
use Rattle.program.specs.Inputs.{input_name}
use Rattle.replay_run.specs.WrittenAnswer.{AreFirstLines, AreNumberedLines, AnswersLine, AnswersLines, Numbered, first_after, following_number}
use Rattle.replay_run.specs.Problem.{IsFinal, IsRead, IsProblemWith, IsWrite}
use Rattle.replay_run.specs.Arguments.{Argument}
use Rattle.replay_run.specs.Inputs.{NamedInput}
use Rattle.replay_run.specs.declared.lines.Way.{Way}
use Rattle.replay_run.specs.declared.problem.InputLine.{InputLine}
use Rattle.replay_run.specs.declared.problem.InputLine.TheVariants.{Case}
use Rattle.replay_run.specs.declared.problem.Problem.{Problem}
use Rattle.replay_run.specs.declared.problem.Problem.TheVariants.{NotText, NotJson, Wrong, Unpaired, TooManyLines, NotCases, Read, Clock, Write, Memory}

-- the lines that were read of what a reader holds: all its lines, where it is known what it holds
abbrev pub AreRead : Option (List ℕ) → List Numbered → Type 0
AreRead held lines = IfSome held (λ text. AreNumberedLines 0 text lines)

-- a reader's lines are answered: to what a stream held, the texts that answer them are added, and nothing else; `told` says whether one
-- of them tells that its line is no case. Before, is_first told whether nothing was written yet; afterwards, still_first does
pub record AnswersReader (way : Way) (told : Bool) (is_first still_first : Bool) (held : Option (List ℕ)) (old new : Standing) : Type 0 where
  pub lines : List Numbered
  pub read : AreRead held lines
  pub texts : List (List ℕ)
  pub answered : AnswersLines way told is_first lines texts
  pub written : Appends old.held new.held (concat texts)
  pub still : still_first ≡ first_after is_first lines

-- the inputs of these names are answered, by what each of them holds: to what a writer held, the texts that answer their lines are added, of
-- one input after another, and nothing else. The first text is the first that is written
pub record AnswersInputs (File Standard : Type 0) (held : File ⊎ Standard → Option (List ℕ)) (way : Way) (told : Bool) (names : List Argument)
    (old new : Standing) : Type 0 where
  pub inputs : List (NamedInput File Standard × List Numbered)
  pub named : map (λ input. input.0.name) inputs ≡ names
  pub read : All (λ input. AreRead (held input.0.source) input.1) inputs
  pub texts : List (List ℕ)
  pub answered : AnswersLines way told true (flat_map (λ input. input.1) inputs) texts
  pub written : Appends old.held new.held (concat texts)

-- the first lines of what a reader holds, where it is known what it holds
abbrev pub AreFirstRead : Option (List ℕ) → List Numbered → Type 0
AreFirstRead held lines = IfSome held (λ text. AreFirstLines 0 text lines)

-- to what a stream held a first part of this is added, and nothing else
pub record AppendsFirst (old new : Standing) (whole : List ℕ) : Type 0 where
  pub part : List ℕ
  pub rest : List ℕ
  pub split : whole ≡ part ++ rest
  pub added : Appends old.held new.held part

-- it is problem to stop for: where it is to go on, it isn't with what a line says
abbrev pub StopsFor : Way → Problem → Type 0
StopsFor way problem = IsTrue way.keep_going → IsFinal problem

-- answering a line stops: a write failed, and of the text that answers it a first part is added to what a stream held; or nothing is
-- added, and the line of this number is no case, and it isn't to go on, or can't
abbrev pub StopsLine : {E : Type 0} → Way → Bool → ℕ → Result (String Global) E → Standing → Standing → Problem → Type 0
StopsLine way is_first number line old new problem =
    (IsWrite new problem × IsOkAnd line (λ line. (told : Bool) × (text : List ℕ)
    × AnswersLine way told is_first (number, string_bytes line) text × AppendsFirst old new text))
    ⊎ (Keeps old.held new.held × IsProblemWith (Case number) line problem × StopsFor way problem)

-- the line after these, by its number, as far as can be counted
abbrev pub following_line : List Numbered → InputLine
following_line lines = Case (following_number (length lines))

-- it stops at the line after these, which is no case: it is no text, or no JSON, or JSON that describes none; or what the reader holds
-- couldn't be read any further, or there was no memory
abbrev pub StopsAfter : Option (List ℕ) → List Numbered → Problem → Type 0
StopsAfter held lines (NotText place) = place ≡ following_line lines
StopsAfter held lines (NotJson place column ends_early) =
    (place ≡ following_line lines) × (line : List ℕ) × AreFirstRead held (lines ++ (following_number (length lines), line) ∷ []) × (read line ≡ None)
StopsAfter held lines (Wrong place words) =
    (place ≡ following_line lines) × (line : List ℕ) × AreFirstRead held (lines ++ (following_number (length lines), line) ∷ [])
    × (d : Data) × (read line ≡ Some d)
StopsAfter held lines (Unpaired number) = ⊥
StopsAfter held lines TooManyLines = ⊥
StopsAfter held lines NotCases = ⊥
StopsAfter held lines (Read error) = Unit {0}
StopsAfter held lines (Clock error) = ⊥
StopsAfter held lines (Write error) = ⊥
StopsAfter held lines Memory = Unit {0}

-- answering a reader stops: its first lines are answered, in order. To what a stream held the texts that answer them are added, all of
-- them and nothing else, and it stops at the line after these; or a write failed, and a first part of the texts is added
pub record StopsReader (way : Way) (is_first : Bool) (held : Option (List ℕ)) (old new : Standing) (problem : Problem) : Type 0 where
  pub lines : List Numbered
  pub read : AreFirstRead held lines
  pub texts : List (List ℕ)
  pub told : Bool
  pub answered : AnswersLines way told is_first lines texts
  pub written : (IsWrite new problem × AppendsFirst old new (concat texts))
      ⊎ (Appends old.held new.held (concat texts) × StopsAfter held lines problem × StopsFor way problem)

-- answering stops at the input of this name, which can't be had, or within it
abbrev pub StopsAtInput : (File Standard : Type 0) → (File ⊎ Standard → Option (List ℕ)) → Argument → Way → Bool → Standing → Standing
    → Problem → Type 0
StopsAtInput File Standard held name way is_first old new problem =
    (Keeps old.held new.held × IsRead problem)
    ⊎ ((input : NamedInput File Standard) × (input.name ≡ name) × StopsReader way is_first (held input.source) old new problem)

-- the problem with inputs that are all answered: what was written can't be handed on, or an answer tells that its line is no case
abbrev pub IsEndProblem : Bool → Standing → Problem → Type 0
IsEndProblem told new problem = IsWrite new problem ⊎ (IsTrue told × (problem ≡ NotCases))

-- answering the inputs of these names stops with what is called so: those of the first names are answered, each to its end, and it stops at
-- the next; or all are answered, and there is problem with that
pub record StopsInputs (File Standard : Type 0) (held : File ⊎ Standard → Option (List ℕ)) (way : Way) (names : List Argument)
    (old new : Standing) (called : Argument) (problem : Problem) : Type 0 where
  pub before : List Argument
  pub mid : Standing
  pub told : Bool
  pub answered : AnswersInputs File Standard held way told before old mid
  pub stops : ((name : Argument) × (after : List Argument) × (names ≡ before ++ name ∷ after) × (called ≡ input_name name)
      × StopsAtInput File Standard held name way (first_after true (flat_map (λ input. input.1) answered.inputs)) mid new problem)
      ⊎ ((names ≡ before) × (called ≡ codes "standard output") × IsEndProblem told new problem × Keeps mid.held new.held)
