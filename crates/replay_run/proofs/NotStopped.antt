-- Ends of a run that the definitions exclude: what a wrong program would write.
use Rattle.std.proofs.Common.{◌≡◌, ◌⊎◌, ℕ, ◌≤◌, Bool, true, false, Option, List, [], ◌∷◌, ◌++◌, Some, ap, arith, codes, inl, inr, length, length-append, refl}
use Rattle.std.specs.Io.KnownBytes.{Appends}
use Rattle.std.specs.List.{concat}
use Rattle.serde_json.specs.Written.{compact_text}
use Rattle.replay_run.specs.WrittenAnswer.{AnswersLine, AnswersLines, AreFirstLines, Numbered}
use Rattle.replay_answer.specs.Answer.{answer_of, told_of}
use Rattle.replay_run.specs.Answered.{AppendsFirst, StopsAfter, StopsFor, StopsReader}
use Rattle.replay_answer.specs.Answer.{not_json_text}
use Rattle.replay_run.specs.Problem.{IsWrite, TellsStop, TellsUsageError, message_text, normalized_text, stop_text}
use Rattle.replay_run.specs.Arguments.{Argument}
use Rattle.output_stream.specs.Standing.{Standing}
use Rattle.program.specs.Stream.{Output, Receives}
use Rattle.program.proofs.NotGiven.{sound, told_nothing}
use Rattle.std.specs.declared.io.Error.{Error}
use Rattle.replay_run.specs.declared.lines.AnswerForm.TheVariants.{Json}
use Rattle.replay_run.specs.declared.lines.Way.{Way}
use Rattle.replay_run.specs.declared.problem.InputLine.{InputLine}
use Rattle.replay_run.specs.declared.problem.InputLine.TheVariants.{Case, Expected}
use Rattle.replay_run.specs.declared.problem.Problem.{Problem}
use Rattle.replay_run.specs.declared.problem.Problem.TheVariants.{NotText, NotJson, Write}

-- with status 0 or 1 standard error holds what it held, so nothing is told there
pub noise : (status b : ℕ) (rest : List ℕ) → status ≤ 1 → (status ≤ 1 → Some (b ∷ rest) ≡ Some []) → ⊥
noise status b rest done silent =
    let same : Some (b ∷ rest) ≡ Some [] = silent done in
    cc

-- no line is answered where a reader holds no byte
none_of_none : (way : Way) (told is_first : Bool) (lines : List Numbered) (texts : List (List ℕ)) → AreFirstLines 0 [] lines
    → AnswersLines way told is_first lines texts
    → concat texts ≡ []
none_of_none way told is_first [] [] first answers = refl
none_of_none way told is_first [] (text ∷ texts) first answers = absurd answers
none_of_none way told is_first (line ∷ lines) texts first answers = absurd (omega (arith, first.0))

part_of_none : (b : ℕ) (rest whole part more : List ℕ) → whole ≡ [] → whole ≡ part ++ more → b ∷ rest ≡ part → ⊥
part_of_none b rest whole part more none split is =
    let long = length-append part more in
    omega (arith, ap length none, ap length split, ap length is, long)

-- a stream that holds this, and to which a write has failed or not
abbrev holding : Bool → List ℕ → Standing
holding failed held = record { held = Some held; has_failed = failed }

-- and one that holds nothing yet
abbrev nothing : Standing
nothing = holding false []

-- an answer that is written where nothing was read is no answer: `{"id":"a","ok":[]}` before it stops
pub invented : (way : Way) (is_first : Bool) (b : ℕ) (rest : List ℕ) (problem : Problem)
    → (failed : Bool) → StopsReader way is_first (Some []) nothing (holding failed (b ∷ rest)) problem → ⊥
invented way is_first b rest problem failed h = written h.written
  where
    none : concat h.texts ≡ []
    none = none_of_none way h.told is_first h.lines h.texts h.read h.answered

    written : (IsWrite (holding failed (b ∷ rest)) problem × AppendsFirst nothing (holding failed (b ∷ rest)) (concat h.texts))
        ⊎ (Appends (Some []) (Some (b ∷ rest)) (concat h.texts) × StopsAfter (Some []) h.lines problem × StopsFor way problem) → ⊥
    written (inl w) = part_of_none b rest (concat h.texts) w.1.part w.1.rest none w.1.split w.1.added
    written (inr w) =
        let same : b ∷ rest ≡ concat h.texts = w.0 in
        omega (arith, ap length same, ap length none)

-- the number of a line
abbrev number_in : InputLine → ℕ
number_in (Case number) = number
number_in (Expected number) = number

-- answers as JSON, and whether to go on where a line is no case
abbrev json : Bool → Way
json keep_going = record { form = Json; keep_going = keep_going }

-- the answer to a line is never empty
never_empty : (keep_going told is_first : Bool) (line : Numbered) (text : List ℕ) → AnswersLine (json keep_going) told is_first line text → 1 ≤ length text
never_empty keep_going false is_first line text answer =
    let some = length-append (compact_text (answer_of answer.case.id.now answer.outcome)) (10 ∷ []) in
    omega (arith, ap length answer.text_is, some)
never_empty keep_going true is_first line text answer =
    let some = length-append (compact_text (told_of line.0 answer.1.words)) (10 ∷ []) in
    omega (arith, ap length answer.1.text_is, some)

one_answer : (keep_going told is_first : Bool) (lines : List Numbered) (texts : List (List ℕ)) → length lines ≡ 1
    → AnswersLines (json keep_going) told is_first lines texts → [] ≡ concat texts → ⊥
one_answer keep_going told is_first [] texts one answers none = cc
one_answer keep_going told is_first (line ∷ lines) [] one answers none = absurd answers
one_answer keep_going told is_first (line ∷ lines) (text ∷ texts) one answers none =
    let some = never_empty keep_going answers.0 is_first line text answers.3 in
    let many = length-append text (concat texts) in
    omega (arith, ap length none, many, some)

-- where it stops at line 2 the first line was answered: nothing written is no end of this
pub unanswered : (keep_going is_first failed : Bool) (held : List ℕ)
    → StopsReader (json keep_going) is_first (Some held) nothing (holding failed []) (NotText (Case 2)) → ⊥
unanswered keep_going is_first failed held h = written h.written
  where
    written : (IsWrite (holding failed []) (NotText (Case 2)) × AppendsFirst nothing (holding failed []) (concat h.texts))
        ⊎ (Appends (Some []) (Some []) (concat h.texts) × StopsAfter (Some held) h.lines (NotText (Case 2)) × StopsFor (json keep_going) (NotText (Case 2))) → ⊥
    written (inl w) = let never = w.0.2 in cc
    written (inr w) =
        let place = w.1 in
        one_answer keep_going h.told is_first h.lines h.texts (omega (arith, ap number_in place)) h.answered w.0

-- where it is to go on, it doesn't stop at a line that is no JSON
pub stopped_all_the_same : (is_first : Bool) (held : Option (List ℕ)) (old new : Standing) (at : InputLine)
    → StopsReader (json true) is_first held old new (NotJson at 1 false) → ⊥
stopped_all_the_same is_first held old new at h = written h.written
  where
    written : (IsWrite new (NotJson at 1 false) × AppendsFirst old new (concat h.texts))
        ⊎ (Appends old.held new.held (concat h.texts) × StopsAfter held h.lines (NotJson at 1 false) × StopsFor (json true) (NotJson at 1 false)) → ⊥
    written (inl w) = let never = w.0.2 in cc
    written (inr w) = w.2 refl (not_json_text 1 false) refl

-- a line that is no case is answered by its own number: the first line of a reader isn't told as line 2
pub told_by_another_number : (way : Way) (told is_first : Bool) (text : List ℕ) (line : List ℕ) (texts : List (List ℕ))
    → AreFirstLines 0 text ((2, line) ∷ []) → AnswersLines way told is_first ((2, line) ∷ []) texts → ⊥
told_by_another_number way told is_first text line texts first answers =
    let two : 2 ≡ 1 = ap (λ (l : Numbered). l.0) first.1 in
    omega (arith, two)

-- where no write failed it doesn't stop for one: half an answer is no end of this
pub half_written : (way : Way) (is_first : Bool) (held : Option (List ℕ)) (old : Standing) (now : List ℕ) (error : Error)
    → StopsReader way is_first held old (holding false now) (Write error) → ⊥
half_written way is_first held old now error h = written h.written
  where
    written : (IsWrite (holding false now) (Write error) × AppendsFirst old (holding false now) (concat h.texts))
        ⊎ (Appends old.held (Some now) (concat h.texts) × StopsAfter held h.lines (Write error) × StopsFor way (Write error)) → ⊥
    written (inl w) = let never = w.0.0 in cc
    written (inr w) = w.1

-- what standard error is given where nothing is written there, and no write failed
abbrev Untold : Output → Type 0
Untold = Receives (λ (held : Option (List ℕ)). held) (sound []) (sound [])

-- what stopped it is told there
pub stop_untold : (name : Argument) (problem : Problem) → TellsStop name problem Untold → ⊥
stop_untold name problem (inl told) = told_nothing (message_text (stop_text name problem told.0)) told.1
stop_untold name problem (inr told) = told_nothing (codes "replay: out of memory") told

-- and what is wrong with the arguments
pub usage_untold : TellsUsageError Untold → ⊥
usage_untold (inl told) = told_nothing (normalized_text told.0) told.1
usage_untold (inr told) = told_nothing (codes "replay: out of memory") told
