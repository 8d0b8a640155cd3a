-- The answer to a line, as it is written.
use Rattle.std.specs.Prelude.{◌≡◌, ℕ, ◌+◌, ◌<◌, Bool, true, false, ◌||◌, List, [], ◌∷◌, ◌++◌, IsTrue, codes, decimal, length, min}
use Rattle.std.specs.Prelude.{if◌then◌else◌}
use Rattle.std.specs.Prelude.{string_bytes}
use Rattle.std.specs.Io.BufRead.{first_line, drop_through}
use Rattle.std.specs.List.{flat_map}
pub use Rattle.program.specs.Stream.{ended_line}
use Rattle.serde_json.specs.Data.{Data}
use Rattle.serde_json.specs.Written.{compact_text}
use Rattle.replay_answer.specs.Answer.{IsNoCase, answer_of, told_of}
use Rattle.replay_answer.specs.Case.{IsCaseOf}
use Rattle.replay_run.specs.Checked.{most}
use Rattle.replay_answer.specs.Outcome.{Becomes, IsOutcomeOf}
use Rattle.replay_answer.specs.declared.case.Case.{Case}
use Rattle.replay_run.specs.declared.lines.AnswerForm.{AnswerForm}
use Rattle.replay_run.specs.declared.lines.AnswerForm.TheVariants as form
use Rattle.replay_run.specs.declared.lines.Way.{Way}
use Rattle.replay_answer.specs.declared.outcome.Outcome.{Outcome}
use Rattle.replay_answer.specs.declared.outcome.Outcome.TheVariants.{Texts, Refused}

-- what stands before a text of a report: an empty line, but for the first one
abbrev pub gap : Bool → List ℕ
gap is_first = if is_first then [] else ended_line []

-- each text, or what the refusal prints, and after it the span that it is about
abbrev pub outcome_text : Outcome → List ℕ
outcome_text (Texts texts) = flat_map (λ text. ended_line (string_bytes text)) texts.items
outcome_text (Refused refusal words span) =
    ended_line (codes "refused: " ++ string_bytes words ++ string_bytes span)

-- the answer to the case of this name, in this form
abbrev pub answer_text : AnswerForm → Bool → List ℕ → Outcome → List ℕ
answer_text form.Json is_first id outcome = ended_line (compact_text (answer_of id outcome))
answer_text form.Texts is_first id outcome = gap is_first ++ outcome_text outcome

-- the text answers a line that holds this value: it says what became of the case that the value describes
pub record AnswersValue (form : AnswerForm) (is_first : Bool) (d : Data) (text : List ℕ) : Type 0 where
  pub case : Case
  pub outcome : Outcome
  pub case_is : IsCaseOf d case
  pub became : IsOutcomeOf case outcome
  pub text_is : text ≡ answer_text form is_first case.id.now outcome

-- the text answers the line: it says what became of the case that the line describes
pub record AnswersCaseAs (form : AnswerForm) (is_first : Bool) (line text : List ℕ) : Type 0 where
  pub case : Case
  pub outcome : Outcome
  pub became : Becomes line case outcome
  pub text_is : text ≡ answer_text form is_first case.id.now outcome

-- what is said of the line of a number that is no case, in this form
abbrev pub told_text : AnswerForm → Bool → ℕ → List ℕ → List ℕ
told_text form.Json is_first n words = ended_line (compact_text (told_of n words))
told_text form.Texts is_first n words = gap is_first ++ ended_line (codes "line " ++ (decimal n ++ (codes ": no case: " ++ words)))

-- a line, and its number in what holds it
abbrev pub Numbered : Type 0
Numbered = ℕ × List ℕ

-- the text tells that the line is no case
pub record TellsLine (form : AnswerForm) (is_first : Bool) (line : Numbered) (text : List ℕ) : Type 0 where
  pub words : List ℕ
  pub is : IsNoCase line.1 words
  pub text_is : text ≡ told_text form is_first line.0 words

-- the text answers the line, and `told` says whether it tells that the line is no case, which it does only where that is asked for
abbrev pub AnswersLine : Way → Bool → Bool → Numbered → List ℕ → Type 0
AnswersLine way false is_first line text = AnswersCaseAs way.form is_first line.1 text
AnswersLine way true is_first line text = IsTrue way.keep_going × TellsLine way.form is_first line text

-- the number of the line that comes after so many, as far as can be counted
abbrev pub following_number : ℕ → ℕ
following_number before = min (before + 1) most

-- the lines of a text that come after so many, in order, each with its number and without its end (a line feed, or a carriage return and
-- a line feed)
abbrev pub AreNumberedLines : ℕ → List ℕ → List Numbered → Type 0
AreNumberedLines before text [] = text ≡ []
AreNumberedLines before text (line ∷ lines) =
    (0 < length text) × (line ≡ (following_number before, first_line text)) × AreNumberedLines (before + 1) (drop_through 10 text) lines

-- the first of these lines
abbrev pub AreFirstLines : ℕ → List ℕ → List Numbered → Type 0
AreFirstLines before text [] = Unit {0}
AreFirstLines before text (line ∷ lines) =
    (0 < length text) × (line ≡ (following_number before, first_line text)) × AreFirstLines (before + 1) (drop_through 10 text) lines

-- texts answer lines, one each, in order, and `told` says whether one of them tells that its line is no case; is_first tells whether
-- nothing was written before the first of them
abbrev pub AnswersLines : Way → Bool → Bool → List Numbered → List (List ℕ) → Type 0
AnswersLines way told is_first [] [] = told ≡ false
AnswersLines way told is_first [] (text ∷ texts) = ⊥
AnswersLines way told is_first (line ∷ lines) [] = ⊥
AnswersLines way told is_first (line ∷ lines) (text ∷ texts) =
    (here : Bool) × (later : Bool) × (told ≡ here || later) × AnswersLine way here is_first line text × AnswersLines way later false lines texts

-- whether still nothing is written once lines are answered, where is_first tells whether nothing was before
abbrev pub first_after : {X : Type 0} → Bool → List X → Bool
first_after is_first [] = is_first
first_after is_first (line ∷ lines) = false
