-- What is answered to a line that stands alone.
use Rattle.std.specs.Prelude.{◌≡◌, ◌⊎◌, ℕ, List, Some, codes}
use Rattle.std.specs.Str.{IsUtf8}
use Rattle.serde_json.specs.Data.{Data}
use Rattle.serde_json.specs.Written.{compact_text}
use Rattle.replay_answer.specs.Answer.{IsNoCase, answer_of, told_of}
use Rattle.replay_answer.specs.Case.{IsCaseOf}
use Rattle.replay_answer.specs.Outcome.{Becomes, IsOutcomeOf}
use Rattle.replay_answer.specs.declared.case.Case.{Case}
use Rattle.replay_answer.specs.declared.outcome.Outcome.{Outcome}

-- the text says what became of the case that a value describes: texts that show its report, or the refusal that stands first
pub record AnswersAs (d : Data) (text : List ℕ) : Type 0 where
  pub case : Case
  pub outcome : Outcome
  pub case_is : IsCaseOf d case
  pub became : IsOutcomeOf case outcome
  pub text_is : text ≡ compact_text (answer_of case.id.now outcome)

-- the text says in some words that line 1 is no case
abbrev pub TellsAs : List ℕ → Type 0
TellsAs text = (words : List ℕ) × (text ≡ compact_text (told_of 1 words))

-- the text says what became of the case that a line describes
pub record AnswersCase (line text : List ℕ) : Type 0 where
  pub case : Case
  pub outcome : Outcome
  pub became : Becomes line case outcome
  pub text_is : text ≡ compact_text (answer_of case.id.now outcome)

-- the text says that a line is no case: as it isn't UTF-8, or isn't JSON from a column on, or is JSON that describes none
pub record TellsAlone (line text : List ℕ) : Type 0 where
  pub words : List ℕ
  pub is : ((IsUtf8 line → ⊥) × (words ≡ codes "not valid UTF-8")) ⊎ IsNoCase line words
  pub text_is : text ≡ compact_text (told_of 1 words)

-- the text answers a line that stands alone
abbrev pub AnswersAlone : List ℕ → List ℕ → Type 0
AnswersAlone line text = AnswersCase line text ⊎ TellsAlone line text
