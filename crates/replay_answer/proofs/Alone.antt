-- What is known of the value that a line holds is known of the line.
use Rattle.std.proofs.Common.{◌≡◌, ◌⊎◌, ℕ, Bool, List, Some, None, inl, inr, refl}
use Rattle.std.specs.Str.{IsUtf8}
use Rattle.std.specs.Prelude.{codes}
use Rattle.serde_json.specs.Data.{Data}
use Rattle.serde_json.specs.Read.{read}
use Rattle.serde_json.specs.Written.{compact_text}
use Rattle.replay_answer.specs.Answer.{answer_of, not_json_text, told_of}
use Rattle.replay_answer.specs.Case.{IsCaseOf}
use Rattle.replay_answer.specs.Line.{AnswersAlone, AnswersAs, TellsAs}
use Rattle.replay_answer.specs.Outcome.{IsOutcomeOf}
use Rattle.replay_answer.specs.declared.case.Case.{Case}
use Rattle.replay_answer.specs.declared.outcome.Outcome.{Outcome}

-- what became of the case that a value describes
pub of_case : (d : Data) (case : Case) (outcome : Outcome) (text : List ℕ) → IsCaseOf d case → IsOutcomeOf case outcome
    → text ≡ compact_text (answer_of case.id.now outcome) → AnswersAs d text
of_case d case outcome text case_is became text_is =
    record {
      case = case;
      outcome = outcome;
      case_is = case_is;
      became = became;
      text_is = text_is;
    }

-- the answer to the value that a line holds
pub of_value : (line text : List ℕ) (d : Data) → read line ≡ Some d → AnswersAs d text ⊎ TellsAs text → AnswersAlone line text
of_value line text d reads (inl says) =
    inl record {
      case = says.case;
      outcome = says.outcome;
      became = record { described = d; reads = reads; case_is = says.case_is; became = says.became };
      text_is = says.text_is;
    }
of_value line text d reads (inr tells) =
    inr record {
      words = tells.0;
      is = inr (inr (d, reads));
      text_is = tells.1;
    }

-- the answer to a line that holds no value
pub of_error : (line text : List ℕ) (column : ℕ) (ends_early : Bool) → read line ≡ None
    → text ≡ compact_text (told_of 1 (not_json_text column ends_early)) → AnswersAlone line text
of_error line text column ends_early reads is =
    inr record {
      words = not_json_text column ends_early;
      is = inr (inl (column, ends_early, refl, reads));
      text_is = is;
    }

-- the answer to bytes that are no text
pub of_bytes : (line text : List ℕ) → (IsUtf8 line → ⊥) → text ≡ compact_text (told_of 1 (codes "not valid UTF-8")) → AnswersAlone line text
of_bytes line text broken is = inr record { words = codes "not valid UTF-8"; is = inl (broken, refl); text_is = is }
