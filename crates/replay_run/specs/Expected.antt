-- When a case became what is expected of it.
use Rattle.std.specs.Prelude.{◌≡◌, ℕ, List, Some, codes, map, string_bytes}
use Rattle.std.specs.Borrow.{Bor}
use Rattle.serde_json.specs.Data.{Data}
use Rattle.serde_json.specs.Find.{as_str}
use Rattle.json_lines.specs.Field.{ListSays, SaysAt, text_field}
use Rattle.replay_read.specs.Shape.{HasShape}
use Rattle.replay_read.specs.declared.shape.Shape.TheVariants as shape
use Rattle.replay_answer.specs.Outcome.{refusal_name}
use Rattle.replay_run.specs.declared.expected.Expected.{Expected}
use Rattle.replay_run.specs.declared.expected.Wanted.{Wanted}
use Rattle.replay_run.specs.declared.expected.Wanted.TheVariants as wanted
use Rattle.replay_answer.specs.declared.outcome.Outcome.{Outcome}
use Rattle.replay_answer.specs.declared.outcome.Outcome.TheVariants as outcome

-- the texts that a list of references leads to
abbrev pub texts_lent : List (Bor (List ℕ)) → List (List ℕ)
texts_lent refs = map (λ (text : Bor (List ℕ)). text.now) refs

-- the outcome is the wanted one: the same texts in the same order, or a refusal of the same name and words
abbrev pub IsWanted : Wanted → Outcome → Type 0
IsWanted (wanted.Texts texts) (outcome.Texts drawn) =
    texts_lent texts.items ≡ map string_bytes drawn.items
IsWanted (wanted.Texts texts) (outcome.Refused refusal words span) = ⊥
IsWanted (wanted.Refused name words) (outcome.Texts drawn) = ⊥
IsWanted (wanted.Refused name words) (outcome.Refused refusal drawn_words span) =
    (name.now ≡ refusal_name refusal) × (words.now ≡ string_bytes drawn_words)

-- the case of this name became what is expected: of this very case, and the wanted outcome
abbrev pub IsMet : Expected → List ℕ → Outcome → Type 0
IsMet expected id became = (expected.id.now ≡ id) × IsWanted expected.wanted became

-- what a line of JSON expects: texts, or a refusal by its name and words, beside which the numbers that it names may stand, and nothing
-- else beside its case's name
abbrev pub IsWantedOf : Data → Wanted → Type 0
IsWantedOf d (wanted.Texts texts) =
    HasShape shape.Texts d × SaysAt (ListSays (λ e (text : Bor (List ℕ)). as_str e ≡ Some text.now)) (codes "ok") d texts.items
IsWantedOf d (wanted.Refused name words) =
    HasShape shape.Refusal d × (text_field (codes "refused") d ≡ Some name.now) × (text_field (codes "text") d ≡ Some words.now)

-- what a line of JSON expects, and of which case
pub record IsExpectedOf (d : Data) (expected : Expected) : Type 0 where
  pub id : text_field (codes "id") d ≡ Some expected.id.now
  pub wanted : IsWantedOf d expected.wanted
