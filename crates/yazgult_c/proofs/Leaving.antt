-- What is left of an answer that there isn't room for.
use Rattle.std.proofs.Common.{◌≡◌, ℕ, List, inl, inr, refl}
use Rattle.yazgult_c.specs.AnswerBytes.{answer_bytes}
use Rattle.yazgult_c.specs.Keeping.{IsLeft, left_of}
use Rattle.yazgult_c.specs.declared.answer.Answer.{Answer}
use Rattle.yazgult_c.specs.declared.answer.Answer.TheVariants as answer

pub of_bytes : (a : Answer) (room : ℕ) (left : List ℕ) → left ≡ left_of room (answer_bytes a) → IsLeft a room left
of_bytes a room left is = inl is

pub of_memory : (room : ℕ) (left : List ℕ) → IsLeft answer.Memory room left
of_memory room left = inr refl
