-- Sources that are kept, what becomes of a text that is to be, and the answer that is kept beside them.
use denote.RawPtr.{InBlock}
use Rattle.std.specs.Prelude.{◌≡◌, ◌⊎◌, ℕ, ℤ, pos, ◌^◌, ◌<◌, nat_lt, if◌then◌else◌, List, [], ◌∷◌, ◌++◌, length}
use Rattle.std.specs.Str.{IsUtf8}
use Rattle.yazgult_c.specs.AnswerBytes.{answer_bytes}
use Rattle.yazgult_c.specs.declared.answer.Answer.{Answer}
use Rattle.yazgult_c.specs.declared.answer.Answer.TheVariants as answer
use Rattle.yazgult_c.specs.declared.sources.Sources.{Sources}
use Rattle.yazgult_c.specs.declared.sources.kept.Keeping.{Keeping}
use Rattle.yazgult_c.specs.declared.sources.kept.Keeping.TheVariants.{Done, Memory, NoText}

-- the pointer isn't null
abbrev pub IsKept : Sources → Type 0
IsKept sources = InBlock sources.at

-- the texts that are kept, in the order of their numbers
abbrev pub texts_of : Sources → List (List ℕ)
texts_of sources = sources.kept.sources.items

-- the answer that is kept beside them
abbrev pub answer_kept : Sources → List ℕ
answer_kept sources = sources.kept.answer.items

-- what is left of these bytes where there is so much room: all of them, if they don't fit
abbrev pub left_of : ℕ → List ℕ → List ℕ
left_of room bytes = if nat_lt room (length bytes) then bytes else []

-- what is left of an answer where there is so much room; where memory ran out, it may be anything
abbrev pub IsLeft : Answer → ℕ → List ℕ → Type 0
IsLeft a room left = (left ≡ left_of room (answer_bytes a)) ⊎ (a ≡ answer.Memory)

-- a text is kept after those before it, or nothing changes: for want of memory, or since it isn't UTF-8 of fewer than 2^56 bytes
abbrev pub IsKeeping : List ℕ → List (List ℕ) → List (List ℕ) → Keeping → Type 0
IsKeeping text old new Done = IsUtf8 text × (length text < 2 ^ 56) × (new ≡ old ++ text ∷ [])
IsKeeping text old new Memory = new ≡ old
IsKeeping text old new NoText = (new ≡ old) × (IsUtf8 text → length text < 2 ^ 56 → ⊥)

abbrev pub keeping_number : Keeping → ℤ
keeping_number Done = pos 0
keeping_number Memory = pos 1
keeping_number NoText = pos 2
