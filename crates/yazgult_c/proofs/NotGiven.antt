-- What a caller with only so much room isn't given.
use Rattle.std.proofs.Common.{◌≡◌, ℕ, [], ◌∷◌, arith}
use Rattle.yazgult_c.specs.GivenBytes.{IsGiven}

-- two bytes for one who has room for one: the answer isn't how many were filled
pub answer_cut_short : IsGiven (7 ∷ 8 ∷ []) (0 ∷ []) (7 ∷ []) 1 → ⊥
answer_cut_short given = omega (arith, given.counted)

-- nor is a byte left out for which there is room
pub last_byte_left_out : IsGiven (7 ∷ 8 ∷ []) (0 ∷ 0 ∷ []) (7 ∷ 0 ∷ []) 2 → ⊥
last_byte_left_out given =
    let filled : 7 ∷ 0 ∷ [] ≡ 7 ∷ 8 ∷ [] = given.filled in
    cc
