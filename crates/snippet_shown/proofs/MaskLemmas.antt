-- What masking makes of a text, character by character.
use Rattle.snippet_shown.proofs.Common.{common_steps, ◌≡◌, ℕ, chars, encode_utf8_all, false, List, [], ◌∷◌, ◌++◌, map, refl, sym, ap, ◌∙◌, arith}
use Rattle.snippet_shown.proofs.Common.{list_any, IsUtf8, chars_from_encodes, encodes-append, map-id, is_masked, mask_of, masked}
use Rattle.std.proofs.Common.{encode_utf8}

-- one more character
pub masked-push : (cs : List ℕ) (c : ℕ) → masked (cs ++ c ∷ []) ≡ masked cs ++ mask_of c ∷ []
masked-push [] c = refl
masked-push (d ∷ cs) c = ap (λ (t : List ℕ). mask_of d ∷ t) (masked-push cs c)

-- a text that holds none of the characters is masked as it is
pub masked-none : (cs : List ℕ) → list_any is_masked cs ≡ false → masked cs ≡ cs
masked-none [] none = refl
masked-none (c ∷ cs) none = grind (arith, masked-none cs (grind arith))

-- one more character is written
pub masked-written : (old new cs : List ℕ) (c p : ℕ) → new ≡ old ++ encode_utf8 p → old ≡ encode_utf8_all (masked cs) → p ≡ mask_of c
    → new ≡ encode_utf8_all (masked (cs ++ c ∷ []))
masked-written old new cs c p written before is = grind (arith, common_steps, encodes-append, masked-push)

-- bytes that spell what is shown for some characters have these characters
pub masked-spelled : (bytes cs ds : List ℕ) → IsUtf8 bytes → bytes ≡ encode_utf8_all (masked cs) → map (λ x. x) cs ≡ ds → chars bytes ≡ masked ds
masked-spelled bytes cs ds utf8 spelled all =
    sym (chars_from_encodes (masked cs) bytes utf8 (sym spelled)) ∙ ap masked (sym (map-id cs) ∙ all)
