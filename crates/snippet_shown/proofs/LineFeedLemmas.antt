-- What showing line feeds makes of a text.
use Rattle.snippet_shown.proofs.Common.{common_steps, ◌≡◌, ℕ, ◌==◌, chars, encode_utf8_all, Bool, true, false, List, [], ◌∷◌, ◌++◌, arith, map}
use Rattle.snippet_shown.proofs.Common.{refl, sym, ap, ◌∙◌, list_any, IsUtf8, chars_from_encodes, encodes-append, map-id, false≢true, picture_of}
use Rattle.snippet_shown.proofs.Common.{with_line_feeds_shown}
use Rattle.std.proofs.Common.{encode_utf8}

-- one more character
pub shown-push : (cs : List ℕ) (c : ℕ) → with_line_feeds_shown (cs ++ c ∷ []) ≡ with_line_feeds_shown cs ++ picture_of c ∷ []
shown-push [] c = refl
shown-push (d ∷ cs) c = ap (λ (t : List ℕ). picture_of d ∷ t) (shown-push cs c)

-- a text without line feeds is shown as it is
same_after : (c : ℕ) (cs : List ℕ) (feed : Bool) → (c == 10) ≡ feed → list_any (λ d. d == 10) (c ∷ cs) ≡ false
    → (list_any (λ d. d == 10) cs ≡ false → with_line_feeds_shown cs ≡ cs) → with_line_feeds_shown (c ∷ cs) ≡ c ∷ cs
same_after c cs true is none below =
    let yes : list_any (λ d. d == 10) (c ∷ cs) ≡ true = rw is in absurd (false≢true (sym none ∙ yes))
same_after c cs false is none below = grind arith

pub shown-feedless : (cs : List ℕ) → list_any (λ c. c == 10) cs ≡ false → with_line_feeds_shown cs ≡ cs
shown-feedless [] none = refl
shown-feedless (c ∷ cs) none = same_after c cs (c == 10) refl none (shown-feedless cs)

-- one more character is written
pub shown-written : (old new cs : List ℕ) (c p : ℕ) → new ≡ old ++ encode_utf8 p → old ≡ encode_utf8_all (with_line_feeds_shown cs) → p ≡ picture_of c
    → new ≡ encode_utf8_all (with_line_feeds_shown (cs ++ c ∷ []))
shown-written old new cs c p written before is = grind (arith, common_steps, encodes-append, shown-push)

-- bytes that spell what is shown for some characters have these characters
pub shown-spelled : (bytes cs ds : List ℕ) → IsUtf8 bytes → bytes ≡ encode_utf8_all (with_line_feeds_shown cs) → map (λ x. x) cs ≡ ds
    → chars bytes ≡ with_line_feeds_shown ds
shown-spelled bytes cs ds utf8 spelled all =
    sym (chars_from_encodes (with_line_feeds_shown cs) bytes utf8 (sym spelled)) ∙ ap with_line_feeds_shown (sym (map-id cs) ∙ all)
