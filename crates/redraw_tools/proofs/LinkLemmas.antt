-- How a message with links is walked along, character by character.
use Rattle.std.proofs.Common.{◌≡◌, refl, ℕ, zero, suc, ◌+◌, ◌<◌, List, [], ◌∷◌, ◌++◌, drop, drop-cons, get_or, length, encode_utf8_all, ap, sym, ◌∙◌, arith}
use Rattle.std.proofs.lemmas.List.{append_assoc}
use Rattle.std.proofs.lemmas.Str.{encodes-append}
use Rattle.redraw_tools.specs.Links.{piece_of, without_links}

-- of no characters nothing is shown
pub without_links-nil : (taken : ℕ) → without_links taken [] ≡ []
without_links-nil zero = refl
without_links-nil (suc taken) = refl

-- one that was taken isn't shown again
pub one-taken : (cs : List ℕ) (at taken left : ℕ) → at < length cs → left + 1 ≡ taken → without_links left (drop (at + 1) cs) ≡ without_links taken (drop at cs)
one-taken cs at taken left within is =
    let on : at + 1 ≡ suc at = omega arith in
    let more : suc left ≡ taken = omega (arith, is) in
    ap (λ n. without_links left (drop n cs)) on
    ∙ sym (ap (without_links (suc left)) (drop-cons cs at 0 within))
    ∙ ap (λ n. without_links n (drop at cs)) more

-- a piece that is added is the next of what is shown
pub piece-added : (cs old new whole : List ℕ) (at more : ℕ) → at < length cs →
    new ≡ old ++ encode_utf8_all (piece_of (get_or cs at 0) (drop (at + 1) cs)).shown → more ≡ (piece_of (get_or cs at 0) (drop (at + 1) cs)).more →
    old ++ encode_utf8_all (without_links 0 (drop at cs)) ≡ whole → new ++ encode_utf8_all (without_links more (drop (at + 1) cs)) ≡ whole
piece-added cs old new whole at more within added is so =
    let on : suc at ≡ at + 1 = omega arith in
    let after = drop (at + 1) cs in
    let cons : drop at cs ≡ get_or cs at 0 ∷ after = drop-cons cs at 0 within ∙ ap (λ n. get_or cs at 0 ∷ drop n cs) on in
    let piece = piece_of (get_or cs at 0) after in
    ap (λ xs. xs ++ encode_utf8_all (without_links more after)) added
    ∙ ap (λ n. old ++ encode_utf8_all piece.shown ++ encode_utf8_all (without_links n after)) is
    ∙ append_assoc old (encode_utf8_all piece.shown) (encode_utf8_all (without_links piece.more after))
    ∙ ap (λ xs. old ++ xs) (sym (encodes-append piece.shown (without_links piece.more after)))
    ∙ ap (λ xs. old ++ encode_utf8_all (without_links 0 xs)) (sym cons)
    ∙ so
