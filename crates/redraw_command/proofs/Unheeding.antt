-- What is written of some characters, one after another, so that none begins a command.
use Rattle.std.proofs.Common.{◌≡◌, ℕ, List, [], ◌∷◌, ◌++◌, ap, encode_utf8_all, map, refl, sym, ◌∙◌}
use Rattle.std.proofs.lemmas.List.{append_assoc, map-id}
use Rattle.std.proofs.lemmas.Str.{encodes-append}
use Rattle.redraw_command.specs.Unheeded.{apart_from, gap_before, hashes_after}

-- so many hashes there are after some characters
abbrev pub hashes_at : ℕ → List ℕ → ℕ
hashes_at hashes [] = hashes
hashes_at hashes (c ∷ cs) = hashes_at (hashes_after hashes c) cs

-- one more character
apart-push : (hashes : ℕ) (cs : List ℕ) (c : ℕ) → apart_from hashes (cs ++ c ∷ []) ≡ apart_from hashes cs ++ (gap_before (hashes_at hashes cs) c ++ c ∷ [])
apart-push hashes [] c = refl
apart-push hashes (d ∷ cs) c =
    ap (λ (l : List ℕ). gap_before hashes d ++ (d ∷ l)) (apart-push (hashes_after hashes d) cs c)
    ∙ sym (append_assoc (gap_before hashes d) (d ∷ apart_from (hashes_after hashes d) cs) (gap_before (hashes_at (hashes_after hashes d) cs) c ++ c ∷ []))

pub hashes-push : (hashes : ℕ) (cs : List ℕ) (c : ℕ) → hashes_at hashes (cs ++ c ∷ []) ≡ hashes_after (hashes_at hashes cs) c
hashes-push hashes [] c = refl
hashes-push hashes (d ∷ cs) c = hashes-push (hashes_after hashes d) cs c

-- one more character is written
pub apart-written : (old new cs : List ℕ) (hashes c : ℕ) → old ≡ encode_utf8_all (apart_from 0 cs) → hashes ≡ hashes_at 0 cs
    → new ≡ old ++ encode_utf8_all (gap_before hashes c ++ c ∷ []) → new ≡ encode_utf8_all (apart_from 0 (cs ++ c ∷ []))
apart-written old new cs hashes c before count written =
    written ∙ ap (λ t. t ++ encode_utf8_all (gap_before hashes c ++ c ∷ [])) before
    ∙ ap (λ n. encode_utf8_all (apart_from 0 cs) ++ encode_utf8_all (gap_before n c ++ c ∷ [])) count
    ∙ sym (encodes-append (apart_from 0 cs) (gap_before (hashes_at 0 cs) c ++ c ∷ []))
    ∙ ap encode_utf8_all (sym (apart-push 0 cs c))

-- and all of them are
pub apart-all : (bytes cs ds : List ℕ) → bytes ≡ encode_utf8_all (apart_from 0 cs) → map (λ x. x) cs ≡ ds → bytes ≡ encode_utf8_all (apart_from 0 ds)
apart-all bytes cs ds written all = written ∙ ap (λ (l : List ℕ). encode_utf8_all (apart_from 0 l)) (sym (map-id cs) ∙ all)
