-- What a message shows of a text.
use Rattle.std.proofs.Common.{◌≡◌, ℕ, chars, encode_utf8, encode_utf8_all, List, [], ◌∷◌, ◌++◌, map, refl, sym, ap, ◌∙◌}
use Rattle.std.proofs.Common.{String, Global, string_bytes}
use Rattle.std.specs.Str.{IsUtf8}
use Rattle.std.proofs.lemmas.Str.{IsUtf8-string_bytes, chars_from_encodes, encodes-append, encodes-chars}
use Rattle.std.proofs.lemmas.List.{append-nil, map-id}
use Rattle.snippet_text.specs.Normalized.{norm}
use Rattle.program.specs.Message.{message_text, normalized_text, on_one_line, picture_of}

-- one more character
line-push : (cs : List ℕ) (c : ℕ) → on_one_line (cs ++ c ∷ []) ≡ on_one_line cs ++ picture_of c ∷ []
line-push [] c = refl
line-push (d ∷ cs) c = ap (λ (t : List ℕ). picture_of d ∷ t) (line-push cs c)

-- one more character is written
pub line-written : (old new cs : List ℕ) (c p : ℕ) → new ≡ old ++ encode_utf8 p → old ≡ encode_utf8_all (on_one_line cs) → p ≡ picture_of c
    → new ≡ encode_utf8_all (on_one_line (cs ++ c ∷ []))
line-written old new cs c p written before is =
    written ∙ ap (λ t. t ++ encode_utf8 p) before ∙ ap (λ t. encode_utf8_all (on_one_line cs) ++ t) (sym (append-nil (encode_utf8 p)))
    ∙ sym (encodes-append (on_one_line cs) (p ∷ []))
    ∙ ap (λ q. encode_utf8_all (on_one_line cs ++ q ∷ [])) is
    ∙ ap encode_utf8_all (sym (line-push cs c))

-- bytes that spell what a line shows of some characters have these characters
pub line-spelled : (bytes cs ds : List ℕ) → IsUtf8 bytes → bytes ≡ encode_utf8_all (on_one_line cs) → map (λ x. x) cs ≡ ds
    → chars bytes ≡ on_one_line ds
line-spelled bytes cs ds utf8 spelled all =
    sym (chars_from_encodes (on_one_line cs) bytes utf8 (sym spelled)) ∙ ap on_one_line (sym (map-id cs) ∙ all)

-- what is shown for a text is spelled by the characters that are shown for it
pub shown_text : (shown : String Global) (text : List ℕ) → chars (string_bytes shown) ≡ norm (chars text) → string_bytes shown ≡ normalized_text text
shown_text shown text value = sym (encodes-chars (string_bytes shown) (IsUtf8-string_bytes shown)) ∙ ap encode_utf8_all value

-- the same of what a message shows for it
pub shown_message : (shown : String Global) (line text : List ℕ) → chars (string_bytes shown) ≡ norm (chars line) → chars line ≡ on_one_line (chars text)
    → string_bytes shown ≡ message_text text
shown_message shown line text value is =
    sym (encodes-chars (string_bytes shown) (IsUtf8-string_bytes shown)) ∙ ap encode_utf8_all (value ∙ ap norm is)
