use Rattle.snippet_grid.proofs.Common.{◌≡◌, ◌∙◌, ◌++◌, ◌∷◌, [], ap, arith, encode_utf8, length, refl, rules, string_bytes, sym, List, ℕ}
use Rattle.snippet_grid.proofs.Common.{append-nil, IsUtf8-string_bytes, IsUtf8, BeginsWith}
use Rattle.std.proofs.Common.{chars}
use Rattle.snippet_grid.proofs.GridShown.{IsWord-pushed, chars_added}
use Rattle.snippet_grid.proofs.RunLemmas.{BeginsWith-added}
use Rattle.snippet_grid.proofs.words.push_char.Goals as goal

-- a character that was added to a text is the only one of its bytes
one_added : (old new : List ℕ) (ch : ℕ) → IsUtf8 old → IsUtf8 new → new ≡ old ++ encode_utf8 ch → BeginsWith old new → chars (encode_utf8 ch) ≡ ch ∷ []
one_added old new ch utf8_old utf8_new added grows =
    let one = append-nil (encode_utf8 ch) in
    ap chars (sym one) ∙ chars_added old new (ch ∷ []) utf8_old utf8_new (added ∙ ap (λ (t : List ℕ). old ++ t) (sym one)) grows

pub returns : goal.returns
returns c =
    let old = string_bytes c.args.text.now in
    let new = string_bytes c.push.new.self in
    let utf8_old = IsUtf8-string_bytes c.args.text.now in
    let utf8_new = IsUtf8-string_bytes c.push.new.self in
    let added = c.in_ok-push.ensures.bytes in
    let grows = BeginsWith-added old _ new added in
    let alone = one_added old new c.args.ch utf8_old utf8_new added grows in
    let many : length (chars (encode_utf8 c.args.ch)) ≡ 1 = ap length alone in
    record {
      ok = IsWord-pushed old new (encode_utf8 c.args.ch) _ c.args.row c.args.at c.args.role utf8_old utf8_new (omega (arith, many))
          (omega (arith, c.requires.end, many)) added refl refl (sym many) (search (rules, c.len-start.ensures)) (search (rules, c.len.ensures)) refl refl;
      alone = alone;
      text = grows;
    }
