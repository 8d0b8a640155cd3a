use Rattle.std.proofs.lemmas.Grind.{common_steps}
use Rattle.snippet_text_form.proofs.Common.{◌≡◌, ◌++◌, List, codes, refl, on_ok_weaker, chars-encodes, FormPiece, arith, bare}
use Rattle.snippet_text_form.proofs.AddedLemmas.{text-two}
use Rattle.snippet_text_form.proofs.SuggestionLemmas.{adds_line}
use Rattle.snippet_text_form.proofs.suggestion.add_option.Goals as goal

pub returns : goal.returns
unfolding lib.Utf8.encode
returns c =
    let begun : List FormPiece = c.add_break.new.self in
    let named : List FormPiece = c.add_text.new.self in
    let name : named ≡ begun ++ bare (codes " option ") = cc (c.in_ok-add_text.ensures.added, chars-encodes (codes " option ") refl) in
    grind (arith, common_steps, on_ok_weaker, adds_line, text-two)
