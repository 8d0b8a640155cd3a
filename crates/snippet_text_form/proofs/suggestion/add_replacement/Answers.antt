use Rattle.std.proofs.lemmas.Grind.{common_steps}
use Rattle.snippet_text_form.proofs.Common.{◌≡◌, ℕ, List, ◌++◌, ◌∙◌, ap, codes, false, refl, sym, cond-false, cond-true, on_ok_weaker, arith, chars-encodes}
use Rattle.snippet_text_form.proofs.Common.{Bor, cow_str_bytes, Edit, trimmed_edit_of, is_blank_text, FormPiece, bare, added_text, before_added, overwrites}
use Rattle.std.proofs.Common.{chars}
use Rattle.snippet_text_form.proofs.AddedLemmas.{added-two}
use Rattle.snippet_text_form.proofs.suggestion.add_replacement.Goals as goal
use Rattle.snippet_text_form.proofs.suggestion.add_replacement.Goals.{then-overwrites, else-overwrites}

pub returns : goal.returns
unfolding lib.Utf8.encode
returns c =
    let old : List FormPiece = c.args.form.now in
    let mid : List FormPiece = c.add_text.new.self in
    let e : Edit = trimmed_edit_of c.args.patch.now in
    let over = overwrites c.args.source.now e in
    let lead : List ℕ = before_added c.args.source.now e in
    let text : List ℕ = added_text c.args.show_line_feeds e in
    let given : is_blank_text e.text ≡ false = sym c.is_blank.ensures.value ∙ c.if-is_blank.false in
    let led : chars c.if-overwrites.add_text.now ≡ lead = elim c.if-overwrites.branch [
      | then-overwrites w ↦
          ap (λ (t : Bor (List ℕ)). chars t.now) w.add_text-is ∙ chars-encodes (codes " replace with: ") refl
          ∙ sym (cond-true over (codes " replace with: ") (codes " add: ") (sym (c.overwrites.ensures.value c.requires.span) ∙ w.if-overwrites.true))
      | else-overwrites w ↦
          ap (λ (t : Bor (List ℕ)). chars t.now) w.add_text-is ∙ chars-encodes (codes " add: ") refl
          ∙ sym (cond-false over (codes " replace with: ") (codes " add: ") (sym (c.overwrites.ensures.value c.requires.span) ∙ w.if-overwrites.false))
    ] in
    let front : mid ≡ old ++ bare lead = c.in_ok-add_text.ensures.added ∙ ap (λ text. old ++ bare text) led in
    let shown : chars (cow_str_bytes c.in_ok-text.text) ≡ text = c.in_ok-text.ensures.value in grind (arith, common_steps, on_ok_weaker, added-two, cond-false)
