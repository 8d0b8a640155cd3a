use Rattle.snippet_text_form.proofs.Common.{◌≡◌, ◌∙◌, ap, cow_str_bytes, option_copied, option_map, norm, address_of, link_for}
use Rattle.std.proofs.Common.{chars}
use Rattle.snippet_text_form.proofs.LabelForm.{id-added, link-known}
use Rattle.snippet_text_form.proofs.heading.add_id.Goals as goal
use Rattle.snippet_text_form.proofs.heading.add_id.Goals.{then-is_empty, else-is_empty}

pub returns : goal.returns
returns c =
    let text = cow_str_bytes c.in-Some-id.text in
    let shown : chars (cow_str_bytes c.in_ok-shown.shown) ≡ norm (chars text) = cc (c.in_ok-shown.ensures.value, c.as_str.ensures.value) in
    let link : option_copied c.if-is_empty.address ≡ link_for (address_of c.args.hyperlink c.in-Some.id.now) (norm (chars text)) = elim c.if-is_empty.branch [
      | then-is_empty w ↦ link-known _ _ _ _ _ _ c.deref.utf8 c.deref.ensures.value c.is_empty.ensures shown (λ is. ap option_copied w.address-is) (λ is. cc)
      | else-is_empty w ↦ link-known c.is_empty.result c.deref.result.now _ _ _ _ c.deref.utf8 c.deref.ensures.value c.is_empty.ensures shown (λ is. cc) (λ is.
          ap option_copied w.address-is ∙ w.address_of-address.ensures.value)
    ] in
    record {
      added = rw c.in-Some.is (id-added c.add_styled.result _ _ _ c.args.hyperlink c.args.hidden c.args.role c.in-Some.id.now text _ _ _
          (ap (option_map cow_str_bytes) c.in-Some-id.is) c.before_id.ensures.value shown link c.in_ok-add_text.ensures.added c.add_styled.ensures.added);
    }
