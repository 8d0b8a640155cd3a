use Rattle.std.proofs.Common.{arith, chars}
use Rattle.std.proofs.lemmas.Grind.{common_steps}
use Rattle.annotate_snippets.proofs.Common.{◌≡◌, ◌∙◌, false, List, ℕ, [], ◌∷◌, ◌++◌, ◌==◌, ap, string_bytes, sym}
use Rattle.annotate_snippets.proofs.Common.{is_whitespace, cow_str_bytes, list_all, append-nil, IsUtf8-string_bytes, norm, joined_labels, primary_labels}
use Rattle.annotate_snippets.proofs.ShortLemmas.{joined_labels-added, lead, on_added, primary_labels-one}
use Rattle.annotate_snippets.proofs.renderer.short.push_label.Goals as goal
use Rattle.annotate_snippets.proofs.renderer.short.push_label.Goals.{then-is_empty, else-is_empty}

pub returns-then-is_blank : goal.returns-then-is_blank
returns-then-is_blank c = grind (arith, common_steps, primary_labels-one, append-nil)

pub returns : goal.returns
returns c =
    let label : List ℕ = chars (cow_str_bytes c.in_ok-label.label) in
    let is : label ≡ norm (chars (cow_str_bytes c.in-Primary-Some.label)) = c.in_ok-label.ensures.value ∙ ap (λ bs. norm (chars bs)) c.as_str.ensures.value in
    let shown : list_all is_whitespace label ≡ false = cc (c.is_blank.ensures.value, c.deref.ensures.value, c.if-is_blank.false) in
    let one : primary_labels (c.args.annotation.now ∷ []) ≡ label ∷ [] = primary_labels-one c.args.annotation.now c.in-Primary-Some.label label false
    c.in-Primary-Some.is-0 c.in-Primary-Some.is-1 is shown in
    let led : c.if-is_empty.push_str.now ≡ lead c.is_empty.result = grind (arith, common_steps, then-is_empty, lead, else-is_empty, c.if-is_empty.branch) in
    record {
      added = λ labels are. on_added c.push_str-2.result (string_bytes c.push_str-2.new.self) _ _ c.push_str-2.ensures.bytes
          (λ added. joined_labels-added labels _ _ _ _ _ (IsUtf8-string_bytes c.reserve.new.self) (ap chars c.reserve.ensures.bytes ∙ are)
          (c.is_empty.ensures ∙ ap (λ n. n == 0) c.reserve.new.self.bytes.ok.0)
          (c.in_ok-push_str.ensures.bytes ∙ ap (λ bs. string_bytes c.reserve.new.self ++ bs) led)
          (added ∙ ap (λ bs. string_bytes c.push_str.new.self ++ bs) c.as_str-2.ensures.value) ∙ ap (λ ls. joined_labels (labels ++ ls)) (sym one));
    }
