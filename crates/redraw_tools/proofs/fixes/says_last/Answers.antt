use Rattle.std.proofs.Common.{◌&&◌, ◌∙◌, Bool, ap, nat_eq, string_bytes, sym}
use lib.Pointwise.{pointwise}
use Rattle.redraw_tools.proofs.FixLemmas.{says-at}
use Rattle.redraw_tools.proofs.fixes.says_last.Goals as goal

pub returns-then-is_help-clause-value : goal.returns-then-is_help-clause-value
returns-then-is_help-clause-value c =
    let same = λ (b : Bool). b && pointwise nat_eq (string_bytes c.in-Some.last.now.message) c.args.message.now in
    c.eq.ensures ∙ ap (λ text. pointwise nat_eq text c.args.message.now) c.as_str.ensures.value ∙ ap same c.if-is_help.ensures.value
    ∙ sym (says-at c.args.message.now c.args.children.now c.in-Some.last.now c.in-Some.ensures.value)

pub returns-else-is_help-clause-value : goal.returns-else-is_help-clause-value
returns-else-is_help-clause-value c =
    let same = λ (b : Bool). b && pointwise nat_eq (string_bytes c.in-Some.last.now.message) c.args.message.now in
    c.if-is_help.false ∙ ap same c.if-is_help.ensures.value
    ∙ sym (says-at c.args.message.now c.args.children.now c.in-Some.last.now c.in-Some.ensures.value)
