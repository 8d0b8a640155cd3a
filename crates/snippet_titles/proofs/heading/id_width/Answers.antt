use Rattle.snippet_titles.proofs.Common.{common_steps, arith, ◌∙◌, ap, cow_str_bytes, option_map, width_of}
use Rattle.std.proofs.Common.{chars}
use Rattle.snippet_titles.proofs.LabelLemmas.{width_of-bare, width_of-bracketed}
use Rattle.snippet_titles.proofs.heading.id_width.Goals as goal

pub returns-in-Some-id-clause-value : goal.returns-in-Some-id-clause-value
returns-in-Some-id-clause-value c =
    grind (arith, common_steps, c.in-Some.is, width_of-bare, c.if-hidden.true, c.in-Some-id.is, c.str_width.ensures.value, c.as_str.ensures.value)

pub returns-in-Some-2-clause-value : goal.returns-in-Some-2-clause-value
returns-in-Some-2-clause-value c =
    rw c.in-Some.is (width_of-bracketed c.args.hidden c.in-Some.id.now _ _ c.if-hidden.false (ap (option_map cow_str_bytes) c.in-Some-2.is)
    (c.str_width-in-Some-2.ensures.value ∙ ap (λ bytes. width_of (chars bytes)) c.as_str-in-Some-2.ensures.value))
