use Rattle.std.proofs.Common.{◌∙◌, ap, sym}
use Rattle.std.proofs.lemmas.Iterator.{YieldsList-from_chars}
use Rattle.std.proofs.lemmas.Iterator.Consumers.{YieldsList-end}
use Rattle.std.proofs.lemmas.List.{map-id}
use Rattle.snippet_text.specs.Width.{width_of}
use Rattle.snippet_text.proofs.PlainLemmas.{width_of-plain}
use Rattle.snippet_text.proofs.width.str_width.Goals as goal

pub returns-then-is_plain-clause-value : goal.returns-then-is_plain-clause-value
returns-then-is_plain-clause-value c = width_of-plain c.args.text.now (c.is_plain.ensures.yes c.if-is_plain.true)

pub returns-clause-value : goal.returns-clause-value
returns-clause-value c =
    let all = YieldsList-end (YieldsList-from_chars c.args.text.now c.utf8.text cc) c.loop-c.yielded _ c.loop-c.yielded_by _ _ c.in-None.is
    c.next.ensures.steps in
    c.loop-c.invariant.0 ∙ ap width_of (sym (map-id _) ∙ all.0)
