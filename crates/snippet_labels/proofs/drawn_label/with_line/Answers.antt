use Rattle.snippet_labels.proofs.Common.{◌∙◌, ap, encodes-chars, length, max, sym}
use Rattle.snippet_labels.proofs.drawn_label.with_line.Goals as goal

pub returns-clause-width : goal.returns-clause-width
returns-clause-width c = c.max.ensures ∙ ap (λ bs. max c.args.size.width (length bs)) (sym (encodes-chars c.args.line.now c.utf8.line))
