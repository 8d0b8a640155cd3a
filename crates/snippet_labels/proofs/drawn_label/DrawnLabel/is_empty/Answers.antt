use Rattle.snippet_labels.proofs.Common.{◌∙◌, ◌==◌, ap}
use Rattle.snippet_labels.proofs.PieceLemmas.{shows_none}
use Rattle.snippet_labels.proofs.drawn_label.DrawnLabel.is_empty.Goals as goal

pub returns : goal.returns
returns c = record { value = ap (λ n. n == 0) c.width.ensures.value ∙ shows_none c.args.self.now }
