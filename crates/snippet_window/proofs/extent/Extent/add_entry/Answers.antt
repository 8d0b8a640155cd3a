use Rattle.snippet_window.proofs.Common.{◌∙◌, max, ap, sym}
use Rattle.snippet_window.proofs.ExtentLemmas.{bar_added, entry_added}
use Rattle.snippet_window.proofs.extent.Extent.add_entry.Goals as goal

pub returns-then-is_bar-clause-adds : goal.returns-then-is_bar-clause-adds
returns-then-is_bar-clause-adds c before reaches =
    bar_added before c.args.entry.now c.args.self.now (sym c.is_bar.ensures.value ∙ c.if-is_bar.true) reaches

pub returns-clause-adds : goal.returns-clause-adds
returns-clause-adds c before reaches =
    entry_added before c.args.entry.now c.args.self.now _ c.lesser.result (sym c.is_bar.ensures.value ∙ c.if-is_bar.false)
    reaches c.lesser.ensures.value c.lesser-self.ensures.value (c.max-self.ensures ∙ ap (λ n. max n c.args.entry.now.end.display) c.max.ensures)
    (c.max-self-2.ensures ∙ ap (λ n. max c.args.self.now.label_end n) c.label_end.ensures.value)
