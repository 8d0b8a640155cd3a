use Rattle.annotate_snippets.proofs.Common.{IfOk-weaker}
use Rattle.annotate_snippets.proofs.ContextShown.{fits-around}
use Rattle.annotate_snippets.proofs.renderer.Renderer.with_context.Goals as goal

pub returns-then-adds_context-clause-fits : goal.returns-then-adds_context-clause-fits
returns-then-adds_context-clause-fits c =
    let r = c.args.self.now in
    IfOk-weaker c.groups_remade.result _ _
    (λ made pairs. fits-around r.context_before r.context_after c.args.groups.items made.items pairs c.requires.fits) c.groups_remade.ensures.made
