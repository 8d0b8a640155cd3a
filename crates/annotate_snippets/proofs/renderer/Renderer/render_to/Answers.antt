use Rattle.annotate_snippets.proofs.Common.{◌∙◌, sym, IfSome_then, first_refusal}
use Rattle.annotate_snippets.proofs.WriteLemmas.{target_same}
use Rattle.annotate_snippets.proofs.renderer.Renderer.render_to.Goals as goal

-- nothing is written of a report that is refused: the writer that was lent, which holds what it held, is the caller's
pub returns-clause-refused : goal.returns-clause-refused
returns-clause-refused g c =
    let same = c.out-1.given.1 (sym (c.write_report.ensures.same_reference ∙ c.new-lent.ensures.same_reference)) in
    IfSome_then (first_refusal c.args.self.now c.args.groups.now) c.write_report.ensures.refused
    (λ refusal h. (h.0, same ∙ target_same c.write_report.new.out c.new-lent.result h.1 ∙ c.new-lent.ensures.writer))
