use Rattle.annotate_snippets.proofs.Common.{◌≡◌, ◌∙◌, Bool, true, false, not, ap, sym, rules, the_type, Path}
use denote.Enum.Bare.{same_true, sameb}
use Rattle.annotate_snippets.proofs.PatchRows.{patches_added}
use Rattle.annotate_snippets.proofs.renderer.suggestions.draw_patches.Goals.{then-eq+in_ok-draw_path, else-eq}
use Rattle.annotate_snippets.proofs.renderer.suggestions.draw_patches.Goals as goal

pub returns : goal.returns
returns c = record {
  rows = λ above found is.
      patches_added c.args.renderer.now c.args.layout c.args.around c.args.suggestion.now.snippet.now found above c.args.buffer.now c.if-eq.buffer
      c.draw_suggestion.new.buffer c.line_numbers.result _ c.draw_suggestion.result c.line_numbers.ensures.value (ap not c.is_nothing-follows.ensures.value)
      is c.requires.path
      (elim c.if-eq.branch [
        | then-eq+in_ok-draw_path w ↦ λ starts. w.buffer-is ∙ w.in_ok-draw_path.ensures.rows
        | else-eq w ↦ λ starts. let never : ◌≡◌ {A = Bool} false true = w.if-eq.ensures ∙ ap (λ at. sameb the_type at Path) starts in absurd (cc)
      ])
      (elim c.if-eq.branch [
        | then-eq+in_ok-draw_path w ↦ λ other. absurd (other (same_true the_type (search rules) _ _ (sym w.if-eq.ensures)))
        | else-eq w ↦ λ other. w.buffer-is
      ]) c.draw_suggestion.ensures.cells;
}
