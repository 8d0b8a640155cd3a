use Rattle.snippet_splice.proofs.Common.{◌≡◌, ◌≢◌, ◌∙◌, ℕ, ap, arith, false, count_by, eqb, eqb-true}
use Rattle.snippet_splice.proofs.Common.{false_from_ne_true, is_lf, trimmed_edit_of, rules}
use Rattle.snippet_splice.proofs.PlaceLemmas.{between, start_few}
use Rattle.snippet_splice.proofs.stretches.end_char.Goals as goal

pub returns-then-line_feed_count-eq0 : goal.returns-then-line_feed_count-eq0
returns-then-line_feed_count-eq0 c = search rules

pub returns-else-line_feed_count-eq0 : goal.returns-else-line_feed_count-eq0
returns-else-line_feed_count-eq0 c =
    record {
      value = λ from is starts counts.
          let source = c.args.source.now in
          let e = trimmed_edit_of c.args.patch.now in
          let n : ℕ = count_by is_lf (between source e.start e.end) in
          let counted : c.line_feed_count.result ≡ n = c.line_feed_count.ensures.value ∙ ap (count_by is_lf) is in
          let other : e.start ≢ e.end = λ same. absurd (omega (arith, same, c.if-patch.false)) in
          let some : eqb n 0 ≡ false = false_from_ne_true _ (λ t. absurd (omega (arith, counted, eqb-true n 0 t, c.if-line_feed_count-eq0.false))) in
          rw (false_from_ne_true (eqb e.start e.end) (λ t. other (eqb-true _ _ t)), some)
          (omega (arith, c.saturating_add.ensures, counts, c.steps_after_text.ensures.value, start_few source from e.end));
    }
