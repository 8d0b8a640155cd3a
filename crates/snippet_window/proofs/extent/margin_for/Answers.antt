use Rattle.snippet_window.proofs.Common.{common_steps, [], ◌≡◌, ◌∙◌, ◌≤◌, ℕ, Option, take, ap, subst, arith, unwrap_or, rules, take_all, ReachesLines}
use Rattle.snippet_window.proofs.Common.{columns_of, entries_of, kept_of, StandsClear, least, least_below, kept_of-next, kept_of-past}
use Rattle.snippet_window.proofs.ExtentLemmas.{lines_all, starts_all}
use Rattle.snippet_window.proofs.MarginLaws.{bounds_reached}
use Rattle.snippet_window.proofs.extent.margin_for.Goals as goal
use Rattle.snippet_window.proofs.MeasureWords.{margin_by}

pub returns : goal.returns
returns c =
    let lines = c.args.lines.now in
    let kept = kept_of lines in
    let all : take c.loop-line.line-index lines ≡ lines = take_all c.loop-line.line-index lines (omega arith) in
    let x = c.loop-line.extent in
    let reaches = subst (λ ls. ReachesLines (kept_of ls) x) all c.loop-line.invariant in
    let columns = columns_of (entries_of kept) in
    let first : c.unwrap_or-2.result ≡ unwrap_or (least columns) 0 = c.unwrap_or-2.ensures ∙ ap (λ (o : Option ℕ). unwrap_or o 0) reaches.entries.first in
    let starts = starts_all (λ n. unwrap_or (least columns) 0 ≤ n) (entries_of kept) (least_below columns) in
    record {
      bounds = c.new.ensures.bounds ∙ ap (λ n. margin_by n c.unwrap_or-2.result x.last x.label_end c.args.room x.widest) c.unwrap_or.ensures
          ∙ ap (λ n. margin_by (unwrap_or x.whitespace 0) n x.last x.label_end c.args.room x.widest) c.unwrap_or-2.ensures
          ∙ bounds_reached c.args.room kept x reaches;
      clear = lines_all (StandsClear c.new.result) kept (λ k d within not_bar cut. omega (arith, starts k d within not_bar, c.new.ensures.padded cut, first));
      room = search rules;
      ordered = search rules;
    }

pub loop-line-preserved : goal.loop-line-preserved
loop-line-preserved c =
    grind (
      arith,
      common_steps,
      c.loop-line.line-index,
      c.if-not-line.branch,
      kept_of-next,
      c.loop-line-test.true,
      c.line-item.is,
      c.if-not-line.extent,
      c.loop-line.invariant,
      kept_of-past,
    )
