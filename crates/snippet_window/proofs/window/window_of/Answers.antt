use Rattle.snippet_window.proofs.Common.{common_steps, Option, IfSome, ℕ, sym, subst, ◌≡◌, ◌<◌, ◌≤◌, ◌+◌, ◌-◌, ◌^◌, ◌∙◌, min, ap, arith, length, unwrap_or}
use Rattle.snippet_window.proofs.Common.{rules, List, width_of-chars, width_of, IsPartOf, reaching_last, covered_columns, uncovered_part, window_left}
use Rattle.snippet_window.proofs.Common.{window_right}
use Rattle.std.proofs.Common.{chars}
use Rattle.snippet_window.proofs.LineWindowLemmas.{cells_few, start_is_few, part_short}
use Rattle.snippet_window.proofs.NearLemmas.{right_is, window_dropped, inner_found, end_some, end_none}
use Rattle.snippet_window.proofs.window.window_of.Goals as goal
use Rattle.snippet_window.proofs.window.window_of.Goals.{then-right-width, else-right-width}

pub overflow_add-at : goal.overflow_add-at
overflow_add-at c =
    grind (
      arith,
      common_steps,
      c.requires.short,
      part_short,
      c.after_columns-reached.ensures.rest,
      c.within_columns-inner_width.ensures.value,
      cells_few,
      width_of-chars,
      c.requires.placeholder,
      c.uncovered-start.ensures.bound,
      c.uncovered-start.ensures.text,
      c.unwrap_or.ensures,
      c.char_count.ensures.value,
    )

pub returns : goal.returns
returns c =
    let margin = c.args.margin in
    let room = margin.term_width in
    let from = margin.computed_left in
    let to = margin.computed_right in
    let text = chars c.args.text.now in
    let rest = chars c.after_columns-reached.result.1.now in
    let placeholder = chars c.args.placeholder.now in
    let found = chars c.within_columns-inner_width.result.0.now in
    let start = c.uncovered-start.result.0 in
    let shown = chars c.uncovered-start.result.1.now in
    let is = c.uncovered-start.ensures in
    let near = c.after_columns-reached.ensures in
    let narrow : width_of placeholder < 2 ^ 58 + 1 = omega (arith, width_of-chars c.args.placeholder.now, c.requires.placeholder) in
    let short : length found < 2 ^ 60 = omega
    (arith, c.requires.short, part_short _ _ text rest found near.rest c.within_columns-inner_width.ensures.value) in
    let inner = λ (line : List ℕ) (part : IsPartOf margin line c.args.width c.args.skipped text).
    inner_found margin c.args.skipped c.args.width c.left-left.result c.right-right.result c.saturating_sub.result line text rest found part
    c.left-left.ensures.value c.right-right.ensures.value (omega (arith, c.saturating_sub.ensures)) (omega (arith, near.width, near.near)) near.rest
    c.within_columns-inner_width.ensures.value in
    record {
      dropped = λ line part.
          let left : c.left-left.result ≡ window_left from line = c.left-left.ensures.value ∙ ap (min from) part.0 in
          ap (λ n. c.args.skipped + n) near.width ∙ window_dropped room from to c.args.skipped c.left-left.result line text part.1 left;
      few_dropped = search rules;
      few_start = start_is_few start (width_of placeholder) narrow is.bound;
      few_end = elim c.if-right-width.branch [
        | then-right-width w ↦
            let few = cells_few start (width_of placeholder) from placeholder found shown w.unwrap_or.result w.char_count.result narrow is.bound is.text short
            w.unwrap_or.ensures w.char_count.ensures.value in
            let end : w.saturating_sub-then-right-width.result < 2 ^ 61 = omega (arith, few, w.saturating_sub-then-right-width.ensures) in
            subst (λ (o : Option ℕ). IfSome o (λ at. at < 2 ^ 61)) (sym w.end-is) end
        | else-right-width w ↦ subst (λ (o : Option ℕ). IfSome o (λ at. at < 2 ^ 61)) (sym w.end-is) tt
      ];
      start = λ line part. is.start ∙ ap (covered_columns from placeholder) (inner line part);
      text = λ line part. is.text ∙ ap (uncovered_part from placeholder) (inner line part);
      end = λ line part.
          let right = right_is room from to c.args.width c.right-right.result line part.0 c.right-right.ensures.value in
          elim c.if-right-width.branch [
            | then-right-width w ↦
                let cut : window_right room from to line < width_of line = omega (arith, right, part.0, w.if-right-width.true) in
                let last : w.last_reaching-covered.result ≡ reaching_last (width_of placeholder) found = w.last_reaching-covered.ensures.value
                ∙ ap (λ n. reaching_last n found) w.str_width.ensures.value in
                let end : w.saturating_sub-then-right-width.result ≡ (unwrap_or start 0 + length shown) - reaching_last (width_of placeholder) found = omega
                (arith, w.saturating_sub-then-right-width.ensures, last, w.unwrap_or.ensures, w.char_count.ensures.value) in
                w.end-is ∙ end_some room from to w.saturating_sub-then-right-width.result start placeholder line found shown (inner line part) cut is.start
                is.text end
            | else-right-width w ↦
                let uncut : width_of line ≤ window_right room from to line = omega (arith, right, part.0, w.if-right-width.false) in
                w.end-is ∙ end_none room from to placeholder line uncut
          ];
    }
