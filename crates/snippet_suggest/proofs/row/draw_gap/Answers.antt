use Rattle.snippet_suggest.proofs.Common.{ℕ, ◌-◌, ◌∙◌, ap, Layout, placeholder_of, width_of}
use Rattle.snippet_suggest.proofs.PutLemmas.{gap_drawn}
use Rattle.snippet_suggest.proofs.row.draw_gap.Goals as goal

pub returns : goal.returns
returns c =
    let is = c.placeholder-placeholder.ensures.value ∙ ap (λ (l : Layout). placeholder_of l.decor) c.base.view_is in
    let cell = c.saturating_sub-cell.ensures ∙ ap (λ (n : ℕ). c.base.inside.gutter - n)
    (c.str_width.ensures.value ∙ ap width_of c.placeholder-placeholder.ensures.value)
    ∙ ap (λ (l : Layout). l.gutter - width_of (placeholder_of l.decor)) c.base.view_is in
    record {
      cells = gap_drawn c.args.layout.now c.placeholder-placeholder.result.now c.num_lines-row.result c.saturating_sub-cell.result c.args.buffer.now
          c.puts.new.self c.num_lines-row.ensures.count cell is c.in_ok-puts.ensures.ok;
    }
