use Rattle.snippet_grid.proofs.Common.{string_bytes, on_ok_weaker, option_copied, style_at}
use Rattle.snippet_grid.proofs.WeaveLemmas.{row_closed}
use Rattle.snippet_grid.proofs.weave.end_row.Goals as goal

pub returns : goal.returns
returns c =
    record {
      closed = on_ok_weaker c.push_reset.result (λ bytes level cells old. row_closed c.args.codes.now level (style_at c.args.codes.now c.args.last.place)
          (option_copied c.args.last.link) cells old (string_bytes c.args.out.now) (string_bytes c.end_link.new.out) _ c.in_ok-end_link.ensures.none
          c.in_ok-end_link.ensures.ended bytes) c.push_reset.ensures.text;
    }
