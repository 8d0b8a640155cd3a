use Rattle.snippet_titles.proofs.Common.{◌∙◌, ap, on_ok_weaker}
use Rattle.std.proofs.Common.{chars}
use Rattle.snippet_titles.proofs.HeadingLemmas.{plain_shown, text_drawn}
use Rattle.snippet_titles.proofs.LineLemmas.{lines_at-plain, one_line}
use Rattle.snippet_titles.proofs.heading.draw_text.Goals as goal

pub returns-then-is_plain : goal.returns-then-is_plain
returns-then-is_plain g c =
    let text = c.text-text.result.now in
    let plain = c.is_plain.ensures.yes c.if-is_plain.true in
    record {
      rows = on_ok_weaker c.extend_row.result (λ extended. text_drawn _ _ c.args.row _ c.args.role text _ c.text-text.utf8
          (plain_shown _ text _ c.text-text.ensures plain)
          (one_line _ _ c.args.row _ c.args.role text c.requires.last (lines_at-plain text plain) extended)) c.extend_row.ensures.extended;
    }

pub returns : goal.returns
returns g c =
    record {
      rows = on_ok_weaker c.draw_lines.result (text_drawn _ _ c.args.row _ c.args.role _ _ c.as_str.utf8
          (ap chars c.as_str.ensures.value ∙ c.in_ok-shown.ensures.value)) c.draw_lines.ensures.rows;
    }
