use Rattle.snippet_titles.proofs.Common.{◌∙◌, [], on_ok_weaker}
use Rattle.snippet_titles.proofs.AddedLemmas.{added_free, added_links, added_texts}
use Rattle.snippet_titles.proofs.EndLemmas.{IsAtEnd-begun}
use Rattle.snippet_titles.proofs.HeadingLemmas.{heading_drawn, row_begun, row_none}
use Rattle.snippet_titles.proofs.heading.draw_heading.Goals as goal

pub draw_text-requires-clause-last : goal.draw_text-requires-clause-last
draw_text-requires-clause-last g c =
    let start = c.of-first.result in
    let heading = (goal.MessageOrTitle-dyn g c.args.heading.now).heading_of c.args.heading.now.1 in
    let adds = c.in_ok-write_label.ensures.added start _ heading c.level-2.ensures c.id.ensures (c.in_ok-write_sign.ensures.added start [] (row_none start)) in
    (IsAtEnd-begun _ _ _ _ c.num_lines-row.ensures.count (row_begun _ _ _ start _ _ (c.of-first.ensures.grid ∙ c.take.ensures.taken)
    c.of-first.ensures.number (c.set.ensures.rows ∙ c.in_ok-drawn.ensures.grid) adds)).2

pub returns : goal.returns
returns g c =
    let start = c.of-first.result in
    let adds = c.in_ok-write_label.ensures.added start _ _ c.level-2.ensures c.id.ensures (c.in_ok-write_sign.ensures.added start [] (row_none start)) in
    let begun = row_begun _ _ _ start _ _ (c.of-first.ensures.grid ∙ c.take.ensures.taken) c.of-first.ensures.number
    (c.set.ensures.rows ∙ c.in_ok-drawn.ensures.grid) adds in
    let rows = on_ok_weaker c.draw_text.result
    (λ is. heading_drawn _ _ _ _ c.args.hyperlink c.args.style _ _ _ c.roles_of-roles.result c.num_lines-row.ensures.count c.level.ensures
    c.allows_styling.ensures c.roles_of-roles.ensures.value begun is) c.draw_text.ensures.rows in
    record {
      rows = rows;
      texts = on_ok_weaker c.draw_text.result (added_texts _ _ c.args.hyperlink c.args.style _) rows;
      free = on_ok_weaker c.draw_text.result (added_free _ _ c.args.hyperlink c.args.style _) rows;
      links = on_ok_weaker c.draw_text.result (added_links _ _ c.args.hyperlink c.args.style _) rows;
    }
