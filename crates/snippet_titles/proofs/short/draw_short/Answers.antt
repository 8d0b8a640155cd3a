use Rattle.snippet_titles.proofs.Common.{◌∙◌, [], on_ok_weaker}
use Rattle.std.proofs.Common.{chars}
use Rattle.snippet_titles.proofs.EndLemmas.{IsAtEnd-begun}
use Rattle.snippet_titles.proofs.HeadingLemmas.{row_begun, row_none}
use Rattle.snippet_titles.proofs.ShortLemmas.{short_drawn}
use Rattle.snippet_titles.proofs.short.draw_short.Goals as goal

pub draw_text-requires-clause-last : goal.draw_text-requires-clause-last
draw_text-requires-clause-last g c =
    let start = c.of-first.result in
    let heading = (goal.MessageOrTitle-dyn g c.args.heading.now).heading_of c.args.heading.now.1 in
    let adds = c.in_ok-write_label.ensures.added start _ heading c.level-2.ensures c.id.ensures (c.in_ok-add_word.ensures.added start [] (row_none start)) in
    (IsAtEnd-begun _ _ _ _ c.num_lines-row.ensures.count (row_begun _ _ _ start _ _ (c.of-first.ensures.grid ∙ c.take.ensures.taken)
    c.of-first.ensures.number (c.set.ensures.rows ∙ c.in_ok-drawn.ensures.grid) adds)).2

pub returns : goal.returns
returns g c =
    let start = c.of-first.result in
    let adds = c.in_ok-write_label.ensures.added start _ _ c.level-2.ensures c.id.ensures (c.in_ok-add_word.ensures.added start [] (row_none start)) in
    let begun = row_begun _ _ _ start _ _ (c.of-first.ensures.grid ∙ c.take.ensures.taken) c.of-first.ensures.number
    (c.set.ensures.rows ∙ c.in_ok-drawn.ensures.grid) adds in
    record {
      rows = on_ok_weaker c.extend_row.result
          (λ is. short_drawn _ _ _ _ _ c.args.hyperlink (chars c.args.before.now) (chars c.args.after.now)
          _ _ _ c.roles_of-roles.result c.num_lines-row.ensures.count c.level.ensures c.allows_styling.ensures c.roles_of-roles.ensures.value
          begun c.in_ok-draw_text.ensures.rows is) c.extend_row.ensures.extended;
    }
