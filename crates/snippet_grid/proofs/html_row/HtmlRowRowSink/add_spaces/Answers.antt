use Rattle.snippet_grid.proofs.Common.{common_steps, ◌∙◌, ◌++◌, [], List, ap, append_assoc, arith, length-replicate, map, None, replicate, string_bytes, subst}
use Rattle.snippet_grid.proofs.Common.{ℕ, Cell, HtmlGoes, HtmlLook, NoStyle, SPACE, Text, look_seen, plain_look, tags_between}
use Rattle.snippet_grid.proofs.HtmlReads.{adds_both, adds_spaces, html_stretch}
use Rattle.snippet_grid.proofs.HtmlRows.{html_more, html_none}
use Rattle.snippet_grid.proofs.OpenRowLemmas.{spaces_alike}
use Rattle.snippet_grid.proofs.html_row.HtmlRowRowSink.add_spaces.Goals as goal

pub returns-then-count-eq0 : goal.returns-then-count-eq0
returns-then-count-eq0 c = grind (arith, common_steps, c.if-count-eq0.true, html_more, html_none)

pub returns : goal.returns
returns c =
    let row = c.args.self.now in
    let last : HtmlLook = look_seen row.last in
    let spaces = replicate c.args.count 32 in
    let mid = string_bytes c.change_look.new.out in
    record {
      added = λ start done adds. record {
        level = adds.level;
        printed = λ cells old printed. record {
          goes = subst (λ (shown : List Cell). HtmlGoes row.level plain_look shown old (string_bytes c.push_spaces.new.out))
              (ap (λ (more : List Cell). (cells ++ done) ++ more) (spaces_alike c.args.count) ∙ append_assoc cells done (replicate c.args.count SPACE))
              (html_stretch row.level last NoStyle None spaces (cells ++ done) old _ _
              (omega (arith, c.if-count-eq0.false, length-replicate {A = ℕ} c.args.count 32))
              (adds_both (tags_between last plain_look) (map Text spaces) (string_bytes row.text) mid _ c.in_ok-change_look.ensures.added
              (adds_spaces c.args.count mid _ c.in_ok-push_spaces.ensures.text)) (adds.printed cells old printed).goes);
        };
      };
    }
