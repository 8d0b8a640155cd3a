use Rattle.snippet_grid.proofs.Common.{common_steps, ◌∙◌, ◌++◌, [], List, ap, append_assoc, arith, length-replicate, None, option_copied, refl, replicate}
use Rattle.snippet_grid.proofs.Common.{string_bytes, subst, ℕ, Cell, Goes, NoStyle, SPACE, Some, style_at}
use Rattle.snippet_grid.proofs.OpenRowLemmas.{adds_more, adds_none, spaces_alike}
use Rattle.snippet_grid.proofs.ReplaceLemmas.{stretch_printed}
use Rattle.snippet_grid.proofs.printed_row.PrintedRowRowSink.add_spaces.Goals as goal

pub returns-then-count-eq0 : goal.returns-then-count-eq0
returns-then-count-eq0 c = grind (arith, common_steps, c.if-count-eq0.true, adds_more, adds_none)

pub returns : goal.returns
returns c =
    let row = c.args.self.now in
    let sheet = row.codes.now in
    record {
      added = λ start done adds. record {
        sheet = adds.sheet;
        level = adds.level;
        printed = λ cells old printed. record {
          goes = subst (λ (shown : List Cell). Goes sheet row.level (Some sheet.none) None shown old (string_bytes c.weave_gap.new.out))
              (ap (λ (more : List Cell). (cells ++ done) ++ more) (spaces_alike c.args.count) ∙ append_assoc cells done (replicate c.args.count SPACE))
              (stretch_printed sheet row.level (style_at sheet row.last.place) sheet.none NoStyle (option_copied row.last.link) None
              (replicate c.args.count 32) (cells ++ done) old _ _ (omega (arith, c.if-count-eq0.false, length-replicate {A = ℕ} c.args.count 32)) refl
              c.in_ok-weave_gap.ensures.text (adds.printed cells old printed).goes);
        };
      };
    }
