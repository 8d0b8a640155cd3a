use Rattle.snippet_grid.proofs.Common.{common_steps, arith, ℕ, List, string_bytes, plain_text, Prints, links_of, WeavesRows}
use Rattle.snippet_grid.proofs.RunLemmas.{if_ok_weaker}
use Rattle.snippet_grid.proofs.PrintsOnce.{Prints-unique}
use Rattle.snippet_grid.proofs.WovenLemmas.{Prints-from_adds, IsWoven-from_prints, plain_woven}
use Rattle.snippet_grid.proofs.grid.StyledBuffer.render.Goals as goal

-- what is added to no text prints the rows
printed : (c : goal.After-render_after) (new : List ℕ) → WeavesRows c.new-codes.result c.args.level c.args.self.now (string_bytes c.new.result) new
    → Prints c.args.sheet.now c.args.level c.args.self.now new
printed c new adds = grind (arith, common_steps, c.new-codes.ensures.sheet, Prints-from_adds)

pub returns : goal.returns
returns c =
    let sheet = c.args.sheet.now in
    let level = c.args.level in
    let rows = c.args.self.now in
    let result = c.render_after.result in
    let added = c.render_after.ensures.added in
    record {
      prints = if_ok_weaker result (λ t adds. printed c (string_bytes t) adds) added;
      only = if_ok_weaker result (λ t adds other prints. Prints-unique sheet level rows _ other (printed c (string_bytes t) adds) prints) added;
      woven = if_ok_weaker result (λ t adds. IsWoven-from_prints sheet level rows _ (printed c (string_bytes t) adds)) added;
      plain = if_ok_weaker result (λ t adds plain none. plain_woven sheet _ (plain_text rows) (links_of rows) plain none
          (IsWoven-from_prints sheet level rows _ (printed c (string_bytes t) adds))) added;
    }
