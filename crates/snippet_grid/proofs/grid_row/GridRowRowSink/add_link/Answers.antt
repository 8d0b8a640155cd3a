use Rattle.snippet_grid.proofs.Common.{◌≡◌, ◌+◌, ◌∙◌, ap, arith, length, length-append, on_ok_weaker, refl, appended, row_at, text_cells}
use Rattle.snippet_grid.specs.Calls.{cells_linked}
use Rattle.std.specs.Str.{chars}
use Rattle.snippet_grid.proofs.AppendLemmas.{appended_text, linked_row, row_at-appended, row_more}
use Rattle.snippet_grid.proofs.grid_row.GridRowRowSink.add_link.Goals as goal

pub returns : goal.returns
returns c =
    let old = c.args.self.now.grid in
    let row = c.args.self.now.number in
    let cells = text_cells c.args.role (chars c.args.word.now) in
    let url = c.args.url.now in
    let end = c.width-end.result in
    let added = appended_text old c.append.new.self row c.args.role c.args.word.now c.utf8.word c.in_ok-append.ensures.ok c.append.ensures.empty in
    let size : end ≡ length (row_at old row) + length cells = c.width-end.ensures.value ∙ ap (λ rows. length (row_at rows row)) added
    ∙ ap (λ r. length r) (row_at-appended old row cells) ∙ length-append (row_at old row) cells in
    record {
      added = on_ok_weaker c.link.result (λ ok start done adds. row_more start c.args.self.now _ done _ refl
          (ok ∙ ap (λ rows. cells_linked rows row c.width-start.result end url) added
          ∙ ap (λ n. cells_linked (appended old row cells) row n end url) c.width-start.ensures.value
          ∙ linked_row old row end cells url (omega (arith, size))) adds) c.link.ensures.ok;
    }
