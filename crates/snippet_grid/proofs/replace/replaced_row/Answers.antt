use Rattle.snippet_grid.proofs.Common.{common_steps, ◌+◌, ◌-◌, arith, ap, sym, subst, slice_index_or, length, string_bytes, All-nil, on_ok_weaker}
use Rattle.snippet_grid.proofs.Common.{length-text_cells, ShowsSpan, SPACE, text_cells, EndsBy}
use Rattle.std.specs.Str.{chars}
use Rattle.snippet_grid.proofs.PieceLemmas.{IsRow-none}
use Rattle.snippet_grid.proofs.ReplacedRow.{touched_outer, row_replaced}
use Rattle.snippet_grid.proofs.PutLemmas.{IsRow-grown}
use Rattle.snippet_grid.proofs.RunLemmas.{BeginsWith-trans}
use Rattle.snippet_grid.proofs.replace.replaced_row.Goals as goal

-- the row is begun with no runs
pub copy_cells-requires : goal.copy_cells-requires
copy_cells-requires c = grind (arith, common_steps, IsRow-none, All-nil, c.requires.runs, c.requires.runs.are_runs)

pub add_word-requires : goal.add_word-requires
add_word-requires c = grind (arith, common_steps, c.in_ok-copy_cells.ensures.row, c.in_ok-copy_cells.ensures.ends, c.requires.fits)

pub copy_cells-requires-2 : goal.copy_cells-requires-2
copy_cells-requires-2 c =
    let words = string_bytes c.add_word.new.text in
    let grows = BeginsWith-trans (string_bytes c.args.text.now) (string_bytes c.copy_cells.new.text) words c.in_ok-copy_cells.ensures.text
    c.in_ok-add_word.ensures.text in
    record {
      out = c.in_ok-add_word.ensures.row;
      before = λ k d within. omega (arith, c.in_ok-add_word.ensures.ends k d within, c.char_count.ensures.value);
      runs = IsRow-grown (string_bytes c.args.text.now) words c.args.cells.row c.args.runs.now grows c.requires.runs;
      fits = λ k d within. omega (arith, c.requires.moved k d within, c.char_count.ensures.value);
    }

pub returns-in_err-add_word-clause-text : goal.returns-in_err-add_word-clause-text
returns-in_err-add_word-clause-text c = grind (arith, common_steps, BeginsWith-trans, c.in_ok-copy_cells.ensures.text, c.in_err-add_word.ensures.text)

pub returns : goal.returns
returns c =
    let old = string_bytes c.args.text.now in
    let front = string_bytes c.copy_cells.new.text in
    let words = string_bytes c.add_word.new.text in
    let new = string_bytes c.copy_cells-2.new.text in
    let runs = c.args.runs.now in
    let row = c.args.cells.row in
    let start = c.args.cells.start in
    let end = c.args.cells.end in
    let cells = text_cells c.args.role (chars c.args.word.now) in
    let long = sym c.char_count.ensures.value in
    let first = c.in_ok-copy_cells.ensures in
    let added = c.in_ok-add_word.ensures in
    let word = subst (λ n. ShowsSpan front words c.copy_cells.new.out.items c.add_word.new.spare.runs.items row start (start + n)
    (λ k. slice_index_or cells (k - start) SPACE)) long added.ok in
    let ends = subst (λ n. EndsBy (start + n) c.add_word.new.spare.runs.items) long added.ends in
    record {
      text = BeginsWith-trans old words new (BeginsWith-trans old front words first.text added.text) c.copy_cells-2.ensures.text;
      ok = on_ok_weaker c.copy_cells-2.result
          (λ copies. row_replaced old front words new runs c.clear.new.self.items c.copy_cells.new.out.items c.add_word.new.spare.runs.items
          c.copy_cells-2.new.out.items row start end (start + c.char_count.result) _ cells c.requires.some
          (omega (arith, c.char_count.ensures.value, length-text_cells c.args.role (chars c.args.word.now))) (omega arith)
          c.requires.runs first.text added.text first.ok word ends copies)
          c.copy_cells-2.ensures.ok;
      row = c.copy_cells-2.ensures.row;
      ends = λ n all. on_ok_weaker c.copy_cells-2.result (λ tight k d within. omega (arith, tight k d within, c.char_count.ensures))
          (c.copy_cells-2.ensures.tight n all);
      count = on_ok_weaker c.copy_cells-2.result
          (λ count. omega (
            arith,
            first.count,
            added.count,
            count,
            touched_outer old row start end 18446744073709551615 runs c.requires.some c.requires.runs,
            ap length c.clear.ensures.items,
          ))
          c.copy_cells-2.ensures.count;
    }
