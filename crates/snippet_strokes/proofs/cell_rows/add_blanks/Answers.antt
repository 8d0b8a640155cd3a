use Rattle.snippet_strokes.proofs.Common.{◌≡◌, ◌∙◌, ◌-◌, ◌++◌, ap, arith, length, map, replicate, sym, append-nil, length-append}
use Rattle.snippet_strokes.proofs.Common.{length-map, length-replicate, on_ok_weaker, cell_of, Cell, SPACE, refl, NoStyle}
use Rattle.snippet_strokes.proofs.CellRowLemmas.{are_blanks, more_blanks, written_none}
use Rattle.snippet_strokes.proofs.cell_rows.add_blanks.Goals as goal

pub loop-left-init : goal.loop-left-init
loop-left-init c = grind (arith, append-nil, c.args.cells.now.items, c.args.at, c.len.result, c.len.ensures, c.args.cells.now.ok.0)

pub push_part-requires-clause-blanks : goal.push_part-requires-clause-blanks
push_part-requires-clause-blanks c = are_blanks (record { ch = 32; role = NoStyle }) refl

pub push_part-requires-2-clause-blanks : goal.push_part-requires-2-clause-blanks
push_part-requires-2-clause-blanks c = are_blanks (record { ch = 32; role = NoStyle }) refl

pub loop-left-preserved : goal.loop-left-preserved
loop-left-preserved c =
    let all = c.args.at - length c.args.cells.now.items in
    record {
      low = omega (arith, c.loop-left.invariant.low);
      so_far = more_blanks (map cell_of c.args.cells.now.items) (map cell_of c.loop-left.cells.items) (map cell_of c.push_part.new.cells.items)
          (all - c.loop-left.left) 64 (all - (c.loop-left.left - 64)) (omega (arith, c.loop-left.invariant.low, c.loop-left-test.true))
          c.loop-left.invariant.so_far c.in_ok-push_part.ensures.added;
    }

pub returns : goal.returns
returns c =
    let items = c.args.cells.now.items in
    let cells = map cell_of items in
    let new = map cell_of c.push_part-2.new.cells.items in
    let all = c.args.at - length items in
    let filled : new ≡ map cell_of c.loop-left.cells.items ++ replicate c.loop-left.left SPACE → new ≡ cells ++ replicate all SPACE =
    λ added. more_blanks cells (map cell_of c.loop-left.cells.items) new (all - c.loop-left.left) c.loop-left.left all
    (omega (arith, c.loop-left.invariant.low)) c.loop-left.invariant.so_far added in
    record {
      filled = on_ok_weaker c.push_part-2.result (λ added. filled added ∙ ap (λ n. cells ++ replicate (c.args.at - n) SPACE) (sym (length-map items cell_of))
          ∙ sym (written_none SPACE cells c.args.at)) c.push_part-2.ensures.added;
      long = on_ok_weaker c.push_part-2.result (λ added. omega (
        arith,
        ap length (filled added),
        length-append cells (replicate all SPACE),
        length-replicate {A = Cell} all SPACE,
        length-map items cell_of,
        length-map c.push_part-2.new.cells.items cell_of,
      )) c.push_part-2.ensures.added;
    }
