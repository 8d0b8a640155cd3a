use Rattle.std.proofs.Common.{List, [], arith, inl, inr, refl, take, ◌++◌, ◌∷◌, ℕ}
use Rattle.redraw_command.specs.LookAhead.{ahead_of}
use Rattle.redraw_command.proofs.LookingAhead.{left_begins}
use Rattle.redraw_run.specs.declared.piece.Piece.{Piece}
use Rattle.redraw_run.proofs.Done.{does_same}
use Rattle.redraw_run.proofs.Gone.{halts_next, halts_unread}
use Rattle.redraw_run.proofs.Lined.{done_by, if_err_on, on_ok_err, piece_more, read_all, read_first, so_far_next, so_far_none, stopped_by}
use Rattle.redraw_run.proofs.Pieced.{next_none, next_some}
use Rattle.redraw_run.proofs.input.draw_pieces.Goals as goal

pub loop-number-init : goal.loop-number-init
loop-number-init g c = so_far_none _ _ _ (does_same refl refl refl refl refl)

pub front-requires : goal.front-requires
front-requires g c =
    (next_some _ _ c.in_ok-next.next c.in-Some.found c.in-Some.is c.in_ok-next.ensures.found).within

pub take-requires : goal.take-requires
take-requires g c =
    (next_some _ _ c.in_ok-next.next c.in-Some.found c.in-Some.is c.in_ok-next.ensures.found).within

pub loop-number-preserved : goal.loop-number-preserved
loop-number-preserved g c =
    let piece : Piece = c.in-Some.found in
    let bytes : List ℕ = take piece.count (ahead_of c.next_piece.new.ahead) in
    let is = next_some _ _ c.in_ok-next.next piece c.in-Some.is c.in_ok-next.ensures.found in
    so_far_next _ _ _ _ _ _ piece _ _ _ c.loop-number.invariant is c.in_ok-next.ensures.kept c.take.ensures.left
    (done_by c.front.result.now bytes piece.form _ _ c.front.ensures.value is.form c.in_ok-piece-in-Some.ensures.does)

pub returns-in_err-next-clause-reads : goal.returns-in_err-next-clause-reads
returns-in_err-next-clause-reads g c = on_ok_err _ c.from_residual.result c.from_residual.ensures.0

pub returns-in_err-next-clause-halts : goal.returns-in_err-next-clause-halts
returns-in_err-next-clause-halts g c =
    let so_far = c.loop-number.invariant in
    if_err_on _ _ c.from_residual.result c.from_residual.ensures.1
    (so_far.pieces, read_first _ _ so_far.pieces so_far.read, halts_unread so_far.pieces _ _ _ c.in_err-next.ensures.stops so_far.does)

pub returns-in_err-piece-in-Some-clause-reads : goal.returns-in_err-piece-in-Some-clause-reads
returns-in_err-piece-in-Some-clause-reads g c = on_ok_err _ c.from_residual-in_err-piece-in-Some.result c.from_residual-in_err-piece-in-Some.ensures.0

pub returns-in_err-piece-in-Some-clause-halts : goal.returns-in_err-piece-in-Some-clause-halts
returns-in_err-piece-in-Some-clause-halts g c =
    let so_far = c.loop-number.invariant in
    let piece : Piece = c.in-Some.found in
    let bytes : List ℕ = take piece.count (ahead_of c.next_piece.new.ahead) in
    let is = next_some _ _ c.in_ok-next.next piece c.in-Some.is c.in_ok-next.ensures.found in
    let (left, begins) = left_begins g.B.Read.remaining c.next_piece.new.ahead piece.count in
    if_err_on _ _ c.from_residual-in_err-piece-in-Some.result c.from_residual-in_err-piece-in-Some.ensures.1 (
      so_far.pieces ++ bytes ∷ [],
      read_first _ _ (so_far.pieces ++ bytes ∷ []) (piece_more _ _ _ left _ _ piece _ _ so_far is c.in_ok-next.ensures.kept begins),
      halts_next so_far.pieces bytes _ _ _ _ so_far.does
          (stopped_by c.front.result.now bytes piece.form _ _ _ c.front.ensures.value is.form c.in_err-piece-in-Some.ensures.does),
    )

pub returns-in-None-clause-reads : goal.returns-in-None-clause-reads
returns-in-None-clause-reads g c =
    let so_far = c.loop-number.invariant in
    (so_far.pieces, inl (read_all _ _ so_far.pieces so_far.read (next_none _ _ c.in_ok-next.next c.in-None.is c.in_ok-next.ensures.found)), so_far.does)

pub returns-clause-reads : goal.returns-clause-reads
returns-clause-reads g c =
    let so_far = c.loop-number.invariant in
    (so_far.pieces, inr (read_first _ _ so_far.pieces so_far.read, omega (arith, so_far.count)), so_far.does)
