use Rattle.std.proofs.Common.{List, arith, subst, ℕ, ◌<◌}
use Rattle.redraw_command.specs.LookAhead.{ahead_of, left_of}
use Rattle.redraw_run.specs.Pieces.{IsOfForm}
use Rattle.redraw_run.proofs.Pieced.{line_piece}
use Rattle.redraw_run.proofs.piece.JsonReader.line.Goals as goal

pub returns-clause-found : goal.returns-clause-found
returns-clause-found g c =
    let left = left_of g.B.Read.remaining c.args.ahead.now in
    let some : 0 < c.in_ok-count.count = omega (arith, c.if-count-eq0.false) in
    c.in_ok-piece.ensures.found left
    (line_piece left (ahead_of c.line.new.self) record { count = c.in_ok-count.count; form = c.in_ok-form.form } c.in_ok-count.ensures.line some
    (subst (λ (l : List ℕ). IsOfForm l c.in_ok-form.form) c.front.ensures.value c.in_ok-form.ensures.form))
