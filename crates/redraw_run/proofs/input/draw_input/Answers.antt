use Rattle.std.proofs.Common.{List, Option, [], ap, refl, subst, sym, take, ◌∙◌, ◌∷◌, ℕ}
use Rattle.redraw_command.specs.Line.{begins_utf16}
use Rattle.redraw_command.specs.LookAhead.{ahead_of, left_of}
use Rattle.redraw_run.specs.ReadLines.{AreAllOf, AreFirstOf}
use Rattle.redraw_run.proofs.Done.{does_same}
use Rattle.redraw_run.proofs.Gone.{halts_unread, halts_utf16, reads_input}
use Rattle.redraw_run.proofs.Lined.{first_none, if_err_on, kept_all, kept_first, on_ok_err, utf16_first}
use Rattle.redraw_run.proofs.input.draw_input.Goals as goal

pub returns-in_err-count-clause-reads : goal.returns-in_err-count-clause-reads
returns-in_err-count-clause-reads g c = on_ok_err _ c.from_residual.result c.from_residual.ensures.0

pub returns-in_err-count-clause-halts : goal.returns-in_err-count-clause-halts
returns-in_err-count-clause-halts g c =
    if_err_on _ _ c.from_residual.result c.from_residual.ensures.1
    ([], first_none _, halts_unread [] _ _ _ c.in_err-count.ensures.stops (does_same refl refl refl refl refl))

pub returns-in_err-refuse_utf16-clause-reads : goal.returns-in_err-refuse_utf16-clause-reads
returns-in_err-refuse_utf16-clause-reads g c = on_ok_err _ c.from_residual-in_err-refuse_utf16.result c.from_residual-in_err-refuse_utf16.ensures.0

pub returns-in_err-refuse_utf16-clause-halts : goal.returns-in_err-refuse_utf16-clause-halts
returns-in_err-refuse_utf16-clause-halts g c =
    let held = left_of g.B.Read.remaining c.new-ahead.result in
    let ahead = ahead_of c.line.new.self in
    let line : List ℕ = take c.in_ok-count.count ahead in
    let begins = ap begins_utf16 (sym c.front.ensures.value) ∙ c.in_err-refuse_utf16.ensures.refused in
    if_err_on _ _ c.from_residual-in_err-refuse_utf16.result c.from_residual-in_err-refuse_utf16.ensures.1 (
      line ∷ [],
      subst (λ (o : Option (List ℕ)). AreFirstOf o (line ∷ [])) c.new-ahead.ensures.left
          (utf16_first c.in_ok-count.count held ahead c.in_ok-count.ensures.line begins),
      halts_utf16 line _ _ _ c.in_err-refuse_utf16.ensures.stop begins (does_same refl refl refl refl refl),
    )

pub returns-in_err-draw_pieces-clause-reads : goal.returns-in_err-draw_pieces-clause-reads
returns-in_err-draw_pieces-clause-reads g c = on_ok_err _ c.from_residual-in_err-draw_pieces.result c.from_residual-in_err-draw_pieces.ensures.0

pub returns-in_err-draw_pieces-clause-halts : goal.returns-in_err-draw_pieces-clause-halts
returns-in_err-draw_pieces-clause-halts g c =
    let (pieces, first, halts) = c.in_err-draw_pieces.ensures.halts in
    if_err_on _ _ c.from_residual-in_err-draw_pieces.result c.from_residual-in_err-draw_pieces.ensures.1 (
      pieces,
      subst (λ (o : Option (List ℕ)). AreFirstOf o pieces) c.new-ahead.ensures.left (kept_first _ _ pieces c.in_ok-count.ensures.kept first),
      halts,
    )

pub returns-clause-reads : goal.returns-clause-reads
returns-clause-reads g c =
    let (pieces, all, does) = c.in_ok-draw_pieces.ensures.reads in (
      pieces,
      subst (λ (o : Option (List ℕ)). AreAllOf o pieces) c.new-ahead.ensures.left (kept_all _ _ pieces c.in_ok-count.ensures.kept all),
      reads_input pieces _ _ _ does (c.end.ensures.does _),
    )
