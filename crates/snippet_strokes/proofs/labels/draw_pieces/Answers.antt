use Rattle.snippet_strokes.proofs.Common.{◌∙◌, [], ℕ, List, ap, arith, length, map, painted, pieces_at, sym, length-map}
use Rattle.snippet_strokes.proofs.Common.{length_push, get_or, get_or-map}
use Rattle.std.proofs.Common.{chars, lit<}
use Rattle.std.proofs.lemmas.Iterator.Consumers.{YieldsList-end, YieldsList-turn}
use Rattle.std.proofs.lemmas.Iterator.Splits.{YieldsList-from_str_split}
use Rattle.std.proofs.lemmas.List.{map_push}
use Rattle.std.proofs.lemmas.Simd.{map-map}
use Rattle.std.specs.Borrow.{Bor}
use Rattle.snippet_text.proofs.SplitLemmas.{lines_at, lines_at-chars}
use Rattle.snippet_strokes.proofs.PieceWrites.{pieces_at-push}
use Rattle.snippet_strokes.proofs.WriteLaws.{painted-append}
use Rattle.snippet_strokes.proofs.Common.{common_steps}
use Rattle.snippet_strokes.proofs.labels.draw_pieces.Goals as goal

pub draw_piece-requires-clause-end : goal.draw_piece-requires-clause-end
draw_piece-requires-clause-end g c =
    let bytes = c.args.text.now in
    let k = length c.loop-piece.yielded in
    let turn = YieldsList-turn (YieldsList-from_str_split 10 bytes (lit< tt) (cc) (cc) (cc)) c.loop-piece.yielded _ c.loop-piece.yielded_by _ _ _
    c.in-Some.is c.next.ensures.steps in
    let cut = lines_at-chars bytes c.utf8.text in
    let same = ap chars turn.1 ∙ sym (get_or-map chars (lines_at bytes) k c.in-Some.piece.now [] turn.0) ∙ ap (λ ps. get_or ps k []) cut in
    omega (arith, ap length same, c.requires.ends k [] (omega (arith, turn.0, length-map (lines_at bytes) chars, ap length cut)))

pub loop-piece-preserved : goal.loop-piece-preserved
loop-piece-preserved g c = grind (arith, common_steps, length-map, painted-append, pieces_at-push, map_push, length_push)

pub returns : goal.returns
returns g c =
    let rows : _ → _ = λ ps. painted (pieces_at c.args.row c.args.cell c.args.role ps) (g.C.Canvas.rows c.args.buffer.now) in
    let all = YieldsList-end (YieldsList-from_str_split 10 c.args.text.now (lit< tt) (cc) (cc) (cc)) c.loop-piece.yielded _ c.loop-piece.yielded_by _ _
    c.in-None.is c.next.ensures.steps in
    record {
      painted = c.loop-piece.invariant.rows ∙ ap rows (sym (map-map chars (λ (x : Bor (List ℕ)). x.now) c.loop-piece.yielded) ∙ ap (map chars) all.0
          ∙ lines_at-chars c.args.text.now c.utf8.text);
    }
