use Rattle.std.proofs.Common.{arith}
use Rattle.snippet_strokes.proofs.Common.{◌∙◌, ◌+◌, length, sym, on_ok_weaker}
use Rattle.snippet_strokes.proofs.EveryStem.{stems_painted}
use Rattle.snippet_strokes.proofs.EveryMark.{under_marks_painted}
use Rattle.snippet_strokes.proofs.ReadyLemmas.{ready_bar_cells, ready_texts}
use Rattle.snippet_strokes.proofs.SplitRows.{after_connectors, after_corners, after_stems, count_connectors, count_corners, count_labels, count_stems}
use Rattle.snippet_strokes.proofs.SplitRows.{places_among}
use Rattle.snippet_strokes.proofs.EntryBarLaws.{under_painted}
use Rattle.snippet_strokes.proofs.Common.{common_steps}
use Rattle.snippet_strokes.proofs.strokes.draw_under_marks.Goals as goal

pub draw_connectors-requires : goal.draw_connectors-requires
draw_connectors-requires g c = grind (arith, places_among, ready_bar_cells, c.requires.enough, c.args.layout, c.args.placed.now)

pub draw_corners-requires : goal.draw_corners-requires
draw_corners-requires g c = grind (arith, common_steps, after_connectors, ready_bar_cells)

pub draw_stems-requires : goal.draw_stems-requires
draw_stems-requires g c = grind (arith, common_steps, after_connectors, after_corners, places_among)

pub draw_labels-requires : goal.draw_labels-requires
draw_labels-requires g c =
    let joined = after_connectors (g.C.Canvas.rows c.args.buffer.now)
    (g.C.Canvas.rows c.draw_connectors.new.buffer) c.requires.enough c.in_ok-draw_connectors.ensures.painted in
    let barred = after_corners (g.C.Canvas.rows c.draw_connectors.new.buffer)
    (g.C.Canvas.rows c.draw_corners.new.buffer) joined c.in_ok-draw_corners.ensures.painted in
    let enough = after_stems (g.C.Canvas.rows c.draw_corners.new.buffer) (g.C.Canvas.rows c.draw_stems.new.buffer) barred (c.in_ok-draw_stems.ensures.painted
    ∙ stems_painted c.args.layout (c.args.row + 1) c.args.placed.now (g.C.Canvas.rows c.draw_corners.new.buffer)) in
    let layout = c.args.layout in
    let placed = c.args.placed.now in
    record {
      places = places_among enough;
      short = ready_texts layout placed enough.ready;
    }

pub returns : goal.returns
returns g c =
    let old = (g.C.Canvas.rows c.args.buffer.now) in
    let lined = (g.C.Canvas.rows c.draw_connectors.new.buffer) in
    let cornered = (g.C.Canvas.rows c.draw_corners.new.buffer) in
    let hung = (g.C.Canvas.rows c.draw_stems.new.buffer) in
    let new = (g.C.Canvas.rows c.draw_labels.new.buffer) in
    let lines = c.in_ok-draw_connectors.ensures.painted in
    let corners = c.in_ok-draw_corners.ensures.painted in
    let stems = c.in_ok-draw_stems.ensures.painted ∙ stems_painted c.args.layout (c.args.row + 1) c.args.placed.now cornered in
    let joined = after_connectors old lined c.requires.enough lines in
    let barred = after_corners lined cornered joined corners in
    let stemmed = after_stems cornered hung barred stems in
    let many = count_connectors old lined c.requires.enough lines in
    record {
      painted = on_ok_weaker c.draw_labels.result
          (λ labels. under_painted c.args.layout c.args.row _ _ c.args.placed.now old lined cornered hung new many lines corners stems labels
          ∙ sym (under_marks_painted c.args.layout c.args.row (length old) c.args.placed.now old))
          c.draw_labels.ensures.painted;
      count = on_ok_weaker c.draw_labels.result (λ labels. count_labels hung new stemmed labels ∙ count_stems cornered hung barred stems
          ∙ count_corners lined cornered joined corners ∙ many) c.draw_labels.ensures.painted;
    }
