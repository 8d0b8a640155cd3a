use Rattle.std.proofs.lemmas.Grind.{common_steps}
use Rattle.snippet_strokes.proofs.Common.{◌≡◌, ◌∙◌, ◌+◌, ◌-◌, ◌∷◌, ap, sym, subst, arith, drop, length, take, drop_more, drop_all}
use Rattle.snippet_strokes.proofs.Common.{length-drop, take_all, HasRows, is_stem_covered, stems_of, painted}
use Rattle.snippet_strokes.proofs.EveryStem.{stems_painted}
use Rattle.snippet_strokes.proofs.BarWrites.{stem_count, stems_next, stems_skip}
use Rattle.snippet_strokes.proofs.stems.draw_stems.Goals.{then-not-is_stem_covered+in_ok-draw_stem, else-not-is_stem_covered}
use Rattle.snippet_strokes.proofs.stems.draw_stems.Goals as goal

pub draw_stem-requires : goal.draw_stem-requires
draw_stem-requires g c = grind (arith, common_steps)

pub loop-i-preserved : goal.loop-i-preserved
loop-i-preserved g c =
    let layout = c.args.layout in
    let row = c.args.row in
    let es = c.args.placed.now in
    let i = c.loop-i.i in
    let e = c.index-placed-i.result in
    let later = drop (i + 1) es in
    let mid = (g.C.Canvas.rows c.loop-i.buffer) in
    let whole : take (length es - (i + 1)) later ≡ later = take_all (length es - (i + 1)) later (omega (arith, length-drop (i + 1) es)) in
    let hidden : c.is_stem_covered.result ≡ is_stem_covered e later = c.is_stem_covered.ensures.value ∙ ap (is_stem_covered e) whole in
    let rest : drop i es ≡ e ∷ later = drop_more es i e c.loop-i-test.true ∙ ap (λ x. x ∷ later) (sym c.index-placed-i.is) in
    let so_far = sym (ap (λ xs. painted (stems_of layout row xs) mid) rest) ∙ c.loop-i.invariant.0 in
    let has : HasRows row (length mid) e = subst (λ n. HasRows row n e) (sym c.loop-i.invariant.1)
    (subst (HasRows row (length (g.C.Canvas.rows c.args.buffer.now))) (sym c.index-placed-i.is) (c.requires.places i e c.loop-i-test.true).rows) in
    elim c.if-not-is_stem_covered.branch [
      | then-not-is_stem_covered+in_ok-draw_stem w ↦
          grind (arith, common_steps, e, later, hidden, layout, row, stems_next, mid, so_far, stem_count, has, g.C.Canvas.rows, c.loop-i.invariant.1)
      | else-not-is_stem_covered w ↦
          grind (arith, common_steps, e, later, hidden, layout, row, stems_skip, mid, so_far, g.C.Canvas.rows, c.loop-i.invariant.1)
    ]

pub returns : goal.returns
returns g c = grind (arith, common_steps, drop_all, stems_painted)
