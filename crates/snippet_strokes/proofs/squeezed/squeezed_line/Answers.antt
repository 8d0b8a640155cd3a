use Rattle.std.proofs.Common.{ap, sym, subst}
use Rattle.snippet_strokes.proofs.Common.{◌≡◌, ◌∙◌, ◌+◌, ◌++◌, ◌∷◌, [], ℕ, List, arith, AreDrawable, LineAnnotation, fold}
use Rattle.snippet_strokes.proofs.Common.{fold-append, length, length-map, map, range_with_len, shifted}
use Rattle.snippet_strokes.specs.Squeezed.{middles_replaced, without_middle}
use Rattle.snippet_strokes.proofs.ShiftLemmas.{drawable_shifted}
use Rattle.snippet_strokes.proofs.SqueezedLemmas.{Line, range_more}
use Rattle.snippet_strokes.proofs.squeezed.squeezed_line.Goals as goal

pub loop-k-init : goal.loop-k-init
loop-k-init c = record {
  drawable = subst (AreDrawable c.args.layout) (sym c.in_ok-line.ensures.value)
      (drawable_shifted c.args.layout c.args.dropped c.args.entries.now c.requires.entries);
  count = ap length c.in_ok-line.ensures.value ∙ length-map c.args.entries.now (shifted c.args.dropped);
  last = c.requires.last;
  value = c.in_ok-line.ensures.value;
  row = λ above source old_is. old_is;
}

pub loop-k-preserved : goal.loop-k-preserved
loop-k-preserved c =
    let k : ℕ = c.loop-k.k in
    let layout = c.args.layout in
    let room = c.args.room in
    let step = without_middle layout room in
    let start : Line = (map (shifted c.args.dropped) c.args.entries.now, []) in
    let before : Line = fold step start (range_with_len 0 k) in
    let same : (c.loop-k.line.items, before.1) ≡ before = ap (λ (es : List LineAnnotation). (es, before.1)) c.loop-k.invariant.value in
    let place : 0 + k ≡ k = omega arith in
    let more : fold step start (range_with_len 0 (k + 1)) ≡ step before k = ap (fold step start) (range_more 0 k)
    ∙ fold-append step start (range_with_len 0 k) ((0 + k) ∷ []) ∙ ap (step before) place in
    let now : step (c.loop-k.line.items, before.1) k ≡ fold step start (range_with_len 0 (k + 1)) = ap (λ (l : Line). step l k) same ∙ sym more in
    record {
      drawable = c.in_ok-line-2.ensures.drawable;
      count = c.in_ok-line-2.ensures.count ∙ c.loop-k.invariant.count;
      last = c.in_ok-line-2.ensures.last;
      value = c.in_ok-line-2.ensures.value before.1 ∙ ap (λ (l : Line). l.0) now;
      row = λ above source old_is. c.in_ok-line-2.ensures.row before.1 above source (c.loop-k.invariant.row above source old_is)
          ∙ ap (λ (l : Line). above ++ middles_replaced layout room l.1 source ∷ []) now;
    }
