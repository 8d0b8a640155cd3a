use Rattle.std.proofs.lemmas.Grind.{common_steps}
use Rattle.std.proofs.Common.{arith, chars}
use Rattle.snippet_suggest.proofs.Common.{◌≡◌, ◌∙◌, ◌==◌, ℕ, List, ap, count_by, get_or, subst, sym, take, SubstitutionHighlight, capped}
use Rattle.snippet_suggest.proofs.Common.{TabCursor, stretch_cell, IsCursor}
use Rattle.snippet_suggest.proofs.StretchRows.{painted_begun, painted_next, passed_next}
use Rattle.snippet_suggest.proofs.roles.paint_stretches.Goals as goal
use Rattle.snippet_suggest.proofs.roles.paint_stretches.Goals.{then-stretch+in_ok-set_style_range, else-stretch}

pub loop-stretch-init : goal.loop-stretch-init
loop-stretch-init c =
    record {
      at = c.new-tabs.ensures.at;
      line = c.new-tabs.ensures.line;
      cells = λ above last here is. painted_begun c.args.role c.args.layout.now.base.gutter
          (chars c.args.line.now) c.args.stretches.now above last c.args.buffer.now is;
    }

pub loop-stretch-preserved : goal.loop-stretch-preserved
loop-stretch-preserved c =
    let a = c.args in
    let inv = c.loop-stretch.invariant in
    let i : ℕ = c.loop-stretch.stretch-index in
    let ss : List SubstitutionHighlight = a.stretches.now in
    let d : SubstitutionHighlight = record { start = 0; end = 0 } in
    let s : SubstitutionHighlight = get_or ss i d in
    let cs : List ℕ = chars a.line.now in
    let g : ℕ = a.layout.now.base.gutter in
    let Tabs : ℕ → List ℕ → ℕ = λ k line. count_by (λ ch. ch == 9) (take k (chars line)) in
    elim c.if-stretch.branch [
      | then-stretch+in_ok-set_style_range w ↦
          let line : w.before-then-stretch.new.self.line.now ≡ a.line.now = w.before-then-stretch.ensures.line ∙ inv.line in
          let starts : w.stretch_cell-start.result ≡ stretch_cell g cs s.start = w.stretch_cell-start.ensures.value (Tabs s.start a.line.now)
          (w.before-then-stretch.ensures.value ∙ ap (λ t. capped (Tabs s.start t)) inv.line) in
          let ends : w.stretch_cell-end.result ≡ stretch_cell g cs s.end = w.stretch_cell-end.ensures.value (Tabs s.end a.line.now)
          (w.before-then-stretch-2.ensures.value ∙ ap (λ t. capped (Tabs s.end t)) line) in
          record {
            at = subst IsCursor (sym w.tabs-is) w.before-then-stretch-2.ensures.at;
            line = ap (λ (t : TabCursor). t.line.now) w.tabs-is ∙ w.before-then-stretch-2.ensures.line ∙ line;
            cells = λ above last here is. w.buffer-is
                ∙ painted_next a.role g cs ss i d above last c.loop-stretch.buffer w.set_style_range.new.self a.row w.stretch_cell-start.result
                w.stretch_cell-end.result c.loop-stretch-test.true here (inv.cells above last here is) starts ends w.in_ok-set_style_range.ensures.ok;
          }
      | else-stretch w ↦ grind (arith, common_steps, passed_next, inv)
    ]

pub returns : goal.returns
returns c = grind (arith, common_steps, c.args, c.loop-stretch.invariant.cells, c.loop-stretch.stretch-index, c.loop-stretch-test.false)
