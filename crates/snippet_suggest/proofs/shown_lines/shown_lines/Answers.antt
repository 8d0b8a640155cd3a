use Rattle.std.proofs.lemmas.Grind.{common_steps}
use Rattle.snippet_suggest.proofs.Common.{◌≡◌, ◌+◌, ◌<◌, ◌∙◌, false, length, get_or, sym, subst, arith, ℕ, Vec, get_or_default, SuggestionLine, is_touched}
use Rattle.std.proofs.Common.{Global}
use Rattle.snippet_suggest.proofs.RisingLemmas.{shown_all}
use Rattle.snippet_suggest.proofs.ShownLemmas.{touched_step, untouched_step}
use Rattle.snippet_suggest.proofs.shown_lines.shown_lines.Invariants.{Shows}
use Rattle.snippet_suggest.proofs.shown_lines.shown_lines.Goals as goal
use Rattle.snippet_suggest.proofs.shown_lines.shown_lines.Goals.{then-index+in_ok-push_run+in_ok-push, else-index}

pub loop-line-preserved : goal.loop-line-preserved
loop-line-preserved c =
    let touched = is_touched c.args.fold c.args.ranges.now in
    let l = c.loop-line in
    let count = c.args.count in
    let next = c.if-index in
    let at : touched l.line ≡ get_or c.in_ok-touched.touched.items l.line false = sym (c.in_ok-touched.ensures.value l.line c.loop-line-test.true) in
    let within : l.line < length c.in_ok-touched.touched.items = omega (arith, c.loop-line-test.true, c.in_ok-touched.ensures.size) in
    let told : touched l.line ≡ c.index.result.now = at ∙ get_or_default c.in_ok-touched.touched.items l.line false c.index.result.now within
    ∙ sym c.index.ensures in
    elim c.if-index.branch [
      | then-index+in_ok-push_run+in_ok-push w ↦
          subst (λ (b : ℕ). Shows touched count b (l.line + 1) next.shown.items) (sym w.after-is)
          (subst (λ (v : Vec SuggestionLine Global). Shows touched count (l.line + 1) (l.line + 1) v.items) (sym w.shown-is) (record {
            before = omega arith;
            whole = touched_step touched l.shown.items w.push_run.new.shown.items w.push.new.self.items _ l.after l.line count c.loop-line-test.true
                (told ∙ w.if-index.true) w.in_ok-push_run.ensures.added w.in_ok-push.ensures.items l.invariant.whole;
          }))
      | else-index w ↦ grind (arith, common_steps, untouched_step, touched, told)
    ]

pub returns : goal.returns
returns c = grind (arith, common_steps, shown_all, c.args.fold, c.args.ranges.now, c.loop-line, c.args.count, c.loop-line-test.false)
