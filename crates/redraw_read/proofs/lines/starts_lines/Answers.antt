use Rattle.std.proofs.Common.{◌≡◌, ◌==◌, ℕ, List, ◌∙◌, Option, None, Some, drop, length, sym, ap, arith}
use Rattle.std.specs.List.{slice_split}
use Rattle.std.proofs.lemmas.List.{at_drop_all, length_push}
use Rattle.std.proofs.lemmas.Iterator.Consumers.{YieldsList-turn, YieldsList-end}
use Rattle.std.proofs.lemmas.Iterator.Splits.{YieldsList-from_str_split}
use Rattle.redraw_read.specs.Extract.{after_line, are_lines}
use Rattle.redraw_read.proofs.Walked.{are-next}
use Rattle.redraw_read.proofs.lines.starts_lines.Goals as goal

pub loop-line-preserved : goal.loop-line-preserved
loop-line-preserved c =
    let text = c.args.text.now in
    let lines = slice_split (λ b. b == 10) c.args.lines.now in
    let n = length c.loop-line.yielded in
    let at = YieldsList-turn (YieldsList-from_str_split 10 c.args.lines.now (omega arith) (cc) (cc) (cc)) c.loop-line.yielded _
    c.loop-line.yielded_by _ _ c.in-Some.line c.in-Some.is c.next.ensures.steps in
    let rest = c.in-Some-rest_after.rest.now in
    let e : Some rest ≡ after_line text c.loop-line.starts.now c.in-Some.line.now = c.in-Some-rest_after.ensures.value in
    ap (λ (k : ℕ). are_lines text rest (drop k lines)) (length_push c.loop-line.yielded c.in-Some.line)
    ∙ sym (are-next text c.loop-line.starts.now lines n c.in-Some.line.now (Some rest) at e)
    ∙ c.loop-line.invariant

pub returns-in-None-rest_after : goal.returns-in-None-rest_after
returns-in-None-rest_after c =
    let text = c.args.text.now in
    let lines = slice_split (λ b. b == 10) c.args.lines.now in
    let at = YieldsList-turn (YieldsList-from_str_split 10 c.args.lines.now (omega arith) (cc) (cc) (cc)) c.loop-line.yielded _
    c.loop-line.yielded_by _ _ c.in-Some.line c.in-Some.is c.next.ensures.steps in
    let e : ◌≡◌ {A = Option (List ℕ)} None (after_line text c.loop-line.starts.now c.in-Some.line.now) = c.in-None-rest_after.ensures.value in
    record { value = sym (are-next text c.loop-line.starts.now lines (length c.loop-line.yielded) c.in-Some.line.now None at e) ∙ c.loop-line.invariant }

pub returns : goal.returns
returns c =
    let text = c.args.text.now in
    let lines = slice_split (λ b. b == 10) c.args.lines.now in
    let all = YieldsList-end (YieldsList-from_str_split 10 c.args.lines.now (omega arith) (cc) (cc) (cc)) c.loop-line.yielded _
    c.loop-line.yielded_by _ _ c.in-None.is c.next.ensures.steps in
    record {
      value =
          sym (at_drop_all (are_lines text c.loop-line.starts.now) lines (length c.loop-line.yielded) (omega (arith, all.1)))
          ∙ c.loop-line.invariant;
    }
