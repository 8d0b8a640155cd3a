use Rattle.std.proofs.Common.{◌≡◌, ◌==◌, ℕ, List, ◌∙◌, Option, None, Some, drop, length, sym, ap, arith}
use Rattle.std.specs.List.{slice_split}
use Rattle.std.proofs.lemmas.List.{at_drop_all, length_push}
use Rattle.std.proofs.lemmas.Iterator.Consumers.{YieldsList-turn, YieldsList-end}
use Rattle.std.proofs.lemmas.Iterator.Splits.{YieldsList-from_str_split}
use Rattle.redraw_read.specs.Rendered.{first_shown, shown_in}
use Rattle.redraw_read.proofs.Walked.{shown-next}
use Rattle.redraw_read.proofs.rendered.first_shown.Goals as goal

pub returns-in-Some-shown_in : goal.returns-in-Some-shown_in
returns-in-Some-shown_in c =
    let lines = slice_split (λ b. b == 10) c.args.text.now in
    let message = c.args.message.now in
    let at = YieldsList-turn (YieldsList-from_str_split 10 c.args.text.now (omega arith) (cc) (cc) (cc)) c.loop-line.yielded _
    c.loop-line.yielded_by _ _ c.in-Some.line c.in-Some.is c.next.ensures.steps in
    let e : Some c.in-Some-shown_in.shown.now ≡ shown_in c.args.place message c.in-Some.line.now = c.in-Some-shown_in.ensures.value in
    record { value = sym (shown-next c.args.place message lines (length c.loop-line.yielded) c.in-Some.line.now _ at e) ∙ c.loop-line.invariant }

pub loop-line-preserved : goal.loop-line-preserved
loop-line-preserved c =
    let lines = slice_split (λ b. b == 10) c.args.text.now in
    let message = c.args.message.now in
    let at = YieldsList-turn (YieldsList-from_str_split 10 c.args.text.now (omega arith) (cc) (cc) (cc)) c.loop-line.yielded _
    c.loop-line.yielded_by _ _ c.in-Some.line c.in-Some.is c.next.ensures.steps in
    let e : ◌≡◌ {A = Option (List ℕ)} None (shown_in c.args.place message c.in-Some.line.now) = c.in_default.ensures.value in
    ap (λ (k : ℕ). first_shown c.args.place message (drop k lines)) (length_push c.loop-line.yielded c.in-Some.line)
    ∙ sym (shown-next c.args.place message lines (length c.loop-line.yielded) c.in-Some.line.now None at e)
    ∙ c.loop-line.invariant

pub returns : goal.returns
returns c =
    let lines = slice_split (λ b. b == 10) c.args.text.now in
    let all = YieldsList-end (YieldsList-from_str_split 10 c.args.text.now (omega arith) (cc) (cc) (cc)) c.loop-line.yielded _
    c.loop-line.yielded_by _ _ c.in-None.is c.next.ensures.steps in
    record {
      value =
          sym (at_drop_all (first_shown c.args.place c.args.message.now) lines (length c.loop-line.yielded) (omega (arith, all.1)))
          ∙ c.loop-line.invariant;
    }
