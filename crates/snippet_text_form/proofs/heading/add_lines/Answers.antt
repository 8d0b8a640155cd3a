use Rattle.std.proofs.lemmas.Grind.{common_steps}
use Rattle.snippet_text_form.proofs.Common.{sym, lit<, append-nil, YieldsList-from_str_split, YieldsList-end, YieldsList-from_enumerate, arith}
use Rattle.snippet_text_form.proofs.Common.{YieldsList-turn, plain_shown, number_is, lines_at}
use Rattle.snippet_text_form.proofs.SplitForm.{all_added, line_added, one_added-on_ok, plain_lines, shown_lines-all}
use Rattle.snippet_text_form.proofs.heading.add_lines.Goals as goal

pub returns-then-is_plain : goal.returns-then-is_plain
returns-then-is_plain g c = grind (arith, common_steps, one_added-on_ok, plain_lines, plain_shown)

pub loop-index-init : goal.loop-index-init
loop-index-init g c = (sym (append-nil c.args.form.now), tt)

pub loop-index-preserved : goal.loop-index-preserved
loop-index-preserved g c =
    let turn = YieldsList-turn (YieldsList-from_enumerate (YieldsList-from_str_split 10 c.text-text.result.now (lit< tt) (cc) (cc) (cc))
    (cc)) c.loop-index.yielded _ c.loop-index.yielded_by _ _ _ c.in-Some.is c.next.ensures.steps in
    let added = line_added _ _ _ _ _ _ _ _ _ _ _ (number_is (lines_at c.text-text.result.now) _ _ _ turn.0 turn.1) c.loop-index.invariant.0
    c.in_ok-width.ensures.added c.in_ok-add_styled.ensures.added c.in_ok-shown_line.ensures.value in
    (added, c.in_ok-width.ensures.known)

pub returns : goal.returns
returns g c =
    let all = YieldsList-end (YieldsList-from_enumerate (YieldsList-from_str_split 10 c.text-text.result.now (lit< tt) (cc) (cc) (cc))
    (cc)) c.loop-index.yielded _ c.loop-index.yielded_by _ _ c.in-None.is c.next.ensures.steps in
    let lines = shown_lines-all _ _ _ _ _ c.allows_styling-trusted.ensures c.text-text.utf8 c.text-text.ensures all.0 in grind (arith, common_steps, all_added)
