use Rattle.snippet_titles.proofs.Common.{◌++◌, ◌∙◌, ap, lit<, map, take, split_parts, YieldsList-from_str_split, YieldsList-end}
use Rattle.snippet_titles.proofs.Common.{YieldsList-from_enumerate, YieldsList-turn, row_at, indent_cells, lines_below, without_empty_end}
use Rattle.std.proofs.Common.{chars}
use Rattle.snippet_titles.proofs.EndLemmas.{IsAtEnd-more}
use Rattle.snippet_titles.proofs.LineLemmas.{further_drawn, lines_at-first, lines_at-one, none_below, number_is, one_line, several_lines}
use Rattle.snippet_text.proofs.SplitLemmas.{lines_at}
use Rattle.snippet_titles.proofs.heading.draw_lines.Goals as goal

pub returns-in_default : goal.returns-in_default
returns-in_default g c =
    let cut = split_parts 10 c.args.text.now c.split_once.result c.split_once.ensures.cases (lit< tt) in
    let none = rw c.in_default.is at cut in
    record {
      rows = one_line _ _ c.args.row _ c.args.role c.args.text.now c.requires.last (lines_at-one c.args.text.now none) c.in_ok-extend_row.ensures.extended;
    }

pub loop-index-init : goal.loop-index-init
loop-index-init g c =
    (IsAtEnd-more _ _ c.args.row _ c.requires.last c.in_ok-extend_row-2.ensures.extended).2.last

pub draw_further_line-requires-clause-empty : goal.draw_further_line-requires-clause-empty
draw_further_line-requires-clause-empty g c =
    let end = IsAtEnd-more _ _ c.args.row _ c.requires.last c.in_ok-extend_row-2.ensures.extended in
    let turn = YieldsList-turn (YieldsList-from_enumerate (YieldsList-from_str_split 10 c.in-Some.rest.now (lit< tt) (cc) (cc) (cc))
    (cc)) c.loop-index.yielded _ c.loop-index.yielded_by _ _ _ c.in-Some-2.is c.next.ensures.steps in
    none_below _ _ c.args.row _ _ _ c.loop-index.yielded end.2 (number_is (lines_at c.in-Some.rest.now) _ _ _ turn.0 turn.1) c.loop-index.invariant

pub loop-index-preserved : goal.loop-index-preserved
loop-index-preserved g c =
    let end = IsAtEnd-more _ _ c.args.row _ c.requires.last c.in_ok-extend_row-2.ensures.extended in
    let turn = YieldsList-turn (YieldsList-from_enumerate (YieldsList-from_str_split 10 c.in-Some.rest.now (lit< tt) (cc) (cc) (cc))
    (cc)) c.loop-index.yielded _ c.loop-index.yielded_by _ _ _ c.in-Some-2.is c.next.ensures.steps in
    further_drawn _ _ _ c.args.row _ _ _ c.loop-index.yielded c.in-Some-2.line end.2
    (number_is (lines_at c.in-Some.rest.now) _ _ _ turn.0 turn.1) c.loop-index.invariant c.in_ok-draw_further_line.ensures.drawn

pub returns : goal.returns
returns g c =
    let a = c.args in
    let cut = split_parts 10 c.args.text.now c.split_once.result c.split_once.ensures.cases (lit< tt) in
    let parts = rw c.in-Some.is at cut in
    let all = YieldsList-end (YieldsList-from_enumerate (YieldsList-from_str_split 10 c.in-Some.rest.now (lit< tt) (cc) (cc) (cc))
    (cc)) c.loop-index.yielded _ c.loop-index.yielded_by _ _ c.in-None.is c.next.ensures.steps in
    let drawn = several_lines _ _ _ a.row _ a.role a.text.now _ c.in-Some.rest.now c.loop-index.yielded c.requires.last
    (lines_at-first a.text.now _ c.in-Some.rest.now parts.0 parts.1) c.in_ok-extend_row-2.ensures.extended c.loop-index.invariant all.0 in
    record {
      rows = drawn ∙ ap (λ n. take a.row a.buffer.now ++ without_empty_end
          (lines_below (row_at a.buffer.now a.row) (indent_cells a.style.now n) a.role (map chars (lines_at a.text.now)))) c.label_width-width.ensures.value;
    }
