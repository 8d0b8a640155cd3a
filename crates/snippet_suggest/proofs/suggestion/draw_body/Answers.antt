use Rattle.std.proofs.Common.{arith}
use denote.Enum.Bare.{same_true, true_same}
use Rattle.snippet_suggest.proofs.Common.{◌≡◌, ◌≢◌, ℕ, ◌+◌, ◌<◌, ◌∙◌, List, ap, append_assoc, common_steps, length, map, rules}
use Rattle.snippet_suggest.proofs.Common.{subst, sym, append-nil, length-map, Cell, SubstitutionHighlight, line_stretches, DisplaySuggestion, TrimmedPatch}
use Rattle.snippet_suggest.proofs.Common.{the_type, Diff, LineRange, first_given, given_lines, given_ranges, shown_kind, suggestion_row, is_touched, shown_from}
use Rattle.snippet_suggest.proofs.SuggestedRows.{body_shown}
use Rattle.snippet_suggest.proofs.KnownLemmas.{known_first, known_originals, known_some}
use Rattle.snippet_suggest.proofs.KnownNumbers.{known_one, lines_none, lines_some}
use Rattle.snippet_suggest.proofs.OrderLaws.{rows_others}
use Rattle.snippet_suggest.proofs.suggestion.draw_body.Goals as goal

pub draw_emptied-requires-clause-none : goal.draw_emptied-requires-clause-none
draw_emptied-requires-clause-none c =
    lines_none (λ l. l.now) c.args.lines.now (given_lines c.args.suggestion.now.snippet.now) (sym c.in_default.ensures.value) c.requires.lines

pub first_number-first-requires-clause-some : goal.first_number-first-requires-clause-some
first_number-first-requires-clause-some c =
    subst (λ (ps : List TrimmedPatch). 0 < length ps) (sym c.deref.ensures.value) (known_some c.args.suggestion.now c.requires.prepared)

pub first_number-first-requires-clause-originals : goal.first_number-first-requires-clause-originals
first_number-first-requires-clause-originals c =
    grind (arith, known_originals, c.args.suggestion.now.map.text, c.deref.ensures.value, c.args.suggestion.now, c.requires.prepared)

pub draw_changed-requires : goal.draw_changed-requires
draw_changed-requires c =
    let p = c.args.suggestion.now in
    let diff : p.kind ≡ Diff = same_true the_type (search rules) p.kind Diff (sym c.if-eq.ensures) in
    record {
      prepared = c.requires.prepared;
      line = known_one p c.requires.prepared diff (λ l. l.now) c.args.lines.now c.in-Some.line.now (sym c.in-Some.ensures.value) c.requires.lines;
      diff = diff;
      first = cc (c.first_number-first.ensures.value, c.deref.ensures.value, known_first p c.requires.prepared);
    }

pub returns-in_default-clause-cells : goal.returns-in_default-clause-cells
returns-in_default-clause-cells c = grind (arith, common_steps, append-nil)

pub returns-then-eq-clause-cells : goal.returns-then-eq-clause-cells
returns-then-eq-clause-cells c = grind (arith, common_steps)

pub returns-clause-cells : goal.returns-clause-cells
returns-clause-cells c = λ above tail is count.
    let a = c.args in
    let p = a.suggestion.now in
    let s = p.snippet.now in
    let l = a.layout.now in
    let at : ℕ = s.line_start + first_given s in
    let lines = given_lines s in
    let n : ℕ = c.first_number-first.result in
    let first : n ≡ at = cc (c.first_number-first.ensures.value, c.deref.ensures.value, known_first p c.requires.prepared) in
    let size : length a.lines.now ≡ length lines = sym (length-map a.lines.now (λ l. l.now)) ∙ ap length c.requires.lines in
    let other : p.kind ≢ Diff = λ same. cc (c.if-eq.false, c.eq.ensures, true_same the_type p.kind Diff same) in
    let ranges : c.deref-3.result.now ≡ given_ranges s = c.deref-3.ensures.value ∙ c.requires.prepared.ranges in
    let shown = shown_from (is_touched s.fold (given_ranges s)) 0 0 (length lines) in
    let stretches : ℕ → List SubstitutionHighlight = line_stretches c.deref-2.result.now in
    let Rows : DisplaySuggestion → ℕ → List (List ℕ) → List LineRange → ℕ → List (List Cell) = λ kind m ls rs k.
    map (suggestion_row l kind m ls stretches) (shown_from (is_touched s.fold rs) 0 0 k) in
    let drawn : Rows p.kind n (map (λ l. l.now) a.lines.now) c.deref-3.result.now (length a.lines.now) ≡ Rows (shown_kind s) at lines (given_ranges s)
    (length lines) = cc (c.requires.prepared.kind, first, c.requires.lines, ranges, size) in
    let line = lines_some (λ l. l.now) a.lines.now lines c.in-Some.line.now (sym c.in-Some.ensures.value) c.requires.lines in
    let kind : shown_kind s ≢ Diff = λ diff. other (c.requires.prepared.kind ∙ diff) in
    let rows = rows_others a.start s _ line.0 line.1 kind in search (rules, append-nil, append_assoc, body_shown, is, drawn, shown, kind, rows)
