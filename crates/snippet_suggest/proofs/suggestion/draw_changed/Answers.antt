use Rattle.std.proofs.Common.{arith}
use Rattle.snippet_suggest.proofs.Common.{◌≡◌, ℕ, append_assoc, ◌<◌, ◌∷◌, ◌++◌, ◌∙◌, [], List, false, ap, length, map, refl, subst, common_steps}
use Rattle.snippet_suggest.proofs.Common.{sym, LineInfo, TrimmedPatch, Diff, Cell, append-nil, line_stretches, AreApart, trimmed_edit_of}
use Rattle.snippet_suggest.proofs.Common.{begin_cells, diff_cells, new_on, suggested_stretches, shown_kind, given_ranges, is_left_out, last_reached, is_touched}
use Rattle.snippet_suggest.proofs.KnownDiff.{IsDiff, known_diff, known_diff_rows}
use Rattle.snippet_suggest.proofs.SuggestedRows.{body_diff, body_untouched}
use Rattle.snippet_suggest.proofs.KnownLemmas.{known_apart, known_some, known_spans}
use Rattle.snippet_suggest.proofs.OrderLaws.{rows_diff}
use Rattle.snippet_suggest.proofs.ReachLemmas.{touched_some}
use Rattle.snippet_suggest.proofs.suggestion.draw_changed.Goals as goal

pub trimmed_span-requires : goal.trimmed_span-requires
trimmed_span-requires c = grind (arith, known_spans, c.args.suggestion.now.map.text, c.deref-2.ensures.value, c.args.suggestion.now, c.requires.prepared)

pub draw_diff-requires : goal.draw_diff-requires
draw_diff-requires c = grind (arith, common_steps, touched_some)

pub returns-then-not-is_touched-clause-cells : goal.returns-then-not-is_touched-clause-cells
returns-then-not-is_touched-clause-cells c = λ above under start is.
    let a = c.args in
    let p = a.suggestion.now in
    let s = p.snippet.now in
    let begin : List Cell = begin_cells a.layout.now start under in
    let diff : shown_kind s ≡ Diff = sym c.requires.prepared.kind ∙ c.requires.diff in
    let touches : is_touched s.fold (given_ranges s) 0 ≡ false = ap (λ rs. is_touched s.fold rs 0) (sym c.requires.prepared.ranges ∙ sym c.deref.ensures.value)
    ∙ sym c.is_touched.ensures.value ∙ c.if-not-is_touched.true in
    let rows = rows_diff start s a.line.now [] false (is_left_out Diff (a.line.now ∷ []) (last_reached s)) c.requires.line diff touches refl in
    cc (is, append_assoc above (begin ∷ []) ([] ∷ []), body_untouched a.layout.now start s under a.line.now c.requires.line diff touches rows)

pub returns-clause-cells : goal.returns-clause-cells
returns-clause-cells c = λ above under start is.
    let a = c.args in
    let p = a.suggestion.now in
    let s = p.snippet.now in
    let span = c.trimmed_span.result in
    let infos = c.in_ok-removed.removed.items in
    let patches = c.deref-2.ensures.value in
    let some : 0 < length c.deref-2.result.now = subst (λ (ps : List TrimmedPatch). 0 < length ps) (sym patches) (known_some p c.requires.prepared) in
    let apart : AreApart 0 (map trimmed_edit_of c.deref-2.result.now) = subst (AreApart 0) (sym (ap (map trimmed_edit_of) patches ∙ c.requires.prepared.edits))
    (known_apart p c.requires.prepared) in
    let diff : IsDiff p a.line.now infos span.start span.end a.first = grind (arith, common_steps, some, apart, patches) in
    let begin : List Cell = begin_cells a.layout.now start under in
    let replaced = line_stretches c.deref-5.result.now in
    let added = c.stretches_of-added.result.now in
    let same : (j : ℕ) → replaced j ≡ suggested_stretches s j = λ j. ap (λ vs. line_stretches vs j) c.deref-5.ensures.value ∙ c.requires.prepared.replaced j in
    let new : added ≡ new_on s 0 = c.stretches_of-added.ensures.value ∙ ap (λ vs. line_stretches vs 0) c.deref-3.ensures.value ∙ c.requires.prepared.new 0 in
    let Drawn : ℕ → List LineInfo → List (List Cell) = λ n is. above ++ diff_cells a.layout.now n is replaced a.line.now added begin in
    append-nil c.draw_diff.new.buffer ∙ c.in_ok-draw_diff.ensures.cells above begin is ∙ ap (Drawn a.first) c.deref-4.ensures.value
    ∙ ap (λ n. Drawn n infos) c.requires.first
    ∙ ap (λ (rs : List (List Cell)). above ++ rs)
    (body_diff a.layout.now s a.line.now _ _ _ infos replaced (known_diff p a.line.now infos span.start span.end a.first diff)
    same start under added new (known_diff_rows p a.line.now infos span.start span.end a.first diff start))
