use denote.Enum.Bare.{same_true, true_same}
use Rattle.snippet_suggest.proofs.Common.{◌≡◌, ◌≢◌, ℕ, ◌<◌, ◌≤◌, ◌∷◌, ◌++◌, ◌∙◌, [], List, ap, append_assoc, arith, common_steps}
use Rattle.snippet_suggest.proofs.Common.{if◌then◌else◌, length, map, rules, subst, sym, append-nil, length-append, row_at, Cell, begin_cells}
use Rattle.snippet_suggest.proofs.Common.{on_ok_weaker, source_lines, line_of, TrimmedPatch, the_type, Diff, removed_lines, Begins, first_original}
use Rattle.snippet_suggest.proofs.Common.{first_original_end, emptied_cells, numbered_at, removed_from}
use Rattle.snippet_suggest.proofs.SuggestedRows.{body_emptied, body_emptied_diff, shared_few}
use Rattle.snippet_suggest.proofs.KnownLemmas.{known_originals, known_some}
use Rattle.snippet_suggest.proofs.KnownRemoved.{known_emptied_rows}
use Rattle.snippet_suggest.proofs.OrderLaws.{rows_none, rows_none_diff, removed_row}
use Rattle.snippet_suggest.proofs.ReachLemmas.{touched_some}
use Rattle.snippet_suggest.proofs.suggestion.draw_emptied.Goals as goal

pub given_span-requires : goal.given_span-requires
given_span-requires c = grind (arith, known_originals, c.args.suggestion.now.map.text, c.deref.ensures.value, c.args.suggestion.now, c.requires.prepared)

pub draw_removed_lines-requires-clause-some : goal.draw_removed_lines-requires-clause-some
draw_removed_lines-requires-clause-some c = grind (arith, common_steps, touched_some)

pub draw_removed_lines-requires-2-clause-some : goal.draw_removed_lines-requires-2-clause-some
draw_removed_lines-requires-2-clause-some c = grind (arith, common_steps, touched_some)

pub returns-then-eq : goal.returns-then-eq
returns-then-eq c =
    record {
      cells = λ above tail is count.
          let a = c.args in
          let p = a.suggestion.now in
          let s = p.snippet.now in
          let mid = c.draw_head.new.buffer in
          let span = c.given_span.result in
          let i : ℕ = line_of (source_lines p.map.text) span.start in
          let infos = c.in_ok-removed.removed.items in
          let lines : List (ℕ × List ℕ) = numbered_at c.deref-then-eq.result.now in
          let diff : p.kind ≡ Diff = same_true the_type (search rules) p.kind Diff (sym c.if-eq.ensures) in
          let some : 0 < length c.deref.result.now = subst (λ (ps : List TrimmedPatch). 0 < length ps) (sym c.deref.ensures.value)
          (known_some p c.requires.prepared) in
          let starts = c.given_span.ensures.start ∙ ap (λ ps. if s.fold then first_original ps else 0) c.deref.ensures.value in
          let ends = c.given_span.ensures.end some ∙ ap (λ ps. if s.fold then first_original_end ps else length p.map.text) c.deref.ensures.value in
          let removed : removed_from i lines ≡ map (removed_row s) (removed_lines s) = ap (λ is. removed_from i (numbered_at is)) c.deref-then-eq.ensures.value
          ∙ known_emptied_rows p c.requires.prepared infos span.start span.end c.requires.none starts ends c.in_ok-removed.ensures.lines in
          let rows = rows_none_diff a.start s c.requires.none (sym c.requires.prepared.kind ∙ diff) ∙ ap (λ rs. Begins a.start ∷ rs) (sym removed) in
          let begun = c.in_ok-draw_head.ensures.cells above tail is count in
          let begin : List Cell = begin_cells a.layout.now a.start (row_at tail 0) in
          on_ok_weaker c.draw_removed_lines.result
          (λ drawn. drawn ∙ ap (λ rs. rs ++ emptied_cells a.layout.now lines []) begun
          ∙ append_assoc above (begin ∷ []) (emptied_cells a.layout.now lines [])
          ∙ ap (λ rs. above ++ rs) (body_emptied_diff a.layout.now a.start s (row_at tail 0) i lines c.requires.none rows))
          (c.draw_removed_lines.ensures.cells mid [] c.num_lines-row.ensures.count (sym (append-nil mid)) (omega arith));
    }

pub returns : goal.returns
returns c =
    record {
      cells = λ above tail is count.
          let a = c.args in
          let p = a.suggestion.now in
          let s = p.snippet.now in
          let span = c.given_span.result in
          let i : ℕ = line_of (source_lines p.map.text) span.start in
          let infos = c.in_ok-removed.removed.items in
          let lines : List (ℕ × List ℕ) = numbered_at c.deref-2.result.now in
          let other : p.kind ≢ Diff = λ same. cc (c.if-eq.false, c.eq.ensures, true_same the_type p.kind Diff same) in
          let some : 0 < length c.deref.result.now = subst (λ (ps : List TrimmedPatch). 0 < length ps) (sym c.deref.ensures.value)
          (known_some p c.requires.prepared) in
          let starts = c.given_span.ensures.start ∙ ap (λ ps. if s.fold then first_original ps else 0) c.deref.ensures.value in
          let ends = c.given_span.ensures.end some ∙ ap (λ ps. if s.fold then first_original_end ps else length p.map.text) c.deref.ensures.value in
          let removed : removed_from i lines ≡ map (removed_row s) (removed_lines s) = ap (λ is. removed_from i (numbered_at is)) c.deref-2.ensures.value
          ∙ known_emptied_rows p c.requires.prepared infos span.start span.end c.requires.none starts ends c.in_ok-removed.ensures.lines in
          let rows = rows_none a.start s c.requires.none (λ diff. other (c.requires.prepared.kind ∙ diff)) ∙ sym removed in
          let row : c.first_row-row.result ≡ length above = omega (arith, c.first_row-row.ensures.value, ap length is, count, length-append above tail) in
          let few : length tail ≤ 1 = shared_few a.start (length tail) count in grind (arith, common_steps, on_ok_weaker, body_emptied, rows, row, is, few);
    }
