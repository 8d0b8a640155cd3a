-- What follows for a suggestion that is prepared.
use Rattle.snippet_suggest.proofs.Common.{◌≡◌, ℕ, ◌+◌, ◌<◌, ◌≤◌, List, [], ◌∷◌, All, length, map, refl, sym, ap, ◌∙◌, arith, subst, if◌then◌else◌}
use Rattle.snippet_suggest.proofs.Common.{cow_str_bytes, All-map, source_lines, line_of, IsSpan, LineInfo, table_entry, touched_entries, end_from, TrimmedPatch}
use Rattle.snippet_suggest.proofs.Common.{Edit, edit_of, in_order, trimmed_edits, AreApart, edit_bounds, original_bounds_of, trimmed_edit_of, first_start}
use Rattle.snippet_suggest.proofs.Common.{trimmed-apart, apart-in_order, ordered-spans, none_given, PreparedSuggestion, edits_of, first_end, first_given}
use Rattle.snippet_suggest.proofs.Common.{last_reached, last_removed, IsPrepared, first_original, first_original_end, rules}
use Rattle.snippet_suggest.proofs.ReachLemmas.{reached, touched_last}
use Rattle.snippet_suggest.proofs.SpanLemmas.{original_spans, trimmed_spans}
use Rattle.snippet_suggest.proofs.PreparedLemmas.{first_original-start}

-- the spans of its edits are taken
edit_spans : (p : PreparedSuggestion) → IsPrepared p → All (λ e. IsSpan p.map.text e.start e.end) (edits_of p.snippet.now)
edit_spans p is =
    let source : List ℕ = cow_str_bytes p.snippet.now.source.text in
    subst (λ text. All (λ (e : Edit). IsSpan text e.start e.end) (edits_of p.snippet.now)) (sym (ap (λ m. m.text) is.lines))
    (All-map (λ e. IsSpan source e.start e.end) edit_of p.snippet.now.markers.items is.suggestible.spans)

-- so are those of its patches, and those that they had before they were trimmed
pub known_spans : (p : PreparedSuggestion) → IsPrepared p → All (λ t. IsSpan p.map.text t.span.start t.span.end) p.splice.patches.items
known_spans p is =
    let text : cow_str_bytes p.snippet.now.source.text ≡ p.map.text = sym (ap (λ m. m.text) is.lines) in
    trimmed_spans p.map.text (edits_of p.snippet.now) p.splice.patches.items (edit_spans p is)
    (is.edits ∙ ap (λ source. trimmed_edits source (edits_of p.snippet.now)) text)

-- the patches of a prepared suggestion stand on spans of its source
pub known_originals : (p : PreparedSuggestion) → IsPrepared p → All (λ t. IsSpan p.map.text t.original_span.start t.original_span.end) p.splice.patches.items
known_originals p is =
    original_spans p.map.text (edits_of p.snippet.now) p.splice.patches.items (edit_spans p is) is.originals

-- it has a patch
pub known_some : (p : PreparedSuggestion) → IsPrepared p → 0 < length p.splice.patches.items
known_some p is = go p.splice.patches.items is.edits
  where
    go : (ts : List TrimmedPatch) → map trimmed_edit_of ts ≡ trimmed_edits (cow_str_bytes p.snippet.now.source.text) (edits_of p.snippet.now) → 0 < length ts
    go [] same = absurd (is.some (none_given (cow_str_bytes p.snippet.now.source.text) p.snippet.now.markers.items [] same refl))
    go (t ∷ ts) same = omega arith

-- its trimmed edits stand apart
pub known_apart : (p : PreparedSuggestion) → IsPrepared p → AreApart 0 (trimmed_edits (cow_str_bytes p.snippet.now.source.text) (edits_of p.snippet.now))
known_apart p is =
    let source : List ℕ = cow_str_bytes p.snippet.now.source.text in
    trimmed-apart source 0 (in_order (edits_of p.snippet.now)) (apart-in_order (edits_of p.snippet.now)
    (ordered-spans source p.snippet.now.markers.items is.suggestible.spans) is.suggestible.disjoint)

-- the last of the lines that are removed is the last that its patches reach
pub known_reached : (p : PreparedSuggestion) → IsPrepared p → (infos : List LineInfo) (start end : ℕ) → start ≤ end
    → end ≡ end_from 0 (map trimmed_edit_of p.splice.patches.items) → map table_entry infos ≡ touched_entries p.map start end
    → last_removed infos ≡ last_reached p.snippet.now
known_reached p is infos start end ordered ends are = grind (arith, touched_last, reached, known_apart)

first_end-of : (ts : List TrimmedPatch) (es : List Edit) → map original_bounds_of ts ≡ map edit_bounds es → first_original_end ts ≡ first_end es
first_end-of x y z = search rules

-- the first patch of a prepared suggestion starts where its first edit does
pub known_first_start : (p : PreparedSuggestion) → IsPrepared p → first_original p.splice.patches.items ≡ first_start (in_order (edits_of p.snippet.now))
known_first_start p is = first_original-start p.splice.patches.items (in_order (edits_of p.snippet.now)) is.originals

-- the first patch of a prepared suggestion ends where its first edit does
pub known_first_end : (p : PreparedSuggestion) → IsPrepared p → first_original_end p.splice.patches.items ≡ first_end (in_order (edits_of p.snippet.now))
known_first_end p is = grind (arith, first_end-of)

-- the number of the first line of a prepared suggestion is that of the first that is given
pub known_first : (p : PreparedSuggestion) → IsPrepared p
    → p.map.first + (if p.snippet.now.fold then line_of (source_lines p.map.text) (first_original p.splice.patches.items) else 0)
    ≡ p.snippet.now.line_start + first_given p.snippet.now
known_first p is = grind (arith, first_original-start)
