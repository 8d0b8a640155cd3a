use Rattle.snippet_parts.proofs.Common.{◌≡◌, ◌≤◌, ◌+◌, ◌-◌, ◌∙◌, ap, sym, subst, List, ℕ, length, take, drop, arith, IsCharBoundary}
use Rattle.snippet_parts.proofs.Common.{length-drop, length-take, Line, source_lines, start_of, line_of, IsCharBoundary-start_of, length-source_lines}
use Rattle.snippet_parts.proofs.Common.{start_of-le, line_of-mono, line_of-within, starts_from}
use Rattle.snippet_parts.proofs.PartLines.{lines-of-part}
use Rattle.snippet_parts.proofs.TableLemmas.{length-starts_from, table-alone}
use Rattle.snippet_parts.proofs.source_map.SourceMap.near.Goals as goal

-- the line of the start doesn't stand after that of the end
ordered : (source : List ℕ) (start end : ℕ) → start ≤ end → line_of (source_lines source) start ≤ line_of (source_lines source) end
ordered source start end le =
    line_of-mono (source_lines source) start end (omega (arith, line_of-within source start)) le

pub range-requires : goal.range-requires
range-requires c =
    let source : List ℕ = c.args.source.now in
    let ls : List Line = source_lines source in
    let k : ℕ = line_of ls c.args.bytes.start in
    let j : ℕ = line_of ls c.args.bytes.end + 1 in
    let first = c.line_bounds-first.ensures.start in
    let end = c.line_bounds-end.ensures.end in
    record {
      start_le_end = omega (arith, first, end, start_of-le ls k j (omega (arith, ordered source c.args.bytes.start c.args.bytes.end c.requires.ordered)));
      start_boundary = λ _. subst (IsCharBoundary source) (sym first) (IsCharBoundary-start_of source k c.utf8.source);
      end_boundary = subst (IsCharBoundary source) (sym end) (IsCharBoundary-start_of source j c.utf8.source);
    }

pub invariant_of-result : goal.invariant_of-result
invariant_of-result c =
    table-alone c.args.source.now c.args.line_start c.line_index-skipped.result c.line_bounds-first.result.start c.line_bounds-first.result.end
    c.args.bytes.start c.line_index-skipped.ensures.value c.line_bounds-first.ensures.start c.line_bounds-first.ensures.end c.utf8.source
    c.requires.fits c.requires.numbers

pub invariant_of-result-2 : goal.invariant_of-result-2
invariant_of-result-2 c =
    let source : List ℕ = c.args.source.now in
    let ls : List Line = source_lines source in
    let k : ℕ = line_of ls c.args.bytes.start in
    let j : ℕ = line_of ls c.args.bytes.end in
    let n : ℕ = j + 1 - k in
    let starts : List ℕ = c.in_ok-line_starts.field-0.items in
    let le = ordered source c.args.bytes.start c.args.bytes.end c.requires.ordered in
    let after : k + n ≡ j + 1 = omega arith in
    let within : k + n ≤ length ls = omega (arith, line_of-within source c.args.bytes.end) in
    let end : c.line_bounds-end.result.end ≡ start_of ls (k + n) = c.line_bounds-end.ensures.end ∙ ap (start_of ls) (sym after) in
    let part : source_lines c.range.result.now ≡ take n (drop k ls) = lines-of-part source c.range.result.now k n c.line_bounds-first.result.start
    c.line_bounds-end.result.end (omega arith) within c.line_bounds-first.ensures.start end c.range.ensures.value in
    let are : starts ≡ starts_from 0 (take n (drop k ls)) = c.in_ok-line_starts.ensures.starts ∙ ap (starts_from 0) part in
    let size : length starts ≡ n = ap length are ∙ length-starts_from 0 (take n (drop k ls))
    ∙ omega (arith, within, length-take n (drop k ls), length-drop k ls) in
    let skipped : c.line_index-skipped.result ≡ k = c.line_index-skipped.ensures.value in
    record {
      starts_are = are ∙ sym (ap (λ m. starts_from 0 (take m (drop c.line_index-skipped.result ls))) size
          ∙ ap (λ m. starts_from 0 (take n (drop m ls))) skipped);
      some = omega (arith, size);
      from_is = c.line_bounds-first.ensures.start ∙ sym (ap (start_of ls) skipped);
      end_is = end ∙ sym (ap (λ m. start_of ls (c.line_index-skipped.result + m)) size ∙ ap (λ m. start_of ls (m + n)) skipped);
      utf8 = c.utf8.source;
      short = c.requires.fits;
      numbers = omega (arith, length-source_lines source, c.requires.numbers);
    }
