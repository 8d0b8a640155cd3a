use Rattle.snippet_parts.proofs.Common.{common_steps, ◌≡◌, ◌≤◌, ◌+◌, ◌-◌, ◌∙◌, List, ℕ, map, ap, arith, range_with_len, Line, source_lines, line_of}
use Rattle.snippet_parts.proofs.Common.{line_of-mono, line_of-within, entry_at}
use Rattle.snippet_parts.proofs.TableLemmas.{entries-more}
use Rattle.snippet_parts.proofs.source_map.SourceMap.span_to_lines.Goals as goal

-- the line that holds the start doesn't stand after the one that holds the end
ordered : (source : List ℕ) (start end : ℕ) → start ≤ end → line_of (source_lines source) start ≤ line_of (source_lines source) end
ordered source start end le = grind (arith, common_steps, line_of-within, line_of-mono)

pub line_info-requires : goal.line_info-requires
line_info-requires c =
    grind (
      arith,
      common_steps,
      ordered,
      c.requires.span.ordered,
      c.loop-index-test.true,
      c.loop-index.auto.index-end,
      c.line_index_of-first.ensures.value,
      c.line_index_of-last.ensures.value,
      line_of-within,
    )

pub loop-index-preserved : goal.loop-index-preserved
loop-index-preserved c =
    grind (arith, common_steps, entries-more, c.loop-index.index, c.loop-index.auto.index, c.line_info.ensures.entry, c.loop-index.invariant)

pub returns : goal.returns
returns c =
    let text = c.args.self.now.text in
    let ls : List Line = source_lines text in
    let at = entry_at c.args.self.now.first ls in
    let first : ℕ = line_of ls c.args.span.start in
    let from = c.line_index_of-first.ensures.value in
    let le = ordered text c.args.span.start c.args.span.end c.requires.span.ordered in
    let size : c.loop-index.index - first ≡ line_of ls c.args.span.end + 1 - first = omega
    (arith, le, from, c.line_index_of-last.ensures.value, c.loop-index-test.false, c.loop-index.auto.index, c.loop-index.auto.index-end) in
    record {
      lines = c.loop-index.invariant ∙ ap (λ (i : ℕ). map at (range_with_len i (c.loop-index.index - i))) from
          ∙ ap (λ (n : ℕ). map at (range_with_len first n)) size;
    }
