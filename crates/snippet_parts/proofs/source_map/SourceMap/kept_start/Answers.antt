use Rattle.snippet_parts.proofs.Common.{common_steps, ◌≡◌, ◌<◌, ◌≤◌, ◌+◌, ◌-◌, ◌∙◌, length, get_or, List, ℕ, sym, ap, arith, ltb-true, Source, source_lines}
use Rattle.snippet_parts.proofs.Common.{start_of, joined-source_lines, start_of-end, start_of-le, IsLineTable, starts_of}
use Rattle.snippet_parts.proofs.TableLemmas.{table-start}
use Rattle.snippet_parts.proofs.source_map.SourceMap.kept_start.Goals as goal

-- what is kept of the line is where it starts
found : (source starts : List ℕ) (first skipped from end : ℕ) → IsLineTable source first skipped from end starts → (index at start : ℕ)
    → skipped ≤ index → at ≡ index - skipped → at < length starts → start ≡ get_or starts at start → from + start ≡ start_of (source_lines source) index
found source starts first skipped from end table index at start after at_is inside is =
    grind (arith, common_steps, is, table-start source starts first skipped from end table at start inside, table, inside)

-- no line starts after the source
short : (source : List ℕ) (k : ℕ) → start_of (source_lines source) k ≤ length source
short source k =
    let n : ℕ = k + length (source_lines source) in
    omega (
      arith,
      start_of-le (source_lines source) k n (omega arith),
      start_of-end (source_lines source) n (omega arith),
      ap length (joined-source_lines source),
    )

pub overflow_add-result : goal.overflow_add-result
overflow_add-result c =
    let m = c.self.inside in
    let starts = c.as_slice-starts.ensures.value in
    let at : ℕ = c.in_ok-at.at in
    let start : ℕ = c.in_ok-start.start.now in
    let inside : at < length c.as_slice-starts.result.now = ltb-true at (length c.as_slice-starts.result.now) (sym c.in_ok-start.ensures.lookup.0) in
    omega (
      arith,
      found m.source.now (starts_of m.starts) m.line_start m.skipped m.from m.end c.self.invariant c.args.index at start (omega (arith, c.in_ok-at.ensures.0))
          (omega (arith, c.in_ok-at.ensures.1)) (omega (arith, inside, ap length starts))
          (c.in_ok-start.ensures.lookup.1 ∙ ap (λ ss. get_or ss at start) starts),
      short m.source.now c.args.index,
      c.self.invariant.short,
    )

pub returns : goal.returns
returns c =
    let m = c.self.inside in
    let starts = c.as_slice-starts.ensures.value in
    let at : ℕ = c.in_ok-at.at in
    let start : ℕ = c.in_ok-start.start.now in
    let inside : at < length c.as_slice-starts.result.now = ltb-true at (length c.as_slice-starts.result.now) (sym c.in_ok-start.ensures.lookup.0) in
    record {
      value = found m.source.now (starts_of m.starts) m.line_start m.skipped m.from m.end c.self.invariant c.args.index at start
          (omega (arith, c.in_ok-at.ensures.0)) (omega (arith, c.in_ok-at.ensures.1)) (omega (arith, inside, ap length starts))
          (c.in_ok-start.ensures.lookup.1 ∙ ap (λ ss. get_or ss at start) starts)
          ∙ ap (λ (s : Source). start_of (source_lines s.text) c.args.index) c.self.view_is;
    }
