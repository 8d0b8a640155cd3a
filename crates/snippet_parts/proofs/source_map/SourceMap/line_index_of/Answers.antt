use Rattle.snippet_parts.proofs.Common.{common_steps, ◌≡◌, ◌<◌, ◌≤◌, ◌+◌, ◌^◌, ◌∙◌, length, List, ℕ, ◌-◌, subst, sym, ap, arith, HoldsAt, IsNonDecreasingBy}
use Rattle.snippet_parts.proofs.Common.{Source, source_lines, line_of, line_of-clamped, length-source_lines, newline_count-le, line_of-within, starts_of}
use Rattle.snippet_parts.proofs.TableLemmas.{table-ordered, table-first, table-holding}
use Rattle.snippet_parts.proofs.source_map.SourceMap.line_index_of.Goals as goal

-- a source has no more lines than numbers
small : (source : List ℕ) (byte : ℕ) → length source < 2 ^ 56 → line_of (source_lines source) byte + 1 < 2 ^ 57
small source byte short = omega (arith, line_of-within source byte, length-source_lines source, newline_count-le source)

pub last_starting_by-requires-clause-ordered : goal.last_starting_by-requires-clause-ordered
last_starting_by-requires-clause-ordered c =
    let m = c.self.inside in
    subst (IsNonDecreasingBy (λ (start : ℕ). start)) (sym c.as_slice.ensures.value)
    (table-ordered m.source.now (starts_of m.starts) m.line_start m.skipped m.from m.end c.self.invariant)

pub last_starting_by-requires-clause-first : goal.last_starting_by-requires-clause-first
last_starting_by-requires-clause-first c = grind (arith, common_steps, c.as_slice.ensures.value, table-first)

-- the line that is found holds the byte
found : (c : goal.After-last_starting_by) → c.self.inside.skipped + c.last_starting_by.result ≡ line_of (source_lines c.self.inside.source.now) c.args.byte
found c =
    let m = c.self.inside in
    let at : ℕ = c.min-at.result in
    let k : ℕ = c.last_starting_by.result in
    let is = c.last_starting_by.ensures in
    let same = c.as_slice.ensures.value in
    table-holding m.source.now (starts_of m.starts) m.line_start m.skipped m.from m.end c.self.invariant at k (omega (arith, c.if-self-at.true))
    (omega (arith, c.if-at-self.true))
    (omega (arith, is.within, ap length same)) (subst (λ ss. HoldsAt (λ (start : ℕ). start ≤ at - m.from) ss k) same is.from)
    (subst (λ ss. k + 1 < length ss → HoldsAt (λ (start : ℕ). at - m.from < start) ss (k + 1)) same is.to)
    ∙ line_of-clamped m.source.now c.args.byte at (omega (arith, c.min-at.ensures))

pub overflow_add-result : goal.overflow_add-result
overflow_add-result c = omega (arith, found c, small c.self.inside.source.now c.args.byte c.self.invariant.short)

pub returns-then-at-self-clause-value : goal.returns-then-at-self-clause-value
returns-then-at-self-clause-value c = found c ∙ ap (λ (s : Source). line_of (source_lines s.text) c.args.byte) c.self.view_is

pub returns-then-at-self-clause-within : goal.returns-then-at-self-clause-within
returns-then-at-self-clause-within c =
    omega (arith, returns-then-at-self-clause-value c, line_of-within c.args.self.now.text c.args.byte)

pub returns-then-at-self-clause-bound : goal.returns-then-at-self-clause-bound
returns-then-at-self-clause-bound c = omega (arith, found c, small c.self.inside.source.now c.args.byte c.self.invariant.short)

pub returns-else-self-at : goal.returns-else-self-at
returns-else-self-at c = grind (arith, common_steps, c.line_index.ensures.value, line_of-within, small)
