use Rattle.snippet_suggest.proofs.Common.{◌≡◌, ◌∙◌, ◌+◌, ◌-◌, ◌++◌, ◌∷◌, ℕ, [], List, ap, arith, drop, get_or, length, take, common_steps, rules}
use Rattle.snippet_suggest.proofs.Common.{cells_written, text_cells, NoStyle, length-chars_le, SubstitutionHighlight, put}
use Rattle.std.proofs.Common.{chars}
use Rattle.snippet_suggest.proofs.PartRows.{next_in_order, plain_border, plain_part, plain_rest, put_all, put_none_yet, put_one_more}
use Rattle.snippet_suggest.proofs.PutLemmas.{put_more}
use Rattle.snippet_suggest.proofs.roles.put_stretches.Goals as goal

-- no stretch
abbrev none : SubstitutionHighlight
none = record { start = 0; end = 0 }

pub range-requires-clause-end_boundary : goal.range-requires-clause-end_boundary
range-requires-clause-end_boundary c = grind (arith, common_steps, next_in_order, plain_border)

pub range-requires-in-loop-stretch-clause-end_boundary : goal.range-requires-in-loop-stretch-clause-end_boundary
range-requires-in-loop-stretch-clause-end_boundary c = grind (arith, common_steps, next_in_order, plain_border)

pub puts-requires-clause-end : goal.puts-requires-clause-end
puts-requires-clause-end c = grind (arith, common_steps, next_in_order, length-chars_le)

pub puts-requires-in-loop-stretch-clause-end : goal.puts-requires-in-loop-stretch-clause-end
puts-requires-in-loop-stretch-clause-end c = grind (arith, common_steps, next_in_order, length-chars_le)

pub puts-requires-2-clause-end : goal.puts-requires-2-clause-end
puts-requires-2-clause-end c =
    omega (arith, c.inner_cell-cell.ensures.few, length-chars_le c.range_from.result.now, c.range_from.ensures.len, c.loop-stretch.invariant.within)

pub loop-stretch-init : goal.loop-stretch-init
loop-stretch-init c = search (rules, put_none_yet)

pub loop-stretch-preserved : goal.loop-stretch-preserved
loop-stretch-preserved c =
    let a = c.args in
    let inv = c.loop-stretch.invariant in
    let ss = a.stretches.now in
    let line : List ℕ = a.line.now in
    let g : ℕ = a.layout.now.base.gutter in
    let i : ℕ = c.loop-stretch.stretch-index in
    let at : ℕ = c.loop-stretch.at in
    let s : SubstitutionHighlight = get_or ss i none in
    let next = next_in_order (length line) at ss i none c.loop-stretch-test.true inv.ordered in
    let pre : chars c.range.result.now ≡ take (s.start - at) (drop at line) = cc (c.range.ensures.value, plain_part line at (s.start - at) c.requires.plain) in
    let mid : chars c.range-in-loop-stretch.result.now ≡ take (s.end - s.start) (drop s.start line) = ap chars c.range-in-loop-stretch.ensures.value
    ∙ plain_part line s.start (s.end - s.start) c.requires.plain in
    record {
      within = next.inside;
      ordered = next.rest;
      parts = λ above last here is.
          let p = inv.parts above last here is in
          let unstyled = put NoStyle (chars c.range.result.now) (g + 3 + at) p.row in
          let first = put_more NoStyle c.range.result.now (g + 3 + at) a.row above p.row c.loop-stretch.buffer c.puts.new.self c.range.utf8 here p.is
          (λ some. c.in_ok-puts.ensures.ok some
          ∙ ap (λ n. cells_written c.loop-stretch.buffer a.row (n + at) (text_cells NoStyle (chars c.range.result.now))) c.inner_cell-cell.ensures.value)
          c.puts.ensures.empty in
          let second = put_more a.role c.range-in-loop-stretch.result.now (g + 3 + s.start) a.row above unstyled c.puts.new.self
          c.puts-in-loop-stretch.new.self c.range-in-loop-stretch.utf8 here first
          (λ some. c.in_ok-puts-2.ensures.ok some ∙ ap (λ n. cells_written c.puts.new.self a.row (n + s.start)
          (text_cells a.role (chars c.range-in-loop-stretch.result.now))) c.inner_cell-cell.ensures.value) c.puts-in-loop-stretch.ensures.empty in
          put_one_more a.role g line ss i none at above last c.loop-stretch.buffer c.puts-in-loop-stretch.new.self p c.loop-stretch-test.true
          c.requires.plain (omega (arith, c.inner_cell-cell.ensures.few, c.inner_cell-cell.ensures.value)) next.low next.high next.inside
          (second ∙ ap (λ (t : List ℕ). above ++ put a.role t (g + 3 + s.start) unstyled ∷ []) mid
          ∙ ap (λ (t : List ℕ). above ++ put a.role (take (s.end - s.start) (drop s.start line)) (g + 3 + s.start)
          (put NoStyle t (g + 3 + at) p.row) ∷ []) pre);
    }

pub returns : goal.returns
returns c =
    let a = c.args in
    let g : ℕ = a.layout.now.base.gutter in
    let at : ℕ = c.loop-stretch.at in
    record {
      cells = λ above last here is.
          let p = c.loop-stretch.invariant.parts above last here is in
          let rest : chars c.range_from.result.now ≡ drop at a.line.now = ap chars c.range_from.ensures.value ∙ plain_rest a.line.now at c.requires.plain in
          let put_last = put_more NoStyle c.range_from.result.now (g + 3 + at) a.row above p.row c.loop-stretch.buffer c.puts-2.new.self c.range_from.utf8
          here p.is (λ some. c.in_ok-puts-3.ensures.ok some
          ∙ ap (λ n. cells_written c.loop-stretch.buffer a.row (n + at) (text_cells NoStyle (chars c.range_from.result.now))) c.inner_cell-cell.ensures.value)
          c.puts-2.ensures.empty in search (rules, put_all, p, put_last, rest);
    }
