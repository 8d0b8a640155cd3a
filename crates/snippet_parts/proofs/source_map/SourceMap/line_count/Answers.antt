use Rattle.snippet_parts.proofs.Common.{common_steps, ◌≡◌, ◌+◌, length, ap, arith, source_lines, AreLinesOf-source_lines, length-source_lines, newline_count-le}
use Rattle.snippet_parts.proofs.Common.{source_lines-only, starts_of}
use Rattle.snippet_parts.proofs.TableLemmas.{table-last}
use Rattle.snippet_parts.proofs.source_map.SourceMap.line_count.Goals as goal

-- all lines are skipped or kept
counted : (c : goal.After-as_slice) → c.self.inside.skipped + length c.as_slice.result.now ≡ length (source_lines c.self.inside.source.now)
counted c =
    let m = c.self.inside in
    omega (
      arith,
      table-last m.source.now (starts_of m.starts) m.line_start m.skipped m.from m.end c.self.invariant (omega (arith, c.if-self.true)),
      ap length c.as_slice.ensures.value,
    )

pub overflow_add-result : goal.overflow_add-result
overflow_add-result c = grind (arith, common_steps, counted, length-source_lines, newline_count-le)

pub returns-then-self : goal.returns-then-self
returns-then-self c = grind (arith, common_steps, counted c, AreLinesOf-source_lines c.args.self.now.text, source_lines-only c.args.self.now.text)

pub returns-else-self : goal.returns-else-self
returns-else-self c = grind (arith, common_steps, AreLinesOf-source_lines c.args.self.now.text, source_lines-only c.args.self.now.text)
