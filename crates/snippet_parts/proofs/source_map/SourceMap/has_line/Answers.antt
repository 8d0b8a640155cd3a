use Rattle.snippet_parts.proofs.Common.{common_steps, arith, length-source_lines, newline_count-le, starts_of}
use Rattle.snippet_parts.proofs.TableLemmas.{table-within}
use Rattle.snippet_parts.proofs.source_map.SourceMap.has_line.Goals as goal

pub overflow_add-self-inside : goal.overflow_add-self-inside
overflow_add-self-inside c = grind (arith, common_steps, table-within, c.as_slice.ensures.value, length-source_lines, newline_count-le)

pub returns-then-index-self : goal.returns-then-index-self
returns-then-index-self c =
    grind (
      arith,
      common_steps,
      table-within c.self.inside.source.now (starts_of c.self.inside.starts) c.self.inside.line_start c.self.inside.skipped c.self.inside.from
          c.self.inside.end c.self.invariant,
      c.as_slice.ensures.value,
      c.if-index-self.true,
    )
