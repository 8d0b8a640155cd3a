use Rattle.snippet_parts.proofs.Common.{leb, ltb, rules, IsPartitionedBy-leb, IsPartitionedBy-ltb, IsPartitionPoint-from_clause, LongSpan}
use Rattle.snippet_parts.proofs.ShownLemmas.{on_line-partitioned}
use Rattle.snippet_parts.proofs.EntryLemmas.{no_span}
use Rattle.snippet_parts.proofs.long_spans.range_on.Goals as goal

pub returns : goal.returns
returns c =
    let es = c.args.spans.now in
    let n = c.args.line in
    let below = IsPartitionPoint-from_clause (λ (e : LongSpan). ltb e.start.line n) es c.partition_point-from.result
    c.partition_point-from.ensures.partitioned (IsPartitionedBy-ltb (λ (e : LongSpan). e.start.line) es n c.requires.ordered) (λ a r q k. search rules) in
    let upto = IsPartitionPoint-from_clause (λ (e : LongSpan). leb e.start.line n) es c.partition_point-to.result
    c.partition_point-to.ensures.partitioned (IsPartitionedBy-leb (λ (e : LongSpan). e.start.line) es n c.requires.ordered) (λ a r q k. search rules) in
    let found = on_line-partitioned (λ (e : LongSpan). e.start.line) no_span es n c.partition_point-from.result c.partition_point-to.result
    c.partition_point-from.ensures.bound below upto in
    record {
      ordered = found.0;
      within = c.partition_point-to.ensures.bound;
      value = found.1;
    }
