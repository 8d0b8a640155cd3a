use Rattle.snippet_parts.proofs.Common.{ℕ, ◌≤◌, leb, rules, IsPartitionedBy-leb, IsPartitionPoint-from_clause}
use Rattle.snippet_parts.proofs.TableLemmas.{IsParted, parted-some, parted-from, parted-to}
use Rattle.snippet_parts.proofs.starts.last_starting_by.Goals as goal

parted : (c : goal.After-partition_point) → IsParted c.args.starts.now c.args.byte c.partition_point.result
parted c =
    IsPartitionPoint-from_clause (λ (start : ℕ). leb start c.args.byte) c.args.starts.now c.partition_point.result c.partition_point.ensures.partitioned
    (IsPartitionedBy-leb (λ (start : ℕ). start) c.args.starts.now c.args.byte c.requires.ordered) (λ a r q k. search rules)

some : (c : goal.After-partition_point) → 1 ≤ c.partition_point.result
some c = parted-some c.args.starts.now c.args.byte c.partition_point.result c.requires.some c.requires.first (parted c)

pub overflow_sub-result : goal.overflow_sub-result
overflow_sub-result c = some c

pub returns-clause-from : goal.returns-clause-from
returns-clause-from c = parted-from c.args.starts.now c.args.byte c.partition_point.result (some c) (parted c)

pub returns-clause-to : goal.returns-clause-to
returns-clause-to c = parted-to c.args.starts.now c.args.byte c.partition_point.result (some c) (parted c)
