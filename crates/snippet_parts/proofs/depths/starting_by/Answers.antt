use Rattle.snippet_parts.proofs.Common.{leb, rules, get_or, leb-true, leb-false, IsPartitionedBy-leb, IsPartitionPoint-from_clause, LongExtent}
use Rattle.snippet_parts.proofs.depths.starting_by.Goals as goal

pub returns : goal.returns
returns c =
    let parted = IsPartitionPoint-from_clause (λ (q : LongExtent). leb q.first c.args.line)
    c.args.places.now c.partition_point.result c.partition_point.ensures.partitioned
    (IsPartitionedBy-leb (λ (q : LongExtent). q.first) c.args.places.now c.args.line c.requires.ordered) (λ a r q k. search rules) in
    record {
      within = c.partition_point.ensures.bound;
      by = λ j d from below. leb-true (get_or c.args.places.now j d).first c.args.line (parted.0 j d from below);
      after = λ j d from to. leb-false (get_or c.args.places.now j d).first c.args.line (parted.1 j d from to);
    }
