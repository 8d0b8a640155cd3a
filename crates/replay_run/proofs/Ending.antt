-- How a comparison ends.
use Rattle.std.proofs.Common.{ℕ, List, [], ◌++◌, Option, inl}
use Rattle.output_stream.specs.Standing.{Adds, Standing}
use Rattle.output_stream.proofs.Writing.{gets_none}
use Rattle.replay_run.specs.Compared.{EndsComparison, count_line}
use Rattle.replay_run.proofs.Growing.{appends_kept}

-- a flush after it changes nothing
pub ends_kept : {File : Type 0} (bytes : File → Option (List ℕ)) (files : ℕ) (old mid new : Standing) (status : ℕ)
    → EndsComparison File bytes files old mid status → Adds mid new [] → EndsComparison File bytes files old new status
ends_kept bytes files old mid new status h kept =
    record {
      counts = h.counts;
      counted = h.counted;
      differences = h.differences;
      told = appends_kept old.held mid.held new.held (h.differences ++ count_line h.counts) h.told (gets_none mid new (inl kept));
      silent = h.silent;
      passes = h.passes;
    }
