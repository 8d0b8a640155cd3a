-- What a comparison of files ends with.
use Rattle.std.specs.Prelude.{◌≡◌, ◌↔◌, ℕ, ◌/◌, List, [], ◌++◌, Option, codes, decimal}
use Rattle.std.specs.Io.KnownBytes.{Appends}
use Rattle.output_stream.specs.Standing.{Standing}
use Rattle.replay_run.specs.WrittenAnswer.{ended_line}
use Rattle.replay_run.specs.Checked.{CountsFiles}
use Rattle.replay_run.specs.declared.check.Counts.{Counts}

-- the line that tells counts
abbrev pub count_line : Counts → List ℕ
count_line counts =
    ended_line (decimal counts.passed ++ codes " passed, " ++ decimal counts.failed ++ codes " failed")

-- the end of a comparison of this many files, two by two: what a stream held before and holds then, and the status. The last line that
-- is written tells the counts, and nothing else is written where no case failed; that is where the status is 0
pub record EndsComparison (File : Type 0) (bytes : File → Option (List ℕ)) (files : ℕ) (old new : Standing) (status : ℕ) : Type 0 where
  pub counts : Counts
  pub counted : CountsFiles File bytes (files / 2) counts
  pub differences : List ℕ
  pub told : Appends old.held new.held (differences ++ count_line counts)
  pub silent : counts.failed ≡ 0 → differences ≡ []
  pub passes : (status ≡ 0) ↔ (counts.failed ≡ 0)
