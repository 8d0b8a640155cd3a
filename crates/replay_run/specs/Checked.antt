-- What a comparison tells: for each line whether its case became what is expected, and how many did.
use Rattle.std.specs.Prelude.{◌≡◌, ◌↔◌, ℕ, ◌<◌, ◌^◌, ◌-◌, min, Bool, not, List, [], ◌∷◌, Option, Some, IsTrue, IfSome, length, count_by, sum_by, All}
use Rattle.std.specs.Io.BufRead.{first_line, drop_through}
use Rattle.serde_json.specs.Data.{Data}
use Rattle.serde_json.specs.Read.{read}
use Rattle.replay_run.specs.Expected.{IsExpectedOf, IsMet}
use Rattle.replay_answer.specs.Outcome.{Becomes}
use Rattle.replay_answer.specs.declared.case.Case.{Case}
use Rattle.replay_run.specs.declared.check.Counts.{Counts}
use Rattle.replay_run.specs.declared.expected.Expected.{Expected}
use Rattle.replay_answer.specs.declared.outcome.Outcome.{Outcome}

-- the verdict on the line of a case: whether what becomes of the case is what is expected
pub record ChecksCase (expected : Expected) (line : List ℕ) (passes : Bool) : Type 0 where
  pub case : Case
  pub outcome : Outcome
  pub became : Becomes line case outcome
  pub verdict : IsTrue passes ↔ IsMet expected case.id.now outcome

-- the verdict on the line of a case, where another line says what is expected
pub record ChecksLine (answer line : List ℕ) (passes : Bool) : Type 0 where
  pub said : Data
  pub reads : read answer ≡ Some said
  pub expected : Expected
  pub expected_is : IsExpectedOf said expected
  pub checks : ChecksCase expected line passes

-- the verdicts on the lines of a text, one for each, where the lines of another text say what is expected
abbrev pub ChecksLines : List ℕ → List ℕ → List Bool → Type 0
ChecksLines answers lines [] = (answers ≡ []) × (lines ≡ [])
ChecksLines answers lines (passes ∷ verdicts) =
    (0 < length answers) × (0 < length lines) × ChecksLine (first_line answers) (first_line lines) passes
    × ChecksLines (drop_through 10 answers) (drop_through 10 lines) verdicts

-- how many cases passed and how many failed, by the verdicts on them
abbrev pub AreCounted : List Bool → Counts → Type 0
AreCounted verdicts counts =
    (counts.passed ≡ count_by (λ passes. passes) verdicts) × (counts.failed ≡ count_by not verdicts)

-- the counts of what two readers hold, where that is known: those of the verdicts on their lines
abbrev pub CountsLines : Option (List ℕ) → Option (List ℕ) → Counts → Type 0
CountsLines expected cases counts =
    IfSome expected (λ answers. IfSome cases (λ lines. (verdicts : List Bool) × ChecksLines answers lines verdicts × AreCounted verdicts counts))

-- the greatest number that is counted to
abbrev pub most : ℕ
most = 2 ^ 64 - 1

-- the counts of this many pairs of files, by the bytes that each file holds: those of each pair, added up
pub record CountsFiles (File : Type 0) (bytes : File → Option (List ℕ)) (pairs : ℕ) (counts : Counts) : Type 0 where
  pub files : List (File × File × Counts)
  pub each : All (λ pair. CountsLines (bytes pair.0) (bytes pair.1) pair.2) files
  pub many : length files ≡ pairs
  pub passed : counts.passed ≡ min (sum_by (λ pair. pair.2.passed) files) most
  pub failed : counts.failed ≡ min (sum_by (λ pair. pair.2.failed) files) most
