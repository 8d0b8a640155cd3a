-- The verdicts on the lines read so far, and what is left to read.
use Rattle.std.proofs.Common.{◌≡◌, ℕ, ◌+◌, ◌<◌, Bool, true, false, not, cond, List, [], ◌∷◌, ◌++◌, Option, Some, None, length, min, arith, refl, sym, ap, ◌∙◌}
use Rattle.std.proofs.Common.{subst, append_assoc}
use Rattle.std.specs.Prelude.{IfSome, IsOkAnd, Result, Ok, Err, if◌then◌else◌, count_by}
use Rattle.std.specs.Io.BufRead.{first_line, drop_through, DropsThrough}
use Rattle.std.specs.Io.Iter.{YieldsKnownPiece}
use Rattle.std.specs.Io.KnownBytes.{IsAtEnd}
use Rattle.std.specs.Prelude.{String, string_bytes}
use Rattle.std.specs.declared.alloc.Global.{Global}
use Rattle.std.proofs.lemmas.List.{append-nil, length_push}
use Rattle.std.proofs.lemmas.List.Sums.{sum_by_push}
use Rattle.std.proofs.lemmas.List.Elements.{All-push}
use Rattle.replay_run.specs.Checked.{ChecksLine, ChecksLines, AreCounted, CountsLines, CountsFiles, most}
use Rattle.replay_run.specs.declared.check.Counts.{Counts}

-- what is known of a line that was read tells more
pub ok_and : {T E : Type 0} {P Q : T → Type 0} (r : Result T E) → ((x : T) → P x → Q x) → IsOkAnd r P → IsOkAnd r Q
ok_and (Ok x) tells h = tells x h
ok_and (Err e) tells h = absurd h

-- the verdicts on the lines so far, and the bytes after these lines
pub record HaveChecked (answers lines : List ℕ) (answers_left lines_left : Option (List ℕ)) (counts : Counts) : Type 0 where
  pub verdicts : List Bool
  pub next_answers : List ℕ
  pub next_lines : List ℕ
  pub answers_are : answers_left ≡ Some next_answers
  pub lines_are : lines_left ≡ Some next_lines
  pub joins : (more : List Bool) → ChecksLines next_answers next_lines more → ChecksLines answers lines (verdicts ++ more)
  pub counted : AreCounted verdicts counts

-- the same of readers, where it is known what they hold
abbrev pub HaveCheckedKnown : (expected cases expected_left cases_left : Option (List ℕ)) (counts : Counts) → Type 0
HaveCheckedKnown expected cases expected_left cases_left counts =
    IfSome expected (λ answers. IfSome cases (λ lines. HaveChecked answers lines expected_left cases_left counts))

-- before any case is read none is checked
pub checked_none : (expected cases expected_left cases_left : Option (List ℕ)) (counts : Counts) → expected_left ≡ expected → cases_left ≡ cases
    → counts.passed ≡ 0 → counts.failed ≡ 0 → HaveCheckedKnown expected cases expected_left cases_left counts
checked_none None cases expected_left cases_left counts answers_are lines_are passed failed = tt
checked_none (Some answers) None expected_left cases_left counts answers_are lines_are passed failed = tt
checked_none (Some answers) (Some lines) expected_left cases_left counts answers_are lines_are passed failed =
    record {
      verdicts = [];
      next_answers = answers;
      next_lines = lines;
      answers_are = answers_are;
      lines_are = lines_are;
      joins = λ more checks. checks;
      counted = (passed, failed);
    }

-- a reader gave a line of what it holds, and what stands after it is left
abbrev pub GivesLine : (left next : Option (List ℕ)) (line : List ℕ) → Type 0
GivesLine left next line = IfSome left (λ bytes. (0 < length bytes) × (line ≡ first_line bytes)) × DropsThrough left next 10

fails : (passes : Bool) → ◌≡◌ {A = ℕ} (cond (not passes) 1 0) (if passes then 0 else 1)
fails true = refl
fails false = refl

pub checked_more : (expected cases expected_left cases_left expected_next cases_next : Option (List ℕ)) (counts more_counts : Counts)
    (answer line : List ℕ) (passes : Bool) → HaveCheckedKnown expected cases expected_left cases_left counts
    → GivesLine expected_left expected_next answer → GivesLine cases_left cases_next line → ChecksLine answer line passes
    → more_counts.passed ≡ counts.passed + (if passes then 1 else 0) → more_counts.failed ≡ counts.failed + (if passes then 0 else 1)
    → HaveCheckedKnown expected cases expected_next cases_next more_counts
checked_more None cases _ _ _ _ _ _ _ _ _ h answers lines checks passed failed = tt
checked_more (Some answers) None _ _ _ _ _ _ _ _ _ h gives_answer gives_line checks passed failed = tt
checked_more (Some answers) (Some lines) expected_left cases_left expected_next cases_next counts more_counts answer line passes h gives_answer gives_line
    checks passed failed =
    let from_answers : GivesLine (Some h.next_answers) expected_next answer = subst (λ left. GivesLine left expected_next answer) h.answers_are gives_answer in
    let from_lines : GivesLine (Some h.next_lines) cases_next line = subst (λ left. GivesLine left cases_next line) h.lines_are gives_line in
    let (some_answers, answer_is) = from_answers.0 in
    let (some_lines, line_is) = from_lines.0 in
    let here : ChecksLine (first_line h.next_answers) (first_line h.next_lines) passes = subst (λ a.
    ChecksLine a (first_line h.next_lines) passes) answer_is (subst (λ l. ChecksLine answer l passes) line_is checks) in
    record {
      verdicts = h.verdicts ++ passes ∷ [];
      next_answers = drop_through 10 h.next_answers;
      next_lines = drop_through 10 h.next_lines;
      answers_are = from_answers.1;
      lines_are = from_lines.1;
      joins = λ more rest. subst (ChecksLines answers lines) (sym (append_assoc h.verdicts (passes ∷ []) more))
          (h.joins (passes ∷ more) (some_answers, some_lines, here, rest));
      counted = (
        passed ∙ ap (λ n. n + (if passes then 1 else 0)) h.counted.0 ∙ sym (sum_by_push (λ v. cond v 1 0) h.verdicts passes),
        failed ∙ ap (λ n. n + (if passes then 0 else 1)) h.counted.1 ∙ sym
            (sum_by_push (λ v. cond (not v) 1 0) h.verdicts passes ∙ ap (λ n. count_by not h.verdicts + n) (fails passes)),
      );
    }

-- once no case is left all are counted
pub checked_all : (expected cases expected_left cases_left : Option (List ℕ)) (counts : Counts)
    → HaveCheckedKnown expected cases expected_left cases_left counts
    → IsAtEnd expected_left → IsAtEnd cases_left → CountsLines expected cases counts
checked_all None cases _ _ _ h answers lines = tt
checked_all (Some answers) None _ _ _ h no_answers no_lines = tt
checked_all (Some answers) (Some lines) expected_left cases_left counts h no_answers no_lines =
    let answers_end : IsAtEnd (Some h.next_answers) = subst IsAtEnd h.answers_are no_answers in
    let lines_end : IsAtEnd (Some h.next_lines) = subst IsAtEnd h.lines_are no_lines in
    let all = h.joins [] (answers_end, lines_end) in
    (h.verdicts, subst (ChecksLines answers lines) (append-nil h.verdicts) all, h.counted)

-- a sum that is kept below a bound
bounded : (a b top sum : ℕ) → a ≡ min sum top → min (a + b) top ≡ min (sum + b) top
bounded a b top sum is = rw is (omega arith)

-- with one more pair of files that is counted the pairs so far are counted
pub one_more : {File : Type 0} (bytes : File → Option (List ℕ)) (pairs : ℕ) (counts more all : Counts) (expected cases : File)
    → CountsFiles File bytes pairs counts → CountsLines (bytes expected) (bytes cases) more → all.passed ≡ min (counts.passed + more.passed) most
    → all.failed ≡ min (counts.failed + more.failed) most → CountsFiles File bytes (pairs + 1) all
one_more bytes pairs counts more all expected cases h checked passed failed =
    record {
      files = h.files ++ (expected, cases, more) ∷ [];
      each = All-push (λ pair. CountsLines (bytes pair.0) (bytes pair.1) pair.2) h.files (expected, cases, more) h.each checked;
      many = length_push h.files (expected, cases, more) ∙ ap (λ n. n + 1) h.many;
      passed = passed ∙ bounded counts.passed more.passed most _ h.passed
          ∙ ap (λ n. min n most) (sym (sum_by_push (λ pair. pair.2.passed) h.files (expected, cases, more)));
      failed = failed ∙ bounded counts.failed more.failed most _ h.failed
          ∙ ap (λ n. min n most) (sym (sum_by_push (λ pair. pair.2.failed) h.files (expected, cases, more)));
    }

-- no case failed in either, where none did in both
pub none_failed : (a b top sum : ℕ) → 0 < top → sum ≡ min (a + b) top → sum ≡ 0 → (a ≡ 0) × (b ≡ 0)
none_failed a b top sum some is none = (omega arith, omega arith)

-- what a reader's next line tells, or that there is none
pub ended : {E : Type 0} (old new : Option (List ℕ)) (r : Option (Result (String Global) E)) → r ≡ None → YieldsKnownPiece string_bytes first_line 10 old r new
    → IsAtEnd old
ended old new r is piece =
    subst (λ next. YieldsKnownPiece string_bytes first_line 10 old next new) is piece

-- with one more case that is checked the cases so far are counted
pub checked_step : {E F : Type 0} (expected cases expected_left cases_left expected_next cases_next : Option (List ℕ)) (counts more : Counts)
    (a : Option (Result (String Global) E)) (l : Option (Result (String Global) F)) (answer : Result (String Global) E)
    (line : Result (String Global) F) (passes : Bool) → HaveCheckedKnown expected cases expected_left cases_left counts → a ≡ Some answer
    → l ≡ Some line → YieldsKnownPiece string_bytes first_line 10 expected_left a expected_next
    → YieldsKnownPiece string_bytes first_line 10 cases_left l cases_next
    → IsOkAnd answer (λ x. IsOkAnd line (λ y. ChecksLine (string_bytes x) (string_bytes y) passes))
    → more.passed ≡ counts.passed + (if passes then 1 else 0) → more.failed ≡ counts.failed + (if passes then 0 else 1)
    → HaveCheckedKnown expected cases expected_next cases_next more
checked_step expected cases el cl en cn counts more a l (Ok x) (Ok y) passes h a_is l_is a_gives l_gives checks passed failed =
    checked_more expected cases el cl en cn counts more (string_bytes x) (string_bytes y) passes h
    (subst (λ next. YieldsKnownPiece string_bytes first_line 10 el next en) a_is a_gives)
    (subst (λ next. YieldsKnownPiece string_bytes first_line 10 cl next cn) l_is l_gives) checks passed failed
checked_step expected cases el cl en cn counts more a l (Ok x) (Err e) passes h a_is l_is a_gives l_gives checks passed failed = absurd checks
checked_step expected cases el cl en cn counts more a l (Err e) line passes h a_is l_is a_gives l_gives checks passed failed = absurd checks

-- a case more, by its verdict
pub passes_if_none : (passes : Bool) (before after : ℕ) → after ≡ before + (if passes then 0 else 1) → after ≡ 0 → (before ≡ 0) × (passes ≡ true)
passes_if_none true before after is none = (omega arith, refl)
passes_if_none false before after is none = absurd (omega arith)

-- a case more counts once, as passed or as failed
pub passes_counted : (passes : Bool) (p f q h n : ℕ) → q ≡ p + (if passes then 1 else 0) → h ≡ f + (if passes then 0 else 1) → p + f + 1 ≡ n → q + h + 1 ≡ n + 1
passes_counted true p f q h n passed failed counted = omega arith
passes_counted false p f q h n passed failed counted = omega arith
