-- What is known of a value that a line holds is known of the line.
use Rattle.std.proofs.Common.{◌≡◌, ℕ, Bool, Some}
use Rattle.std.specs.Prelude.{IfErr, IfOk, IsOkAnd, Result, Ok, Err, String, string_bytes}
use Rattle.std.specs.declared.alloc.Global.{Global}
use Rattle.std.specs.declared.vec.Vec.{Vec}
use Rattle.serde_json.specs.Data.{Data}
use Rattle.serde_json.specs.Read.{read}
use Rattle.replay_run.specs.WrittenAnswer.{AnswersCaseAs, AnswersValue}
use Rattle.replay_run.specs.Problem.{IsMisread, IsProblemWith}
use Rattle.replay_run.specs.declared.lines.AnswerForm.{AnswerForm}
use Rattle.replay_run.specs.declared.problem.InputLine.{InputLine}
use Rattle.replay_run.specs.declared.problem.Problem.{Problem}
use Rattle.replay_run.specs.declared.problem.Problem.TheVariants.{NotText, NotJson, Wrong, Unpaired, TooManyLines, NotCases, Read, Clock, Write, Memory}
use Rattle.replay_run.proofs.Checking.{ok_and}

-- what answers the value answers the line
pub line_answered : {E : Type 0} (form : AnswerForm) (is_first : Bool) (line : Result (String Global) E) (d : Data) (r : Result (Vec ℕ Global) Problem)
    → IsOkAnd line (λ text. read (string_bytes text) ≡ Some d) → IfOk r (λ text. AnswersValue form is_first d text.items)
    → IfOk r (λ text. IsOkAnd line (λ line. AnswersCaseAs form is_first (string_bytes line) text.items))
line_answered form is_first line d (Ok text) reads h =
    ok_and line (λ x is. record {
      case = h.case;
      outcome = h.outcome;
      became = record { described = d; reads = is; case_is = h.case_is; became = h.became };
      text_is = h.text_is;
    }) reads
line_answered form is_first line d (Err problem) reads h = tt

-- a value that describes nothing is that of a line that does
pub line_misread : {T E : Type 0} (at : InputLine) (line : Result (String Global) E) (d : Data) (r : Result T Problem)
    → IsOkAnd line (λ text. read (string_bytes text) ≡ Some d)
    → IfErr r (IsMisread at) → IfErr r (IsProblemWith at line)
line_misread at line d (Ok x) reads h = tt
line_misread at line d (Err (NotText place)) reads h = absurd h
line_misread at line d (Err (NotJson place column ends_early)) reads h = absurd h
line_misread at line d (Err (Wrong place words)) reads h = (h, ok_and line (λ x is. (d, is)) reads)
line_misread at line d (Err (Unpaired number)) reads h = absurd h
line_misread at line d (Err TooManyLines) reads h = absurd h
line_misread at line d (Err NotCases) reads h = absurd h
line_misread at line d (Err (Read error)) reads h = absurd h
line_misread at line d (Err (Clock error)) reads h = absurd h
line_misread at line d (Err (Write error)) reads h = absurd h
line_misread at line d (Err Memory) reads h = tt
