-- What is known of problem with a line is known of the answer that tells it.
use Rattle.std.proofs.Common.{◌≡◌, ◌⊎◌, ℕ, Bool, true, false, List, inl, inr, sym, subst, ◌∙◌}
use Rattle.std.proofs.lemmas.Bool.{false≢true}
use Rattle.std.specs.Prelude.{IfErr, IfOk, IsOkAnd, IsTrue, Result, Ok, Err, String, string_bytes}
use Rattle.std.specs.declared.alloc.Global.{Global}
use Rattle.replay_answer.specs.Answer.{IsNoCase}
use Rattle.replay_run.specs.WrittenAnswer.{AnswersLine, told_text}
use Rattle.replay_run.specs.Answered.{StopsFor}
use Rattle.replay_run.specs.Problem.{IsFault, IsFinal, IsProblemWith}
use Rattle.replay_run.specs.declared.lines.LineAnswer.{LineAnswer}
use Rattle.replay_run.specs.declared.lines.Way.{Way}
use Rattle.replay_run.specs.declared.problem.InputLine.{InputLine}
use Rattle.replay_run.specs.declared.problem.InputLine.TheVariants.{Case}
use Rattle.replay_run.specs.declared.problem.Problem.{Problem}
use Rattle.replay_run.specs.declared.problem.Problem.TheVariants.{NotText, NotJson, Wrong, Unpaired, TooManyLines, NotCases, Read, Clock, Write, Memory}
use Rattle.replay_run.proofs.Checking.{ok_and}

-- a line with such problem is no case
no_case : {E : Type 0} (at : InputLine) (line : Result (String Global) E) (problem : Problem) (words : List ℕ) → IsProblemWith at line problem
    → IsFault problem words → IsOkAnd line (λ text. IsNoCase (string_bytes text) words)
no_case at line (NotText place) words with fault = absurd fault
no_case at line (NotJson place column ends_early) words with fault =
    ok_and line (λ x none. inl (column, ends_early, fault, none)) with.1
no_case at line (Wrong place said) words with fault = ok_and line (λ x some. inr some) with.1
no_case at line (Unpaired number) words with fault = absurd fault
no_case at line TooManyLines words with fault = absurd fault
no_case at line NotCases words with fault = absurd fault
no_case at line (Read error) words with fault = absurd fault
no_case at line (Clock error) words with fault = absurd fault
no_case at line (Write error) words with fault = absurd fault
no_case at line Memory words with fault = absurd fault

-- the answer that tells it answers the line
pub answer_told : {E : Type 0} (way : Way) (is_first : Bool) (number : ℕ) (line : Result (String Global) E) (problem : Problem) (r : Result LineAnswer Problem)
    → IsTrue way.keep_going → IsProblemWith (Case number) line problem → IfOk r (λ answer. answer.told ≡ true)
    → IfOk r (λ answer. (words : List ℕ) × IsFault problem words × (answer.text.items ≡ told_text way.form is_first number words))
    → IfOk r (λ answer. IsOkAnd line (λ text. AnswersLine way answer.told is_first (number, string_bytes text) answer.text.items))
answer_told way is_first number line problem (Ok answer) keep with told text =
    let (words, fault, is) = text in
    ok_and line
    (λ x none. subst (λ t. AnswersLine way t is_first (number, string_bytes x) answer.text.items) (sym told)
    (keep, record { words = words; is = none; text_is = is }))
    (no_case (Case number) line problem words with fault)
answer_told way is_first number line problem (Err stop) keep with told text = tt

stop_is : {E : Type 0} (at : InputLine) (line : Result (String Global) E) (problem stop : Problem) → IsProblemWith at line problem
    → (stop ≡ problem) ⊎ (stop ≡ Memory) → IsProblemWith at line stop
stop_is at line problem stop with (inl same) = subst (IsProblemWith at line) (sym same) with
stop_is at line problem stop with (inr memory) = subst (IsProblemWith at line) (sym memory) tt

-- where it can't be told, that or the want of memory stops
pub stop_told : {E : Type 0} (way : Way) (number : ℕ) (line : Result (String Global) E) (problem : Problem) (r : Result LineAnswer Problem)
    → IsProblemWith (Case number) line problem → IfErr r (λ stop. IsFinal stop × ((stop ≡ problem) ⊎ (stop ≡ Memory)))
    → IfErr r (λ stop. IsProblemWith (Case number) line stop × StopsFor way stop)
stop_told way number line problem (Ok answer) with last = tt
stop_told way number line problem (Err stop) with last = (stop_is (Case number) line problem stop with last.1, λ keep. last.0)

-- where it isn't to go on, any problem stops
pub at_once : (way : Way) (problem : Problem) → way.keep_going ≡ false → StopsFor way problem
at_once way problem stops = λ keep. absurd (false≢true (sym stops ∙ keep))

-- memory is no fault of a line
pub memory_last : IsFinal Memory
memory_last = λ told is. is
