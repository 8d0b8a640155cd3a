-- The lines answered so far, and what is left to read.
use Rattle.std.proofs.Common.{◌≡◌, ℕ, ◌+◌, min, arith, length, Bool, true, false, ◌||◌, List, [], ◌∷◌, ◌++◌, Option, Some, None, refl, sym, ap, ◌∙◌, subst, inl}
use Rattle.std.proofs.Common.{inr}
use Rattle.std.proofs.Common.{append_assoc}
use Rattle.std.specs.Prelude.{IfSome, IsOkAnd, Result, Ok, Err, String, string_bytes}
use Rattle.std.specs.Io.BufRead.{first_line, drop_through}
use Rattle.std.specs.Io.Iter.{YieldsKnownPiece}
use Rattle.std.specs.Io.KnownBytes.{Appends, IsAtEnd, Keeps}
use Rattle.std.specs.List.{concat}
use Rattle.std.specs.declared.alloc.Global.{Global}
use Rattle.std.proofs.lemmas.List.{append-nil, length_push}
use Rattle.std.proofs.lemmas.List.Folds.{concat-append}
use Rattle.output_stream.specs.Standing.{Standing}
use Rattle.replay_run.specs.WrittenAnswer.{AnswersLine, AnswersLines, AreFirstLines, AreNumberedLines, Numbered, first_after, following_number}
use Rattle.replay_run.specs.Answered.{AnswersReader, AppendsFirst, AreFirstRead, AreRead, StopsAfter, StopsLine, StopsReader, following_line}
use Rattle.replay_run.specs.Checked.{most}
use Rattle.replay_run.specs.Problem.{IsProblemWith, IsWrite}
use Rattle.replay_run.specs.declared.lines.Way.{Way}
use Rattle.replay_run.specs.declared.problem.InputLine.{InputLine}
use Rattle.replay_run.specs.declared.problem.InputLine.TheVariants.{Case}
use Rattle.replay_run.specs.declared.problem.Problem.{Problem}
use Rattle.replay_run.specs.declared.problem.Problem.TheVariants.{NotText, NotJson, Wrong, Unpaired, TooManyLines, NotCases, Read, Clock, Write, Memory}
use Rattle.replay_run.proofs.Growing.{appends_kept, appends_none, appends_twice}
use Rattle.replay_run.proofs.Checking.{GivesLine, ended}

-- the first text, and those after it
not_first : {X : Type 0} (lines : List X) → first_after false lines ≡ false
not_first [] = refl
not_first (line ∷ lines) = refl

-- whether a line is the first is told after two stretches of lines as after both at once
pub first_twice : {X : Type 0} (is_first : Bool) (before lines : List X)
    → first_after is_first (before ++ lines) ≡ first_after (first_after is_first before) lines
first_twice is_first [] lines = refl
first_twice is_first (line ∷ before) lines = sym (not_first lines)

or_either : (a b c : Bool) → (a || b) || c ≡ a || (b || c)
or_either true b c = refl
or_either false b c = refl

or_false : (a : Bool) → a ≡ a || false
or_false true = refl
or_false false = refl

-- lines and then more lines are answered
pub answered_twice : (way : Way) (told later is_first : Bool) (before : List Numbered) (texts : List (List ℕ)) (lines : List Numbered)
    (more : List (List ℕ)) → AnswersLines way told is_first before texts → AnswersLines way later (first_after is_first before) lines more
    → AnswersLines way (told || later) is_first (before ++ lines) (texts ++ more)
answered_twice way told later is_first [] [] lines more one two =
    subst (λ t. AnswersLines way (t || later) is_first lines more) (sym one) two
answered_twice way told later is_first [] (text ∷ texts) lines more one two = absurd one
answered_twice way told later is_first (line ∷ before) [] lines more one two = absurd one
answered_twice way told later is_first (line ∷ before) (text ∷ texts) lines more one two =
    let (here, after, is, answers, rest) = one in
    let next : AnswersLines way later (first_after false before) lines more = subst (λ f. AnswersLines way later f lines more) (sym (not_first before)) two in (
      here,
      after || later,
      ap (λ t. t || later) is ∙ or_either here after later,
      answers,
      answered_twice way after later false before texts lines more rest next,
    )

-- texts and then more texts are added
pub written_twice : (a b c : Option (List ℕ)) (texts more : List (List ℕ)) → Appends a b (concat texts) → Appends b c (concat more)
    → Appends a c (concat (texts ++ more))
written_twice a b c texts more one two =
    subst (Appends a c) (sym (concat-append texts more)) (appends_twice a b c (concat texts) (concat more) one two)

-- once these lines were read, this is left of what a reader held
abbrev pub LeavesAfter : (held left : Option (List ℕ)) (lines : List Numbered) → Type 0
LeavesAfter held left lines =
    IfSome held (λ text. (rest : List ℕ) × (left ≡ Some rest)
    × ((more : List Numbered) → AreNumberedLines (length lines) rest more → AreNumberedLines 0 text (lines ++ more))
    × ((more : List Numbered) → AreFirstLines (length lines) rest more → AreFirstLines 0 text (lines ++ more)))

left_none : (held left : Option (List ℕ)) → left ≡ held → LeavesAfter held left []
left_none None left is = tt
left_none (Some text) left is = (text, is, λ more are. are, λ more are. are)

-- the line after these, with its number
abbrev next_line : List Numbered → List ℕ → Numbered
next_line lines line = (following_number (length lines), line)

left_more : (held left next : Option (List ℕ)) (lines : List Numbered) (line : List ℕ) → LeavesAfter held left lines → GivesLine left next line
    → LeavesAfter held next (lines ++ next_line lines line ∷ [])
left_more None left next lines line h gives = tt
left_more (Some text) left next lines line h gives =
    let from : GivesLine (Some h.0) next line = subst (λ l. GivesLine l next line) h.1 gives in
    let here : Numbered = next_line lines line in
    let is : here ≡ next_line lines (first_line h.0) = ap (next_line lines) from.0.1 in
    let many : length (lines ++ here ∷ []) ≡ length lines + 1 = length_push lines here in
    let rest : List ℕ = drop_through 10 h.0 in (
      rest,
      from.1,
      λ more are.
          let all = h.2 (here ∷ more) (from.0.0, is, subst (λ n. AreNumberedLines n rest more) many are) in
          subst (AreNumberedLines 0 text) (sym (append_assoc lines (here ∷ []) more)) all,
      λ more are.
          let all = h.3 (here ∷ more) (from.0.0, is, subst (λ n. AreFirstLines n rest more) many are) in
          subst (AreFirstLines 0 text) (sym (append_assoc lines (here ∷ []) more)) all,
    )

left_all : (held left : Option (List ℕ)) (lines : List Numbered) → LeavesAfter held left lines → IsAtEnd left → AreRead held lines
left_all None left lines h end = tt
left_all (Some text) left lines h end =
    let at_end : IsAtEnd (Some h.0) = subst IsAtEnd h.1 end in
    subst (AreNumberedLines 0 text) (append-nil lines) (h.2 [] at_end)

left_first : (held left : Option (List ℕ)) (lines : List Numbered) → LeavesAfter held left lines → AreFirstRead held lines
left_first None left lines h = tt
left_first (Some text) left lines h = subst (AreFirstLines 0 text) (append-nil lines) (h.3 [] tt)

-- the number of lines, with one more, as far as can be counted
next_number : (n number next : ℕ) → number ≡ min n most → next ≡ min (number + 1) most → next ≡ min (n + 1) most
next_number n number next counted step = omega arith

-- the lines so far are answered, and counted, and this is left of what a reader held
pub record HaveAnswered (way : Way) (told is_first still_first : Bool) (number : ℕ) (held left : Option (List ℕ)) (old new : Standing) : Type 0 where
  pub lines : List Numbered
  pub leaves : LeavesAfter held left lines
  pub texts : List (List ℕ)
  pub answered : AnswersLines way told is_first lines texts
  pub written : Appends old.held new.held (concat texts)
  pub still : still_first ≡ first_after is_first lines
  pub counted : number ≡ min (length lines) most

-- before any line is read nothing is answered
pub answered_none : (way : Way) (is_first : Bool) (held left : Option (List ℕ)) (old : Standing) → left ≡ held
    → HaveAnswered way false is_first is_first 0 held left old old
answered_none way is_first held left old is =
    record {
      lines = [];
      leaves = left_none held left is;
      texts = [];
      answered = refl;
      written = appends_none old.held;
      still = refl;
      counted = refl;
    }

-- the answer to the line after these, as it is told by the number that is counted to
answer_after : (way : Way) (here is_first still_first : Bool) (number more : ℕ) (lines : List Numbered) (line text : List ℕ)
    → number ≡ min (length lines) most
    → more ≡ min (number + 1) most → still_first ≡ first_after is_first lines → AnswersLine way here still_first (more, line) text
    → AnswersLines way here (first_after is_first lines) (next_line lines line ∷ []) (text ∷ [])
answer_after way here is_first still_first number more lines line text counted step still answers =
    let same : more ≡ following_number (length lines) = next_number (length lines) number more counted step in
    let first : AnswersLine way here (first_after is_first lines) (more, line) text = subst (λ f. AnswersLine way here f (more, line) text) still answers in
    (here, false, or_false here, subst (λ n. AnswersLine way here (first_after is_first lines) (n, line) text) same first, refl)

answered_more : (way : Way) (told here is_first still_first : Bool) (number more : ℕ) (held left next : Option (List ℕ)) (old mid out new : Standing)
    (line text : List ℕ)
    → HaveAnswered way told is_first still_first number held left old mid → more ≡ min (number + 1) most → GivesLine left next line
    → AnswersLine way here still_first (more, line) text → Appends mid.held out.held text → Keeps out.held new.held
    → HaveAnswered way (told || here) is_first false more held next old new
answered_more way told here is_first still_first number more held left next old mid out new line text h step gives answers added kept =
    let this : Numbered = next_line h.lines line in
    let alone : Appends mid.held out.held (concat (text ∷ [])) = subst (Appends mid.held out.held) (sym (append-nil text)) added in
    let one = answer_after way here is_first still_first number more h.lines line text h.counted step h.still answers in
    record {
      lines = h.lines ++ this ∷ [];
      leaves = left_more held left next h.lines line h.leaves gives;
      texts = h.texts ++ text ∷ [];
      answered = answered_twice way told here is_first h.lines h.texts (this ∷ []) (text ∷ []) h.answered one;
      written = appends_kept old.held out.held new.held (concat (h.texts ++ text ∷ []))
          (written_twice old.held mid.held out.held h.texts (text ∷ []) h.written alone) kept;
      still = sym (first_twice is_first h.lines (this ∷ []));
      counted = next_number (length h.lines) number more h.counted step ∙ sym (ap (λ n. min n most) (length_push h.lines this));
    }

-- with one more line that is answered the lines so far are answered
pub answered_step : {E : Type 0} (way : Way) (told here both is_first still_first : Bool) (number more : ℕ) (held left next : Option (List ℕ))
    (old mid out new : Standing)
    (r : Option (Result (String Global) E)) (line : Result (String Global) E) → HaveAnswered way told is_first still_first number held left old mid
    → more ≡ min (number + 1) most → r ≡ Some line → YieldsKnownPiece string_bytes first_line 10 left r next
    → IsOkAnd line (λ x. (text : List ℕ) × AnswersLine way here still_first (more, string_bytes x) text × Appends mid.held out.held text)
    → Keeps out.held new.held
    → both ≡ told || here → HaveAnswered way both is_first false more held next old new
answered_step way told here both is_first still_first number more held left next old mid out new r (Ok x) h step is gives answers kept either =
    let piece : GivesLine left next (string_bytes x) = subst (λ item. YieldsKnownPiece string_bytes first_line 10 left item next) is gives in
    let stepped = answered_more way told here is_first still_first number more held left next old mid out new (string_bytes x) answers.0 h step piece
    answers.1 answers.2 kept in
    subst (λ t. HaveAnswered way t is_first false more held next old new) (sym either) stepped
answered_step way told here both is_first still_first number more held left next old mid out new r (Err e) h step is gives answers kept either =
    absurd answers

-- once no line is left the reader is answered
pub answered_all : {E : Type 0} (way : Way) (told is_first still_first : Bool) (number : ℕ) (held left next : Option (List ℕ)) (old new : Standing)
    (r : Option (Result (String Global) E)) → HaveAnswered way told is_first still_first number held left old new → r ≡ None
    → YieldsKnownPiece string_bytes first_line 10 left r next → AnswersReader way told is_first still_first held old new
answered_all way told is_first still_first number held left next old new r h is gives =
    record {
      lines = h.lines;
      read = left_all held left h.lines h.leaves (ended left next r is gives);
      texts = h.texts;
      answered = h.answered;
      written = h.written;
      still = h.still;
    }

-- what was written can't be handed on after the lines so far
pub stops_after : (way : Way) (told is_first still_first : Bool) (number : ℕ) (held left : Option (List ℕ)) (old mid new : Standing) (problem : Problem)
    → HaveAnswered way told is_first still_first number held left old mid
    → Keeps mid.held new.held → IsWrite new problem → StopsReader way is_first held old new problem
stops_after way told is_first still_first number held left old mid new problem h kept write =
    record {
      lines = h.lines;
      read = left_first held left h.lines h.leaves;
      texts = h.texts;
      told = told;
      answered = h.answered;
      written = inl (
        write,
        record {
          part = concat h.texts;
          rest = [];
          split = sym (append-nil (concat h.texts));
          added = appends_kept old.held mid.held new.held (concat h.texts) h.written kept;
        },
      );
    }

stops_in : (way : Way) (told here is_first still_first : Bool) (number more : ℕ) (held left next : Option (List ℕ)) (old mid new : Standing) (problem : Problem)
    (line text : List ℕ)
    → HaveAnswered way told is_first still_first number held left old mid → more ≡ min (number + 1) most → GivesLine left next line → IsWrite new problem
    → AnswersLine way here still_first (more, line) text → AppendsFirst mid new text → StopsReader way is_first held old new problem
stops_in way told here is_first still_first number more held left next old mid new problem line text h step gives write answers first =
    let this : Numbered = next_line h.lines line in
    let one = answer_after way here is_first still_first number more h.lines line text h.counted step h.still answers in
    let whole : concat (h.texts ++ text ∷ []) ≡ concat h.texts ++ text = concat-append h.texts (text ∷ [])
    ∙ ap (λ (l : List ℕ). concat h.texts ++ l) (append-nil text) in
    record {
      lines = h.lines ++ this ∷ [];
      read = left_first held next (h.lines ++ this ∷ []) (left_more held left next h.lines line h.leaves gives);
      texts = h.texts ++ text ∷ [];
      told = told || here;
      answered = answered_twice way told here is_first h.lines h.texts (this ∷ []) (text ∷ []) h.answered one;
      written = inl (
        write,
        record {
          part = concat h.texts ++ first.part;
          rest = first.rest;
          split = whole ∙ ap (λ (l : List ℕ). concat h.texts ++ l) first.split ∙ sym (append_assoc (concat h.texts) first.part first.rest);
          added = appends_twice old.held mid.held new.held (concat h.texts) first.part h.written first.added;
        },
      );
    }

-- a line that is no case stands after the lines so far
problem_after : {E : Type 0} (held left next : Option (List ℕ)) (lines : List Numbered) (at : InputLine) (line : Result (String Global) E) (problem : Problem)
    → LeavesAfter held left lines
    → YieldsKnownPiece string_bytes first_line 10 left (Some line) next → at ≡ following_line lines → IsProblemWith at line problem
    → StopsAfter held lines problem
problem_after held left next lines at line (NotText place) h gives at_is with = with ∙ at_is
problem_after held left next lines at (Ok x) (NotJson place column ends_early) h gives at_is with = (
  with.0 ∙ at_is,
  string_bytes x,
  left_first held next (lines ++ next_line lines (string_bytes x) ∷ []) (left_more held left next lines (string_bytes x) h gives),
  with.1,
)
problem_after held left next lines at (Err e) (NotJson place column ends_early) h gives at_is with = absurd with.1
problem_after held left next lines at (Ok x) (Wrong place words) h gives at_is with = (
  with.0 ∙ at_is,
  string_bytes x,
  left_first held next (lines ++ next_line lines (string_bytes x) ∷ []) (left_more held left next lines (string_bytes x) h gives),
  with.1.0,
  with.1.1,
)
problem_after held left next lines at (Err e) (Wrong place words) h gives at_is with = absurd with.1
problem_after held left next lines at line (Unpaired number) h gives at_is with = absurd with
problem_after held left next lines at line TooManyLines h gives at_is with = absurd with
problem_after held left next lines at line NotCases h gives at_is with = absurd with
problem_after held left next lines at line (Read error) h gives at_is with = tt
problem_after held left next lines at line (Clock error) h gives at_is with = absurd with
problem_after held left next lines at line (Write error) h gives at_is with = absurd with
problem_after held left next lines at line Memory h gives at_is with = tt

-- it stops within one line more, or at it
pub stops_within : {E : Type 0} (way : Way) (told is_first still_first : Bool) (number more : ℕ) (held left next : Option (List ℕ)) (old mid new : Standing)
    (problem : Problem)
    (r : Option (Result (String Global) E)) (line : Result (String Global) E) → HaveAnswered way told is_first still_first number held left old mid
    → more ≡ min (number + 1) most → r ≡ Some line → YieldsKnownPiece string_bytes first_line 10 left r next
    → StopsLine way still_first more line mid new problem → StopsReader way is_first held old new problem
stops_within way told is_first still_first number more held left next old mid new problem r line h step is gives (inr with) =
    record {
      lines = h.lines;
      read = left_first held left h.lines h.leaves;
      texts = h.texts;
      told = told;
      answered = h.answered;
      written = inr (
        appends_kept old.held mid.held new.held (concat h.texts) h.written with.0,
        problem_after held left next h.lines (Case more) line problem h.leaves
            (subst (λ item. YieldsKnownPiece string_bytes first_line 10 left item next) is gives)
            (ap Case (next_number (length h.lines) number more h.counted step)) with.1,
        with.2,
      );
    }
stops_within way told is_first still_first number more held left next old mid new problem r (Ok x) h step is gives (inl part) =
    let (here, text, answers, first) = part.1 in
    let piece : GivesLine left next (string_bytes x) = subst (λ item. YieldsKnownPiece string_bytes first_line 10 left item next) is gives in
    stops_in way told here is_first still_first number more held left next old mid new problem (string_bytes x) text h step piece part.0 answers first
stops_within way told is_first still_first number more held left next old mid new problem r (Err e) h step is gives (inl part) = absurd part.1
