-- The inputs answered so far.
use Rattle.std.proofs.Common.{◌≡◌, ◌⊎◌, ℕ, zero, suc, ◌+◌, ◌<◌, Bool, true, false, ◌||◌, List, [], ◌∷◌, ◌++◌, Bor, Option, arith, codes, length, take}
use Rattle.std.proofs.Common.{slice_index_or, refl}
use Rattle.std.proofs.Common.{sym, ap, ◌∙◌, subst, inl, inr}
use Rattle.std.specs.Prelude.{IfErr, OnErr, OnOk, Result, Ok, Err}
use Rattle.std.specs.Io.KnownBytes.{Appends, Keeps}
use Rattle.std.specs.List.{concat, flat_map}
use Rattle.std.proofs.KnownBytes.{Keeps-trans}
use Rattle.std.proofs.lemmas.List.{append-nil, map-append, map_more, take_all}
use Rattle.std.proofs.lemmas.List.Concat.{flat_map-append}
use Rattle.std.proofs.lemmas.List.Elements.{All-push}
use Rattle.output_stream.specs.Standing.{Gets, Standing, StaysFailed}
use Rattle.output_stream.proofs.Writing.{gets_none, gets_stays}
use Rattle.program.specs.Inputs.{IsNamed, input_name}
use Rattle.replay_run.specs.WrittenAnswer.{AnswersLines, Numbered, first_after}
use Rattle.replay_run.specs.Answered.{AnswersInputs, AnswersReader, AppendsFirst, AreRead, IsEndProblem, StopsAfter, StopsAtInput, StopsFor}
use Rattle.replay_run.specs.Answered.{StopsInputs, StopsReader}
use Rattle.replay_run.specs.Problem.{IsWrite}
use Rattle.replay_run.specs.Arguments.{Argument, arguments_at}
use Rattle.replay_run.specs.Inputs.{NamedInput}
use Rattle.replay_run.specs.declared.problem.Problem.{Problem}
use Rattle.replay_run.specs.declared.lines.Way.{Way}
use Rattle.replay_run.proofs.AnsweredLines.{answered_twice, first_twice, written_twice}
use Rattle.replay_run.proofs.Growing.{appends_kept, appends_none}

-- the lines of inputs, one input after another
abbrev pub lines_of : {File Standard : Type 0} → List (NamedInput File Standard × List Numbered) → List Numbered
lines_of inputs = flat_map (λ input. input.1) inputs

lines_push : {File Standard : Type 0} (inputs : List (NamedInput File Standard × List Numbered)) (input : NamedInput File Standard) (lines : List Numbered)
    → lines_of (inputs ++ (input, lines) ∷ []) ≡ lines_of inputs ++ lines
lines_push inputs input lines =
    flat_map-append (λ r. r.1) inputs ((input, lines) ∷ []) ∙ ap (λ (l : List Numbered). lines_of inputs ++ l) (append-nil lines)

-- the inputs of these names are answered, and still_first tells whether still nothing is written
pub record HaveAnswered (File Standard : Type 0) (held : File ⊎ Standard → Option (List ℕ)) (way : Way) (told : Bool) (names : List Argument)
    (still_first : Bool) (old new : Standing) : Type 0 where
  pub all : AnswersInputs File Standard held way told names old new
  pub still : still_first ≡ first_after true (lines_of all.inputs)

-- before any input is read nothing is answered
pub none_answered : {File Standard : Type 0} (held : File ⊎ Standard → Option (List ℕ)) (way : Way) (old : Standing)
    → HaveAnswered File Standard held way false [] true old old
none_answered held way old =
    record {
      all = record {
        inputs = [];
        named = refl;
        read = λ k d within. absurd (omega (arith, within));
        texts = [];
        answered = refl;
        written = appends_none old.held;
      };
      still = refl;
    }

-- with one more input that is answered the inputs so far are answered
pub one_more_answered : {File Standard : Type 0} (held : File ⊎ Standard → Option (List ℕ)) (way : Way) (told here both : Bool) (names : List Argument)
    (is_first still_first : Bool) (old mid new : Standing) (input : NamedInput File Standard)
    → HaveAnswered File Standard held way told names is_first old mid
    → AnswersReader way here is_first still_first (held input.source) mid new → both ≡ told || here
    → HaveAnswered File Standard held way both (names ++ input.name ∷ []) still_first old new
one_more_answered held way told here both names is_first still_first old mid new input h one either =
    let so_far = lines_of h.all.inputs in
    let next : AnswersLines way here (first_after true so_far) one.lines one.texts = subst (λ f.
    AnswersLines way here f one.lines one.texts) h.still one.answered in
    let all_lines = so_far ++ one.lines in
    let all_texts = h.all.texts ++ one.texts in
    let joined = answered_twice way told here true so_far h.all.texts one.lines one.texts h.all.answered next in
    let all = subst (λ t. AnswersLines way t true all_lines all_texts) (sym either) joined in
    let pushed = lines_push h.all.inputs input one.lines in
    record {
      all = record {
        inputs = h.all.inputs ++ (input, one.lines) ∷ [];
        named = map-append (λ i. i.0.name) h.all.inputs ((input, one.lines) ∷ []) ∙ ap (λ (l : List Argument). l ++ input.name ∷ []) h.all.named;
        read = All-push (λ r. AreRead (held r.0.source) r.1) h.all.inputs (input, one.lines) h.all.read one.read;
        texts = h.all.texts ++ one.texts;
        answered = subst (λ l. AnswersLines way both true l (h.all.texts ++ one.texts)) (sym pushed) all;
        written = written_twice old.held mid.held new.held h.all.texts one.texts h.all.written one.written;
      };
      still = one.still ∙ ap (λ f. first_after f one.lines) h.still ∙ sym (first_twice true so_far one.lines) ∙ ap (first_after true) (sym pushed);
    }

-- a flush afterwards changes nothing
pub answers_kept : {File Standard : Type 0} (held : File ⊎ Standard → Option (List ℕ)) (way : Way) (told : Bool) (names : List Argument)
    (old mid new : Standing) → AnswersInputs File Standard held way told names old mid → Keeps mid.held new.held
    → AnswersInputs File Standard held way told names old new
answers_kept held way told names old mid new h kept =
    record {
      inputs = h.inputs;
      named = h.named;
      read = h.read;
      texts = h.texts;
      answered = h.answered;
      written = appends_kept old.held mid.held new.held (concat h.texts) h.written kept;
    }

-- what is known of an answer Ok tells more
pub on_ok : {T E P Q : Type 0} (r : Result T E) → (P → Q) → OnOk r P → OnOk r Q
on_ok (Ok x) tells h = tells h
on_ok (Err e) tells h = tt

-- two readers that hold the same are answered by the same
pub answered_same : (way : Way) (told is_first still_first : Bool) (held same : Option (List ℕ)) (old new : Standing) → held ≡ same
    → AnswersReader way told is_first still_first held old new → AnswersReader way told is_first still_first same old new
answered_same way told is_first still_first held same old new is h =
    subst (λ bytes. AnswersReader way told is_first still_first bytes old new) is h

-- what holds anyway holds where it is Err
pub anyway : {T E P : Type 0} (r : Result T E) → P → OnErr r P
anyway (Ok x) h = tt
anyway (Err e) h = h

-- what holds of each error of a kind holds of an answer that is one
pub if_err : {T E : Type 0} {P Q : E → Type 0} (r : Result T E) → ((e : E) → P e → Q e) → IfErr r P → IfErr r Q
if_err (Ok x) tells h = tt
if_err (Err e) tells h = tells e h

pub stopped_same : (way : Way) (is_first : Bool) (held same : Option (List ℕ)) (old new : Standing) (problem : Problem) → held ≡ same
    → StopsReader way is_first held old new problem → StopsReader way is_first same old new problem
stopped_same way is_first held same old new problem is h =
    subst (λ bytes. StopsReader way is_first bytes old new problem) is h

-- a write that failed has still failed after a flush
write_kept : (mid new : Standing) (problem : Problem) → IsWrite mid problem → StaysFailed mid new → IsWrite new problem
write_kept mid new problem write stays =
    (ap (λ (s : Standing). s.has_failed) (stays write.0) ∙ write.0, write.1, write.2)

part_kept : (way : Way) (held : Option (List ℕ)) (old mid new : Standing) (lines : List Numbered) (whole : List ℕ) (problem : Problem)
    → (IsWrite mid problem × AppendsFirst old mid whole) ⊎ (Appends old.held mid.held whole × StopsAfter held lines problem × StopsFor way problem)
    → Gets mid new []
    → (IsWrite new problem × AppendsFirst old new whole) ⊎ (Appends old.held new.held whole × StopsAfter held lines problem × StopsFor way problem)
part_kept way held old mid new lines whole problem (inl h) kept =
    inl (
      write_kept mid new problem h.0 (gets_stays mid new [] kept),
      record {
        part = h.1.part;
        rest = h.1.rest;
        split = h.1.split;
        added = appends_kept old.held mid.held new.held h.1.part h.1.added (gets_none mid new kept);
      },
    )
part_kept way held old mid new lines whole problem (inr h) kept =
    inr (appends_kept old.held mid.held new.held whole h.0 (gets_none mid new kept), h.1, h.2)

-- nothing more is written after it stopped
stopped_kept : (way : Way) (is_first : Bool) (held : Option (List ℕ)) (old mid new : Standing) (problem : Problem)
    → StopsReader way is_first held old mid problem
    → Gets mid new [] → StopsReader way is_first held old new problem
stopped_kept way is_first held old mid new problem h kept =
    record {
      lines = h.lines;
      read = h.read;
      texts = h.texts;
      told = h.told;
      answered = h.answered;
      written = part_kept way held old mid new h.lines (concat h.texts) problem h.written kept;
    }

at_kept : {File Standard : Type 0} (held : File ⊎ Standard → Option (List ℕ)) (name : Argument) (way : Way) (is_first : Bool)
    (old mid new : Standing) (problem : Problem) → StopsAtInput File Standard held name way is_first old mid problem → Gets mid new []
    → StopsAtInput File Standard held name way is_first old new problem
at_kept held name way is_first old mid new problem (inl h) kept =
    inl (Keeps-trans old.held mid.held new.held h.0 (gets_none mid new kept), h.1)
at_kept held name way is_first old mid new problem (inr h) kept =
    inr (h.0, h.1, stopped_kept way is_first (held h.0.source) old mid new problem h.2 kept)

-- the names before a place, the one there, and those after it
pub names_at : (refs : List (Bor Argument)) (i : ℕ) (d : Bor Argument) → i < length refs
    → (after : List Argument) × (arguments_at refs ≡ arguments_at (take i refs) ++ (slice_index_or refs i d).now ∷ after)
names_at [] i d within = absurd (omega (arith, within))
names_at (r ∷ refs) zero d within = (arguments_at refs, refl)
names_at (r ∷ refs) (suc i) d within =
    let (after, split) = names_at refs i d (omega (arith, within)) in
    (after, ap (λ (l : List Argument). r.now ∷ l) split)

-- the names up to a place, and the one there
pub names_more : (refs : List (Bor Argument)) (i : ℕ) (d : Bor Argument) → i < length refs
    → arguments_at (take (i + 1) refs) ≡ arguments_at (take i refs) ++ (slice_index_or refs i d).now ∷ []
names_more refs i d within = map_more (λ (w : Bor Argument). w.now) refs i d within

-- all names
pub names_all : (refs : List (Bor Argument)) (i : ℕ) → i ≡ length refs → arguments_at (take i refs) ≡ arguments_at refs
names_all refs i all = ap arguments_at (take_all i refs (omega (arith, all)))

-- with the inputs of the first names answered it stops at the next
pub stops_next : {File Standard : Type 0} (held : File ⊎ Standard → Option (List ℕ)) (way : Way) (told : Bool) (names before after : List Argument)
    (name called : Argument) (is_first : Bool) (old mid new : Standing) (problem : Problem)
    → HaveAnswered File Standard held way told before is_first old mid → names ≡ before ++ name ∷ after → called ≡ input_name name
    → StopsAtInput File Standard held name way is_first mid new problem → StopsInputs File Standard held way names old new called problem
stops_next {File} {Standard} held way told names before after name called is_first old mid new problem h split call stops =
    record {
      before = before;
      mid = mid;
      told = told;
      answered = h.all;
      stops = inl (name, after, split, call, subst (λ f. StopsAtInput File Standard held name way f mid new problem) h.still stops);
    }

-- it stops where all inputs are answered: as the last flush fails, or as a line was no case
pub all_stop : {File Standard : Type 0} (held : File ⊎ Standard → Option (List ℕ)) (way : Way) (told : Bool) (names : List Argument)
    (old mid new : Standing) (problem : Problem) → AnswersInputs File Standard held way told names old mid
    → Keeps mid.held new.held → IsEndProblem told new problem → StopsInputs File Standard held way names old new (codes "standard output") problem
all_stop held way told names old mid new problem h kept end =
    record {
      before = names;
      mid = mid;
      told = told;
      answered = h;
      stops = inr (refl, refl, end, kept);
    }

end_kept : (told : Bool) (mid new : Standing) (problem : Problem) → IsEndProblem told mid problem → StaysFailed mid new → IsEndProblem told new problem
end_kept told mid new problem (inl write) stays = inl (write_kept mid new problem write stays)
end_kept told mid new problem (inr other) stays = inr other

pub stops_kept : {File Standard : Type 0} (held : File ⊎ Standard → Option (List ℕ)) (way : Way) (names : List Argument)
    (old mid new : Standing) (called : Argument) (problem : Problem) → StopsInputs File Standard held way names old mid called problem → Gets mid new []
    → StopsInputs File Standard held way names old new called problem
stops_kept {File} {Standard} held way names old mid new called problem h kept = kept_at h.stops
  where
    kept_at : ((name : Argument) × (after : List Argument) × (names ≡ h.before ++ name ∷ after) × (called ≡ input_name name)
        × StopsAtInput File Standard held name way (first_after true (lines_of h.answered.inputs)) h.mid mid problem)
        ⊎ ((names ≡ h.before) × (called ≡ codes "standard output") × IsEndProblem h.told mid problem × Keeps h.mid.held mid.held)
        → StopsInputs File Standard held way names old new called problem
    kept_at (inl at) =
        record {
          before = h.before;
          mid = h.mid;
          told = h.told;
          answered = h.answered;
          stops = inl (at.0, at.1, at.2, at.3, at_kept held at.0 way _ h.mid mid new problem at.4 kept);
        }
    kept_at (inr end) =
        record {
          before = h.before;
          mid = h.mid;
          told = h.told;
          answered = h.answered;
          stops = inr (
            end.0,
            end.1,
            end_kept h.told mid new problem end.2 (gets_stays mid new [] kept),
            Keeps-trans h.mid.held mid.held new.held end.3 (gets_none mid new kept),
          );
        }

-- ---- of an input that is opened by its name

-- what is answered of it is answered of the input of its name
pub named_answered : {File Standard : Type 0} (held : File ⊎ Standard → Option (List ℕ)) (name : Argument) (source : File ⊎ Standard) (bytes : Option (List ℕ))
    (way : Way) (told is_first still_first : Bool) (old new : Standing) → IsNamed name source → bytes ≡ held source
    → AnswersReader way told is_first still_first bytes old new
    → (input : NamedInput File Standard) × (input.name ≡ name) × AnswersReader way told is_first still_first (held input.source) old new
named_answered held name source bytes way told is_first still_first old new named holds answered =
    (record { name = name; source = source; is = named }, refl, answered_same way told is_first still_first bytes (held source) old new holds answered)

-- where it stops within it, it stops at the input of its name
pub named_stops : {File Standard : Type 0} (held : File ⊎ Standard → Option (List ℕ)) (name : Argument) (source : File ⊎ Standard) (bytes : Option (List ℕ))
    (way : Way) (is_first : Bool) (old new : Standing) (problem : Problem) → IsNamed name source → bytes ≡ held source
    → StopsReader way is_first bytes old new problem → StopsAtInput File Standard held name way is_first old new problem
named_stops held name source bytes way is_first old new problem named holds stopped =
    inr (record { name = name; source = source; is = named }, refl, stopped_same way is_first bytes (held source) old new problem holds stopped)
