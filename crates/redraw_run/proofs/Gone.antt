-- What becomes of inputs, one after another, and of a run.
use Rattle.std.proofs.Common.{◌≡◌, ◌⊎◌, ◌++◌, ◌∙◌, ◌&&◌, ℕ, Bool, List, [], ◌∷◌, Option, None, Some, ap, ap₂, false, inl, inr}
use Rattle.std.proofs.Common.{refl, subst, sym, true}
use Rattle.std.specs.Prelude.{IfErr, IfOk, OnOk, Result, Ok, Err, option_map}
use Rattle.std.specs.declared.io.Error.{Error}
use Rattle.redraw_run.specs.declared.look.ReportRenderer.{ReportRenderer}
use Rattle.output_stream.specs.Standing.{Standing}
use Rattle.redraw_command.specs.Tally.{no_tally, tally_status}
use Rattle.redraw_command.specs.declared.tally.Tally.{Tally}
use Rattle.redraw_command.specs.Told.{Tells}
use Rattle.redraw_command.specs.declared.choice.Choice.{Choice}
use Rattle.redraw_command.specs.declared.stop.Stop.{Stop}
use Rattle.redraw_command.specs.declared.stop.Stop.TheVariants.{Memory, Unwritable, Unreadable, Utf16}
use Rattle.redraw_command.specs.Halt.{IsHalt}
use Rattle.redraw_command.specs.Line.{begins_utf16}
use Rattle.redraw_run.specs.Deeds.{State, Deed, Does, IsCutShort, IsPartOfDeeds, Stops}
use Rattle.redraw_run.specs.Fates.{AreNone, Each, Halts, IsEnd, IsFateOfPiece, IsHalted, IsInput, IsOfUtf16, IsTelling, Then}
use Rattle.program.specs.Inputs.{IsNamed}
use Rattle.redraw_run.specs.Inputs.{AreAllIn, AreCut, AreDrawn, AreFirstIn, Input, IsCutFrom, IsInputCut, IsDrawnFrom, IsDrawnOf, IsOf, IsSourceOf}
use Rattle.redraw_run.specs.Inputs.{are_whole, held_in, names_of}
use Rattle.redraw_run.specs.ReadLines.{AreAllOf, AreFirstOf, SumsUp}
use Rattle.redraw_run.specs.Run.{ArePartlyPrinted, AreInputsPrinted, EndsInput, Runs, nothing_begun}
use Rattle.redraw_run.proofs.Doing.{cut_then, does_as, does_nothing, does_then, stops_as, stops_then}
use Rattle.redraw_run.proofs.Done.{does_told}
use Rattle.redraw_run.proofs.Fated.{each_more}
use Rattle.std.proofs.lemmas.Result.{IfOk-weaker}

-- so it halts
halts_stops : (pieces : List (List ℕ)) (a b : State) (s : Stop) → Stops s (IsHalted pieces) a b → Halts s pieces a b
halts_stops pieces a b Memory p = p
halts_stops pieces a b (Unwritable error) p = p
halts_stops pieces a b (Unreadable error) p = absurd p
halts_stops pieces a b Utf16 p = absurd p

-- pieces are read so far, and it stops at the next one
pub halts_next : (before : List (List ℕ)) (piece : List ℕ) (a b c : State) (s : Stop) → Does (Each IsFateOfPiece before) a b
    → Stops s (IsPartOfDeeds (IsFateOfPiece piece)) b c → Halts s (before ++ piece ∷ []) a c
halts_next before piece a b c s p q =
    halts_stops (before ++ piece ∷ []) a c s
    (stops_as (Then (Each IsFateOfPiece before) (IsPartOfDeeds (IsFateOfPiece piece))) (IsHalted (before ++ piece ∷ [])) a c s
    (λ ds h. inr (before, piece, refl, h))
    (stops_then (Each IsFateOfPiece before) (IsPartOfDeeds (IsFateOfPiece piece)) a b c s p q))

-- or no more is read
pub halts_unread : (pieces : List (List ℕ)) (a b : State) (s : Stop) → IsHalt s → Does (Each IsFateOfPiece pieces) a b → Halts s pieces a b
halts_unread pieces a b Memory is p = does_as {P = Each IsFateOfPiece pieces} {Q = IsHalted pieces} (λ ds h. inl h) p
halts_unread pieces a b (Unwritable error) is p = absurd is
halts_unread pieces a b (Unreadable error) is p = p
halts_unread pieces a b Utf16 is p = absurd is

-- or its first line is in UTF-16
pub halts_utf16 : (line : List ℕ) (a b : State) (s : Stop) → s ≡ Utf16 → begins_utf16 line ≡ true → Does AreNone a b → Halts s (line ∷ []) a b
halts_utf16 line a b s is begins d = subst (λ (t : Stop). Halts t (line ∷ []) a b) (sym is) ((line, refl, begins), d)

halted_utf16 : (pieces : List (List ℕ)) (c : Choice) (ds : List Deed) → IsOfUtf16 pieces → ds ≡ [] → IsHalted pieces c ds
halted_utf16 pieces c ds (line, is, begins) none =
    inr ([], line, is, record { before = []; after = ds; split = refl; first = refl; next = record { is = inl none } })

-- pieces are read, and their end is
pub reads_input : (pieces : List (List ℕ)) (a b c : State) → Does (Each IsFateOfPiece pieces) a b → Does IsEnd b c → Does (IsInput pieces) a c
reads_input pieces a b c p q = does_then {P = Each IsFateOfPiece pieces} {Q = IsEnd} p q

-- ---- inputs

-- an input that is read to its end
pub drawn_whole : (held : Option (Option (List ℕ))) (pieces : List (List ℕ)) (is : Bool) (a b : State) → AreAllIn held pieces
    → Does (IsInput pieces) a b → IsDrawnFrom held is a b
drawn_whole held pieces is a b all p = (pieces, does_as (λ ds h. inl record { all = all; becomes = h }) p)

-- one that isn't
pub drawn_part : (held : Option (Option (List ℕ))) (pieces : List (List ℕ)) (a b c : State) → AreFirstIn held pieces → Does (IsHalted pieces) a b
    → Does IsTelling b c → IsDrawnFrom held false a c
drawn_part held pieces a b c first p q = (pieces, does_as (λ ds h. inr record { first = first; becomes = h; partial = refl }) (does_then p q))

-- no input is gone through yet
pub drawn_none : {File Standard : Type 0} (held : File ⊎ Standard → Option (List ℕ)) (s : State) → Does AreNone s s → AreDrawn File Standard held [] true s s
drawn_none held s p = record { inputs = []; named = refl; whole = refl; does = p }

and_swap : (x y z : Bool) → x && (y && z) ≡ y && (x && z)
and_swap true y z = refl
and_swap false true z = refl
and_swap false false z = refl

whole_more : {File Standard : Type 0} (inputs : List (Input File Standard)) (input : Input File Standard)
    → are_whole (inputs ++ input ∷ []) ≡ input.is_whole && are_whole inputs
whole_more [] input = refl
whole_more (first ∷ inputs) input = ap (λ (b : Bool). first.is_whole && b) (whole_more inputs input) ∙ and_swap first.is_whole input.is_whole (are_whole inputs)

names_more : {File Standard : Type 0} (inputs : List (Input File Standard)) (input : Input File Standard)
    → names_of (inputs ++ input ∷ []) ≡ names_of inputs ++ input.name ∷ []
names_more [] input = refl
names_more (first ∷ inputs) input = ap (λ (l : List (List ℕ)). first.name ∷ l) (names_more inputs input)

-- one more is
pub drawn_more : {File Standard : Type 0} (held : File ⊎ Standard → Option (List ℕ)) (names : List (List ℕ)) (name : List ℕ) (whole is : Bool) (a b c : State)
    → AreDrawn File Standard held names whole a b → IsDrawnOf held name is b c → AreDrawn File Standard held (names ++ name ∷ []) (is && whole) a c
drawn_more held names name whole is a b c p (input, named, known, q) =
    record {
      inputs = p.inputs ++ input ∷ [];
      named = names_more p.inputs input ∙ ap₂ (λ (l : List (List ℕ)) (n : List ℕ). l ++ n ∷ []) p.named named;
      whole = whole_more p.inputs input ∙ ap₂ (λ (x y : Bool). x && y) known p.whole;
      does = does_as (each_more (IsOf held) input a.choice p.inputs) (does_then {P = Each (IsOf held) p.inputs} {Q = IsOf held input} p.does q);
    }

-- it is cut short at the next one
pub drawn_cut : {File Standard : Type 0} (held : File ⊎ Standard → Option (List ℕ)) (names : List (List ℕ)) (name : List ℕ) (later : List (List ℕ))
    (whole : Bool) (a b c : State) → AreDrawn File Standard held names whole a b → IsInputCut held name b c
    → AreCut File Standard held (names ++ name ∷ later) a c
drawn_cut held names name later whole a b c p (source, is, (pieces, first, q)) =
    record {
      inputs = p.inputs;
      name = name;
      later = later;
      named = ap (λ (l : List (List ℕ)). l ++ name ∷ later) (sym p.named);
      source = source;
      is = is;
      pieces = pieces;
      first = first;
      does = cut_then {P = Each (IsOf held) p.inputs} {Q = IsHalted pieces} p.does q;
    }

-- ---- an input that is opened

-- what came of its pieces: all were read, or it stopped
abbrev pub Came : Result Bool Stop → Option (Option (List ℕ)) → State → State → Type 0
Came (Ok is) held a b = (pieces : List (List ℕ)) × AreAllIn held pieces × Does (IsInput pieces) a b
Came (Err stop) held a b = (pieces : List (List ℕ)) × AreFirstIn held pieces × Halts stop pieces a b

pub came : (r : Result Bool Stop) (held : Option (List ℕ)) (a b : State)
    → OnOk r ((pieces : List (List ℕ)) × AreAllOf held pieces × Does (IsInput pieces) a b)
    → IfErr r (λ stop. (pieces : List (List ℕ)) × AreFirstOf held pieces × Halts stop pieces a b) → Came r (Some held) a b
came (Ok is) held a b reads halts = reads
came (Err stop) held a b reads halts = halts

-- nothing came of one that can't be opened
pub came_unread : (error : Error) (s : State) → Came (Err (Unreadable error)) None s s
came_unread error s = ([], refl, does_nothing s)

-- the same, with this on standard error
abbrev pub then_told : State → Standing → State
then_told s err = record s { err = err }

told_after : (s : State) (err : Standing) → Tells s.err err → Does IsTelling s (then_told s err)
told_after s err t = does_told t refl refl refl refl

ended_drawn : (r : Result Bool Stop) (result : Result Bool Error) (held : Option (Option (List ℕ))) (new : Standing) (a b : State)
    → Came r held a b → EndsInput r result b.err new → IfOk result (λ is. IsDrawnFrom held is a (then_told b new))
ended_drawn (Ok is) result held new a b (pieces, all, d) h =
    subst (λ (x : Result Bool Error). IfOk x (λ is. IsDrawnFrom held is a (then_told b new))) (sym h.0)
    (drawn_whole held pieces is a (then_told b new) all (subst (λ (e : Standing). Does (IsInput pieces) a (then_told b e)) (sym h.1) d))
ended_drawn (Err Memory) result held new a b (pieces, first, d) h =
    subst (λ (x : Result Bool Error). IfOk x (λ is. IsDrawnFrom held is a (then_told b new))) (sym h.0)
    (drawn_part held pieces a b (then_told b new) first d (told_after b new h.1))
ended_drawn (Err (Unwritable error)) result held new a b (pieces, first, d) h =
    subst (λ (x : Result Bool Error). IfOk x (λ is. IsDrawnFrom held is a (then_told b new))) (sym h.0) tt
ended_drawn (Err (Unreadable error)) result held new a b (pieces, first, d) h =
    subst (λ (x : Result Bool Error). IfOk x (λ is. IsDrawnFrom held is a (then_told b new))) (sym h.0)
    (drawn_part held pieces a b (then_told b new) first (does_as {P = Each IsFateOfPiece pieces} (λ ds m. inl m) d)
    (told_after b new h.1))
ended_drawn (Err Utf16) result held new a b (pieces, first, (is, d)) h =
    subst (λ (x : Result Bool Error). IfOk x (λ is. IsDrawnFrom held is a (then_told b new))) (sym h.0)
    (drawn_part held pieces a b (then_told b new) first (does_as (λ ds none. halted_utf16 pieces a.choice ds is none) d) (told_after b new h.1))

ended_cut : (r : Result Bool Stop) (result : Result Bool Error) (held : Option (Option (List ℕ))) (new : Standing) (a b : State) → Came r held a b
    → EndsInput r result b.err new → IfErr result (λ error. IsCutFrom held a (then_told b new))
ended_cut (Ok is) result held new a b came h = subst (λ (x : Result Bool Error). IfErr x (λ e. IsCutFrom held a (then_told b new))) (sym h.0) tt
ended_cut (Err Memory) result held new a b came h = subst (λ (x : Result Bool Error). IfErr x (λ e. IsCutFrom held a (then_told b new))) (sym h.0) tt
ended_cut (Err (Unwritable error)) result held new a b (pieces, first, d) h =
    subst (λ (x : Result Bool Error). IfErr x (λ e. IsCutFrom held a (then_told b new))) (sym h.0)
    (pieces, first, subst (λ (e : Standing). IsCutShort (IsHalted pieces) a (then_told b e)) (sym h.1) d)
ended_cut (Err (Unreadable error)) result held new a b came h =
    subst (λ (x : Result Bool Error). IfErr x (λ e. IsCutFrom held a (then_told b new))) (sym h.0) tt
ended_cut (Err Utf16) result held new a b came h = subst (λ (x : Result Bool Error). IfErr x (λ e. IsCutFrom held a (then_told b new))) (sym h.0) tt

-- what became of an input whose end is this
pub ended : (r : Result Bool Stop) (result : Result Bool Error) (held : Option (Option (List ℕ))) (new : Standing) (a b : State) → Came r held a b
    → EndsInput r result b.err new
    → IfOk result (λ is. IsDrawnFrom held is a (then_told b new)) × IfErr result (λ error. IsCutFrom held a (then_told b new))
ended r result held new a b c h = (ended_drawn r result held new a b c h, ended_cut r result held new a b c h)

-- what holds of an error by what else does
pub if_err_as : {T E : Type 0} (P Q : E → Type 0) (r : Result T E) → ((e : E) → P e → Q e) → IfErr r P → IfErr r Q
if_err_as P Q (Ok x) f h = tt
if_err_as P Q (Err e) f h = f e h

-- what becomes of what could be opened, and of what couldn't
pub held_ok : {B : Type 0} (remaining : B → Option (List ℕ)) (input : Result B Error) (reader : B) (result : Result Bool Error) (a b : State)
    → input ≡ Ok reader → IfOk result (λ is. IsDrawnFrom (Some (remaining reader)) is a b) × IfErr result (λ e. IsCutFrom (Some (remaining reader)) a b)
    → IfOk result (λ is. IsDrawnFrom (held_in remaining input) is a b) × IfErr result (λ e. IsCutFrom (held_in remaining input) a b)
held_ok {B} remaining input reader result a b is h =
    subst (λ (i : Result B Error). IfOk result (λ is. IsDrawnFrom (held_in remaining i) is a b) × IfErr result (λ e. IsCutFrom (held_in remaining i) a b))
    (sym is) h

pub held_err : {B : Type 0} (remaining : B → Option (List ℕ)) (input : Result B Error) (error : Error) (result : Result Bool Error) (a b : State)
    → input ≡ Err error → IfOk result (λ is. IsDrawnFrom None is a b) × IfErr result (λ e. IsCutFrom None a b)
    → IfOk result (λ is. IsDrawnFrom (held_in remaining input) is a b) × IfErr result (λ e. IsCutFrom (held_in remaining input) a b)
held_err {B} remaining input error result a b is h =
    subst (λ (i : Result B Error). IfOk result (λ is. IsDrawnFrom (held_in remaining i) is a b) × IfErr result (λ e. IsCutFrom (held_in remaining i) a b))
    (sym is) h

-- what becomes of what an argument names becomes of the input of that name
named_of : {File Standard : Type 0} (held : File ⊎ Standard → Option (List ℕ)) (name : List ℕ) (source : Option (File ⊎ Standard)) (is : Bool) (a b : State)
    → IsSourceOf name source → IsDrawnFrom (option_map held source) is a b → IsDrawnOf held name is a b
named_of held name source is a b named (pieces, d) =
    (record { name = name; source = source; pieces = pieces; is_whole = is }, refl, refl, does_as (λ ds h. (named, h)) d)

-- so it is where that could be opened to be read, and where it couldn't
pub named_drawn : {B File Standard : Type 0} (remaining : B → Option (List ℕ)) (held : File ⊎ Standard → Option (List ℕ)) (source : B → File ⊎ Standard)
    (name : List ℕ) (input : Result B Error) (result : Result Bool Error) (a b : State) → IfOk input (λ reader. IsNamed name (source reader))
    → IfOk input (λ reader. remaining reader ≡ held (source reader)) → IfOk result (λ is. IsDrawnFrom (held_in remaining input) is a b)
    → IfOk result (λ is. IsDrawnOf held name is a b)
named_drawn remaining held source name (Ok reader) result a b named bytes h =
    IfOk-weaker result (λ is. IsDrawnFrom (Some (remaining reader)) is a b) (λ is. IsDrawnOf held name is a b)
    (λ is d. named_of held name (Some (source reader)) is a b named (subst (λ (o : Option (List ℕ)). IsDrawnFrom (Some o) is a b) bytes d)) h
named_drawn remaining held source name (Err error) result a b named bytes h =
    IfOk-weaker result (λ is. IsDrawnFrom None is a b) (λ is. IsDrawnOf held name is a b) (λ is d. named_of held name None is a b tt d) h

pub named_cut : {B File Standard : Type 0} (remaining : B → Option (List ℕ)) (held : File ⊎ Standard → Option (List ℕ)) (source : B → File ⊎ Standard)
    (name : List ℕ) (input : Result B Error) (result : Result Bool Error) (a b : State) → IfOk input (λ reader. IsNamed name (source reader))
    → IfOk input (λ reader. remaining reader ≡ held (source reader)) → IfErr result (λ error. IsCutFrom (held_in remaining input) a b)
    → IfErr result (λ error. IsInputCut held name a b)
named_cut remaining held source name (Ok reader) result a b named bytes h =
    if_err_as (λ error. IsCutFrom (Some (remaining reader)) a b) (λ error. IsInputCut held name a b) result
    (λ error d. (Some (source reader), named, subst (λ (o : Option (List ℕ)). IsCutFrom (Some o) a b) bytes d)) h
named_cut remaining held source name (Err error) result a b named bytes h =
    if_err_as (λ error. IsCutFrom None a b) (λ error. IsInputCut held name a b) result (λ e d. (None, tt, d)) h

-- ---- a run

-- it ends as it was summed up
pub finishes : {File Standard : Type 0} (held : File ⊎ Standard → Option (List ℕ)) (names : List (List ℕ)) (a b : State) (is_whole : Bool)
    (err : Standing) (status : ℕ) → AreInputsPrinted File Standard held names is_whole a b
    → SumsUp a.choice.is_quiet b.tally b.err err → status ≡ tally_status a.choice.form b.tally is_whole → Runs held names a b.out err status
finishes held names a b is_whole err status drawn sum ends =
    inl record { is_whole = is_whole; end = b; drawn = drawn; printed = refl; sum = sum; ends = ends }

pub cut_run : {File Standard : Type 0} (held : File ⊎ Standard → Option (List ℕ)) (names : List (List ℕ)) (a b : State) (err : Standing) (status : ℕ)
    → ArePartlyPrinted held names a b → (err ≡ b.err) ⊎ Tells b.err err → status ≡ 2 → Runs held names a b.out err status
cut_run held names a b err status drawn told ends = inr record { end = b; drawn = drawn; printed = refl; told = told; ends = ends }

-- what a run begins with
pub run_from : (P : State → Type 0) (r looked : ReportRenderer) (c chosen : Choice) (t : Tally) (out err : Standing) → r ≡ looked → c ≡ chosen
    → t ≡ no_tally → P record { renderer = r; choice = c; tally = t; out = out; err = err } → P (nothing_begun looked chosen out err)
run_from P r looked c chosen t out err is takes none h =
    subst (λ (d : Choice). P (nothing_begun looked d out err)) takes
    (subst P (ap₂ (λ (x : ReportRenderer) (y : Tally). record { renderer = x; choice = c; tally = y; out = out; err = err }) is none) h)

-- what sums up a run by what is asked for at its end
pub finishes_by : {File Standard : Type 0} (held : File ⊎ Standard → Option (List ℕ)) (names : List (List ℕ)) (a b : State) (is_whole : Bool)
    (err : Standing) (status : ℕ) → AreInputsPrinted File Standard held names is_whole a b
    → SumsUp b.choice.is_quiet b.tally b.err err → status ≡ tally_status b.choice.form b.tally is_whole → Runs held names a b.out err status
finishes_by held names a b is_whole err status drawn sum ends =
    let same : b.choice ≡ a.choice = ap (λ (s : State). s.choice) drawn.is ∙ drawn.drawn.does.choice in
    finishes held names a b is_whole err status drawn (subst (λ (c : Choice). SumsUp c.is_quiet b.tally b.err err) same sum)
    (ends ∙ ap (λ (c : Choice). tally_status c.form b.tally is_whole) same)

-- a closed pipe isn't told, and anything else is
pub unwritten : {K : Type 0} (old new : Standing) → (K → new ≡ old) → K ⊎ Tells old new → (new ≡ old) ⊎ Tells old new
unwritten old new silent (inl closed) = inl (silent closed)
unwritten old new silent (inr told) = inr told

-- what holds of an error anyway
pub if_err_any : {T E : Type 0} (P : Type 0) (r : Result T E) → P → IfErr r (λ error. P)
if_err_any P (Ok x) h = tt
if_err_any P (Err e) h = h

-- the next input is cut short
pub next_cut : {File Standard : Type 0} (held : File ⊎ Standard → Option (List ℕ)) (names : List (List ℕ)) (name : List ℕ) (later all : List (List ℕ))
    (whole : Bool) (r : Result Bool Error) (a b c : State) → all ≡ names ++ name ∷ later → AreDrawn File Standard held names whole a b
    → IsInputCut held name b c → IfErr r (λ error. AreCut File Standard held all a c)
next_cut {File} {Standard} held names name later all whole r a b c is p q =
    if_err_any (AreCut File Standard held all a c) r
    (subst (λ (l : List (List ℕ)). AreCut File Standard held l a c) (sym is) (drawn_cut held names name later whole a b c p q))

-- the same by another spelling of names
pub all_named : {File Standard : Type 0} (held : File ⊎ Standard → Option (List ℕ)) (l m : List (List ℕ)) (r : Result Bool Error) (a b : State) → l ≡ m
    → IfOk r (λ is. AreDrawn File Standard held l is a b) → IfOk r (λ is. AreDrawn File Standard held m is a b)
all_named {File} {Standard} held l m r a b same h = subst (λ (x : List (List ℕ)). IfOk r (λ is. AreDrawn File Standard held x is a b)) same h

pub all_cut : {File Standard : Type 0} (held : File ⊎ Standard → Option (List ℕ)) (l m : List (List ℕ)) (r : Result Bool Error) (a b : State) → l ≡ m
    → IfErr r (λ error. AreCut File Standard held l a b) → IfErr r (λ error. AreCut File Standard held m a b)
all_cut {File} {Standard} held l m r a b same h = subst (λ (x : List (List ℕ)). IfErr r (λ error. AreCut File Standard held x a b)) same h

pub these_drawn : {File Standard : Type 0} (held : File ⊎ Standard → Option (List ℕ)) (l m : List (List ℕ)) (w v : Bool) (a b : State) → l ≡ m → w ≡ v
    → AreDrawn File Standard held l w a b → AreDrawn File Standard held m v a b
these_drawn {File} {Standard} held l m w v a b same known h =
    subst (λ (x : List (List ℕ)). AreDrawn File Standard held x v a b) same
    (subst (λ (x : Bool). AreDrawn File Standard held l x a b) known h)
