-- One thing that is done.
use Rattle.std.proofs.Common.{◌≡◌, ◌||◌, ◌<◌, ◌==◌, ◌≤◌, ℕ, Bool, arith, suc, zero, true, false, List, [], ◌∷◌, ◌++◌, Some, refl, ap, sym}
use Rattle.std.proofs.Common.{◌∙◌, subst, inl, inr}
use Rattle.std.proofs.Common.{ap₂, append-nil}
use Rattle.std.specs.Prelude.{Result, Ok, Err, IfErr, IfOk, OnOk}
use Rattle.std.specs.List.{flat_map}
use Rattle.std.proofs.lemmas.List.Concat.{flat_map-append}
use Rattle.std.proofs.Math.Dec.{eqb-suc-zero}
use Rattle.redraw_run.specs.declared.look.ReportRenderer.{ReportRenderer}
use Rattle.annotate_snippets.specs.declared.renderer.error.RenderError.{RenderError}
use Rattle.output_stream.specs.Standing.{Adds, BreaksOff, Gets, Standing}
use Rattle.program.specs.Stream.{ended_line}
use Rattle.output_stream.proofs.Writing.{adds_breaks, adds_none, adds_twice, breaks_stays, gets_twice}
use Rattle.redraw_command.specs.Tally.{is_empty, one_more, with_compared}
use Rattle.redraw_command.specs.Told.{Tells}
use Rattle.redraw_command.specs.Workflow.{command}
use Rattle.redraw_command.specs.declared.choice.Choice.{Choice}
use Rattle.redraw_command.specs.declared.choice.OutputForm.TheVariants.{Report, Workflow, Verify}
use Rattle.redraw_command.specs.declared.stop.Stop.{Stop}
use Rattle.redraw_command.specs.declared.stop.Stop.TheVariants.{Memory, Unwritable, Unreadable, Utf16}
use Rattle.redraw_command.specs.declared.tally.Tally.{Tally}
use Rattle.redraw_read.specs.declared.sources.File.{File}
use Rattle.redraw_report.specs.declared.diagnostic.Diagnostic.{Diagnostic}
use Rattle.redraw_run.specs.Deeds.{State, Deed, Drawn, Commanded, Compared, HandedOn, Told, Refused, LeftOut, Repeated, BuildFailed}
use Rattle.redraw_run.specs.Deeds.{AreDeeds, AreTold, TellsAll, printed, told}
use Rattle.redraw_run.specs.Deeds.{one_left_out, tally_by, with_files, repeated, Does, IsCutShort, IsUnwritable, Writes, Stops}
use Rattle.redraw_run.specs.Deeds.{Happens}
use Rattle.redraw_run.specs.DrawnFinding.{IsCounted, RefusesFinding, ShowsPlaced, ending_after}
use Rattle.redraw_run.specs.Handed.{handed}
use Rattle.redraw_run.specs.ReadLines.{PrintsBytes, SumsUp, TellsUnless}
use Rattle.redraw_run.specs.Readings.{IsComparison}
use Rattle.redraw_run.specs.Fates.{AreMessages, AreNone, IsCompared, IsFailed, IsHandedOn, LeavesOut, IsRepeated, IsShown, IsTelling, IsWritten, IsWrong, Then}
use Rattle.redraw_run.proofs.Doing.{does_as, does_then}

-- a tally is another, but for its files
tally_is : (t u : Tally) → t ≡ u → t ≡ with_files u t.files
tally_is t u is = is ∙ ap (λ (f : ℕ). with_files u f) (sym (ap (λ (x : Tally). x.files) is))

-- nothing is added, or given, where what is known stays
same_added : (a b : Standing) → b ≡ a → Adds a b []
same_added a b is = subst (λ (x : Standing). Adds a x []) (sym is) (adds_none a)

same_given : (a b : Standing) → b ≡ a → Gets a b []
same_given a b is = inl (same_added a b is)

-- nothing is done, where what is known stays
pub does_same : {a b : State} → b.out ≡ a.out → b.err ≡ a.err → b.tally ≡ a.tally → b.renderer ≡ a.renderer → b.choice ≡ a.choice → Does AreNone a b
does_same {a} {b} out err tally renderer choice =
    record {
      deeds = [];
      are = tt;
      fit = refl;
      out = same_added a.out b.out out;
      err = same_given a.err b.err err;
      tally = tally_is b.tally a.tally tally;
      renderer = renderer;
      choice = choice;
    }

one_told : (a b : Standing) (line : List ℕ) → Gets a b (ended_line line) → Gets a b (ended_line line ++ [])
one_told a b line h = subst (Gets a b) (sym (append-nil (ended_line line))) h

-- something is told
pub does_told : {a b : State} → Tells a.err b.err → b.out ≡ a.out → b.tally ≡ a.tally → b.renderer ≡ a.renderer → b.choice ≡ a.choice → Does IsTelling a b
does_told {a} {b} t out tally renderer choice =
    record {
      deeds = Told t.line ∷ [];
      are = (t.message, tt);
      fit = (t.line, refl);
      out = same_added a.out b.out out;
      err = one_told a.err b.err t.line t.given;
      tally = tally_is b.tally a.tally tally;
      renderer = renderer;
      choice = choice;
    }

-- several things are told
tellings : List (List ℕ) → List Deed
tellings [] = []
tellings (line ∷ lines) = Told line ∷ tellings lines

tellings_are : (r : ReportRenderer) (c : Choice) (lines : List (List ℕ)) → AreTold lines → AreDeeds r c (tellings lines)
unfolding tellings
tellings_are r c [] h = tt
tellings_are r c (line ∷ lines) h = (h.0, tellings_are r c lines h.1)

-- what messages give, each as a line
abbrev lines_told : List (List ℕ) → List ℕ
lines_told lines = flat_map (λ line. ended_line line) lines

tellings_told : (lines : List (List ℕ)) → lines_told lines ≡ flat_map told (tellings lines)
unfolding tellings
tellings_told [] = refl
tellings_told (line ∷ lines) = ap (λ l. ended_line line ++ l) (tellings_told lines)

tellings_printed : (r : ReportRenderer) (lines : List (List ℕ)) → [] ≡ flat_map (printed r) (tellings lines)
unfolding tellings
tellings_printed r [] = refl
tellings_printed r (line ∷ lines) = tellings_printed r lines

tellings_fit : (c : Choice) (lines : List (List ℕ)) → AreMessages c (tellings lines)
unfolding tellings
tellings_fit c [] = tt
tellings_fit c (line ∷ lines) = tellings_fit c lines

tellings_tally : (t : Tally) (lines : List (List ℕ)) → t ≡ tally_by t (tellings lines)
unfolding tellings
tellings_tally t [] = refl
tellings_tally t (line ∷ lines) = tellings_tally t lines

pub does_tell_all : {a b : State} → TellsAll a.err b.err → b.out ≡ a.out → b.tally ≡ a.tally → b.renderer ≡ a.renderer → b.choice ≡ a.choice
    → Does AreMessages a b
does_tell_all {a} {b} t out tally renderer choice =
    record {
      deeds = tellings t.lines;
      are = tellings_are a.renderer a.choice t.lines t.told;
      fit = tellings_fit a.choice t.lines;
      out = subst (Adds a.out b.out) (tellings_printed a.renderer t.lines) (same_added a.out b.out out);
      err = subst (Gets a.err b.err) (tellings_told t.lines) t.given;
      tally = tally_is b.tally (tally_by a.tally (tellings t.lines)) (tally ∙ tellings_tally a.tally t.lines);
      renderer = renderer;
      choice = choice;
    }

are_told_both : (ps qs : List (List ℕ)) → AreTold ps → AreTold qs → AreTold (ps ++ qs)
are_told_both [] qs p q = q
are_told_both (x ∷ ps) qs p q = (p.0, are_told_both ps qs p.1 q)

pub tells_none : (a : Standing) → TellsAll a a
tells_none a = record { lines = []; told = tt; given = inl (adds_none a) }

pub tells_one : {a b : Standing} → Tells a b → TellsAll a b
tells_one {a} {b} t = record { lines = t.line ∷ []; told = (t.message, tt); given = one_told a b t.line t.given }

pub tells_then : {a b c : Standing} → TellsAll a b → TellsAll b c → TellsAll a c
tells_then {a} {b} {c} p q =
    record {
      lines = p.lines ++ q.lines;
      told = are_told_both p.lines q.lines p.told q.told;
      given = subst (Gets a c) (sym (flat_map-append (λ line. ended_line line) p.lines q.lines))
          (gets_twice a b c (lines_told p.lines) (lines_told q.lines) p.given q.given);
    }

-- the report of a finding is refused
abbrev pub IsRefused : Diagnostic → RenderError → Choice → List Deed → Type 0
IsRefused d why c deeds = deeds ≡ Refused d why ∷ []

pub does_refused : {a b : State} (d : Diagnostic) (why : RenderError) (files : List File) → a.choice.form ≡ Report → RefusesFinding a.renderer files d why
    → b.out ≡ a.out → b.err ≡ a.err → b.tally ≡ one_left_out a.tally → b.renderer ≡ a.renderer → b.choice ≡ a.choice → Does (IsRefused d why) a b
does_refused {a} {b} d why files form refuses out err tally renderer choice =
    record {
      deeds = Refused d why ∷ [];
      are = ((form, files, refuses), tt);
      fit = refl;
      out = same_added a.out b.out out;
      err = same_given a.err b.err err;
      tally = tally_is b.tally (one_left_out a.tally) tally;
      renderer = renderer;
      choice = choice;
    }

-- and that is told
pub shown_refused : (d : Diagnostic) (why : RenderError) (c : Choice) (ds : List Deed) → Then (IsRefused d why) IsTelling c ds → IsShown d c ds
shown_refused d why c ds h =
    subst (IsShown d c) (sym (h.split ∙ ap₂ (λ (x y : List Deed). x ++ y) h.first h.next.1)) (refl, (h.next.0, refl))

-- a part of the input is left out
pub does_left_out : {a b : State} → b.out ≡ a.out → b.err ≡ a.err → b.tally ≡ record a.tally { wrong = one_more a.tally.wrong }
    → b.renderer ≡ a.renderer → b.choice ≡ a.choice → Does LeavesOut a b
does_left_out {a} {b} out err tally renderer choice =
    record {
      deeds = LeftOut ∷ [];
      are = (tt, tt);
      fit = refl;
      out = same_added a.out b.out out;
      err = same_given a.err b.err err;
      tally = tally_is b.tally (record a.tally { wrong = one_more a.tally.wrong }) tally;
      renderer = renderer;
      choice = choice;
    }

-- a part of the input is left out, and that is told
wrong_is : (c : Choice) (ds : List Deed) → Then LeavesOut IsTelling c ds → IsWrong c ds
wrong_is c ds h = (h.next.0, h.split ∙ ap₂ (λ (x y : List Deed). x ++ y) h.first h.next.1)

pub does_wrong : {a b c : State} → Does LeavesOut a b → Does IsTelling b c → Does IsWrong a c
does_wrong {a} {b} {c} p q = does_as (wrong_is a.choice) (does_then p q)

-- cargo says that the build failed
pub does_failed : {a b : State} → b.out ≡ a.out → b.err ≡ a.err → b.tally ≡ record a.tally { has_failed = true } → b.renderer ≡ a.renderer
    → b.choice ≡ a.choice → Does IsFailed a b
does_failed {a} {b} out err tally renderer choice =
    record {
      deeds = BuildFailed ∷ [];
      are = (tt, tt);
      fit = refl;
      out = same_added a.out b.out out;
      err = same_given a.err b.err err;
      tally = tally_is b.tally (record a.tally { has_failed = true }) tally;
      renderer = renderer;
      choice = choice;
    }

-- a finding was drawn before, and isn't again
pub does_repeated : {a b : State} → a.choice.has_duplicates ≡ false → b.out ≡ a.out → b.err ≡ a.err → b.tally ≡ repeated a.tally
    → b.renderer ≡ a.renderer → b.choice ≡ a.choice → Does IsRepeated a b
does_repeated {a} {b} once out err tally renderer choice =
    record {
      deeds = Repeated ∷ [];
      are = (tt, tt);
      fit = (once, refl);
      out = same_added a.out b.out out;
      err = same_given a.err b.err err;
      tally = tally_is b.tally (repeated a.tally) tally;
      renderer = renderer;
      choice = choice;
    }

stops_cut : {P : Choice → List Deed → Type 0} {a b : State} (s : Stop) → IsUnwritable s → IsCutShort P a b → Stops s P a b
stops_cut Memory is h = absurd is
stops_cut (Unwritable error) is h = h
stops_cut (Unreadable error) is h = absurd is
stops_cut Utf16 is h = absurd is

all_printed : (r : ReportRenderer) (deed : Deed) (text : List ℕ) → text ≡ printed r deed → text ≡ flat_map (printed r) (deed ∷ [])
all_printed r deed text is = is ∙ sym (append-nil (printed r deed))

-- a finding is drawn, and what it gives is written
pub goes_drawn : {T : Type 0} (a b : State) (r : Result T Stop) (d : Diagnostic) (text bytes : List ℕ) (files : List File) → a.choice.form ≡ Report
    → ShowsPlaced a.renderer files d text → IsCounted d a.tally b.tally → b.renderer ≡ a.renderer → b.choice ≡ a.choice → b.err ≡ a.err
    → bytes ≡ text ++ (ending_after a.renderer.settings.short_message d.severity ++ 10 ∷ []) → Writes r a.out b.out bytes → Happens r (IsShown d) a b
goes_drawn a b (Ok x) d text bytes files form shows counted renderer choice err is writes =
    record {
      deeds = Drawn d text ∷ [];
      are = ((form, files, shows), tt);
      fit = (refl, refl);
      out = subst (Adds a.out b.out) (all_printed a.renderer (Drawn d text) bytes is) writes;
      err = same_given a.err b.err err;
      tally = counted;
      renderer = renderer;
      choice = choice;
    }
goes_drawn a b (Err s) d text bytes files form shows counted renderer choice err is writes =
    stops_cut s writes.0
    record {
      deeds = Drawn d text ∷ [];
      are = ((form, files, shows), tt);
      fit = record { is = inr ([], (refl, refl)) };
      out = subst (BreaksOff a.out b.out) (all_printed a.renderer (Drawn d text) bytes is) writes.1;
      err = same_given a.err b.err err;
    }

-- a finding is written as a command
pub goes_commanded : {T : Type 0} (a b : State) (r : Result T Stop) (d : Diagnostic) (line bytes : List ℕ) → a.choice.form ≡ Workflow
    → command d ≡ Some line → IsCounted d a.tally b.tally → b.renderer ≡ a.renderer → b.choice ≡ a.choice → b.err ≡ a.err → bytes ≡ line ++ 10 ∷ []
    → Writes r a.out b.out bytes → Happens r (IsWritten d) a b
goes_commanded a b (Ok x) d line bytes form made counted renderer choice err is writes =
    record {
      deeds = Commanded d line ∷ [];
      are = ((form, made), tt);
      fit = inl (line, refl);
      out = subst (Adds a.out b.out) (all_printed a.renderer (Commanded d line) bytes is) writes;
      err = same_given a.err b.err err;
      tally = counted;
      renderer = renderer;
      choice = choice;
    }
goes_commanded a b (Err s) d line bytes form made counted renderer choice err is writes =
    stops_cut s writes.0
    record {
      deeds = Commanded d line ∷ [];
      are = ((form, made), tt);
      fit = record { is = inr ([], inl (line, refl)) };
      out = subst (BreaksOff a.out b.out) (all_printed a.renderer (Commanded d line) bytes is) writes.1;
      err = same_given a.err b.err err;
    }

-- a finding's report is compared
pub goes_compared : {T : Type 0} (a b : State) (r : Result T Stop) (d : Diagnostic) (is_same : Bool) (shown bytes : List ℕ) → a.choice.form ≡ Verify
    → IsComparison d is_same → b.tally ≡ with_compared a.tally is_same → b.renderer ≡ a.renderer → b.choice ≡ a.choice → b.err ≡ a.err
    → bytes ≡ shown → Writes r a.out b.out bytes → Happens r (IsCompared d) a b
goes_compared a b (Ok x) d is_same shown bytes form compared counted renderer choice err is writes =
    record {
      deeds = Compared d is_same shown ∷ [];
      are = ((form, compared), tt);
      fit = inl (is_same, shown, refl);
      out = subst (Adds a.out b.out) (all_printed a.renderer (Compared d is_same shown) bytes is) writes;
      err = same_given a.err b.err err;
      tally = tally_is b.tally (with_compared a.tally is_same) counted;
      renderer = renderer;
      choice = choice;
    }
goes_compared a b (Err s) d is_same shown bytes form compared counted renderer choice err is writes =
    stops_cut s writes.0
    record {
      deeds = Compared d is_same shown ∷ [];
      are = ((form, compared), tt);
      fit = record { is = inr ([], inl (is_same, shown, refl)) };
      out = subst (BreaksOff a.out b.out) (all_printed a.renderer (Compared d is_same shown) bytes is) writes.1;
      err = same_given a.err b.err err;
    }

-- a line is handed on
pub goes_handed : {T : Type 0} (a b : State) (r : Result T Stop) (line bytes : List ℕ) → b.tally ≡ a.tally → b.renderer ≡ a.renderer
    → b.choice ≡ a.choice → b.err ≡ a.err → bytes ≡ handed a.renderer.markup a.renderer.is_workflow line → Writes r a.out b.out bytes
    → Happens r (IsHandedOn line) a b
goes_handed a b (Ok x) line bytes tally renderer choice err is writes =
    record {
      deeds = HandedOn line ∷ [];
      are = (tt, tt);
      fit = refl;
      out = subst (Adds a.out b.out) (all_printed a.renderer (HandedOn line) bytes is) writes;
      err = same_given a.err b.err err;
      tally = tally_is b.tally a.tally tally;
      renderer = renderer;
      choice = choice;
    }
goes_handed a b (Err s) line bytes tally renderer choice err is writes =
    stops_cut s writes.0
    record {
      deeds = HandedOn line ∷ [];
      are = (tt, tt);
      fit = record { is = inr ([], refl) };
      out = subst (BreaksOff a.out b.out) (all_printed a.renderer (HandedOn line) bytes is) writes.1;
      err = same_given a.err b.err err;
    }

-- bytes that are written after others
pub writes_then : {T : Type 0} (a b c : Standing) (r : Result T Stop) (bs cs whole : List ℕ) → whole ≡ bs ++ cs → Adds a b bs → Writes r b c cs
    → Writes r a c whole
writes_then a b c (Ok x) bs cs whole is p q = subst (Adds a c) (sym is) (adds_twice a b c bs cs p q)
writes_then a b c (Err s) bs cs whole is p q = (q.0, subst (BreaksOff a c) (sym is) (adds_breaks a b c bs cs p q.1))

-- the same where it is only printed
pub prints_then : {T E : Type 0} (a b c : Standing) (r : Result T E) (bs cs whole : List ℕ) → whole ≡ bs ++ cs → Adds a b bs → PrintsBytes r b c cs
    → PrintsBytes r a c whole
prints_then a b c (Ok x) bs cs whole is p q = subst (Adds a c) (sym is) (adds_twice a b c bs cs p q)
prints_then a b c (Err e) bs cs whole is p q = subst (BreaksOff a c) (sym is) (adds_breaks a b c bs cs p q)

-- what is written to the end is written
pub ok_written : {T : Type 0} (a b : Standing) (r : Result T Stop) (bs : List ℕ) → Writes r a b bs → OnOk r (Adds a b bs)
ok_written a b (Ok x) bs h = h
ok_written a b (Err s) bs h = tt

-- bytes of which only a first part is written, and others that aren't
pub writes_cut : (a b : Standing) (bs cs whole : List ℕ) → whole ≡ bs ++ cs → BreaksOff a b bs → BreaksOff a b whole
writes_cut a b bs cs whole is p = subst (BreaksOff a b) (sym is) (breaks_stays a b b bs cs p (λ failed. refl))

-- what is known of an answer that is this
pub at_ok : {T E : Type 0} (r : Result T E) (t : T) (P : T → Type 0) → r ≡ Ok t → IfOk r P → P t
at_ok r t P is h = subst (λ m. IfOk m P) is h

pub at_err : {T E : Type 0} (r : Result T E) (e : E) (P : E → Type 0) → r ≡ Err e → IfErr r P → P e
at_err r e P is h = subst (λ m. IfErr m P) is h

-- the bytes of a text with what stands after it
pub ended : (t u e f : List ℕ) → t ≡ u → e ≡ f → t ++ (e ++ 10 ∷ []) ≡ u ++ (f ++ 10 ∷ [])
ended t u e f is end = ap (λ (l : List ℕ). l ++ (e ++ 10 ∷ [])) is ∙ ap (λ (l : List ℕ). u ++ (l ++ 10 ∷ [])) end

-- what holds where it went well, by what else does
pub on_ok : {T E : Type 0} {P Q : Type 0} (r : Result T E) → (P → Q) → OnOk r P → OnOk r Q
on_ok (Ok x) f p = f p
on_ok (Err e) f p = tt

-- nothing sums up a run, and one message does
pub sums_nothing : (is_quiet : Bool) (t : Tally) (a : Standing) → (is_quiet || is_empty t) ≡ true → SumsUp is_quiet t a a
sums_nothing is_quiet t a is = subst (λ (b : Bool). TellsUnless b a a) (sym is) refl

pub sums_by_one : (is_quiet : Bool) (t : Tally) (a b : Standing) → (is_quiet || is_empty t) ≡ false → Tells a b → SumsUp is_quiet t a b
sums_by_one is_quiet t a b is told = subst (λ (none : Bool). TellsUnless none a b) (sym is) told

-- a count is told, unless it is nothing
pub count_told : (n : ℕ) (a b : Standing) → 0 < n → Tells a b → TellsUnless (n == 0) a b
count_told zero a b some t = absurd (omega (arith, some))
count_told (suc n) a b some t = subst (λ (is : Bool). TellsUnless is a b) (sym (eqb-suc-zero n)) t

pub count_untold : (n : ℕ) (a b : Standing) → n ≤ 0 → b ≡ a → TellsUnless (n == 0) a b
count_untold zero a b none same = same
count_untold (suc n) a b none same = absurd (omega (arith, none))
