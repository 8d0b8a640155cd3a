-- What no run does: what wrong bodies do about small inputs contradicts what becomes of pieces and of runs.
use Rattle.std.proofs.Common.{◌≡◌, ◌≢◌, ◌⊎◌, ◌++◌, ◌∙◌, ◌||◌, ℕ, Bool, List, [], ◌∷◌, Option, None, Some, ap, false, if◌then◌else◌, inl, inr, refl, subst, sym}
use Rattle.std.proofs.Common.{codes, length, true}
use Rattle.serde_json.specs.Data.{Data}
use Rattle.output_stream.specs.Standing.{Standing}
use Rattle.redraw_command.specs.Arguments.{argument_at}
use Rattle.redraw_command.specs.Choice.{is_sum}
use Rattle.redraw_command.specs.Shortened.{IsShownOf}
use Rattle.redraw_command.specs.Line.{begins_document, begins_object}
use Rattle.redraw_command.specs.Tally.{no_tally, tally_status, tallied}
use Rattle.redraw_command.specs.declared.choice.OutputForm.{OutputForm}
use Rattle.redraw_command.specs.declared.choice.OutputForm.TheVariants.{Report}
use Rattle.redraw_command.specs.declared.choice.Choice.{Choice}
use Rattle.redraw_command.specs.declared.tally.Tally.{Tally}
use Rattle.redraw_read.specs.Rustc.{IsPackagedAs, IsReadAs}
use Rattle.redraw_report.specs.declared.diagnostic.Diagnostic.{Diagnostic}
use Rattle.redraw_report.specs.declared.diagnostic.Severity.{Severity}
use Rattle.redraw_report.specs.declared.diagnostic.Severity.TheVariants.{Error}
use Rattle.redraw_run.specs.declared.look.ReportRenderer.{ReportRenderer}
use Rattle.redraw_run.specs.declared.kind.Kind.{Kind}
use Rattle.redraw_run.specs.declared.kind.Kind.TheVariants as kind
use Rattle.redraw_run.specs.Deeds.{State, Deed, Drawn, Commanded, Compared, HandedOn, Told, Refused, LeftOut, Repeated, BuildFailed, tally_by, with_files}
use Rattle.redraw_run.specs.Fates.{AreMessages, AreRuns, Each, IsCutLog, IsCutRun, IsDiagnosed, IsEslintLog, IsFound, IsKnown, IsLongRun}
use Rattle.redraw_run.specs.Fates.{IsFateOfPiece, IsLog, IsReportedAs, IsResult, IsLogRun, IsShown, IsTaking, IsTakingRead, IsTold, IsWrong}
use Rattle.redraw_run.specs.Logged.{IsFindingOf, document_in, items_in, results_of}
use Rattle.redraw_tools.specs.declared.log.LogForm.{LogForm}
use Rattle.redraw_tools.specs.declared.log.LogForm.TheVariants as form
use Rattle.json_lines.specs.Cut.{without_results}
use Rattle.json_lines.specs.Lenient.{list_at}
use Rattle.redraw_run.specs.FindingLines.{names_line}
use Rattle.redraw_run.specs.ReadLines.{IsPieceOf}
use Rattle.redraw_run.specs.Run.{Finishes, nothing_begun}

-- no line is handed on
Unhanded : List Deed → Type 0
Unhanded [] = Unit {0}
Unhanded (Drawn d t ∷ ds) = Unhanded ds
Unhanded (Commanded d l ∷ ds) = Unhanded ds
Unhanded (Compared d s l ∷ ds) = Unhanded ds
Unhanded (HandedOn l ∷ ds) = ⊥
Unhanded (Told p ∷ ds) = Unhanded ds
Unhanded (Refused f w ∷ ds) = Unhanded ds
Unhanded (LeftOut ∷ ds) = Unhanded ds
Unhanded (Repeated ∷ ds) = Unhanded ds
Unhanded (BuildFailed ∷ ds) = Unhanded ds

unhanded_both : (ds es : List Deed) → Unhanded ds → Unhanded es → Unhanded (ds ++ es)
unfolding Unhanded
unhanded_both [] es p q = q
unhanded_both (Drawn d t ∷ ds) es p q = unhanded_both ds es p q
unhanded_both (Commanded d l ∷ ds) es p q = unhanded_both ds es p q
unhanded_both (Compared d s l ∷ ds) es p q = unhanded_both ds es p q
unhanded_both (HandedOn l ∷ ds) es p q = absurd p
unhanded_both (Told t ∷ ds) es p q = unhanded_both ds es p q
unhanded_both (Refused f w ∷ ds) es p q = unhanded_both ds es p q
unhanded_both (LeftOut ∷ ds) es p q = unhanded_both ds es p q
unhanded_both (Repeated ∷ ds) es p q = unhanded_both ds es p q
unhanded_both (BuildFailed ∷ ds) es p q = unhanded_both ds es p q

messages_unhanded : (c : Choice) (ds : List Deed) → AreMessages c ds → Unhanded ds
unfolding Unhanded
messages_unhanded c [] h = tt
messages_unhanded c (Told part ∷ ds) h = messages_unhanded c ds h
messages_unhanded c (Drawn d t ∷ ds) h = absurd h
messages_unhanded c (Commanded d l ∷ ds) h = absurd h
messages_unhanded c (Compared d s l ∷ ds) h = absurd h
messages_unhanded c (HandedOn l ∷ ds) h = absurd h
messages_unhanded c (Refused f w ∷ ds) h = absurd h
messages_unhanded c (LeftOut ∷ ds) h = absurd h
messages_unhanded c (Repeated ∷ ds) h = absurd h
messages_unhanded c (BuildFailed ∷ ds) h = absurd h

shown_unhanded : (d : Diagnostic) (c : Choice) (ds : List Deed) → IsShown d c ds → Unhanded ds
unfolding Unhanded
shown_unhanded d c [] h = absurd h
shown_unhanded d c (Told part ∷ ds) h = shown_unhanded d c ds h
shown_unhanded d c (Drawn f t ∷ ds) h = subst Unhanded (sym h.1) tt
shown_unhanded d c (Refused f w ∷ ds) h = subst Unhanded (sym h.1.1) tt
shown_unhanded d c (LeftOut ∷ ds) h = absurd h
shown_unhanded d c (Commanded f l ∷ ds) h = absurd h
shown_unhanded d c (Compared f s l ∷ ds) h = absurd h
shown_unhanded d c (HandedOn l ∷ ds) h = absurd h
shown_unhanded d c (Repeated ∷ ds) h = absurd h
shown_unhanded d c (BuildFailed ∷ ds) h = absurd h

taken_unhanded : (d : Diagnostic) (c : Choice) (ds : List Deed) → IsTaking d c ds → Unhanded ds
unfolding Unhanded
taken_unhanded d c ds (inl h) = subst Unhanded (sym h.1) tt
taken_unhanded d c ds (inr (taken, inl h)) = subst Unhanded (sym h.1) tt
taken_unhanded d c ds (inr (taken, inr (inl h))) = shown_unhanded d c ds h.1
taken_unhanded d c ds (inr (taken, inr (inr (inl (form, inl h))))) = subst Unhanded (sym h.1) tt
taken_unhanded d c ds (inr (taken, inr (inr (inl (form, inr h))))) = subst Unhanded (sym h.1) tt
taken_unhanded d c ds (inr (taken, inr (inr (inr (form, inl h))))) = subst Unhanded (sym h.2) tt
taken_unhanded d c ds (inr (taken, inr (inr (inr (form, inr h))))) = subst Unhanded (sym h) tt

wrong_unhanded : (c : Choice) (ds : List Deed) → IsWrong c ds → Unhanded ds
unfolding Unhanded
wrong_unhanded c ds h = subst Unhanded (sym h.1) tt

reported_unhanded : (Is : Diagnostic → Type 0) (c : Choice) (ds : List Deed) → IsReportedAs Is c ds → Unhanded ds
reported_unhanded Is c ds (inl h) = wrong_unhanded c ds h
reported_unhanded Is c ds (inr (read, is, (d, shown, h))) = taken_unhanded d c ds h

diagnosed_unhanded : (Is : Diagnostic → Type 0) (c : Choice) (ds : List Deed) → IsDiagnosed Is c ds → Unhanded ds
unfolding Unhanded
diagnosed_unhanded Is c ds (inl h) =
    subst Unhanded (sym (h.split ∙ ap (λ es. es ++ h.after) h.first.1 ∙ ap (λ es. (LeftOut ∷ Told h.first.0 ∷ []) ++ es) h.next)) tt
diagnosed_unhanded Is c ds (inr h) = reported_unhanded Is c ds h

read_unhanded : (read : Diagnostic) (c : Choice) (ds : List Deed) → IsTakingRead read c ds → Unhanded ds
read_unhanded read c ds (d, shown, h) = taken_unhanded d c ds h

found_unhanded : (f : LogForm) (run x : Data) (c : Choice) (ds : List Deed) → IsFound f run x c ds → Unhanded ds
unfolding Unhanded
found_unhanded f run x c ds (inl h) = subst Unhanded (sym h) tt
found_unhanded f run x c ds (inr (read, is, h)) = read_unhanded read c ds h

result_unhanded : (f : LogForm) (run x : Data) (c : Choice) (ds : List Deed) → IsResult f run x c ds → Unhanded ds
result_unhanded f run x c ds h =
    subst Unhanded (sym h.split) (unhanded_both h.before h.after (messages_unhanded c h.before h.first) (found_unhanded f run x c h.after h.next))

each_unhanded : {X : Type 0} (Are : X → Choice → List Deed → Type 0) (c : Choice) → ((x : X) (ds : List Deed) → Are x c ds → Unhanded ds)
    → (xs : List X) (ds : List Deed) → Each Are xs c ds → Unhanded ds
unfolding Unhanded
each_unhanded Are c f [] ds h = subst Unhanded (sym h) tt
each_unhanded Are c f (x ∷ xs) ds h =
    subst Unhanded (sym h.split) (unhanded_both h.before h.after (f x h.before h.first) (each_unhanded Are c f xs h.after h.next))

results_unhanded : (f : LogForm) (run : Data) (c : Choice) (xs : List Data) (ds : List Deed) → Each (IsResult f run) xs c ds → Unhanded ds
results_unhanded f run c xs ds h = each_unhanded (IsResult f run) c (λ x es m. result_unhanded f run x c es m) xs ds h

run_unhanded : (f : LogForm) (run : Data) (c : Choice) (ds : List Deed) → IsLogRun f run c ds → Unhanded ds
run_unhanded f run c ds h =
    subst Unhanded (sym h.split)
    (unhanded_both h.before h.after (messages_unhanded c h.before h.first) (results_unhanded f run c (results_of f run) h.after h.next))

runs_unhanded : (f : LogForm) (c : Choice) (runs : List Data) (ds : List Deed) → AreRuns f runs c ds → Unhanded ds
runs_unhanded f c runs ds h = each_unhanded (IsLogRun f) c (λ x es m. run_unhanded f x c es m) runs ds h

cut_unhanded : (piece : List ℕ) (count : ℕ) (run : Data) (c : Choice) (ds : List Deed) → IsCutRun piece count run c ds → Unhanded ds
cut_unhanded piece count run c ds h =
    subst Unhanded (sym h.split)
    (unhanded_both h.before h.after (messages_unhanded c h.before h.first) (results_unhanded form.Sarif run c h.next.0 h.after h.next.3))

long_unhanded : (piece : List ℕ) (run : Data) (c : Choice) (ds : List Deed) → IsLongRun piece run c ds → Unhanded ds
long_unhanded piece run c ds h = cut_unhanded piece (length (list_at (codes "results") run)) (without_results run) c ds h

log_unhanded : (v : Data) (c : Choice) (ds : List Deed) → IsLog v c ds → Unhanded ds
log_unhanded v c ds (inl h) = wrong_unhanded c ds h
log_unhanded v c ds (inr h) = runs_unhanded form.Sarif c (list_at (codes "runs") v) ds h

known_unhanded : (k : Kind) (v : Data) (c : Choice) (ds : List Deed) → IsKnown k v c ds → Unhanded ds
unfolding Unhanded
known_unhanded kind.Rustc v c ds h = diagnosed_unhanded (IsReadAs v) c ds h
known_unhanded kind.Cargo v c ds h = diagnosed_unhanded (IsPackagedAs v) c ds h
known_unhanded kind.Failed v c ds h = subst Unhanded (sym h) tt
known_unhanded kind.Other v c ds h = subst Unhanded (sym h) tt
known_unhanded kind.Sarif v c ds h = log_unhanded v c ds h
known_unhanded kind.Lsp v c ds h = run_unhanded form.Lsp v c ds h
known_unhanded kind.LspNotification v c ds h = run_unhanded form.Lsp (document_in v) c ds h

both_handed : (k : Kind) (v : Data) (c : Choice) (d : Diagnostic) (text line : List ℕ) → IsKnown k v c (Drawn d text ∷ HandedOn line ∷ []) → ⊥
unfolding Unhanded
both_handed k v c d text line h = known_unhanded k v c (Drawn d text ∷ HandedOn line ∷ []) h

report_handed : (piece : List ℕ) (c : Choice) (d : Diagnostic) (text line : List ℕ) → IsTold piece c (Drawn d text ∷ HandedOn line ∷ []) → ⊥
unfolding Unhanded
report_handed piece c d text line (asked, (read, is, h)) = read_unhanded read c (Drawn d text ∷ HandedOn line ∷ []) h

eslint_handed : (v : Data) (c : Choice) (d : Diagnostic) (text line : List ℕ) → IsEslintLog v c (Drawn d text ∷ HandedOn line ∷ []) → ⊥
unfolding Unhanded
eslint_handed v c d text line h = runs_unhanded form.Eslint c (items_in v) (Drawn d text ∷ HandedOn line ∷ []) h.1

cut_handed : (piece : List ℕ) (v : Data) (c : Choice) (d : Diagnostic) (text line : List ℕ) → IsCutLog piece v c (Drawn d text ∷ HandedOn line ∷ []) → ⊥
unfolding Unhanded
cut_handed piece v c d text line (runs, listed, h) =
    each_unhanded (IsLongRun piece) c (λ x es m. long_unhanded piece x c es m) runs (Drawn d text ∷ HandedOn line ∷ []) h

-- a finding is drawn, and the line that reports it is handed on too
pub drawn_and_handed_on : (line : List ℕ) (c : Choice) (d : Diagnostic) (text : List ℕ) → IsFateOfPiece line c (Drawn d text ∷ HandedOn line ∷ []) → ⊥
drawn_and_handed_on line c d text (t, is, inl h) = cc h.1
drawn_and_handed_on line c d text (t, is, inr (inl (begins, inl (none, h)))) = cc h.1
drawn_and_handed_on line c d text (t, is, inr (inl (begins, inr (inl (none, h))))) = cc h
drawn_and_handed_on line c d text (t, is, inr (inl (begins, inr (inr (inl (v, reads, (Some k, of, h))))))) = both_handed k v c d text line h
drawn_and_handed_on line c d text (t, is, inr (inl (begins, inr (inr (inl (v, reads, (None, of, inl h))))))) = cc h.1
drawn_and_handed_on line c d text (t, is, inr (inl (begins, inr (inr (inl (v, reads, (None, of, inr h))))))) = cc h
drawn_and_handed_on line c d text (t, is, inr (inl (begins, inr (inr (inr (v, reads, h)))))) = cut_handed line v c d text line h
drawn_and_handed_on line c d text (t, is, inr (inr (inl (finding, h)))) = report_handed line c d text line h
drawn_and_handed_on line c d text (t, is, inr (inr (inr (begins, (v, reads, h))))) = eslint_handed v c d text line h

-- a diagnostic of rustc is drawn twice
pub drawn_twice : (v : Data) (c : Choice) (d : Diagnostic) (text : List ℕ) → IsKnown kind.Rustc v c (Drawn d text ∷ Drawn d text ∷ []) → ⊥
drawn_twice v c d text (inl h) =
    let all = h.split ∙ ap (λ es. es ++ h.after) h.first.1 ∙ ap (λ es. (LeftOut ∷ Told h.first.0 ∷ []) ++ es) h.next in cc all
drawn_twice v c d text (inr (inl h)) = cc h.1
drawn_twice v c d text (inr (inr (f, is, (e, shown, inl h)))) = cc h.1
drawn_twice v c d text (inr (inr (f, is, (e, shown, inr (taken, inl h))))) = cc h.1
drawn_twice v c d text (inr (inr (f, is, (e, shown, inr (taken, inr (inl h)))))) = cc h.1.1
drawn_twice v c d text (inr (inr (f, is, (e, shown, inr (taken, inr (inr (inl (form, inl h)))))))) = cc h.1
drawn_twice v c d text (inr (inr (f, is, (e, shown, inr (taken, inr (inr (inl (form, inr h)))))))) = cc h.1
drawn_twice v c d text (inr (inr (f, is, (e, shown, inr (taken, inr (inr (inr (form, inl h)))))))) = cc h.2
drawn_twice v c d text (inr (inr (f, is, (e, shown, inr (taken, inr (inr (inr (form, inr h)))))))) = cc h

-- a finding is drawn of a diagnostic of rustc that its value isn't read as
pub unread_drawn : (v : Data) (c : Choice) (d : Diagnostic) (text : List ℕ)
    → ((read : Diagnostic) → IsReadAs v read → IsShownOf (argument_at c.folder) read d → ⊥) → IsKnown kind.Rustc v c (Drawn d text ∷ []) → ⊥
unread_drawn v c d text none (inl h) =
    let all = h.split ∙ ap (λ es. es ++ h.after) h.first.1 ∙ ap (λ es. (LeftOut ∷ Told h.first.0 ∷ []) ++ es) h.next in cc all
unread_drawn v c d text none (inr (inl h)) = cc h.1
unread_drawn v c d text none (inr (inr (f, is, (e, shown, inl h)))) = cc h.1
unread_drawn v c d text none (inr (inr (f, is, (e, shown, inr (taken, inl h))))) = cc h.1
unread_drawn v c d text none (inr (inr (f, is, (e, shown, inr (taken, inr (inl h)))))) =
    none f is (subst (λ (x : Diagnostic). IsShownOf (argument_at c.folder) f x) (sym h.1.0) shown)
unread_drawn v c d text none (inr (inr (f, is, (e, shown, inr (taken, inr (inr (inl (form, inl h)))))))) = cc h.1
unread_drawn v c d text none (inr (inr (f, is, (e, shown, inr (taken, inr (inr (inl (form, inr h)))))))) = cc h.1
unread_drawn v c d text none (inr (inr (f, is, (e, shown, inr (taken, inr (inr (inr (form, inl h)))))))) = cc h.2
unread_drawn v c d text none (inr (inr (f, is, (e, shown, inr (taken, inr (inr (inr (form, inr h)))))))) = cc h

same_level : (folder : Option (List ℕ)) (read d : Diagnostic) → IsShownOf folder read d → d.severity ≡ read.severity
same_level None read d h = ap (λ (x : Diagnostic). x.severity) h
same_level (Some folder) read d h = ap (λ (x : Diagnostic). x.severity) h.rest

-- one is drawn of another level
pub level_swapped : (v : Data) (c : Choice) (d : Diagnostic) (text : List ℕ) → ((read : Diagnostic) → IsReadAs v read → d.severity ≢ read.severity)
    → IsKnown kind.Rustc v c (Drawn d text ∷ []) → ⊥
level_swapped v c d text other h = unread_drawn v c d text (λ read is shown. other read is (same_level (argument_at c.folder) read d shown)) h

-- a finding is drawn that a result doesn't report
pub unreported_drawn : (f : LogForm) (run x : Data) (c : Choice) (d : Diagnostic) (text : List ℕ)
    → ((read : Diagnostic) → IsFindingOf f c.columns run x read → IsShownOf (argument_at c.folder) read d → ⊥)
    → IsFound f run x c (Drawn d text ∷ []) → ⊥
unreported_drawn f run x c d text none (inl h) = cc h
unreported_drawn f run x c d text none (inr (read, is, (e, shown, inl h))) = cc h.1
unreported_drawn f run x c d text none (inr (read, is, (e, shown, inr (taken, inl h)))) = cc h.1
unreported_drawn f run x c d text none (inr (read, is, (e, shown, inr (taken, inr (inl h))))) =
    none read is (subst (λ (y : Diagnostic). IsShownOf (argument_at c.folder) read y) (sym h.1.0) shown)
unreported_drawn f run x c d text none (inr (read, is, (e, shown, inr (taken, inr (inr (inl (form, inl h))))))) = cc h.1
unreported_drawn f run x c d text none (inr (read, is, (e, shown, inr (taken, inr (inr (inl (form, inr h))))))) = cc h.1
unreported_drawn f run x c d text none (inr (read, is, (e, shown, inr (taken, inr (inr (inr (form, inl h))))))) = cc h.2
unreported_drawn f run x c d text none (inr (read, is, (e, shown, inr (taken, inr (inr (inr (form, inr h))))))) = cc h

-- one is drawn of a run that has no results
nothing_drawn : (c : Choice) (ds es : List Deed) (d : Diagnostic) (text : List ℕ) → Drawn d text ∷ [] ≡ ds ++ es → AreMessages c ds → es ≡ [] → ⊥
nothing_drawn c [] es d text is told none = cc (is ∙ none)
nothing_drawn c (Told part ∷ ds) es d text is told none = cc is
nothing_drawn c (Drawn f t ∷ ds) es d text is told none = absurd told
nothing_drawn c (Commanded f l ∷ ds) es d text is told none = absurd told
nothing_drawn c (Compared f s l ∷ ds) es d text is told none = absurd told
nothing_drawn c (HandedOn l ∷ ds) es d text is told none = absurd told
nothing_drawn c (Refused f w ∷ ds) es d text is told none = absurd told
nothing_drawn c (LeftOut ∷ ds) es d text is told none = absurd told
nothing_drawn c (Repeated ∷ ds) es d text is told none = absurd told
nothing_drawn c (BuildFailed ∷ ds) es d text is told none = absurd told

pub drawn_of_none : (f : LogForm) (run : Data) (c : Choice) (d : Diagnostic) (text : List ℕ) → results_of f run ≡ [] → IsLogRun f run c (Drawn d text ∷ []) → ⊥
drawn_of_none f run c d text none h =
    nothing_drawn c h.before h.after d text h.split h.first (subst (λ (xs : List Data). Each (IsResult f run) xs c h.after) none h.next)

-- what another tool writes, here `a`, is handed on and told too
pub noise_told : (c : Choice) (part : List ℕ) → IsFateOfPiece (97 ∷ 10 ∷ []) c (HandedOn (97 ∷ 10 ∷ []) ∷ Told part ∷ []) → ⊥
noise_told c part (text, inl is, inl h) = cc h.1
noise_told c part (text, inl is, inr (inl h)) = cc (ap begins_object is, h.0)
noise_told c part (text, inl is, inr (inr (inl h))) = cc (ap names_line is, h.0.names)
noise_told c part (text, inl is, inr (inr (inr h))) = cc (ap begins_document is, h.0)
noise_told c part (text, inr is, h) = cc is

-- two lines, here `a` and `b`, are taken as one piece
pub lines_as_one : IsPieceOf (97 ∷ 10 ∷ 98 ∷ 10 ∷ []) (97 ∷ 10 ∷ 98 ∷ 10 ∷ []) → ⊥
lines_as_one (inl line) = let cut : ◌≡◌ {A = List ℕ} (97 ∷ 10 ∷ 98 ∷ 10 ∷ []) (97 ∷ 10 ∷ []) = line in cc cut
lines_as_one (inr (inl document)) = elim document.is [
  | inl is ↦ cc (ap begins_document is, document.begins)
  | inr is ↦ cc is
]
lines_as_one (inr (inr finding)) = cc finding.names

no_clean : (t : Tally) (whole : Bool) → t.has_error ≡ true → 0 ≡ tally_status Report t whole → ⊥
no_clean t true error none =
    let one : ◌≡◌ {A = ℕ} 0 1 = none ∙ ap (λ (e : Bool). if e || t.has_failed then 1 else 0) error in
    cc one
no_clean t false error none = cc none

or_true : (b : Bool) → b || true ≡ true
or_true true = refl
or_true false = refl

has_one : (t : Tally) (sum : Bool) → (tallied t Error sum).has_error ≡ true
has_one t true = or_true t.has_error
has_one t false = or_true t.has_error

-- status 0 after an error was drawn as a report
pub clean_after_an_error : {File Standard : Type 0} (held : File ⊎ Standard → Option (List ℕ)) (names : List (List ℕ)) (r : ReportRenderer) (c : Choice)
    (old_out old_err out err : Standing) (d : Diagnostic) (text : List ℕ) → c.form ≡ Report → d.severity ≡ Error
    → (run : Finishes File Standard held names (nothing_begun r c old_out old_err) out err 0) → run.drawn.drawn.does.deeds ≡ Drawn d text ∷ [] → ⊥
clean_after_an_error held names r c old_out old_err out err d text form error run is =
    let last : Tally = run.drawn.last.tally in
    let counted : run.end.tally ≡ with_files (tally_by no_tally (Drawn d text ∷ [])) last.files
    = ap (λ (s : State). s.tally) run.drawn.is ∙ run.drawn.drawn.does.tally ∙ ap (λ ds. with_files (tally_by no_tally ds) last.files) is in
    no_clean run.end.tally run.is_whole
    (ap (λ (t : Tally). t.has_error) counted ∙ ap (λ (s : Severity). (tallied no_tally s (is_sum d)).has_error) error ∙ has_one no_tally (is_sum d))
    (run.ends ∙ ap (λ (f : OutputForm). tally_status f run.end.tally run.is_whole) form)
