-- Why there is no text of a finding.
use Rattle.std.proofs.Common.{◌≡◌, ◌≢◌, ◌++◌, List, ℕ, [], ◌∷◌, ap, inl, inr, refl, subst, sym}
use Rattle.std.specs.Global.{Global}
use Rattle.std.specs.Prelude.{IfErr, IfOk, OnOk, Result, Ok, Err, String, alloc_error, map, string_bytes}
use Rattle.output_stream.specs.Standing.{Adds, Standing}
use Rattle.redraw_command.specs.declared.choice.OutputForm.TheVariants.{Report}
use Rattle.redraw_command.specs.declared.stop.Stop.{Stop}
use Rattle.redraw_command.specs.declared.tally.Tally.{Tally}
use Rattle.redraw_run.specs.declared.look.ReportRenderer.{ReportRenderer}
use Rattle.annotate_snippets.specs.declared.renderer.error.RenderError.{RenderError}
use Rattle.annotate_snippets.specs.declared.renderer.error.RenderError.TheVariants.{Memory}
use Rattle.annotate_snippets.specs.declared.snippet.Group.{Group}
use Rattle.redraw_read.specs.Placed.{IsFindingOf, home_of}
use Rattle.redraw_read.specs.declared.sources.File.{File}
use Rattle.redraw_report.specs.Report.{report_of}
use Rattle.redraw_report.specs.View.{section_view}
use Rattle.redraw_report.specs.declared.diagnostic.Diagnostic.{Diagnostic}
use Rattle.redraw_report.specs.declared.finding.Finding.{Finding}
use Rattle.redraw_run.specs.DrawnFinding.{DrawsFinding, IsCounted, IsLeftOut, IsPrintedAs, IsRefusalOf, IsUndrawn, Refuses, ShowsFinding}
use Rattle.redraw_run.specs.DrawnFinding.{ending_after, has_room}
use Rattle.redraw_run.specs.Article.{IsPlaced}
use Rattle.std.specs.declared.alloc.AllocError.{AllocError}
use Rattle.redraw_command.specs.Tally.{one_more}
use Rattle.redraw_command.specs.Told.{Tells}
use Rattle.redraw_run.specs.Deeds.{Does, one_left_out, standing}
use Rattle.redraw_run.specs.Fates.{IsShown}
use Rattle.redraw_run.specs.declared.draw.Drawing.{Drawing}
use Rattle.redraw_run.proofs.Doing.{does_as, does_then}
use Rattle.redraw_run.proofs.Done.{does_refused, does_told, shown_refused}

undrawn_by : (r : ReportRenderer) (files : List File) (d : Diagnostic) (finding : Finding) (groups : List Group) (why : RenderError)
    → IsFindingOf record { files = files; home = home_of d.homes.items; is_short = r.settings.short_message } d finding
    → map section_view groups ≡ report_of (has_room r) finding → IsRefusalOf r groups why → IsUndrawn r files d why
undrawn_by r files d finding groups why is told (inl refused) =
    inl record { finding = finding; is = is; groups = groups; told = told; refused = refused }
undrawn_by r files d finding groups why is told (inr memory) = inr memory

-- where a report is refused, so is the finding that it reports
pub undrawn_of : {T : Type 0} (r : ReportRenderer) (files : List File) (d : Diagnostic) (finding : Finding) (groups : List Group)
    (result : Result T RenderError)
    → IsFindingOf record { files = files; home = home_of d.homes.items; is_short = r.settings.short_message } d finding
    → map section_view groups ≡ report_of (has_room r) finding → IfErr result (IsRefusalOf r groups) → IfErr result (IsUndrawn r files d)
undrawn_of r files d finding groups (Ok text) is told h = tt
undrawn_of r files d finding groups (Err why) is told h = undrawn_by r files d finding groups why is told h

-- ---- what is written of a finding

refused_by : (r : ReportRenderer) (files : List File) (d : Diagnostic) (why : RenderError) → (why ≡ Memory alloc_error → ⊥) → IsUndrawn r files d why
    → Refuses r files d
refused_by r files d why other (inl refuses) = (why, refuses)
refused_by r files d why other (inr memory) = absurd (other memory)

-- its text is, or nothing where its report is refused
pub draws_report : {T : Type 0} (result : Result T Stop) (text : Result (String Global) RenderError) (r : ReportRenderer) (files : List File) (d : Diagnostic)
    (old new : Standing) (Same : Type 0) (before after : Tally) → IfOk text (λ t. ShowsFinding r files d (string_bytes t))
    → IfErr text (IsUndrawn r files d)
    → OnOk result (IfOk text (λ t. IsPrintedAs r d (string_bytes t) old new))
    → OnOk result (IfOk text (λ t. IsCounted d before after))
    → OnOk result (IfErr text (λ e. (e ≡ Memory alloc_error → ⊥) × Same × IsLeftOut before after))
    → OnOk result (DrawsFinding Report r files d old new Same before after)
draws_report (Err stop) text r files d old new Same before after shows undrawn written counted left = tt
draws_report (Ok done) (Ok t) r files d old new Same before after shows undrawn written counted left =
    inl record { text = string_bytes t; shows = shows; printed = written; counted = counted }
draws_report (Ok done) (Err e) r files d old new Same before after shows undrawn written counted left =
    inr (refused_by r files d e left.0 undrawn, left.1, left.2)

-- a text that is this is printed
pub printed_as : {T : Type 0} (result : Result T Stop) (text : Result (String Global) RenderError) (t : String Global) (r : ReportRenderer) (d : Diagnostic)
    (placed bytes : List ℕ) (old new : Standing) → text ≡ Ok t → IsPlaced r.markup d (string_bytes t) placed
    → bytes ≡ placed ++ (ending_after r.settings.short_message d.severity ++ 10 ∷ []) → OnOk result (Adds old new bytes)
    → OnOk result (IfOk text (λ t. IsPrintedAs r d (string_bytes t) old new))
printed_as (Err stop) text t r d placed bytes old new is of bytes_are written = tt
printed_as (Ok done) text t r d placed bytes old new is of bytes_are written =
    subst (λ (x : Result (String Global) RenderError). IfOk x (λ t. IsPrintedAs r d (string_bytes t) old new)) (sym is)
    record { placed = placed; is = of; written = subst (Adds old new) bytes_are written }

-- the same in the same settings, of the same files, from the same tally
pub draws_as : {T : Type 0} (result : Result T Stop) {r s : ReportRenderer} {files these : List File} (d : Diagnostic) (old new : Standing)
    (Same : Type 0)
    {before first : Tally} (after : Tally) → r ≡ s → files ≡ these → before ≡ first → OnOk result (DrawsFinding Report r files d old new Same before after)
    → OnOk result (DrawsFinding Report s these d old new Same first after)
draws_as (Err stop) d old new Same after p q w h = tt
draws_as (Ok done) {r} {s} {files} {these} d old new Same {before} {first} after p q w h =
    subst (λ (x : ReportRenderer). DrawsFinding Report x these d old new Same first after) p
    (subst (λ (x : List File). DrawsFinding Report r x d old new Same first after) q
    (subst (λ (x : Tally). DrawsFinding Report r files d old new Same x after) w h))

-- ---- what is done about a refusal

-- a part of the input is counted as left out, and what else is known of a run stays
abbrev pub Leaves : {S : Type 0} → Drawing S → Drawing S → Type 0
Leaves a b = b ≡ record a { tally = record a.tally { wrong = one_more a.tally.wrong } }

pub left_tally : {S : Type 0} (a b : Drawing S) → Leaves a b → b.tally ≡ one_left_out a.tally
left_tally {S} a b is = ap (λ (d : Drawing S). d.tally) is

left_renderer : {S : Type 0} (a b : Drawing S) → Leaves a b → b.renderer ≡ a.renderer
left_renderer {S} a b is = ap (λ (d : Drawing S). d.renderer) is

left_choice : {S : Type 0} (a b : Drawing S) → Leaves a b → b.choice ≡ a.choice
left_choice {S} a b is = ap (λ (d : Drawing S). d.choice) is

pub shown_undrawn : {S : Type 0} (d : Diagnostic) (why : RenderError) (files : List File) (a b : Drawing S) (out old new : Standing)
    → a.choice.form ≡ Report → ((m : AllocError) → why ≢ Memory m) → IsUndrawn a.renderer files d why → Leaves a b → Tells old new
    → Does (IsShown d) (standing a out old) (standing b out new)
shown_undrawn d why files a b out old new form other (inr memory) is t = absurd (other alloc_error memory)
shown_undrawn d why files a b out old new form other (inl refuses) is t =
    does_as (shown_refused d why a.choice)
    (does_then {a = standing a out old} {b = standing b out old} {c = standing b out new}
    (does_refused {a = standing a out old} {b = standing b out old} d why files form refuses refl refl (left_tally a b is) (left_renderer a b is)
    (left_choice a b is))
    (does_told {a = standing b out old} {b = standing b out new} t refl refl refl refl))

-- a finding whose report is refused is left out
pub left_by : {T : Type 0} (result : Result T Stop) (text : Result (String Global) RenderError) (why : RenderError) (Same : Type 0) (before after : Tally)
    → text ≡ Err why → Same → OnOk result ((why ≢ Memory alloc_error) × IsLeftOut before after)
    → OnOk result (IfErr text (λ e. (e ≢ Memory alloc_error) × Same × IsLeftOut before after))
left_by (Err stop) text why Same before after is same h = tt
left_by (Ok done) text why Same before after is same h =
    subst (λ (t : Result (String Global) RenderError). IfErr t (λ e. (e ≢ Memory alloc_error) × Same × IsLeftOut before after)) (sym is) (h.0, same, h.1)
