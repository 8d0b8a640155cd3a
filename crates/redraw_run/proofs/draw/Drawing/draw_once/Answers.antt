use Rattle.std.proofs.Common.{◌≡◌, ℕ, List, Option, inr, ap, if◌then◌else◌, refl, subst, sym, ◌∙◌, Bool}
use Rattle.std.proofs.lemmas.Result.{on_ok_weaker}
use Rattle.std.specs.Prelude.{option_map}
use Rattle.serde_json.specs.Data.{Data}
use Rattle.serde_json.specs.View.{view}
use Rattle.redraw_command.specs.Seen.{IsSeen, digests_of}
use Rattle.redraw_command.specs.declared.seen.SeenDiagnostics.{SeenDiagnostics}
use Rattle.redraw_run.specs.declared.look.ReportRenderer.{ReportRenderer}
use Rattle.redraw_command.specs.declared.choice.Choice.{Choice}
use Rattle.redraw_command.specs.declared.tally.Tally.{Tally}
use Rattle.redraw_read.specs.declared.sources.File.{File}
use Rattle.redraw_report.specs.declared.diagnostic.Diagnostic.{Diagnostic}
use Rattle.redraw_run.specs.Deeds.{repeated}
use Rattle.redraw_run.specs.DrawnFinding.{DrawsFinding}
use Rattle.redraw_run.specs.Fates.{IsChosen, IsDrawing}
use Rattle.redraw_run.proofs.Doing.{does_as, goes_after, goes_as, goes_err, stops_none}
use Rattle.redraw_run.proofs.Done.{does_repeated, does_same}
use Rattle.redraw_run.proofs.Fated.{chosen_again}
use Rattle.output_stream.specs.Standing.{Standing}
use Rattle.redraw_run.proofs.draw.Drawing.draw_once.Goals as goal

pub returns-in_err-is_seen-clause-does : goal.returns-in_err-is_seen-clause-does
returns-in_err-is_seen-clause-does g c =
    let kept = c.in_err-is_seen.ensures.kept in
    goes_err (IsChosen c.args.diagnostic.now) _ _ c.from_residual.result c.from_residual.ensures.1
    (λ s q. stops_none (IsChosen c.args.diagnostic.now) s q (does_same refl refl c.in_err-is_seen.ensures.uncounted kept.0 kept.1))

pub returns-then-is_seen-clause-once : goal.returns-then-is_seen-clause-once
returns-then-is_seen-clause-once g c =
    let t = c.args.self.now.tally in (
      c.in_ok-is_seen.is_seen,
      c.in_ok-is_seen.ensures.seen,
      λ yes. (refl, c.in_ok-is_seen.ensures.counted ∙ ap (λ (b : Bool). if b then repeated t else t) yes),
      λ no. absurd (cc (no, c.if-is_seen.true)),
    )

pub returns-then-is_seen-clause-does : goal.returns-then-is_seen-clause-does
returns-then-is_seen-clause-does g c =
    let kept = c.in_ok-is_seen.ensures.kept in
    let t = c.args.self.now.tally in
    does_as (chosen_again c.args.diagnostic.now c.args.self.now.choice)
    (does_repeated (c.in_ok-is_seen.ensures.once c.if-is_seen.true) refl refl
    (c.in_ok-is_seen.ensures.counted ∙ ap (λ (b : Bool). if b then repeated t else t) c.if-is_seen.true) kept.0 kept.1)

-- what is drawn is drawn for the same choice, in the same settings, from the same tally
drawn_for : {a b : Choice} {r s : ReportRenderer} {t u : Tally} (files : List File) (d : Diagnostic) (o n : Standing) (Same : Type 0) (after : Tally)
    → a ≡ b → r ≡ s → t ≡ u → DrawsFinding a.form r files d o n Same t after → DrawsFinding b.form s files d o n Same u after
drawn_for {a} {b} {r} {s} {t} {u} files d o n Same after p q w h =
    subst (λ (x : Choice). DrawsFinding x.form s files d o n Same u after) p
    (subst (λ (y : ReportRenderer). DrawsFinding a.form y files d o n Same u after) q
    (subst (λ (z : Tally). DrawsFinding a.form r files d o n Same z after) w h))

-- what was seen stays
seen_still : (d : Option Data) (again was : Bool) (old : List (List ℕ)) (a b : SeenDiagnostics) → b ≡ a → IsSeen d again was old (digests_of a)
    → IsSeen d again was old (digests_of b)
seen_still d again was old a b same h = subst (λ (s : SeenDiagnostics). IsSeen d again was old (digests_of s)) (sym same) h

pub returns-clause-once : goal.returns-clause-once
returns-clause-once g c =
    let kept = c.in_ok-is_seen.ensures.kept in
    let t = c.args.self.now.tally in
    let same = c.in_ok-is_seen.ensures.counted ∙ ap (λ (b : Bool). if b then repeated t else t) c.if-is_seen.false in
    on_ok_weaker c.draw.result
    (λ drawn. (
      c.in_ok-is_seen.is_seen,
      seen_still (option_map (λ m. view m.now) c.args.message) c.args.self.now.choice.has_duplicates c.in_ok-is_seen.is_seen
          (digests_of c.args.self.now.seen) c.is_duplicate.new.self.seen c.draw.new.self.seen c.draw.ensures.seen c.in_ok-is_seen.ensures.seen,
      λ yes. absurd (cc (yes, c.if-is_seen.false)),
      λ no. drawn_for _ _ _ _ _ _ kept.1 kept.0 same drawn,
    ))
    c.draw.ensures.draws

pub returns-clause-does : goal.returns-clause-does
returns-clause-does g c =
    let kept = c.in_ok-is_seen.ensures.kept in
    let t = c.args.self.now.tally in
    let d = c.args.diagnostic.now in
    goes_after (IsChosen d) _ _ _ c.draw.result
    (does_same refl refl (c.in_ok-is_seen.ensures.counted ∙ ap (λ (b : Bool). if b then repeated t else t) c.if-is_seen.false) kept.0 kept.1)
    (goes_as (IsDrawing d) (IsChosen d) _ _ c.draw.result (λ ds h. inr h) c.draw.ensures.does)
