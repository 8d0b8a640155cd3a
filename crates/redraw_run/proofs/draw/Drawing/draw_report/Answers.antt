use Rattle.std.proofs.Common.{ap, refl, sym, ◌∙◌}
use Rattle.std.specs.Global.{Vec}
use Rattle.redraw_run.specs.declared.look.ReportRenderer.{ReportRenderer}
use Rattle.redraw_read.specs.declared.sources.File.{File}
use Rattle.redraw_command.specs.declared.choice.Choice.{Choice}
use Rattle.redraw_run.specs.Fates.{AreMessages, IsShown, Then}
use Rattle.redraw_run.proofs.Doing.{does_as, does_then, goes_as, goes_err, goes_then, stops_any, stops_none}
use Rattle.redraw_run.proofs.Done.{does_same}
use Rattle.redraw_run.proofs.Fated.{messages_then, shown_part, shown_some, shown_then}
use Rattle.redraw_run.proofs.Refusing.{draws_as, draws_report}
use Rattle.redraw_run.proofs.Telling.{done_so, same_files, same_unread, tells_about, tells_of}
use Rattle.output_stream.specs.Standing.{known}
use Rattle.redraw_run.proofs.draw.Drawing.draw_report.Goals as goal

pub returns-in_err-load_files-clause-does : goal.returns-in_err-load_files-clause-does
returns-in_err-load_files-clause-does g c = λ form.
    goes_err (IsShown c.args.diagnostic.now) _ _ c.from_residual.result c.from_residual.ensures.1
    (λ s q. stops_none (IsShown c.args.diagnostic.now) s q (does_same refl refl refl refl refl))

pub returns-in_err-drawn-clause-does : goal.returns-in_err-drawn-clause-does
returns-in_err-drawn-clause-does g c = λ form.
    goes_err (IsShown c.args.diagnostic.now) _ _ c.from_residual-in_err-drawn.result c.from_residual-in_err-drawn.ensures.1
    (λ s q. stops_any s q
    (does_as (shown_part c.args.diagnostic.now c.args.self.now.choice) (c.tell_unread.ensures.does (known g.W.Write.contents c.args.out.now))))

pub returns-clause-does : goal.returns-clause-does
returns-clause-does g c = λ form.
    let d = c.args.diagnostic.now in
    goes_as (Then AreMessages (IsShown d)) (IsShown d) _ _ c.print_drawn.result (shown_then d _)
    (goes_then AreMessages (IsShown d) _ _ _ c.print_drawn.result (shown_some d)
    (does_as (messages_then _) (does_then (c.tell_unread.ensures.does (known g.W.Write.contents c.args.out.now)) (c.tell_inexact.ensures.does _)))
    (c.print_drawn.ensures.does (ap (λ (x : Choice). x.form) c.tell_unread.ensures.kept.1 ∙ form) _ c.in_ok-drawn.ensures.shows c.in_ok-drawn.ensures.refused))

pub returns-clause-draws : goal.returns-clause-draws
returns-clause-draws g c =
    let kept = c.tell_unread.ensures.kept in
    draws_as c.print_drawn.result c.args.diagnostic.now _ _ _ _ kept.0 (same_files _ _ c.print_drawn.ensures.sources) kept.2
    (draws_report c.print_drawn.result c.in_ok-drawn.drawn.text c.tell_unread.new.self.renderer c.tell_unread.new.self.sources.files.items
    c.args.diagnostic.now _ _ _ _ _ c.in_ok-drawn.ensures.shows c.in_ok-drawn.ensures.refused c.print_drawn.ensures.drawn c.print_drawn.ensures.counted
    c.print_drawn.ensures.left_out)

pub returns-clause-tells : goal.returns-clause-tells
returns-clause-tells g c =
    let kept = c.tell_unread.ensures.kept in
    let each = c.tell_inexact.ensures.each in
    let old = known g.V.Write.contents c.args.err.now in
    let named = known g.V.Write.contents c.tell_unread.new.err in
    let before = known g.V.Write.contents c.tell_inexact.new.err in
    tells_about (known g.V.Write.contents) c.print_drawn.result c.in_ok-drawn.drawn.text c.args.diagnostic.now old c.tell_inexact.new.err c.print_drawn.new.err
    (tells_of c.load_files.new.sources.unread.items c.args.diagnostic.now c.in_ok-drawn.drawn.clamped c.in_ok-drawn.drawn.undrawn old named each.0 before
    (ap (λ (r : ReportRenderer). r.settings.short_message) kept.0)
    (ap (λ (files : Vec File). files.items) (sym c.tell_unread.ensures.files)) (same_files _ _ c.print_drawn.ensures.sources)
    c.in_ok-load_files.ensures.loads c.tell_unread.ensures.each c.in_ok-drawn.ensures.clamped c.in_ok-drawn.ensures.undrawn each.1 each.2)
    c.print_drawn.ensures.untold c.print_drawn.ensures.told

pub returns-clause-told : goal.returns-clause-told
returns-clause-told g c = done_so c.print_drawn.result (same_unread _ _ c.print_drawn.ensures.sources ∙ c.tell_unread.ensures.none)
