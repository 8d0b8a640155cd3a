use Rattle.std.proofs.Common.{◌≡◌, subst, sym}
use Rattle.std.specs.Prelude.{Ok}
use Rattle.serde_json.specs.Data.{Data}
use Rattle.serde_json.specs.View.{view}
use Rattle.redraw_read.specs.Rustc.{IsReadAs}
use Rattle.redraw_report.specs.declared.diagnostic.Diagnostic.{Diagnostic}
use Rattle.output_stream.specs.Standing.{Standing, known}
use Rattle.redraw_run.specs.Deeds.{Does, Happens, State, standing}
use Rattle.redraw_run.specs.Fates.{AreNone, IsDiagnosed}
use Rattle.redraw_run.proofs.Doing.{does_nothing, goes_as, goes_err, stops_none}
use Rattle.redraw_run.proofs.Fated.{diagnosed_as, read_is}
use Rattle.redraw_run.proofs.report.rustc_diagnostic.Goals as goal

-- which text is kept is no part of what is told so far
pub returns-in_err-keep_own_text : goal.returns-in_err-keep_own_text
returns-in_err-keep_own_text g c =
    let value : Data = view c.args.node.now.value.now in
    let out : Standing = known g.W.Write.contents c.args.out.now in
    let err : Standing = known g.V.Write.contents c.args.err.now in
    let begun : State = standing c.args.drawing.now out err in
    let same = c.keep_own_text.ensures.same out err in
    record {
      does = goes_err (IsDiagnosed (IsReadAs value)) _ _ c.from_residual.result c.from_residual.ensures.1
          (λ s q. stops_none (IsDiagnosed (IsReadAs value)) s q (subst (λ (b : State). Does AreNone begun b) (sym same) (does_nothing begun)));
    }

pub returns : goal.returns
returns g c =
    let out : Standing = known g.W.Write.contents c.args.out.now in
    let err : Standing = known g.V.Write.contents c.args.err.now in
    let ended : State
    = standing c.take_read.new.drawing (known g.W.Write.contents c.take_read.new.out) (known g.V.Write.contents c.take_read.new.err) in
    let Is : Diagnostic → Type 0 = IsReadAs (view c.args.node.now.value.now) in
    let read = c.read_diagnostic-read.result in
    let done = subst (λ (a : State). Happens c.take_read.result (IsDiagnosed (λ (d : Diagnostic). read ≡ Ok d)) a ended)
    (c.keep_own_text.ensures.same out err) c.take_read.ensures.does in
    record {
      does = goes_as (IsDiagnosed (λ (d : Diagnostic). read ≡ Ok d)) (IsDiagnosed Is) _ ended c.take_read.result
          (diagnosed_as (λ (d : Diagnostic). read ≡ Ok d) Is (read_is read Is c.read_diagnostic-read.ensures.read) _) done;
    }
