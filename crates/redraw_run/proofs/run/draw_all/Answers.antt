use Rattle.std.proofs.Common.{ap, inl, inr, refl, ◌∙◌}
use Rattle.redraw_command.specs.Choice.{shown_from}
use Rattle.redraw_command.specs.declared.choice.Choice.{Choice}
use Rattle.redraw_run.specs.Deeds.{State}
use Rattle.program.specs.Inputs.{held_by}
use Rattle.redraw_run.specs.Inputs.{asked_names}
use Rattle.redraw_run.specs.Run.{Runs}
use Rattle.redraw_run.proofs.Gone.{run_from}
use Rattle.output_stream.specs.Standing.{known}
use Rattle.redraw_run.proofs.run.draw_all.Goals as goal

pub returns-in_default-clause-draws : goal.returns-in_default-clause-draws
returns-in_default-clause-draws g c = inr record { unprinted = refl; told = c.tell_memory.ensures.told; ends = refl }

pub returns-clause-draws : goal.returns-clause-draws
returns-clause-draws g c =
    let held = held_by g.R.File.Read.remaining g.R.Reader.Read.remaining in
    let choice : Choice = record c.args.request.choice { folder = c.shown_from.result } in
    let folder = c.shown_from.ensures.value ∙ ap (shown_from c.args.request.choice.form) c.in-Ok.ensures.value in
    let begun = c.begun-drawing.ensures in
    inl (
      choice,
      record { folder = folder; rest = refl },
      run_from
          (λ (a : State). Runs held (asked_names c.args.request.inputs) a (known g.W.Write.contents c.draw_to_end.new.out)
          (known g.V.Write.contents c.draw_to_end.new.err) c.draw_to_end.result)
          _ _ _ choice _ _ _ (begun.looks ∙ c.renderer_for.ensures.settings) begun.takes begun.uncounted c.draw_to_end.ensures.runs,
    )
