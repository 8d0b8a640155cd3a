use Rattle.std.proofs.Common.{List, ap, inl, inr, subst}
use Rattle.clap.specs.Walk.{Row}
use Rattle.clap.specs.Words.{kind_of}
use Rattle.redraw_command.specs.Arguments.{IsRequestOf, arguments_at}
use Rattle.program.specs.Inputs.{held_by}
use Rattle.redraw_run.proofs.Asking.{answers_error}
use Rattle.output_stream.specs.Standing.{known}
use Rattle.redraw_run.proofs.run.run.Goals as goal

pub returns-in-Ok-clause-answers : goal.returns-in-Ok-clause-answers
returns-in-Ok-clause-answers g c =
    let (app, is, clean, rows) = c.in-Ok.ensures.matches in
    let request = c.request_of.result in (
      app,
      is,
      inr (inr (inl record {
        request = request;
        asked = record { clean = clean; is = subst (λ (found : List Row). IsRequestOf found request) rows c.request_of.ensures.asked };
        draws = c.draw_all.ensures.draws;
      })),
    )

pub returns-in-Err-clause-answers : goal.returns-in-Err-clause-answers
returns-in-Err-clause-answers g c =
    let (app, is, fails, none) = c.in-Err.ensures.matches in
    let ends = c.answer_error.ensures in (
      app,
      is,
      answers_error (held_by g.R.File.Read.remaining g.R.Reader.Read.remaining) app (arguments_at c.args.args.now) c.args.around (kind_of c.in-Err.error)
          _ _ _ _ c.answer_error.result
          record {
            usage_error = λ help version. let failed = ends.usage_error help version in (failed.0, ap (known g.W.Write.contents) failed.1);
            told = ends.told;
            memory = ends.memory;
            asked = λ shown. ap (known g.V.Write.contents) (ends.asked shown);
            printed = ends.printed;
          }
          fails,
    )
