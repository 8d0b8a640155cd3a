use Rattle.std.proofs.Common.{refl}
use Rattle.clap.specs.Words.{app_of}
use Rattle.redraw_command.specs.Arguments.{color_words, column_words, level_words, redraw_app, arguments_at}
use Rattle.redraw_command.proofs.CommandLines.{simple}
use Rattle.redraw_command.proofs.Wording.{fails_for_memory, lent_arguments, matched_rows, none_matched}
use Rattle.redraw_command.proofs.arguments.matches_of.Goals as goal

pub returns-in_err-command : goal.returns-in_err-command
returns-in_err-command c =
    record {
      matches = (
        redraw_app (lent_arguments color_words) (lent_arguments level_words) (lent_arguments column_words),
        record {
          colors = lent_arguments color_words;
          levels = lent_arguments level_words;
          columns = lent_arguments column_words;
          color_words = refl;
          level_words = refl;
          column_words = refl;
          is = refl;
        },
        fails_for_memory c.from_residual.result _ c.from_residual.ensures.1,
        none_matched _ _ c.from_residual.result c.from_residual.ensures.1,
      );
    }

pub returns : goal.returns
returns c =
    let app = app_of c.in_ok-command.command in
    let is = c.in_ok-command.ensures.app in
    record {
      matches = (
        app,
        is,
        c.try_get_matches_from.ensures.kinds (simple app is),
        matched_rows app (arguments_at c.args.args.now) c.try_get_matches_from.result (simple app is) c.try_get_matches_from.ensures.matches,
      );
    }
