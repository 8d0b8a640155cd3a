use Rattle.std.proofs.Common.{None, Some, inr}
use Rattle.serde_json.specs.View.{view}
use Rattle.redraw_run.specs.Fates.{Reads}
use Rattle.redraw_run.proofs.Lined.{match_err, match_ok}
use Rattle.redraw_run.proofs.piece.JsonReader.whole_object.Goals as goal

pub returns-in-Ok : goal.returns-in-Ok
returns-in-Ok c =
    record {
      form = λ begins. (
        begins,
        match_ok (λ v. Reads c.args.text.now (Some (view v))) (λ e. Reads c.args.text.now None) c.in_ok-read.read c.in-Ok.value c.in-Ok.is
            c.in_ok-read.ensures.reads,
      );
    }

pub returns-in-Err : goal.returns-in-Err
returns-in-Err c =
    record {
      form = λ begins.
          c.unread.ensures.form c.args.text.now (inr (
            begins,
            match_err (λ v. Reads c.args.text.now (Some (view v))) (λ e. Reads c.args.text.now None)
                c.in_ok-read.read _ c.in-Err.is c.in_ok-read.ensures.reads,
          ));
    }
