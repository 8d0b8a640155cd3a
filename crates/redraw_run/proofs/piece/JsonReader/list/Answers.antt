use Rattle.std.proofs.Common.{None, Some, inl}
use Rattle.serde_json.specs.View.{view}
use Rattle.redraw_run.specs.Fates.{Reads}
use Rattle.redraw_run.proofs.Lined.{match_ok}
use Rattle.redraw_run.proofs.Pieced.{list_document, list_object}
use Rattle.redraw_run.proofs.piece.JsonReader.list.Goals as goal

pub returns-in-Ok : goal.returns-in-Ok
returns-in-Ok c =
    record {
      form = λ begins. (
        list_object c.args.text.now begins,
        list_document c.args.text.now begins,
        match_ok (λ v. Reads c.args.text.now (Some (view v))) (λ e. Reads c.args.text.now None) c.in_ok-read.read c.in-Ok.value c.in-Ok.is
            c.in_ok-read.ensures.reads,
      );
    }

pub returns-in-Err : goal.returns-in-Err
returns-in-Err c = record { form = λ begins. c.unread.ensures.form c.args.text.now (inl (list_object c.args.text.now begins)) }
