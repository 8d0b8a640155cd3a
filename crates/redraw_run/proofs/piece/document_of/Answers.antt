use Rattle.std.proofs.Common.{refl}
use Rattle.redraw_run.proofs.Pieced.{list_found, log_found, object_found}
use Rattle.redraw_run.proofs.piece.document_of.Goals as goal

pub returns-in-Object : goal.returns-in-Object
returns-in-Object c =
    record {
      document = λ bytes of. let (object, is) = object_found bytes c.args.form c.in-Object.value c.in-Object.is of in (refl, object, is);
    }

pub returns-in-Log : goal.returns-in-Log
returns-in-Log c =
    record {
      document = λ bytes of. let (log, is) = log_found bytes c.args.form c.in-Log.log c.in-Log.is of in (refl, log, is);
    }

pub returns-in-List : goal.returns-in-List
returns-in-List c =
    record {
      document = λ bytes of. let (list, is) = list_found bytes c.args.form c.in-List.value c.in-List.is of in (refl, list, is);
    }
