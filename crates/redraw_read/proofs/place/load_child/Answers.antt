use Rattle.std.proofs.Common.{ap, refl}
use Rattle.redraw_read.specs.Loaded.{edited_files, files_of}
use Rattle.redraw_read.proofs.Loading.{loads_named, loads_then, on_ok}
use Rattle.redraw_read.proofs.place.load_child.Goals as goal

pub returns : goal.returns
returns g c =
    record {
      loads = on_ok c.load_edits.result
          (λ more. loads_then (loads_named c.in_ok-load_spans.ensures.loads refl (ap files_of c.deref.ensures.value))
          (loads_named more refl (ap edited_files c.deref-2.ensures.value)))
          c.load_edits.ensures.loads;
    }
