use Rattle.std.proofs.Common.{refl}
use Rattle.redraw_command.proofs.Shortening.{put_back}
use Rattle.redraw_run.specs.Marked.{IsPlaceMarked}
use Rattle.redraw_run.proofs.word.mark_child.Goals as goal

pub returns : goal.returns
returns g c =
    let spans = c.args.child.now.spans in
    record {
      marked = record {
        places = put_back IsPlaceMarked spans.len spans.items c.deref_mut.result.now c.mark_places.new.spans spans.ok.0 c.deref_mut.ensures.value
            c.mark_places.ensures.marked;
        rest = refl;
      };
    }
