use Rattle.std.proofs.Common.{subst, sym}
use Rattle.serde_json.specs.View.{view}
use Rattle.redraw_read.specs.Rustc.{IsReadAs}
use Rattle.redraw_read.proofs.Homes.{reads_homes}
use Rattle.redraw_read.proofs.cargo.packaged_diagnostic_by.Goals as goal

pub returns : goal.returns
returns c =
    let message = view c.in_ok-message.message.value.now in
    record {
      read = (
        message,
        c.in_ok-message.ensures.value,
        subst (IsReadAs message) (sym c.in_ok-packaged.ensures.kept)
            (reads_homes message c.in_ok-diagnostic.diagnostic c.in_ok-packaged.packaged.homes c.in_ok-diagnostic.ensures.read),
      );
    }
