use Rattle.std.proofs.Common.{List, string_bytes, subst, sym}
use Rattle.std.proofs.lemmas.Result.{IfOk-at_ok}
use Rattle.redraw_read.specs.declared.sources.File.{File}
use Rattle.redraw_run.specs.DrawnFinding.{ShowsFinding}
use Rattle.redraw_run.proofs.Chosen.{drawn_reading, undrawn_reading}
use Rattle.redraw_run.proofs.readings.draws.Goals as goal

pub returns-in-Ok : goal.returns-in-Ok
returns-in-Ok g c =
    let look = c.args.look.now in
    let d = c.args.reading.now in
    let files : List File = c.load_files.new.sources.files.items in
    let shows = IfOk-at_ok (λ text. ShowsFinding look files d (string_bytes text)) c.in-Ok.is c.in_ok-drawn.ensures.shows in
    let as_lent = subst (ShowsFinding look files d) (sym c.as_str.ensures.value) shows in
    record { is = drawn_reading look files d c.as_str.result.now c.args.text.now c.is_own_text.result as_lent c.is_own_text.ensures.value }

pub returns : goal.returns
returns g c = record { is = undrawn_reading c.args.look.now c.args.reading.now c.args.text.now }
