use Rattle.std.proofs.Common.{Some, string_bytes}
use Rattle.std.proofs.lemmas.Map.Text.{btree_map_updates_text}
use Rattle.redraw_read.proofs.KnownManners.{known_kept, known_push}
use Rattle.redraw_read.proofs.manners.keep.Goals as goal

pub returns : goal.returns
returns c =
    let message = string_bytes c.args.message in
    let known = c.args.known.now in
    record {
      kept = λ text shown before.
          known_push text known c.insert.new.self message c.args.manner shown before
          (btree_map_updates_text message known c.insert.new.self (Some c.args.manner) c.in_ok-insert.ensures.updates);
    }

pub returns-in_err-insert : goal.returns-in_err-insert
returns-in_err-insert c = record { kept = λ text shown before. known_kept text c.args.known.now c.insert.new.self c.in_err-insert.ensures.err before }
