use Rattle.std.proofs.Common.{[], append-nil, inr, sym}
use Rattle.redraw_read.proofs.rustc.add_macro_note.Goals as goal

pub returns-in_ok-push-in-Last : goal.returns-in_ok-push-in-Last
returns-in_ok-push-in-Last c =
    let children = c.args.children.now.items in
    let same = sym (append-nil children) in
    record { noted = inr (children, c.note_of-in-Last.result, [], same, c.note_of-in-Last.ensures.is_note, c.in_ok-push-in-Last.ensures.items) }
