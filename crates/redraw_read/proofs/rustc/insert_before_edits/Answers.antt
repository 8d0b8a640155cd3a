use Rattle.std.proofs.Common.{drop, inr, sym, take}
use Rattle.std.proofs.lemmas.List.{take-append-drop}
use Rattle.redraw_read.proofs.rustc.insert_before_edits.Goals as goal

pub returns : goal.returns
returns c =
    let children = c.args.children.now.items in
    let at = c.count_before_edits-at.result in
    let same = sym (take-append-drop at children) in
    record { noted = inr (take at children, c.args.note, drop at children, same, c.requires.is_note, c.in_ok-insert.ensures.items) }
