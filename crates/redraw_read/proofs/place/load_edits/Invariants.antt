use Rattle.std.proofs.Common.{take}
use Rattle.redraw_read.specs.Loaded.{Loads, edited_files, texts_of}
use Rattle.redraw_read.specs.Placed.{home_of}
use Rattle.redraw_read.proofs.place.load_edits.Given as goal

-- the files of the alternatives so far are asked for
abbrev pub invariant-loop-edits : goal.invariant-loop-edits
invariant-loop-edits g l =
    Loads (home_of l.homes) (edited_files (take l.edits-index l.alternatives)) l.initial.sources.files.items l.sources.files.items
    (texts_of l.initial.sources.unread.items) (texts_of l.sources.unread.items)
