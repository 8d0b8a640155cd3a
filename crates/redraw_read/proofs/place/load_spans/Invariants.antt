use Rattle.std.proofs.Common.{take}
use Rattle.redraw_read.specs.Loaded.{Loads, files_of, texts_of}
use Rattle.redraw_read.specs.Placed.{home_of}
use Rattle.redraw_read.proofs.place.load_spans.Given as goal

-- the files of the places so far are asked for
abbrev pub invariant-loop-span : goal.invariant-loop-span
invariant-loop-span g l =
    Loads (home_of l.homes) (files_of (take l.span-index l.spans)) l.initial.sources.files.items l.sources.files.items
    (texts_of l.initial.sources.unread.items) (texts_of l.sources.unread.items)
