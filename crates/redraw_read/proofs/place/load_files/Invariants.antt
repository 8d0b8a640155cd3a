use Rattle.std.proofs.Common.{take, ◌++◌}
use Rattle.std.specs.List.{flat_map}
use Rattle.redraw_read.specs.Loaded.{Loads, child_files, files_of, texts_of}
use Rattle.redraw_read.specs.Placed.{home_of}
use Rattle.redraw_read.proofs.place.load_files.Given as goal

-- the files of the places and of the children so far are asked for
abbrev pub invariant-loop-child : goal.invariant-loop-child
invariant-loop-child g l =
    Loads (home_of l.diagnostic.homes.items) (files_of l.diagnostic.spans.items ++ flat_map child_files (take l.child-index l.child-items))
    l.fn.sources.files.items l.sources.files.items (texts_of l.fn.sources.unread.items) (texts_of l.sources.unread.items)
