use Rattle.std.proofs.Common.{map, string_bytes, take}
use Rattle.redraw_report.specs.declared.diagnostic.SuggestedEdit.{SuggestedEdit}
use Rattle.redraw_read.specs.Loaded.{Loads, texts_of}
use Rattle.redraw_read.specs.Placed.{home_of}
use Rattle.redraw_read.proofs.place.load_edited.Given as goal

-- the files of the edits so far are asked for
abbrev pub invariant-loop-edit : goal.invariant-loop-edit
invariant-loop-edit g l =
    Loads (home_of l.homes) (map (λ (e : SuggestedEdit). string_bytes e.file) (take l.edit-index l.edit-items)) l.initial.sources.files.items
    l.sources.files.items (texts_of l.initial.sources.unread.items) (texts_of l.sources.unread.items)
