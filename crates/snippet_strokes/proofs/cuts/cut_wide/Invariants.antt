use Rattle.snippet_strokes.proofs.Common.{◌≡◌, ℕ, Bool, List, drop, Cell, Layout, PlacedEntry}
use Rattle.snippet_strokes.proofs.CutWords.{cut_rows, cuts_of}
use Rattle.snippet_strokes.proofs.cuts.cut_wide.Given as goal

-- the rows of a buffer, cut at some entries
abbrev pub all_cut : Layout → ℕ → ℕ → List PlacedEntry → List Bool → List (List Cell) → List (List Cell)
all_cut layout room row placed flags rows = cut_rows layout.decor row (cuts_of layout room placed flags) rows

-- cut at the entries from this one on the rows are as they are to be
abbrev pub invariant-loop-k : goal.invariant-loop-k
invariant-loop-k l =
    (all_cut l.layout l.room l.row (drop l.k l.placed) (drop l.k l.overlapped) l.buffer ≡ all_cut l.layout l.room l.row l.placed l.overlapped l.initial.buffer)
