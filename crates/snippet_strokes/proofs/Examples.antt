-- The definitions, computed on small inputs.
use Rattle.snippet_strokes.proofs.Common.{◌≡◌, ℕ, ◌==◌, true, false, None, List, [], ◌∷◌, ◌++◌, codes, refl, list_any, ordered_by}
use Rattle.snippet_strokes.proofs.Common.{AnnotationKind, Primary, Context, replaced_within, text_cells, char_of, placeholder_of, Ascii, Unicode, LineNumber}
use Rattle.snippet_strokes.proofs.Common.{Quotation, LineAnnotation, Singleline, PlacedEntry, overlapped, stroke_glyphs, painting_order, is_placed_before}
use Rattle.snippet_strokes.proofs.Common.{Layout}
use Rattle.snippet_strokes.proofs.CutWords.{cut_of}
use Rattle.snippet_strokes.proofs.CellLemmas.{cut_row}

-- an entry of these columns, each of one character
abbrev pub entry : AnnotationKind → ℕ → ℕ → LineAnnotation
entry kind from to = record {
  start = record { line = 1; char = from; display = from; byte = from };
  end = record
      { line = 1; char = to; display = to; byte = to };
  kind = kind;
  label = None;
  annotation_type = Singleline;
  highlight_source = false;
}

-- entries are placed from right to left
from_the_right : ordered_by is_placed_before (entry Context 0 2 ∷ entry Primary 3 5 ∷ []) ≡ entry Primary 3 5 ∷ entry Context 0 2 ∷ []
from_the_right = refl

-- those that start at one character stay as they are given
ties_as_given : ordered_by is_placed_before (entry Context 1 2 ∷ entry Primary 1 5 ∷ entry Context 1 9 ∷ [])
    ≡ entry Context 1 2 ∷ entry Primary 1 5 ∷ entry Context 1 9 ∷ []
ties_as_given = refl

abbrev placed : List ℕ → AnnotationKind → ℕ → ℕ → PlacedEntry
placed label kind from to =
    record { entry = entry kind from to; label = record { beside = label ∷ []; below = label ∷ []; last = false; past = false }; position = 0; looked = 0 }

-- the widest mark is painted first, and of one width those for context before a primary one; all others as they are placed
widest_first : (label : List ℕ)
    → painting_order (placed label Primary 4 6 ∷ placed label Context 2 4 ∷ placed label Context 0 2 ∷ placed label Primary 0 9 ∷ [])
    ≡ placed label Primary 0 9 ∷ placed label Context 2 4 ∷ placed label Context 0 2 ∷ placed label Primary 4 6 ∷ []
widest_first label = refl

-- `^` and `│` are drawn with strokes, and no letter is
mark_of_strokes : list_any (λ g. char_of (codes "^") == g) (stroke_glyphs Ascii) ≡ true
mark_of_strokes = refl

stem_of_strokes : list_any (λ g. char_of (codes "│") == g) (stroke_glyphs Unicode) ≡ true
stem_of_strokes = refl

letter_of_none : list_any (λ g. char_of (codes "x") == g) (stroke_glyphs Ascii) ≡ false
letter_of_none = refl

-- an entry of these columns, for the place of whose label so many of those after it are looked at
abbrev looking : List ℕ → ℕ → ℕ → ℕ → PlacedEntry
looking label looked from to =
    record (placed label Primary from to) { looked = looked }

-- of three marks, from right to left, where all are looked at for each: the two farthest right count for no one, and the third overlaps itself
-- `          ^^^^^`
-- `        -----`
-- `  ^^^`
two_do_not_count : (label : List ℕ)
    → overlapped (looking label 2 10 15 ∷ looking label 1 8 13 ∷ looking label 0 2 5 ∷ []) ≡ false ∷ false ∷ true ∷ []
two_do_not_count label = refl

-- where the third reaches below both, they are overlapped
third_counts : (label : List ℕ)
    → overlapped (looking label 2 10 15 ∷ looking label 1 8 13 ∷ looking label 0 2 12 ∷ []) ≡ true ∷ true ∷ true ∷ []
third_counts label = refl

-- but where the place of no label is sought beyond the mark before it, the third isn't looked at
looked_at_no_more : (label : List ℕ)
    → overlapped (looking label 0 10 15 ∷ looking label 0 8 13 ∷ looking label 0 2 12 ∷ []) ≡ false ∷ false ∷ true ∷ []
looked_at_no_more label = refl

-- a third of the room stays at each end of what is cut, and five columns at least
abbrev pub layout : Layout
layout = record { decor = Ascii; gutter = 1; code = 6; label_lines = false; label_end = 0 }

third_stays : (label : List ℕ) → cut_of layout 24 (looking label 0 0 60, false) ≡ record { from = 14; to = 58 } ∷ []
third_stays label = refl

five_stay : (label : List ℕ) → cut_of layout 9 (looking label 0 0 30, false) ≡ record { from = 11; to = 31 } ∷ []
five_stay label = refl

-- nothing is cut of an entry that is overlapped
overlapped_stays : (label : List ℕ) → cut_of layout 24 (looking label 0 0 60, true) ≡ []
overlapped_stays label = refl

-- the placeholder stands in place of the cells that are cut: `ab...gh` for `abcdefgh`
cut_in_the_middle : cut_row Ascii (record { from = 2; to = 6 } ∷ []) (text_cells Quotation (codes "abcdefgh"))
    ≡ text_cells Quotation (codes "ab") ++ text_cells LineNumber (placeholder_of Ascii) ++ text_cells Quotation (codes "gh")
unfolding replaced_within
cut_in_the_middle = refl

-- a stretch that the row doesn't hold stays
cut_past_the_end : cut_row Ascii (record { from = 1; to = 3 } ∷ []) (text_cells Quotation (codes "ab")) ≡ text_cells Quotation (codes "ab")
unfolding replaced_within
cut_past_the_end = refl
