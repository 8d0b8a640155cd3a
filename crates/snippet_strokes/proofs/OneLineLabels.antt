-- Labels of one line are drawn as they are where labels aren't cut.
use Rattle.snippet_strokes.proofs.Common.{◌≡◌, ℕ, ◌-◌, ◌==◌, Bool, true, false, List, [], ◌∷◌, refl, ap, ◌∙◌, arith, All, All-head, All-tail, All-permutation}
use Rattle.snippet_strokes.proofs.Common.{map, zip, Layout, LineAnnotation, PlacedEntry, Cell, placed_of, line_positions, look_counts, shifted}
use Rattle.snippet_strokes.proofs.PaintOrder.{IsPermutation-ordered_by}
use Rattle.snippet_strokes.proofs.Common.{◌+◌, ◌++◌, All-map, bare_row, bars_apart, cut_middle, drop, ends_of_bars, fold, if◌then◌else◌, is_beside, list_all}
use Rattle.snippet_strokes.proofs.Common.{painted, painting_order, replicate, row_count, separator_row, take, with_bars}
use Rattle.std.proofs.Math.Bool.{and-false}
use Rattle.snippet_strokes.specs.Strokes.{line_strokes, stroke_rows}
use Rattle.snippet_strokes.specs.LineRows.{line_rows, own_rows}
use Rattle.snippet_labels.specs.Positions.{pieces_of}
use Rattle.snippet_labels.specs.Pieces.{breaks_labels}
use Rattle.snippet_strokes.specs.Cuts.{overlapped}
use Rattle.snippet_strokes.specs.Squeezed.{middles_replaced}
use Rattle.snippet_strokes.proofs.SqueezedLemmas.{Line, unbroken_same}
use Rattle.snippet_strokes.proofs.Common.{◌&&◌, ◌||◌, length, list_any, nat_le, nat_lt, sym}
use Rattle.snippet_strokes.specs.declared.bars.OpenBar.{OpenBar}
use Rattle.snippet_labels.proofs.PieceLemmas.{LabelPieces-is}
use Rattle.snippet_labels.specs.Pieces.{LabelPieces, broken_in, label_of_entry, label_pieces, text_pieces}
use Rattle.snippet_labels.specs.Positions.{is_placed_before}
use Rattle.snippet_lines.specs.OrderedBy.{ordered_by}
use Rattle.snippet_text.specs.Normalized.{normalized_chars}
use Rattle.snippet_strokes.proofs.Common.{common_steps}
use Rattle.std.proofs.lemmas.List.Splits.{slice_split_none}

-- the layout, where labels are cut or aren't
abbrev pub with_cut : Bool → Layout → Layout
with_cut cut layout = record layout { label_lines = cut }

-- a label of one line
abbrev pub IsPlainEntry : LineAnnotation → Type 0
IsPlainEntry e = All (λ c. (c == 10) ≡ false) (normalized_chars e.label)

module _ (layout : Layout) (none : layout.label_end ≡ 0) (cut : Bool) where
  -- it has one piece, where none is broken
  piece_sole : (cell : ℕ) (text : List ℕ) → All (λ c. (c == 10) ≡ false) text → label_pieces (with_cut cut layout) cell text ≡ text ∷ []
  piece_sole cell text plain = by_cut cut
    where
      no_room : layout.label_end - cell ≡ 0
      no_room = omega (arith, none)

      by_cut : (b : Bool) → label_pieces (with_cut b layout) cell text ≡ text ∷ []
      by_cut true = ap (λ n. text_pieces true (broken_in n text)) no_room ∙ slice_split_none (λ c. c == 10) text plain
      by_cut false = refl

  label_same : (e : LineAnnotation) → IsPlainEntry e → label_of_entry (with_cut cut layout) e ≡ label_of_entry (with_cut false layout) e
  label_same e plain = grind (arith, common_steps, and-false, LabelPieces-is, piece_sole)

  abbrev bare : Bool → LineAnnotation → PlacedEntry
  bare b e = record { entry = e; label = label_of_entry (with_cut b layout) e; position = 0; looked = 0 }

  bare_same : (es : List LineAnnotation) → All IsPlainEntry es → map (bare cut) es ≡ map (bare false) es
  bare_same [] plain = refl
  bare_same (e ∷ es) plain =
      ap (λ (label : LabelPieces). record { entry = e; label = label; position = 0; looked = 0 } ∷ map (bare cut) es)
      (label_same e (All-head IsPlainEntry e es plain))
      ∙ ap (λ ps. bare false e ∷ ps) (bare_same es (All-tail IsPlainEntry e es plain))

  -- so the entries of a line are placed as they are where labels aren't cut
  pub placed_same : (es : List LineAnnotation) → All IsPlainEntry es → placed_of (with_cut cut layout) es ≡ placed_of (with_cut false layout) es
  placed_same es plain =
      let ordered : List LineAnnotation = ordered_by is_placed_before es in
      ap (λ (ps : List PlacedEntry). map (λ found. record found.0 { position = found.1.0; looked = found.1.1 })
      (zip ps (zip (line_positions ps) (look_counts 0 ps))))
      (bare_same ordered (All-permutation IsPlainEntry es ordered (IsPermutation-ordered_by is_placed_before es) plain))

  -- and none is broken
  unbroken : (b : Bool) → breaks_labels (with_cut b layout) ≡ false
  unbroken b = ap (λ n. b && nat_lt 0 n) none ∙ and-false b

  -- and its rows are the same
  rows_same : (room : ℕ) (closes : Bool) (es : List LineAnnotation) (source : List Cell) → All IsPlainEntry es
      → stroke_rows (with_cut cut layout) room closes es source ≡ stroke_rows (with_cut false layout) room closes es source
  rows_same room closes es source plain =
      ap (λ b. rows_with b (placed_of (with_cut cut layout) es)) (unbroken cut) ∙ ap (rows_with false) (placed_same es plain)
      ∙ sym (ap (λ b. rows_with b (placed_of (with_cut false layout) es)) (unbroken false))
    where
      -- what is cut where labels are broken or not
      pairs_by : Bool → List PlacedEntry → List (PlacedEntry × Bool)
      pairs_by breaks placed =
          let order = painting_order placed in
          zip order (map (λ pair. pair.1 || (breaks
          || list_any (λ f. f.position == 0 && (nat_le pair.0.entry.start.display f.entry.start.display && nat_lt 1 (length (pieces_of f)))) order))
          (zip order (overlapped placed)))

      -- the rows of a line whose entries are placed so
      rows_with : Bool → List PlacedEntry → List (List Cell)
      rows_with breaks placed =
          let count = row_count placed in
          let below = replicate (count - 1) (separator_row layout.decor layout.gutter) ++ bare_row layout.decor layout.gutter closes ∷ [] in
          let whole = painted (line_strokes (with_cut cut layout) 0 (count + 1) placed (painting_order placed)) (source ∷ below) in
          map (λ row. fold (cut_middle (with_cut cut layout) room) row (pairs_by breaks placed)) (take 2 whole) ++ drop 2 whole

  own_same : (room : ℕ) (closes : Bool) (text : List ℕ) (dropped : ℕ) (es : List LineAnnotation) (source : List Cell) → All IsPlainEntry es
      → own_rows (with_cut cut layout) room closes text dropped es source ≡ own_rows (with_cut false layout) room closes text dropped es source
  own_same room closes text dropped [] source plain = refl
  own_same room closes text dropped (e ∷ es) source plain =
      let all : List LineAnnotation = e ∷ es in
      let entries : List LineAnnotation = map (shifted dropped) all in
      -- nothing is cut out of them first
      let rows_of : Bool → Line → List (List Cell) = λ b line.
      stroke_rows (with_cut b layout) room closes line.0 (middles_replaced (with_cut b layout) room line.1 source) in
      ap (λ rows. if list_all (is_beside text) all then with_bars layout (λ strokes. strokes.whole_line) (ends_of_bars all) source ∷ [] else rows)
      (ap (rows_of cut) (unbroken_same (with_cut cut layout) room entries (unbroken cut))
      ∙ rows_same room closes entries source (All-map IsPlainEntry (shifted dropped) all plain)
      ∙ sym (ap (rows_of false) (unbroken_same (with_cut false layout) room entries (unbroken false))))

  -- those of a line of which columns are dropped too, over which bars run
  pub line_same : (room : ℕ) (closes : Bool) (text : List ℕ) (dropped : ℕ) (open_bars : List OpenBar) (es : List LineAnnotation) (source : List Cell)
      → All IsPlainEntry es
      → line_rows (with_cut cut layout) room closes text dropped open_bars es source
      ≡ line_rows (with_cut false layout) room closes text dropped open_bars es source
  line_same room closes text dropped open_bars es source plain =
      ap (map (with_bars layout (λ strokes. strokes.bar) (bars_apart open_bars (ends_of_bars es)))) (own_same room closes text dropped es source plain)
