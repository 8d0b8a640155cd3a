-- The rows of a line that painters promise are those that the graphic form has for it.
use Rattle.std.proofs.lemmas.Grind.{common_steps}
use Rattle.annotate_snippets.proofs.Common.{◌≡◌, ℕ, ◌+◌, ◌==◌, ◌&&◌, Bool, true, false, cond, nat_lt, List, [], ◌∷◌, ◌++◌, length}
use Rattle.annotate_snippets.proofs.Common.{map, refl, sym, ap, ◌∙◌, arith, nat_tests, length-map, Annotation, Snippet, norm, shown_number}
use Rattle.annotate_snippets.proofs.Common.{KeptLine, kept_line, seen_kept, AnnotatedLineInfo, LineAnnotation, Bar, open_past, gap_row, shown_rows}
use Rattle.annotate_snippets.proofs.Common.{gap_rows, info_rows, infos_rows, open_below, LineView, Renderer, Layout, gap_below, margin_in, named_line}
use Rattle.annotate_snippets.proofs.Common.{rows_of_line, rows_of_lines, line_numbers, numbered_source, Elision, NamedRow, cells_of}
use Rattle.std.proofs.Common.{chars}
use Rattle.annotate_snippets.proofs.LineWords.{bars_on}
use Rattle.annotate_snippets.proofs.DrawnLines.{bars_seen}
use Rattle.annotate_snippets.proofs.LabelLemmas.{head_same, tail_same}
use Rattle.annotate_snippets.proofs.NamedRows.{cells_of-append, cells_of-line}

module _ (r : Renderer) (layout : Layout) (s : Snippet Annotation) where
  -- the rows of a line that is seen as line k are the form's
  line_value : (closes : Bool) (open_bars : List Bar) (k : ℕ) (info : AnnotatedLineInfo) → seen_kept info ≡ kept_line (numbered_source s) s.markers.items k
      → shown_rows layout (margin_in r layout s) closes open_bars (shown_number (line_numbers r s.line_numbering) layout.gutter info.line_index)
      (norm (chars info.line.now)) info.annotations.items ≡ rows_of_line r layout closes s open_bars k
  line_value closes open_bars k info seen =
      ap (λ (l : KeptLine). shown_rows layout (margin_in r layout s) closes open_bars
      (shown_number (line_numbers r s.line_numbering) layout.gutter l.number) (norm (chars l.text)) l.parts) seen

  -- the row between two lines is that of the form
  gap_value : (open_bars : List Bar) (j : ℕ) (info : AnnotatedLineInfo) (ks : List ℕ) (infos : List AnnotatedLineInfo)
      → seen_kept info ≡ kept_line (numbered_source s) s.markers.items j → map seen_kept infos ≡ map (kept_line (numbered_source s) s.markers.items) ks
      → gap_rows layout open_bars info.line_index infos ≡ cells_of (gap_below r layout open_bars j ks)
  gap_value open_bars j info [] [] here same = refl
  gap_value open_bars j info [] (next ∷ infos) here same = cc
  gap_value open_bars j info (k ∷ ks) [] here same = cc
  gap_value open_bars j info (k ∷ ks) (next ∷ infos) here same = grind (arith, common_steps, head_same, shifted, either)
    where
      shifted : (by m n : ℕ) → nat_lt (by + m + 1) (by + n) ≡ nat_lt (m + 1) n
      shifted by m n = grind (arith, nat_tests)

      either : (b : Bool) → cond b (gap_row layout open_bars ∷ []) []
          ≡ cells_of (cond b (record { name = Elision; cells = gap_row layout open_bars } ∷ []) [])
      either true = refl
      either false = refl

  -- so the rows of lines that are seen as these are the form's
  pub lines_value : (view : LineView) → view.margin ≡ margin_in r layout s → view.numbers ≡ line_numbers r s.line_numbering → (open_bars : List Bar)
      (ks : List ℕ) (infos : List AnnotatedLineInfo) → map seen_kept infos ≡ map (kept_line (numbered_source s) s.markers.items) ks
      → infos_rows layout view open_bars infos ≡ cells_of (rows_of_lines r layout view.closes s open_bars ks)
  lines_value view margin numbers open_bars [] [] same = refl
  lines_value view margin numbers open_bars [] (info ∷ infos) same = cc
  lines_value view margin numbers open_bars (k ∷ ks) [] same = cc
  lines_value view margin numbers open_bars (k ∷ ks) (info ∷ infos) same =
      let line_of : ℕ → KeptLine = kept_line (numbered_source s) s.markers.items in
      let here : seen_kept info ≡ line_of k = head_same (seen_kept info) (line_of k) (map seen_kept infos) (map line_of ks) same in
      let further : map seen_kept infos ≡ map line_of ks = tail_same (seen_kept info) (line_of k) (map seen_kept infos) (map line_of ks) same in
      let es : List LineAnnotation = info.annotations.items in
      let past : List Bar = open_past open_bars (bars_on s k) in
      let past_is : open_below open_bars es ≡ past = ap (open_past open_bars) (bars_seen s k es (ap (λ (l : KeptLine). l.parts) here)) in
      let last : Bool = view.closes && length infos == 0 in
      let closes : Bool = view.closes && length ks == 0 in
      let last_is : last ≡ closes = grind (arith, common_steps, length-map, seen_kept, further, line_of, view.closes) in
      let text : List ℕ = norm (chars info.line.now) in
      let own : info_rows layout (record view { closes = last }) open_bars info ≡ rows_of_line r layout closes s open_bars k =
      cc (margin, numbers, line_value last open_bars k info here, last_is) in
      let first : List NamedRow = named_line k (rows_of_line r layout closes s open_bars k) in
      let gap : List NamedRow = gap_below r layout past k ks in
      let rest : List NamedRow = rows_of_lines r layout view.closes s past ks in
      ap (λ rows. rows ++ (gap_rows layout (open_below open_bars es) info.line_index infos ++ infos_rows layout view (open_below open_bars es) infos)) own
      ∙ ap (λ bars. rows_of_line r layout closes s open_bars k ++ (gap_rows layout bars info.line_index infos ++ infos_rows layout view bars infos)) past_is
      ∙ ap (λ rows. rows_of_line r layout closes s open_bars k ++ (rows ++ infos_rows layout view past infos)) (gap_value past k info ks infos here further)
      ∙ ap (λ rows. rows_of_line r layout closes s open_bars k ++ (cells_of gap ++ rows)) (lines_value view margin numbers past ks infos further)
      ∙ sym (cells_of-append first (gap ++ rest) ∙ ap (λ rows. rows ++ cells_of (gap ++ rest)) (cells_of-line k (rows_of_line r layout closes s open_bars k))
      ∙ ap (λ rows. rows_of_line r layout closes s open_bars k ++ rows) (cells_of-append gap rest))
