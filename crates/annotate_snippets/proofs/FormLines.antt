-- The rows of a snippet's lines, read one by one: each source row with those below it is all rows of its line.
use Rattle.std.proofs.lemmas.Grind.{common_steps}
use Rattle.annotate_snippets.proofs.Common.{◌≡◌, ℕ, ◌+◌, ◌<◌, ◌==◌, ◌&&◌, cond, nat_lt, Bool, List, [], ◌∷◌, ◌++◌, length, map, refl, sym, ap}
use Rattle.annotate_snippets.proofs.Common.{subst, ◌∙◌, arith, cow_str_bytes, Annotation, Snippet, Cell, norm, width_of, chars_at, dropped_part, Margin, Bar}
use Rattle.annotate_snippets.proofs.Common.{open_past, Layout, Renderer, gap_below, margin_in, named_line, rows_of_line, rows_of_lines, Elision}
use Rattle.annotate_snippets.proofs.Common.{NamedRow, OfferedLine, Other, RemovedLine, RowName, SourceRow, others, rows_below, shows_lines}
use Rattle.std.proofs.Common.{filter}
use Rattle.annotate_snippets.proofs.LineWords.{bars_on, entries_on}
use Rattle.annotate_snippets.proofs.LabelLemmas.{head_same, tail_same}
use Rattle.annotate_snippets.proofs.LineRowValues.{line_rows-some}
use Rattle.annotate_snippets.proofs.PageLemmas.{below-own}

-- the names of some rows, from top to bottom, without those of rows that show something else
abbrev pub names_in : List NamedRow → List RowName
names_in rows = filter shows_lines (map (λ (row : NamedRow). row.name) rows)

-- the names of the rows that show these lines: the source row of each, and between two of them one row where lines are left
-- out
abbrev pub names_of_lines : List ℕ → List RowName
names_of_lines [] = []
names_of_lines (j ∷ []) = SourceRow j ∷ []
names_of_lines (j ∷ k ∷ ks) =
    cond (nat_lt (j + 1) k) (SourceRow j ∷ Elision ∷ names_of_lines (k ∷ ks)) (SourceRow j ∷ names_of_lines (k ∷ ks))

module _ (r : Renderer) (layout : Layout) (s : Snippet Annotation) where
  -- a source row with those below it is all rows of its line, for some bars that are open above it
  pub record IsWholeLine (k : ℕ) (row : List Cell) (rows : List NamedRow) : Type 0 where
    pub closes : Bool
    pub open_bars : List Bar
    pub are : row ∷ rows_below rows ≡ rows_of_line r layout closes s open_bars k

  -- a row of this name is such a one; or it stands in place of lines, and no row belongs to it
  abbrev pub IsLineOf : RowName → List Cell → List NamedRow → Type 0
  IsLineOf (SourceRow k) row rows = IsWholeLine k row rows
  IsLineOf Elision row rows = rows_below rows ≡ []
  IsLineOf (OfferedLine j) row rows = Unit {0}
  IsLineOf (RemovedLine i) row rows = Unit {0}
  IsLineOf Other row rows = Unit {0}

  -- each row is
  abbrev AreLinesOf : List NamedRow → Type 0
  AreLinesOf [] = Unit {0}
  AreLinesOf (row ∷ rows) = IsLineOf row.name row.cells rows × AreLinesOf rows

  others_below : (below : List (List Cell)) (rows : List NamedRow) → AreLinesOf rows → AreLinesOf (others below ++ rows)
  others_below [] rows are = are
  others_below (row ∷ below) rows are = (tt, others_below below rows are)

  -- rows of which the first belong to no line above them, and each is
  record IsBegun (rows : List NamedRow) : Type 0 where
    begins : rows_below rows ≡ []
    are : AreLinesOf rows

  line_begun : (closes : Bool) (open_bars : List Bar) (k : ℕ) (own : List (List Cell)) → own ≡ rows_of_line r layout closes s open_bars k
      → (rows : List NamedRow) → IsBegun rows → IsBegun (named_line k own ++ rows)
  line_begun closes open_bars k [] is rows rest = rest
  line_begun closes open_bars k (row ∷ below) is rows rest =
      record {
        begins = refl;
        are = (
          record { closes = closes; open_bars = open_bars; are = ap (λ rs. row ∷ rs) (below-own below rows rest.begins) ∙ is },
          others_below below rows rest.are,
        );
      }

  gap_begun : (open_bars : List Bar) (j : ℕ) (ks : List ℕ) (rows : List NamedRow) → IsBegun rows → IsBegun (gap_below r layout open_bars j ks ++ rows)
  gap_begun open_bars j [] rows rest = rest
  gap_begun open_bars j (k ∷ ks) rows rest = grind (arith, common_steps)

  lines_begun : (closes : Bool) (open_bars : List Bar) (ks : List ℕ) → IsBegun (rows_of_lines r layout closes s open_bars ks)
  lines_begun closes open_bars [] = record { begins = refl; are = tt }
  lines_begun closes open_bars (k ∷ ks) =
      let past : List Bar = open_past open_bars (bars_on s k) in
      line_begun _ open_bars k _ refl _ (gap_begun past k ks (rows_of_lines r layout closes s past ks) (lines_begun closes past ks))

  -- what is known of each is known of one among them
  one_of : (rows : List NamedRow) → AreLinesOf rows → (above : List NamedRow) (row : NamedRow) (below : List NamedRow) → rows ≡ above ++ row ∷ below
      → IsLineOf row.name row.cells below
  one_of [] are [] row below is = cc
  one_of [] are (y ∷ above) row below is = cc
  one_of (x ∷ rows) are [] row below is = grind (arith, tail_same, head_same, row.name, row.cells, are.0)
  one_of (x ∷ rows) are (y ∷ above) row below is = one_of rows are.1 above row below (tail_same x y rows (above ++ row ∷ below) is)

  -- so it is known of each row of a snippet's lines
  pub line_of_rows : (closes : Bool) (open_bars : List Bar) (ks : List ℕ) (above : List NamedRow) (row : NamedRow) (below : List NamedRow)
      → above ++ row ∷ below ≡ rows_of_lines r layout closes s open_bars ks → (name : RowName) → row.name ≡ name → IsLineOf name row.cells below
  line_of_rows closes open_bars ks above row below are name named =
      subst (λ n. IsLineOf n row.cells below) named
      (one_of (rows_of_lines r layout closes s open_bars ks) (lines_begun closes open_bars ks).are above row below (sym are))

  -- no row that shows no line stands above the first of them
  pub none_above : (closes : Bool) (open_bars : List Bar) (ks : List ℕ) → rows_below (rows_of_lines r layout closes s open_bars ks) ≡ []
  none_above closes open_bars ks = (lines_begun closes open_bars ks).begins

  -- a line has a row at least
  line_some : (closes : Bool) (open_bars : List Bar) (k : ℕ) → 0 < length (rows_of_line r layout closes s open_bars k)
  line_some closes open_bars k =
      let margin : Margin = margin_in r layout s in
      let text : List ℕ = norm (chars_at (cow_str_bytes s.source.text) k) in
      line_rows-some layout margin.term_width closes text (width_of (dropped_part margin.computed_left text)) _ open_bars (entries_on s k)

  -- and these are the names of those that show lines, or stand in place of lines
  pub names_of_rows : (closes : Bool) (open_bars : List Bar) (ks : List ℕ) → names_in (rows_of_lines r layout closes s open_bars ks) ≡ names_of_lines ks
  names_of_rows closes open_bars [] = refl
  names_of_rows closes open_bars (k ∷ ks) =
      let past : List Bar = open_past open_bars (bars_on s k) in
      let own : List (List Cell) = rows_of_line r layout (closes && length ks == 0) s open_bars k in
      let rest : List NamedRow = rows_of_lines r layout closes s past ks in
      line_name k own (gap_below r layout past k ks ++ rest) (line_some (closes && length ks == 0) open_bars k)
      ∙ gap_name past k ks rest (names_of_rows closes past ks)
    where
      others_name : (below : List (List Cell)) (rows : List NamedRow) → names_in (others below ++ rows) ≡ names_in rows
      others_name [] rows = refl
      others_name (row ∷ below) rows = others_name below rows

      line_name : (k : ℕ) (own : List (List Cell)) (rows : List NamedRow) → 0 < length own → names_in (named_line k own ++ rows) ≡ SourceRow k ∷ names_in rows
      line_name k [] rows some = absurd (omega (arith, some))
      line_name k (row ∷ below) rows some = ap (λ names. SourceRow k ∷ names) (others_name below rows)

      gap_name : (open_bars : List Bar) (j : ℕ) (ks : List ℕ) (rows : List NamedRow) → names_in rows ≡ names_of_lines ks
          → SourceRow j ∷ names_in (gap_below r layout open_bars j ks ++ rows) ≡ names_of_lines (j ∷ ks)
      gap_name open_bars j [] rows named = ap (λ names. SourceRow j ∷ names) named
      gap_name open_bars j (k ∷ ks) rows named = grind (arith, common_steps)
