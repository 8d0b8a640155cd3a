-- The rows of lines, computed on small inputs. Each row is written out by hand from the rules of drawing.
use Rattle.snippet_strokes.proofs.Common.{◌≡◌, ℕ, true, false, Option, None, Some, List, [], ◌∷◌, ◌++◌, codes, refl, AnnotationKind, Primary}
use Rattle.snippet_strokes.proofs.Common.{Context, norm, Cell, text_cells, written, Ascii, LabelPrimary, LabelSecondary, LineNumber, NoStyle, Quotation}
use Rattle.snippet_strokes.proofs.Common.{UnderlinePrimary, UnderlineSecondary, LineAnnotation, LineAnnotationType, Singleline, MultilineStart, Layout}
use Rattle.snippet_strokes.proofs.Common.{source_row, line_rows, highlighted_row, drop}
use Rattle.std.specs.Str.{chars}

-- an entry of these columns, each of one character
abbrev entry : AnnotationKind → ℕ → ℕ → Option (List ℕ) → LineAnnotationType → LineAnnotation
entry kind from to label part = record {
  start = record { line = 1; char = from; display = from; byte = from };
  end = record
      { line = 1; char = to; display = to; byte = to };
  kind = kind;
  label = label;
  annotation_type = part;
  highlight_source = true;
}

-- numbers of one digit, and the code in this cell
abbrev layout_to : ℕ → Layout
layout_to code = record { gutter = 1; code = code; decor = Ascii; label_lines = false; label_end = 0 }

abbrev text : List ℕ
text = codes "ab cd"

-- the source row of that text, and what stands left in every row below it
abbrev source : ℕ → List Cell
source code = source_row (layout_to code) (codes "1") (text_cells Quotation text)

abbrev separated : List Cell
separated = text_cells NoStyle (codes "  ") ++ text_cells LineNumber (codes "|") ++ text_cells NoStyle (codes " ")

-- `1 | ab cd`
source_is : source 4 ≡ text_cells LineNumber (codes "1") ++ text_cells NoStyle (codes " ") ++ text_cells LineNumber (codes "|")
    ++ text_cells NoStyle (codes " ") ++ text_cells Quotation (codes "ab cd")
unfolding written
source_is = refl

-- two labelled spans: the label of the one farther right stands after its mark, and that of the other, which would reach into it, hangs
-- `1 | ab cd`
-- `  | -- ^^ y`
-- `  | |`
-- `  | x`
two_labels : line_rows (layout_to 4) 140 false text 0 [] (entry Context 0 2 (Some (codes "x")) Singleline ∷ entry Primary 3 5
    (Some (codes "y")) Singleline ∷ []) (source 4) ≡
    source 4
    ∷ (separated ++ text_cells UnderlineSecondary (codes "--") ++ text_cells NoStyle (codes " ") ++ text_cells UnderlinePrimary (codes "^^")
    ++ text_cells NoStyle (codes " ") ++ text_cells LabelPrimary (codes "y"))
    ∷ (separated ++ text_cells UnderlineSecondary (codes "|"))
    ∷ (separated ++ text_cells LabelSecondary (codes "x"))
    ∷ []
unfolding chars norm written lib.Utf8.encode
two_labels = refl

-- the start of a span of several lines, whose bar has depth 2, beside a bar of depth 1 that runs past: in Ascii the corner is a space
-- `1 | |  ab cd`
-- `  | | ____^`
start_beside_bar : line_rows (layout_to 7) 140 false text 0 (record { depth = 1; primary = false } ∷ []) (entry Primary 3 4 None (MultilineStart 2) ∷ [])
    (source 7) ≡
    (text_cells LineNumber (codes "1") ++ text_cells NoStyle (codes " ") ++ text_cells LineNumber (codes "|") ++ text_cells NoStyle (codes " ")
    ++ text_cells UnderlineSecondary (codes "|") ++ text_cells NoStyle (codes "  ") ++ text_cells Quotation text)
    ∷ (separated ++ text_cells UnderlineSecondary (codes "|") ++ text_cells UnderlinePrimary (codes " ____^"))
    ∷ []
unfolding chars written
start_beside_bar = refl

-- a line that begins with its span is marked as a whole: the top of the bar stands beside it, and no row below
-- `1 | / ab cd`
whole_line : line_rows (layout_to 6) 140 false text 0 [] (entry Primary 0 1 None (MultilineStart 1) ∷ []) (source 6) ≡
    (text_cells LineNumber (codes "1") ++ text_cells NoStyle (codes " ") ++ text_cells LineNumber (codes "|") ++ text_cells NoStyle (codes " ")
    ++ text_cells UnderlinePrimary (codes "/") ++ text_cells NoStyle (codes " ") ++ text_cells Quotation text)
    ∷ []
unfolding written
whole_line = refl

-- the characters of a primary entry get the role of its marks
two_highlighted : highlighted_row 1 0 (entry Primary 0 2 None Singleline ∷ []) (text_cells NoStyle (codes " ") ++ text_cells Quotation text)
    ≡ text_cells NoStyle (codes " ") ++ text_cells UnderlinePrimary (codes "ab") ++ text_cells Quotation (codes " cd")
two_highlighted = refl

-- ---- labels that are cut at their line feeds

abbrev cut : Layout
cut = record (layout_to 4) { label_lines = true }

abbrev lines_below : List LineAnnotation → List (List Cell)
lines_below es = drop 1 (line_rows cut 140 false text 0 [] es (source 4))

-- a label of two pieces after its mark
-- `1 | ab cd`
-- `  |    ^^ a`
-- `  |       b`
two_pieces : lines_below (entry Primary 3 5 (Some (codes "a" ++ 10 ∷ codes "b")) Singleline ∷ []) ≡
    (separated ++ text_cells NoStyle (codes "   ") ++ text_cells UnderlinePrimary (codes "^^") ++ text_cells NoStyle (codes " ")
    ++ text_cells LabelPrimary (codes "a"))
    ∷ (separated ++ text_cells NoStyle (codes "      ") ++ text_cells LabelPrimary (codes "b"))
    ∷ []
unfolding chars norm written lib.Utf8.encode
two_pieces = refl

-- an empty piece has its row
-- `1 | ab cd`
-- `  | ^^ a`
-- `  |`
-- `  |    b`
empty_piece : lines_below (entry Primary 0 2 (Some (codes "a" ++ 10 ∷ 10 ∷ codes "b")) Singleline ∷ []) ≡
    (separated ++ text_cells UnderlinePrimary (codes "^^") ++ text_cells NoStyle (codes " ") ++ text_cells LabelPrimary (codes "a"))
    ∷ (text_cells NoStyle (codes "  ") ++ text_cells LineNumber (codes "|"))
    ∷ (separated ++ text_cells NoStyle (codes "   ") ++ text_cells LabelPrimary (codes "b"))
    ∷ []
unfolding chars norm written lib.Utf8.encode
empty_piece = refl

-- beside it a label hangs that begins farther left: below both pieces, its stem left of them
-- `1 | ab cd`
-- `  | -- ^^ a`
-- `  | |     b`
-- `  | |`
-- `  | x`
-- `  | y`
hangs_below : lines_below (entry Context 0 2 (Some (codes "x" ++ 10 ∷ codes "y")) Singleline ∷ entry Primary 3 5
    (Some (codes "a" ++ 10 ∷ codes "b")) Singleline ∷ []) ≡
    (separated ++ text_cells UnderlineSecondary (codes "--") ++ text_cells NoStyle (codes " ") ++ text_cells UnderlinePrimary (codes "^^")
    ++ text_cells NoStyle (codes " ") ++ text_cells LabelPrimary (codes "a"))
    ∷ (separated ++ text_cells UnderlineSecondary (codes "|") ++ text_cells NoStyle (codes "     ") ++ text_cells LabelPrimary (codes "b"))
    ∷ (separated ++ text_cells UnderlineSecondary (codes "|"))
    ∷ (separated ++ text_cells LabelSecondary (codes "x"))
    ∷ (separated ++ text_cells LabelSecondary (codes "y"))
    ∷ []
unfolding chars norm written lib.Utf8.encode
hangs_below = refl

-- two labels of one span: the second hangs below both pieces of the first
-- `1 | ab cd`
-- `  |    ^^`
-- `  |    |`
-- `  |    a`
-- `  |    b`
-- `  |    c`
one_below_another : lines_below (entry Primary 3 5 (Some (codes "a" ++ 10 ∷ codes "b")) Singleline ∷ entry Context 3 5
    (Some (codes "c")) Singleline ∷ []) ≡
    (separated ++ text_cells NoStyle (codes "   ") ++ text_cells UnderlinePrimary (codes "^^"))
    ∷ (separated ++ text_cells NoStyle (codes "   ") ++ text_cells UnderlineSecondary (codes "|"))
    ∷ (separated ++ text_cells NoStyle (codes "   ") ++ text_cells LabelPrimary (codes "a"))
    ∷ (separated ++ text_cells NoStyle (codes "   ") ++ text_cells LabelPrimary (codes "b"))
    ∷ (separated ++ text_cells NoStyle (codes "   ") ++ text_cells LabelSecondary (codes "c"))
    ∷ []
unfolding chars norm written lib.Utf8.encode
one_below_another = refl
