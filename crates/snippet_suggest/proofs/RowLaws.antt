-- What each row of a suggestion shows, by the cells that it holds.
use Rattle.snippet_suggest.proofs.Common.{◌≡◌, ℕ, ◌+◌, ◌-◌, ◌^◌, ◌<◌, ◌≤◌, Bool, true, false, if◌then◌else◌, min, nat_le, All, List, [], ◌∷◌, ◌++◌, length, map}
use Rattle.snippet_suggest.proofs.Common.{replicate, refl, sym, ap, ◌∙◌, arith, inl, inr, subst, is_ascii_alphanumeric, list_all, list_any, slice_index_or}
use Rattle.snippet_suggest.proofs.Common.{All-replicate, DecorStyle, Ascii, Unicode, SuggestionGlyph, ElementStyle, Addition, LineNumber, NoStyle, Removal}
use Rattle.snippet_suggest.proofs.Common.{Cell, SPACE, placeholder_of, removed_sign_of, suggestion_glyph_of, suggestion_role_of, changed_within, restyled}
use Rattle.snippet_suggest.proofs.Common.{separator_cell, row_text, is_listed, norm, width_of, list_any-norm, Source, shown_number, shown_number_unlisted}
use Rattle.snippet_suggest.proofs.Common.{each_fails, Edit, SubstitutionHighlight, DisplaySuggestion, SuggestionLayout, SuggestionStart, Next, Opening, Path}
use Rattle.snippet_suggest.proofs.Common.{PatchColumns, begin_cells, end_cells, gap_cells, line_cells, offered_cells, put, removed_cells, sign_alone}
use Rattle.snippet_suggest.proofs.Common.{sign_among, sign_of, stretch_cell, with_stretches, max_column, edit_columns, mark_glyph_of, mark_start}
use Rattle.snippet_suggest.proofs.Common.{patch_mark_end, with_mark, with_marks, IsBareRow, IsMarkOrSpace, IsSign, begin_glyph, beside_gutter, end_glyph}
use Rattle.snippet_suggest.proofs.Common.{gap_left, is_stroke, IsEdgeRow, IsLineRow, IsRowOfRemoved, IsUnder, common_steps, rules}
use Rattle.std.proofs.Common.{chars}
use Rattle.snippet_style.specs.declared.glyphs.SuggestionGlyph.TheVariants as sign
use Rattle.snippet_suggest.proofs.BareLemmas.{stroke_blank, stroke_led, stroke_none, stroke_put}
use Rattle.snippet_suggest.proofs.GlyphLemmas.{glyph_plain, glyph_short, glyph_unlisted, is_sign, sign_first, sign_second}
use Rattle.snippet_suggest.proofs.LeftOver.{IsBeforeSign, IsLeftOver, number_before, number_left}
use Rattle.snippet_suggest.proofs.PutLemmas.{glyph_some, placeholder_some}
use Rattle.snippet_suggest.proofs.PutRows.{put_after, put_alone, put_before, put_begun, put_cell, put_covers, put_ends, put_free, put_grows, put_inside}
use Rattle.snippet_suggest.proofs.PutRows.{put_long, put_stands, put_take, put_within}
use Rattle.snippet_suggest.proofs.RepaintLemmas.{changed_same, same_line, same_removed, without_role}

-- ---- a line that is offered

-- none of the characters of a normalised text is listed
norm_without_listed : (line : List ℕ) → All (λ c. is_listed c ≡ false) (norm (chars line))
norm_without_listed line = each_fails is_listed (norm (chars line)) (list_any-norm (chars line))

-- a row that takes roles by stretches keeps its characters
pub with_same : (role : ElementStyle) (gutter : ℕ) (cs : List ℕ) (ss : List SubstitutionHighlight) (row : List Cell)
    → map without_role (with_stretches role gutter cs ss row) ≡ map without_role row
unfolding with_stretches
with_same role gutter cs [] row = refl
with_same role gutter cs (s ∷ ss) row =
    with_same role gutter cs ss (changed_within (restyled role true) (stretch_cell gutter cs s.start) (stretch_cell gutter cs s.end) row)
    ∙ changed_same role row (stretch_cell gutter cs s.start) (stretch_cell gutter cs s.end)

-- the row of a line offers it, if its number ends before the sign
pub line_shows : (layout : SuggestionLayout) (glyph : SuggestionGlyph) (number : ℕ) (line : List ℕ) → is_sign glyph ≡ true → number < 2 ^ 64
    → length (shown_number layout.numbers layout.base.gutter number) ≤ separator_cell layout.base
    → IsLineRow layout.base.decor layout.base.gutter (shown_number layout.numbers layout.base.gutter number) (norm (chars line))
    (line_cells layout glyph number line)
unfolding line_cells
line_shows layout glyph number line is small fits =
    let g : ℕ = layout.base.gutter in
    let decor : DecorStyle = layout.base.decor in
    let cs : List ℕ = suggestion_glyph_of decor glyph in
    let digits : List ℕ = shown_number layout.numbers g number in
    let text : List ℕ = norm (chars line) in
    let signed : List Cell = put (suggestion_role_of glyph) cs (g + 1) [] in
    let numbered : List Cell = put LineNumber digits 0 signed in
    let row : List Cell = put NoStyle text (g + 3) numbered in
    let Bare : Cell → Type 0 = λ cell. is_ascii_alphanumeric cell.ch ≡ false in
    let long : g + 1 + length cs ≤ length signed = put_long (suggestion_role_of glyph) cs (g + 1) [] (glyph_some decor glyph) in
    let grown : length signed ≤ length numbered = put_grows LineNumber digits 0 signed in
    let short : length signed ≤ g + 3 = put_within (suggestion_role_of glyph) cs (g + 1) (g + 3) [] (omega arith) (omega (arith, glyph_short decor glyph)) in
    let kept : (c : ℕ) → length digits ≤ c → c < g + 3 → slice_index_or row c SPACE ≡ slice_index_or signed c SPACE = λ c after left.
    put_before NoStyle text (g + 3) c numbered left ∙ put_after LineNumber digits 0 c signed (omega (arith, after)) in
    record {
      numbered = ap row_text (put_take NoStyle text (g + 3) (length digits) numbered (omega (arith, fits)) (omega (arith, fits, long, grown)))
          ∙ put_stands LineNumber digits 0 signed;
      beside = λ c after left. subst Bare (sym (kept c after left))
          (put_cell Bare (suggestion_role_of glyph) cs (g + 1) c [] refl (each_fails is_ascii_alphanumeric cs (glyph_plain decor glyph)));
      sign = subst (IsSign decor) (sym (ap (λ (cell : Cell). cell.ch) (kept (g + 1) fits (omega arith))
          ∙ put_alone (suggestion_role_of glyph) cs (g + 1) (g + 1) 0 (omega arith))) (sign_first decor glyph is);
      space = ap (λ (cell : Cell). cell.ch) (kept (g + 2) (omega (arith, fits)) (omega arith))
          ∙ put_alone (suggestion_role_of glyph) cs (g + 1) (g + 2) 1 (omega arith) ∙ sign_second decor glyph is;
      holds = put_ends NoStyle text (g + 3) numbered (put_within LineNumber digits 0 (g + 3) signed short (omega (arith, fits)));
      free = put_free NoStyle text (g + 3) numbered (put_free LineNumber digits 0 signed (put_free (suggestion_role_of glyph) cs (g + 1) []
          (stroke_none decor g).bare.free (each_fails is_listed cs (glyph_unlisted decor glyph)))
          (shown_number_unlisted layout.numbers g number small)) (norm_without_listed line);
    }

-- each sign is one that stands beside a line
alone_is : (kind : DisplaySuggestion) → is_sign (sign_alone kind) ≡ true
alone_is x = grind (arith)

among_is : (line : List ℕ) (ss : List SubstitutionHighlight) → is_sign (sign_among line ss) ≡ true
among_is x y = search rules

either_is : (one : Bool) (a b : SuggestionGlyph) → is_sign a ≡ true → is_sign b ≡ true → is_sign (if one then a else b) ≡ true
either_is x y z u v = grind (arith)

sign_is : (kind : DisplaySuggestion) (count : ℕ) (line : List ℕ) (ss : List SubstitutionHighlight) → is_sign (sign_of kind count line ss) ≡ true
unfolding sign_of
sign_is kind count line ss = either_is (nat_le count 1) (sign_alone kind) (sign_among line ss) (alone_is kind) (among_is line ss)

-- so does that of a line whose new stretches have their role
pub offered_shows : (layout : SuggestionLayout) (kind : DisplaySuggestion) (count number : ℕ) (line : List ℕ) (ss : List SubstitutionHighlight)
    → number < 2 ^ 64 → length (shown_number layout.numbers layout.base.gutter number) ≤ separator_cell layout.base
    → IsLineRow layout.base.decor layout.base.gutter (shown_number layout.numbers layout.base.gutter number) (norm (chars line))
    (offered_cells layout kind count number line ss)
unfolding offered_cells
offered_shows layout kind count number line ss small fits =
    let glyph : SuggestionGlyph = sign_of kind count line ss in
    let row : List Cell = line_cells layout glyph number line in
    same_line layout.base.decor layout.base.gutter (shown_number layout.numbers layout.base.gutter number) (norm (chars line))
    (with_stretches Addition layout.base.gutter (chars line) ss row) row (with_same Addition layout.base.gutter (chars line) ss row)
    (line_shows layout glyph number line (sign_is kind count line ss) small fits)

-- ---- a line that is removed

-- what stands after the gutter and the sign, once a number was put into a row that shows no line
left_over : (layout : SuggestionLayout) (number c : ℕ) (under : List Cell) → number < 2 ^ 64 → layout.base.gutter + 3 ≤ c
    → IsMarkOrSpace layout.base.decor (slice_index_or under c SPACE).ch → IsLeftOver layout.base.decor
    (slice_index_or (put LineNumber (shown_number layout.numbers layout.base.gutter number) 0 under) c SPACE).ch
left_over layout number c under small right marks =
    let digits : List ℕ = shown_number layout.numbers layout.base.gutter number in
    let P : Cell → Type 0 = λ cell. IsLeftOver layout.base.decor cell.ch in
    elim (number_left layout.base.decor layout.numbers layout.base.gutter number small) [
      | inl left ↦ put_cell P LineNumber digits 0 c under (inl marks) left
      | inr short ↦ subst P (sym (put_after LineNumber digits 0 c under (omega (arith, short, right)))) (inl marks)
    ]

-- its row, over one that shows no line or has no cells, shows it as removed
pub removed_shows : (layout : SuggestionLayout) (role : ElementStyle) (number : ℕ) (line : List ℕ) (under : List Cell) → number < 2 ^ 64
    → IsBareRow layout.base.decor layout.base.gutter under → IsRowOfRemoved layout (number, line) (removed_cells layout role number line under)
unfolding removed_cells
removed_shows layout role number line under small bare =
    let g : ℕ = layout.base.gutter in
    let decor : DecorStyle = layout.base.decor in
    let digits : List ℕ = shown_number layout.numbers g number in
    let text : List ℕ = norm (chars line) in
    let numbered : List Cell = put LineNumber digits 0 under in
    let removed : List ℕ = removed_sign_of decor in
    let signed : List Cell = put Removal removed (g + 1) numbered in
    let row : List Cell = put role text (g + 3) signed in
    let Before : Cell → Type 0 = λ cell. IsBeforeSign layout.numbers decor cell.ch in
    let Left : Cell → Type 0 = λ cell. IsLeftOver decor cell.ch in
    let covers : length digits ≤ length numbered = put_covers LineNumber digits under in
    let grown : length numbered ≤ length signed = put_grows Removal removed (g + 1) numbered in
    record {
      numbered = λ short. ap row_text (put_take role text (g + 3) (length digits) signed (omega (arith, short)) (omega (arith, covers, grown))
          ∙ put_take Removal removed (g + 1) (length digits) numbered short covers) ∙ put_stands LineNumber digits 0 under;
      before = λ c left. subst Before (sym (put_before role text (g + 3) c signed (omega (arith, left))
          ∙ put_before Removal removed (g + 1) c numbered (omega (arith, left))))
          (put_cell Before LineNumber digits 0 c under (inl (bare.strokes c (omega (arith, left)))) (number_before decor layout.numbers g number small));
      minus = cc (put_before role text (g + 3) (g + 1) signed (omega arith), put_inside Removal removed (g + 1) (g + 1) 0 numbered (omega arith) (omega arith));
      space = cc (put_before role text (g + 3) (g + 2) signed (omega arith), put_inside Removal removed (g + 1) (g + 2) 1 numbered (omega arith) (omega arith));
      begins = put_stands role text (g + 3) signed;
      after = grind (arith, common_steps, Left, put_after, text, g, signed, removed, numbered, left_over, bare.marks);
      free = put_free role text (g + 3) signed (put_free Removal removed (g + 1) numbered (put_free LineNumber digits 0 under bare.free
          (shown_number_unlisted layout.numbers g number small)) (each_fails is_listed removed refl)) (norm_without_listed line);
    }

-- so does that of a line whose stretches that are replaced have their role
pub replaced_shows : (layout : SuggestionLayout) (role paint : ElementStyle) (number : ℕ) (line : List ℕ) (ss : List SubstitutionHighlight)
    (under : List Cell) → number < 2 ^ 64 → IsBareRow layout.base.decor layout.base.gutter under
    → IsRowOfRemoved layout (number, line) (with_stretches paint layout.base.gutter (chars line) ss (removed_cells layout role number line under))
replaced_shows layout role paint number line ss under small bare =
    let row : List Cell = removed_cells layout role number line under in
    same_removed layout.numbers layout.base.decor layout.base.gutter (shown_number layout.numbers layout.base.gutter number) (norm (chars line))
    (with_stretches paint layout.base.gutter (chars line) ss row) row (with_same paint layout.base.gutter (chars line) ss row)
    (removed_shows layout role number line under small bare)

-- ---- rows that show no line

-- one in place of lines that are left out
pub gap_shows : (layout : SuggestionLayout)
    → IsEdgeRow layout.base.decor layout.base.gutter (gap_left layout.base.decor layout.base.gutter) (gap_cells layout)
unfolding gap_cells
gap_shows layout =
    let g : ℕ = layout.base.gutter in
    let cs : List ℕ = placeholder_of layout.base.decor in
    let at : ℕ = g - width_of cs in
    subst (IsEdgeRow layout.base.decor g (gap_left layout.base.decor g))
    (sym (put_begun LineNumber cs at (placeholder_some layout.base.decor)))
    (stroke_led layout.base.decor g at LineNumber cs (omega (arith, short layout.base.decor)) (strokes layout.base.decor) (unlisted layout.base.decor))
  where
    short : (decor : DecorStyle) → length (placeholder_of decor) ≤ 3
    short Ascii = omega arith
    short Unicode = omega arith

    strokes : (decor : DecorStyle) → list_all (is_stroke decor) (placeholder_of decor) ≡ true
    strokes Ascii = refl
    strokes Unicode = refl

    unlisted : (decor : DecorStyle) → list_any is_listed (placeholder_of decor) ≡ false
    unlisted Ascii = refl
    unlisted Unicode = refl

-- a glyph alone
glyph_alone : (layout : SuggestionLayout) (glyph : SuggestionGlyph) → is_sign glyph ≡ false
    → IsEdgeRow layout.base.decor layout.base.gutter (beside_gutter layout.base.gutter (suggestion_glyph_of layout.base.decor glyph))
    (put LineNumber (suggestion_glyph_of layout.base.decor glyph) (separator_cell layout.base) [])
glyph_alone layout glyph other =
    stroke_put layout.base.decor layout.base.gutter LineNumber glyph [] [] other (omega arith) (stroke_blank layout.base.decor layout.base.gutter)

-- the glyph that joins a suggestion to the one before is as long as what that ends with
next_covers : (decor : DecorStyle) (follows : Bool) → length (end_glyph decor follows) ≤ length (suggestion_glyph_of decor sign.Next)
next_covers x y = grind (arith)

-- the row that a suggestion begins with
pub begin_shows : (layout : SuggestionLayout) (start : SuggestionStart) (under : List Cell) → IsUnder layout.base.decor layout.base.gutter start under
    → IsEdgeRow layout.base.decor layout.base.gutter (beside_gutter layout.base.gutter (begin_glyph layout.base.decor start)) (begin_cells layout start under)
unfolding begin_cells
begin_shows layout Opening under none =
    let Row : List Cell → List Cell = put LineNumber (suggestion_glyph_of layout.base.decor sign.Opening) (separator_cell layout.base) in
    let left : List ℕ = beside_gutter layout.base.gutter (begin_glyph layout.base.decor Opening) in
    subst (λ (row : List Cell). IsEdgeRow layout.base.decor layout.base.gutter left (Row row)) (sym none) (glyph_alone layout sign.Opening refl)
begin_shows layout Next under is =
    stroke_put layout.base.decor layout.base.gutter LineNumber sign.Next (end_glyph layout.base.decor is.0) under refl
    (next_covers layout.base.decor is.0) is.1
begin_shows layout Path under is = is

-- what a suggestion stands over shows no line
pub under_bare : (layout : SuggestionLayout) (start : SuggestionStart) (under : List Cell) → IsUnder layout.base.decor layout.base.gutter start under
    → IsBareRow layout.base.decor layout.base.gutter under
under_bare x y z u = search rules

-- the row that it ends with
pub end_shows : (layout : SuggestionLayout) (follows : Bool)
    → IsEdgeRow layout.base.decor layout.base.gutter (beside_gutter layout.base.gutter (end_glyph layout.base.decor follows)) (end_cells layout follows)
unfolding end_cells
end_shows layout true = glyph_alone layout sign.Leading refl
end_shows layout false = glyph_alone layout sign.Closing refl

-- no mark is listed
mark_unlisted : (decor : DecorStyle) (ch : ℕ) → IsMarkOrSpace decor ch → is_listed ch ≡ false
mark_unlisted decor ch is = grind (arith, common_steps)

-- marks leave what stands left of the lines
mark_shows : (layout : SuggestionLayout) (mark start end : ℕ) (left : List ℕ) (row : List Cell) → IsMarkOrSpace layout.base.decor mark
    → IsEdgeRow layout.base.decor layout.base.gutter left row → IsEdgeRow layout.base.decor layout.base.gutter left (with_mark layout mark start end row)
unfolding with_mark
mark_shows layout mark start end left row is edge =
    let decor : DecorStyle = layout.base.decor in
    let g : ℕ = layout.base.gutter in
    let n : ℕ = min end max_column - start in
    let cs : List ℕ = replicate n mark in
    let Mark : Cell → Type 0 = λ cell. IsMarkOrSpace decor cell.ch in
    let Stroke : Cell → Type 0 = λ cell. is_stroke decor cell.ch ≡ true in
    let before : (c : ℕ) → c < g + 3 → slice_index_or (put Addition cs (g + 3 + start) row) c SPACE ≡ slice_index_or row c SPACE = λ c inside.
    put_before Addition cs (g + 3 + start) c row (omega (arith, inside)) in
    record {
      bare = record {
        strokes = λ c inside. subst Stroke (sym (before c inside)) (edge.bare.strokes c inside);
        marks = λ c after. put_cell Mark Addition cs (g + 3 + start) c row (edge.bare.marks c after) (All-replicate (IsMarkOrSpace decor) n mark is);
        free = put_free Addition cs (g + 3 + start) row edge.bare.free
            (All-replicate (λ c. is_listed c ≡ false) n mark (mark_unlisted decor mark is));
      };
      left_is = λ c inside. ap (λ (cell : Cell). cell.ch) (before c inside) ∙ edge.left_is c inside;
    }

-- each mark is one
mark_is : (decor : DecorStyle) (source : List ℕ) (e : Edit) → IsMarkOrSpace decor (mark_glyph_of decor source e)
mark_is decor source e = grind (arith)

-- so do those of all edits
pub marks_show : (layout : SuggestionLayout) (s : Source) (earlier : List PatchColumns) (es : List Edit) (left : List ℕ) (row : List Cell)
    → IsEdgeRow layout.base.decor layout.base.gutter left row → IsEdgeRow layout.base.decor layout.base.gutter left (with_marks layout s earlier es row)
unfolding with_marks
marks_show layout s earlier [] left row edge = edge
marks_show layout s earlier (e ∷ es) left row edge =
    let c : PatchColumns = edit_columns s e in
    let mark : ℕ = mark_glyph_of layout.base.decor s.text e in
    marks_show layout s (earlier ++ c ∷ []) es left (with_mark layout mark (mark_start earlier c e.text) (patch_mark_end earlier c e.text) row)
    (mark_shows layout mark (mark_start earlier c e.text) (patch_mark_end earlier c e.text) left row (mark_is layout.base.decor s.text e) edge)
