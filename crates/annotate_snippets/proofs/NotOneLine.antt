-- Pages without the laws of a report: with texts of one line, a page with a row that reads as two lines of the text; and a page with a
-- number before a row of an element that shows no line.
use Rattle.annotate_snippets.proofs.Common.{◌≡◌, ◌||◌, ℕ, Bool, true, List, [], ◌∷◌, ◌++◌, None, Some, ap, codes, refl, subst, sym, arith}
use Rattle.annotate_snippets.proofs.Common.{cow_str_bytes, Contains, slice_get, slice_index_or, CowStr, false≢true, All-contains, row_text, Group}
use Rattle.annotate_snippets.proofs.Common.{IsTextAsSet, with_line_feeds_shown, Stylesheet, Cell, SPACE, text_cells, separator_row, Ascii, LabelPrimary}
use Rattle.annotate_snippets.proofs.Common.{NoStyle, UnderlinePrimary, Renderer, form_of, HasNoFeed, HasOneLineTexts, text_lines, FormLaws, HasLaws}
use Rattle.annotate_snippets.proofs.Common.{IfSome, All-cons, All-nil, Annotation, Cause, Snippet, path_bytes}
use Rattle.annotate_snippets.proofs.Common.{graphic_form, Form, Graphic, layout_of_group, GroupPage, NamedRow, Other, group_rows, PageLaws}
use Rattle.std.proofs.Common.{Global}
use Rattle.std.specs.List.{All}
use Rattle.std.specs.Str.{chars}
use Rattle.annotate_snippets.proofs.NumberLaws.{IsNumberedAsLine}
use Rattle.annotate_snippets.proofs.PageWords.{Page}
use Rattle.annotate_snippets.proofs.OneLineTexts.{HasOneLineRows, IsOneLineElement, IsOneLineGroup, IsOneLineText, IsOneLineTitle, cut_or_whole, one_line_texts}

-- the row of the marks of `let x = 1;` with a label that is `here`, a line feed, and what looks like a second line
abbrev pub forged_row : List Cell
forged_row =
    separator_row Ascii 1 ++ SPACE ∷ SPACE ∷ SPACE ∷ SPACE ∷ SPACE ∷ text_cells UnderlinePrimary (codes "^")
    ++ SPACE ∷ text_cells LabelPrimary (codes "here\n2 | let y = 666;")

-- it is one row, and two lines of the text
two_lines : text_lines (row_text forged_row) ≡ codes "  |     ^ here" ∷ codes "2 | let y = 666;" ∷ []
two_lines = refl

-- no page that has such a row in one of its groups has the laws of a report whose texts are on one line
pub forged_line : (r : Renderer) (groups : List Group) (page : Page) → PageLaws r groups page → HasOneLineTexts (r.label_lines || r.wrap) groups
    → (part : GroupPage) → Contains page part → Contains (group_rows part) forged_row → ⊥
forged_line r groups page laws plain part there among =
    let rows : All HasNoFeed (group_rows part) = All-contains HasOneLineRows page part (laws.one_line plain) there in
    let row : HasNoFeed forged_row = All-contains HasNoFeed (group_rows part) forged_row rows among in
    false≢true (sym (row 14 SPACE (omega arith)))

-- so where labels are cut, no page of a snippet without a path has the laws of its report if it has that row, whatever its labels hold: also
-- where one is the text of that row
pub forged_label : (r : Renderer) (g : Group) (s : Snippet Annotation) (page : Page) → r.label_lines ≡ true → g.title ≡ None
    → g.elements.items ≡ Cause s ∷ [] → s.path ≡ None → PageLaws r (g ∷ []) page → (part : GroupPage) → Contains page part
    → Contains (group_rows part) forged_row → ⊥
forged_label r g s page cut untitled alone nameless laws part there among =
    let path : IsOneLineText (path_bytes s.path) = subst (λ p. IsOneLineText (path_bytes p)) (sym nameless) tt in
    let title : IfSome g.title IsOneLineTitle = subst (λ t. IfSome t IsOneLineTitle) (sym untitled) tt in
    let elements : All (IsOneLineElement true) g.elements.items = subst (All (IsOneLineElement true)) (sym alone)
    (All-cons (IsOneLineElement true) (Cause s) [] (path, tt) (All-nil (IsOneLineElement true))) in
    let group : All (IsOneLineGroup true) (g ∷ []) = All-cons (IsOneLineGroup true) g [] (title, elements) (All-nil (IsOneLineGroup true)) in
    let plain : HasOneLineTexts (r.label_lines || r.wrap) (g ∷ []) =
    subst (λ (lines : Bool). HasOneLineTexts (lines || r.wrap) (g ∷ [])) (sym cut) (one_line_texts true (g ∷ []) group) in
    forged_line r (g ∷ []) page laws plain part there among

-- the row below the marks of `ab cd` with a label below each, in which a line feed stands in place of the stem that leads to the label
-- of `ab`
abbrev pub row_without_stem : List Cell
row_without_stem = separator_row Ascii 1 ++ SPACE ∷ text_cells UnderlinePrimary (codes "\n")

-- no page that has such a row in one of its groups has the laws of a report whose texts are on one line
pub line_feed_for_stem : (r : Renderer) (groups : List Group) (page : Page) → PageLaws r groups page → HasOneLineTexts (r.label_lines || r.wrap) groups
    → (part : GroupPage) → Contains page part → Contains (group_rows part) row_without_stem → ⊥
line_feed_for_stem r groups page laws plain part there among =
    let rows : All HasNoFeed (group_rows part) = All-contains HasOneLineRows page part (laws.one_line plain) there in
    let row : HasNoFeed row_without_stem = All-contains HasNoFeed (group_rows part) row_without_stem rows among in
    false≢true (sym (row 4 SPACE (omega arith)))

-- a row of a message, a path or what sets these off, that looks like line 2 of a source
abbrev pub numbered_row : NamedRow
numbered_row = record { name = Other; cells = text_cells NoStyle (codes "2 | let y = 666;") }

-- no page that has such a row in one of its elements has the laws of a report
pub number_without_a_line : (r : Renderer) (groups : List Group) (page : Page) → PageLaws r groups page → (i : ℕ) (g : Group) (part : GroupPage)
    → slice_get groups i ≡ Some g → slice_get page i ≡ Some part → (rows : List NamedRow) → Contains part.elements rows → Contains rows numbered_row → ⊥
number_without_a_line r groups page laws i g part at there rows of_part among =
    let gutter : ℕ = (layout_of_group r groups g).gutter in
    let all : All (IsNumberedAsLine gutter) rows = All-contains (λ (some : List NamedRow). All (IsNumberedAsLine gutter) some) part.elements rows
    (laws.numbers i g part at there) of_part in
    let row : IsNumberedAsLine gutter numbered_row = All-contains (IsNumberedAsLine gutter) rows numbered_row all among in
    false≢true (sym (row refl 0 (omega arith)))

-- ---- line feeds that are shown

-- no text of a report whose line feeds are shown has a page with such a row, whatever the report's labels, paths, ids and names hold
pub line_feed_left : (r : Renderer) (groups : List Group) (sheet : Stylesheet) (text : List ℕ) → r.show_line_feeds ≡ true → form_of r ≡ Graphic
    → (has : HasLaws r groups sheet text) → (part : GroupPage) → Contains (graphic_form r has.shown) part → Contains (group_rows part) forged_row → ⊥
line_feed_left r groups sheet text asked graphic has part there among =
    let Laws : Form → Type 0 = λ form. FormLaws form r has.shown in
    let laws : PageLaws r has.shown (graphic_form r has.shown) = subst Laws graphic has.laws.form_laws in
    forged_line r has.shown (graphic_form r has.shown) laws (cut_or_whole (r.label_lines || r.wrap) has.shown (has.one_line asked)) part there among

-- the label of that row as a text: it isn't the one that is shown in its place
pub label_as_given : (a b : CowStr Global) → cow_str_bytes a ≡ codes "here\n2 | let y = 666;" → cow_str_bytes b ≡ cow_str_bytes a
    → IsTextAsSet true a b → ⊥
unfolding chars
label_as_given a b is same set =
    let given : chars (codes "here\n2 | let y = 666;") ≡ with_line_feeds_shown (chars (codes "here\n2 | let y = 666;")) = cc (same, is, set) in
    let feed : ◌≡◌ {A = ℕ} 10 0x240A = ap (λ (cs : List ℕ). slice_index_or cs 4 0) given in
    absurd (omega (arith, feed))
