-- Rows in which a label is lost, or a word stands that is none: each contradicts what is shown of labels.
use Rattle.annotate_snippets.proofs.Common.{◌≡◌, ℕ, zero, suc, ◌+◌, ◌<◌, ◌≤◌, ◌&&◌, cond, Bool, true, false, List, [], ◌∷◌, map, length, count_by, refl, sym}
use Rattle.annotate_snippets.proofs.Common.{ap, subst, ◌∙◌, arith, inl, inr, Contains, false≢true, nat_tests, All-contains, All-head, All-tail, sum_by-cons}
use Rattle.annotate_snippets.proofs.Common.{cell_at, Cell, SPACE, DecorStyle, ElementStyle, LabelPrimary, LabelSecondary, UnderlinePrimary, UnderlineSecondary}
use Rattle.annotate_snippets.proofs.Common.{Annotation, AnnotationKind, Primary, Context, Visible, Snippet, from_map, is_mark_role, label_role, Layout}
use Rattle.annotate_snippets.proofs.Common.{ShowsLabel, ShowsLabels, ShownLabel, SpanLabel, is_in_label, labels_ending_on, row_text, width_of}
use Rattle.std.specs.List.{All}
use Rattle.std.specs.Prelude.{nat_le, nat_lt, slice_index_or, ◌-◌}
use Rattle.annotate_snippets.specs.Laws.Labels.{IsBroken, MarksHaveRoom, pieces_shown}
use Rattle.snippet_labels.specs.Pieces.{label_pieces, shows_any}
use Rattle.snippet_shown.specs.Letters.{letters_of}
use Rattle.snippet_shown.specs.WrapLaws.{columns_of}

-- whether a role is that of labels
abbrev pub is_label_role : ElementStyle → Bool
is_label_role LabelPrimary = true
is_label_role LabelSecondary = true
is_label_role other = false

label_role_is : (kind : AnnotationKind) → is_label_role (label_role kind) ≡ true
label_role_is Primary = refl
label_role_is Context = refl
label_role_is Visible = refl

-- the first piece of a label that is shown
abbrev pub piece_of : Layout → ShownLabel → List ℕ
piece_of layout l = slice_index_or (pieces_shown layout l) 0 []

-- the first piece of this label has a character, wherever it begins
abbrev pub ShowsFirst : Layout → SpanLabel → Type 0
ShowsFirst layout label = (cell : ℕ) → 0 < length (slice_index_or (label_pieces layout cell label.text) 0 [])

-- a label whose first piece shows anything has one that does
shows_first : (layout : Layout) (l : ShownLabel) → 0 < length (piece_of layout l) → shows_any (pieces_shown layout l) ≡ true
shows_first layout l some = first (pieces_shown layout l) some
  where
    first : (ps : List (List ℕ)) → 0 < length (slice_index_or ps 0 []) → shows_any ps ≡ true
    first [] some = absurd (omega (arith, some))
    first (p ∷ ps) some = grind (arith, nat_tests, some)

-- a label that stands begins with a cell in such a role
begins : (layout : Layout) (dropped : ℕ) (rows : List (List Cell)) (l : ShownLabel) → 0 < length (piece_of layout l) → ShowsLabel layout dropped rows l
    → is_label_role (cell_at rows l.row l.cell).role ≡ true
begins layout dropped rows l some shows =
    ap (λ (c : Cell). is_label_role c.role) (ap (λ r. cell_at rows r l.cell) (omega arith) ∙ ap (cell_at rows (l.row + 0)) (omega arith) ∙ shows.whole 0 0 some)
    ∙ label_role_is l.label.kind

-- rows without any cell in the role of labels, below a line on which a span ends that has a label:
--
--     1 | ab cd
--       | ^^ --
pub label_left_out : (decor : DecorStyle) (layout : Layout) (s : Snippet Annotation) (k dropped : ℕ) (rows : List (List Cell))
    → ShowsLabels decor layout s k dropped rows → (a : SpanLabel) → Contains (labels_ending_on s k) a → ShowsFirst layout a
    → ((r c : ℕ) → is_label_role (cell_at rows r c).role ≡ false) → ⊥
label_left_out decor layout s k dropped rows shows a among some none =
    let P : ShownLabel → Type 0 = λ l. shows_any (pieces_shown layout l) ≡ true → ShowsLabel layout dropped rows l in
    let found = from_map (λ (l : ShownLabel). l.label) shows.labels a (subst (λ spans. Contains spans a) (sym shows.spans) among) in
    let l : ShownLabel = found.0 in
    let own : 0 < length (piece_of layout l) = subst (λ (x : SpanLabel). ShowsFirst layout x) (sym found.2) some l.cell in
    false≢true (sym (none l.row l.cell) ∙ begins layout dropped rows l own (All-contains P shows.labels l shows.stand found.1 (shows_first layout l own)))

-- the label stands, if it has anything to show
abbrev Stands : Layout → ℕ → List (List Cell) → ShownLabel → Type 0
Stands layout dropped rows l = shows_any (pieces_shown layout l) ≡ true → ShowsLabel layout dropped rows l

-- rows with one such cell alone, below a line on which two spans end that have a label, be it the same one: the labels stand over one
-- another:
--
--     1 | ab cd
--       | ^^ -- x
pub label_over_another : (decor : DecorStyle) (layout : Layout) (s : Snippet Annotation) (k dropped : ℕ) (rows : List (List Cell))
    → ShowsLabels decor layout s k dropped rows → (a b : SpanLabel) → labels_ending_on s k ≡ a ∷ b ∷ [] → ShowsFirst layout a → ShowsFirst layout b
    → (row cell : ℕ) → ((r c : ℕ) → is_label_role (cell_at rows r c).role ≡ true → (r ≡ row) × (c ≡ cell)) → ⊥
label_over_another decor layout s k dropped rows shows a b spans some_a some_b row cell alone =
    over shows.labels (shows.spans ∙ spans) shows.stand (shows.apart row cell)
  where
    -- each of the two holds that cell
    holds : (l : ShownLabel) → 0 < length (piece_of layout l) → Stands layout dropped rows l → is_in_label layout row cell l ≡ true
    holds l some stands =
        let at = alone l.row l.cell (begins layout dropped rows l some (stands (shows_first layout l some))) in
        let first : row - l.row ≡ 0 = omega (arith, at.0) in
        inside l.row l.cell row cell (length (slice_index_or (pieces_shown layout l) (row - l.row) [])) at.0 at.1
        (omega (arith, some, ap (λ (i : ℕ). length (slice_index_or (pieces_shown layout l) i [])) first))
      where
        inside : (r c row cell n : ℕ) → r ≡ row → c ≡ cell → 0 < n → (nat_le r row && (nat_le c cell && nat_lt cell (c + n))) ≡ true
        inside r c row cell n one two some = grind (arith, nat_tests, one, two, some)

    two : (p q : Bool) → p ≡ true → q ≡ true → cond p 1 0 + (cond q 1 0 + 0) ≤ 1 → ⊥
    two p q first second few =
        let one : ◌≡◌ {A = ℕ} (cond p 1 0) 1 = ap (λ x. cond x 1 0) first in
        let other : ◌≡◌ {A = ℕ} (cond q 1 0) 1 = ap (λ x. cond x 1 0) second in
        omega (arith, few, one, other)

    over : (labels : List ShownLabel) → map (λ (l : ShownLabel). l.label) labels ≡ a ∷ b ∷ [] → All (Stands layout dropped rows) labels
        → count_by (is_in_label layout row cell) labels ≤ 1 → ⊥
    over [] are stand few = cc are
    over (l ∷ []) are stand few = cc are
    over (l ∷ m ∷ []) are stand few =
        let first : l.label ≡ a = cc are in
        let second : m.label ≡ b = cc are in
        let own : 0 < length (piece_of layout l) = subst (λ (x : SpanLabel). ShowsFirst layout x) (sym first) some_a l.cell in
        let its : 0 < length (piece_of layout m) = subst (λ (x : SpanLabel). ShowsFirst layout x) (sym second) some_b m.cell in
        let f : ShownLabel → ℕ = λ x. cond (is_in_label layout row cell x) 1 0 in
        let P : ShownLabel → Type 0 = Stands layout dropped rows in
        two (is_in_label layout row cell l) (is_in_label layout row cell m) (holds l own (All-head P l (m ∷ []) stand))
        (holds m its (All-head P m [] (All-tail P l (m ∷ []) stand))) (omega (arith, few, sum_by-cons f l (m ∷ []), sum_by-cons f m []))
    over (l ∷ m ∷ n ∷ labels) are stand few = cc are

-- rows with a space where no label stands, between a mark and the label that hangs below it:
--
--     1 | ab cd
--       | -- ^^ y
--       |
--       | x
pub stem_left_out : (decor : DecorStyle) (layout : Layout) (s : Snippet Annotation) (k dropped : ℕ) (rows : List (List Cell))
    → (shows : ShowsLabels decor layout s k dropped rows) → (l : ShownLabel) → Contains shows.labels l → shows_any (pieces_shown layout l) ≡ true
    → (r : ℕ) → 0 < r → r < l.row → count_by (is_in_label layout r l.cell) shows.labels ≡ 0 → cell_at rows r l.cell ≡ SPACE → ⊥
stem_left_out decor layout s k dropped rows shows l among some r below above none blank = grind (arith, false≢true, shows.labels, l.cell, shows.led)

-- no span that ends on line k has a label that shows anything
abbrev pub ShowsNothing : Layout → SpanLabel → Type 0
ShowsNothing layout label = (cell : ℕ) → shows_any (label_pieces layout cell label.text) ≡ false

-- a word below a line of whose spans none has a label that shows anything, here in the role of labels:
--
--     1 | ab
--       | ^^ x
pub stray_word_below_a_line : (decor : DecorStyle) (layout : Layout) (s : Snippet Annotation) (k dropped : ℕ) (rows : List (List Cell))
    → ShowsLabels decor layout s k dropped rows → All (ShowsNothing layout) (labels_ending_on s k) → (r c : ℕ) → layout.code ≤ c
    → is_label_role (cell_at rows r c).role ≡ true → ⊥
stray_word_below_a_line decor layout s k dropped rows shows none r c right label =
    elim (shows.others r c right (no_cells shows.labels (subst (All (ShowsNothing layout)) (sym shows.spans) none))) [
      | inl space ↦ false≢true (sym (ap (λ (cell : Cell). is_label_role cell.role) space) ∙ label)
      | inr stroke ↦ other_role (cell_at rows r c).role label stroke.1
    ]
  where
    other_role : (role : ElementStyle) → is_label_role role ≡ true → is_mark_role role ≡ true → ⊥
    other_role UnderlinePrimary is_label is_mark = cc is_label
    other_role UnderlineSecondary is_label is_mark = cc is_label
    other_role LabelPrimary is_label is_mark = cc is_mark
    other_role LabelSecondary is_label is_mark = cc is_mark
    other_role other is_label is_mark = cc

    no_piece : (ps : List (List ℕ)) (i : ℕ) → shows_any ps ≡ false → length (slice_index_or ps i []) ≡ 0
    no_piece [] i none = refl
    no_piece (p ∷ ps) zero none = grind (arith, nat_tests, none)
    no_piece (p ∷ ps) (suc i) none = no_piece ps i (grind (arith, none))

    no_cell : (row cell n : ℕ) → n ≡ 0 → (nat_le row r && (nat_le cell c && nat_lt c (cell + n))) ≡ false
    no_cell row cell n is = grind (arith, nat_tests, is)

    no_cells : (labels : List ShownLabel) → All (ShowsNothing layout) (map (λ (l : ShownLabel). l.label) labels)
        → count_by (is_in_label layout r c) labels ≡ 0
    no_cells [] empty = refl
    no_cells (l ∷ labels) empty =
        let E : SpanLabel → Type 0 = ShowsNothing layout in
        let f : ShownLabel → ℕ = λ x. cond (is_in_label layout r c x) 1 0 in
        let rest : List SpanLabel = map (λ (x : ShownLabel). x.label) labels in
        let here : f l ≡ 0 = ap (λ b. cond b 1 0) (no_cell l.row l.cell (length (slice_index_or (pieces_shown layout l) (r - l.row) []))
        (no_piece (pieces_shown layout l) (r - l.row) (All-head E l.label rest empty l.cell))) in
        omega (arith, sum_by-cons f l labels, here, no_cells labels (All-tail E l.label rest empty))

-- rows with a space where a further piece of a label should begin, here `y`:
--
--     1 | ab
--       | ^^ x
--       |
pub piece_left_out : (decor : DecorStyle) (layout : Layout) (s : Snippet Annotation) (k dropped : ℕ) (rows : List (List Cell))
    → (shows : ShowsLabels decor layout s k dropped rows) → (l : ShownLabel) → Contains shows.labels l → shows_any (pieces_shown layout l) ≡ true → (i : ℕ)
    → 0 < length (slice_index_or (pieces_shown layout l) i []) → cell_at rows (l.row + i) l.cell ≡ SPACE → ⊥
piece_left_out decor layout s k dropped rows shows l among some i long blank =
    let stands = All-contains (Stands layout dropped rows) shows.labels l shows.stand among some in
    let here : l.cell + 0 ≡ l.cell = omega arith in
    let role : is_label_role (cell_at rows (l.row + i) l.cell).role ≡ true = ap (λ c. is_label_role (cell_at rows (l.row + i) c).role) (sym here)
    ∙ ap (λ (c : Cell). is_label_role c.role) (stands.whole i 0 long) ∙ label_role_is l.label.kind in
    false≢true (sym (ap (λ (c : Cell). is_label_role c.role) blank) ∙ role)

-- a label that is cut has a piece that goes past where labels are to end, though it has room for 20 columns:
--
--     1 | ab                             in 27 columns
--       | ^^ this one has to be broken
pub piece_too_wide : (decor : DecorStyle) (layout : Layout) (s : Snippet Annotation) (k dropped : ℕ) (rows : List (List Cell))
    → (shows : ShowsLabels decor layout s k dropped rows) → layout.label_lines ≡ true → (l : ShownLabel) → Contains shows.labels l
    → l.cell + 20 ≤ layout.label_end → (i : ℕ) → i < length (pieces_shown layout l)
    → layout.label_end < l.cell + columns_of (letters_of false (slice_index_or (pieces_shown layout l) i [])) → ⊥
piece_too_wide decor layout s k dropped rows shows cut l among wide i within past =
    let broken = All-contains (λ (l : ShownLabel). l.cell + 20 ≤ layout.label_end → IsBroken layout l) shows.labels l (shows.broken cut) among wide in
    omega (arith, broken.fits i [] within, wide, past)

-- a row of a label with more columns than there are up to where labels are to end, here by spaces, `·`, though all labels have room for 20
-- columns:
--
--     1 | ab                             in 27 columns
--       | ^^ this one is broken····
--       |    as it has to be
pub row_too_wide : (decor : DecorStyle) (layout : Layout) (s : Snippet Annotation) (k dropped : ℕ) (rows : List (List Cell))
    → (shows : ShowsLabels decor layout s k dropped rows) → layout.label_lines ≡ true
    → All (λ l. shows_any (pieces_shown layout l) ≡ true → l.cell + 20 ≤ layout.label_end) shows.labels → (l : ShownLabel) → Contains shows.labels l
    → shows_any (pieces_shown layout l) ≡ true → (i : ℕ) → i < length (pieces_shown layout l)
    → layout.label_end < width_of (row_text (slice_index_or rows (l.row + i) [])) → ⊥
row_too_wide decor layout s k dropped rows shows cut room l among some i within past =
    let P : ShownLabel → Type 0 = λ l. shows_any (pieces_shown layout l) ≡ true → (i : ℕ) → i < length (pieces_shown layout l)
    → width_of (row_text (slice_index_or rows (l.row + i) [])) ≤ layout.label_end in
    omega (arith, All-contains P shows.labels l (shows.within cut room).0 among some i within, past)

-- or any row below a line of which all marks have room too
pub row_past_marks : (decor : DecorStyle) (layout : Layout) (s : Snippet Annotation) (k dropped : ℕ) (rows : List (List Cell))
    → (shows : ShowsLabels decor layout s k dropped rows) → layout.label_lines ≡ true
    → All (λ l. shows_any (pieces_shown layout l) ≡ true → l.cell + 20 ≤ layout.label_end) shows.labels → MarksHaveRoom layout s k dropped
    → (row : List Cell) → Contains rows row → layout.label_end < width_of (row_text row) → ⊥
row_past_marks decor layout s k dropped rows shows cut room marks row among past =
    omega (arith, All-contains (λ (row : List Cell). width_of (row_text row) ≤ layout.label_end) rows row ((shows.within cut room).1 marks) among, past)
