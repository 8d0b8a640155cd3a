-- What no whole page shows: pages of small reports, wrong in what stands around their snippets, contradict the definitions of what
-- pages show.
use Rattle.std.proofs.lemmas.Grind.{common_steps}
use Rattle.annotate_snippets.proofs.Common.{Option, Some, None, ◌≡◌, ℕ, ◌+◌, ◌<◌, ◌≤◌, zero, suc, Bool, true, false, not, ◌&&◌}
use Rattle.annotate_snippets.proofs.Common.{if◌then◌else◌, List, [], ◌∷◌, ◌++◌, codes, drop, encode_utf8_all, length, replicate, take, refl}
use Rattle.annotate_snippets.proofs.Common.{sym, ap, subst, ◌∙◌, arith, inl, inr, ◌⊎◌, is_ascii_alphanumeric, cow_str_bytes, Contains}
use Rattle.annotate_snippets.proofs.Common.{slice_index_or, Global, CowStr, append_cancel_left, append_cancel_right, length-append, All-nil, All-cons, All-head}
use Rattle.annotate_snippets.proofs.Common.{All-tail, cell_at, row_at, Cell, SPACE, text_cells, row_text, LineNumber, MainHeaderMsg, NoStyle, UnderlinePrimary}
use Rattle.annotate_snippets.proofs.Common.{norm, Annotation, Primary, Id, Snippet, Title, Source, source_lines, start_of, line_of, location_of, place_of}
use Rattle.annotate_snippets.proofs.Common.{start_location, steps_after_text, first_line, last_line, shown_lines, All-unmapped, IsLocation, start_at}
use Rattle.annotate_snippets.proofs.Common.{HasNoNumber, Location, origin_text, closing_row, separator_row, DecorStyle, Ascii, heading_texts, closes_with}
use Rattle.annotate_snippets.proofs.Common.{is_before_message, is_end, is_first_of_several, context_at, number_text, error_level, Elision, NamedRow}
use Rattle.annotate_snippets.proofs.Common.{OfferedLine, Other, RemovedLine, RowName, SourceRow, cells_of, line_named, lines_named, others, cause_head}
use Rattle.annotate_snippets.proofs.Common.{rows_after_cause, rows_after_title, plain_settings, AreElementsShown, AreRowsOf, IsRowOf, ShowsSnippet}
use Rattle.annotate_snippets.proofs.Common.{NamesLocation, ShowsTitle, Renderer, GroupPosition, Next, ElementContext}
use Rattle.std.proofs.Common.{append_assoc}
use Rattle.std.specs.Fmt.{digits}
use Rattle.std.specs.List.{All}
use Rattle.std.specs.Str.{chars}
use Rattle.snippet_model.specs.declared.snippet.Element.TheVariants as element
use Rattle.snippet_model.specs.declared.snippet.Message as message
use Rattle.snippet_titles.specs.declared.style.TitleStyle.TheVariants as style
use Rattle.annotate_snippets.specs.declared.renderer.element_context.GroupPosition.TheVariants as place
use Rattle.annotate_snippets.specs.declared.renderer.element_context.Next.TheVariants as next
use Rattle.annotate_snippets.proofs.HeadingShown.{links_of_heading, texts_of}
use Rattle.annotate_snippets.proofs.LeftLaws.{number_of_left}
use Rattle.annotate_snippets.proofs.ListLemmas.{Contains-head, Contains-tail, Contains-cons_cases, Contains-nil}
use Rattle.annotate_snippets.proofs.NotShown.{IsSnippetOf, layout, row_below, span_of}

-- ---- a message where the snippet should stand

-- the row of a message, `  = note: m`
abbrev note_row : List Cell
note_row =
    replicate 2 SPACE ++ text_cells LineNumber (codes "= ") ++ text_cells MainHeaderMsg (codes "note") ++ text_cells NoStyle (codes ": m")

note_unnumbered : HasNoNumber 1 note_row
note_unnumbered zero within = refl
note_unnumbered (suc zero) within = refl
note_unnumbered (suc (suc c)) within = absurd (omega (arith, within))

-- a snippet of the line `a`, which has number 1
pub record IsLineA (s : Snippet Annotation) : Type 0 where
  pub is : IsSnippetOf s (codes "a") (span_of Primary 0 1 ∷ [])
  pub numbered : s.line_numbering ≡ true
  pub first : s.line_start ≡ 1

-- a row without a number isn't its line's
digit_left_out : (row : List Cell) → HasNoNumber 1 row → row_text (take 1 row) ≡ codes "1" → ⊥
digit_left_out [] none text = cc
digit_left_out (c ∷ cs) none text =
    let digit : c.ch ≡ 49 = cc in
    let letter : true ≡ false = subst (λ ch. is_ascii_alphanumeric ch ≡ false) digit (none 0 (omega arith)) in
    cc

-- so it isn't named as the row of a line
pub unnamed : (closes : Bool) (s : Snippet Annotation) → IsLineA s → (name : RowName) (cells : List Cell) (rows : List NamedRow) → HasNoNumber 1 cells
    → IsRowOf plain_settings layout closes s name cells rows → line_named name ≡ None
unfolding digits
unnamed closes s is (SourceRow k) cells rows none shows =
    let within : k < 1 = subst (λ source. k < length (source_lines source)) is.is.source_is shows.line.within in
    let first : k ≡ 0 = omega arith in
    let IsNumber : Bool → ℕ → Type 0 = λ numbered number. row_text (take (length (number_text plain_settings numbered 1 number)) cells)
    ≡ number_text plain_settings numbered 1 number in
    let one : s.line_start + k ≡ 1 = omega (arith, first, is.first) in
    let text : row_text (take 1 cells) ≡ codes "1" = subst (IsNumber true) one (subst (λ numbered. IsNumber numbered (s.line_start + k)) is.numbered
    (number_of_left Ascii 1 (number_text plain_settings s.line_numbering 1 (s.line_start + k)) cells shows.line.left)) in
    absurd (digit_left_out cells none text)
unnamed closes s is Elision cells rows none shows = refl
unnamed closes s is (OfferedLine j) cells rows none shows = refl
unnamed closes s is (RemovedLine i) cells rows none shows = refl
unnamed closes s is Other cells rows none shows = refl

-- and no row of several is
none_named : (closes : Bool) (s : Snippet Annotation) → IsLineA s → (rows : List NamedRow) → All (λ row. HasNoNumber 1 row.cells) rows
    → AreRowsOf plain_settings layout closes s rows → lines_named rows ≡ []
none_named closes s is [] none named = refl
none_named closes s is (row ∷ rows) none named =
    let IsUnnumbered : NamedRow → Type 0 = λ r. HasNoNumber 1 r.cells in
    let head : line_named row.name ≡ None = unnamed closes s is row.name row.cells rows (All-head IsUnnumbered row rows none) named.0 in
    let rest : lines_named rows ≡ [] = none_named closes s is rows (All-tail IsUnnumbered row rows none) named.1 in
    simp (head, rest)

-- rows without numbers among others
unnumbered_after : (rows more : List NamedRow) → All (λ row. HasNoNumber 1 row.cells) (rows ++ more) → All (λ row. HasNoNumber 1 row.cells) more
unnumbered_after [] more all = all
unnumbered_after (row ∷ rows) more all = unnumbered_after rows more (All-tail (λ r. HasNoNumber 1 r.cells) row (rows ++ more) all)

unnumbered_before : (rows more : List NamedRow) → All (λ row. HasNoNumber 1 row.cells) (rows ++ more) → All (λ row. HasNoNumber 1 row.cells) rows
unnumbered_before [] more all = All-nil (λ row. HasNoNumber 1 row.cells)
unnumbered_before (row ∷ rows) more all =
    All-cons (λ r. HasNoNumber 1 r.cells) row rows (All-head (λ r. HasNoNumber 1 r.cells) row (rows ++ more) all)
    (unnumbered_before rows more (All-tail (λ r. HasNoNumber 1 r.cells) row (rows ++ more) all))

-- so rows without a number show no snippet of a line that has one, whatever they are named
line_left_out : (s : Snippet Annotation) → IsLineA s → (around : ElementContext) (rows : List NamedRow) → All (λ row. HasNoNumber 1 row.cells) rows
    → ShowsSnippet plain_settings layout around s rows → ⊥
unfolding line_of start_of
line_left_out s is around rows none shown =
    let tail : List NamedRow = others (rows_after_cause plain_settings layout around) in
    let after : All (λ row. HasNoNumber 1 row.cells) shown.after = unnumbered_before shown.after tail
    (unnumbered_after (others (cause_head plain_settings layout around s)) (shown.after ++ tail)
    (subst (All (λ row. HasNoNumber 1 row.cells)) shown.rows_are none)) in
    let empty : lines_named shown.after ≡ [] = none_named (closes_with around) s is shown.after after shown.named in
    let one : shown_lines s.fold (codes "a") (span_of Primary 0 1 ∷ []) ≡ [] = ap (λ marks. shown_lines s.fold (codes "a") marks) (sym is.is.marks_are)
    ∙ ap (λ source. shown_lines s.fold source s.markers.items) (sym is.is.source_is) ∙ sym shown.lines ∙ empty in
    some s.fold one
  where
    some : (fold : Bool) → shown_lines fold (codes "a") (span_of Primary 0 1 ∷ []) ≡ [] → ⊥
    some true none = cc
    some false none = cc

-- so a message doesn't stand where a snippet above it should, as where the two are exchanged:
--
--       = note: m
--     1 | a
--       | ^
exchanged : (s : Snippet Annotation) → IsLineA s
    → (m : message.Message) (place : GroupPosition) (file : Option (List ℕ)) (rows : List NamedRow) (parts : List (List NamedRow))
    → cells_of rows ≡ note_row ∷ [] → AreElementsShown plain_settings layout place file (element.Cause s ∷ element.Message m ∷ []) (rows ∷ parts) → ⊥
exchanged s is m place file rows parts cells shown =
    line_left_out s is (context_at place file (element.Cause s ∷ element.Message m ∷ []) 0 (element.Cause s))
    rows (All-unmapped (HasNoNumber 1) (λ row. row.cells)
    rows (subst (All (HasNoNumber 1)) (sym cells) (All-cons (HasNoNumber 1) note_row [] note_unnumbered (All-nil (HasNoNumber 1)))))
    (shown.each 0 (element.Cause s) refl)

-- ---- a title that is trusted, and normalised anyhow

-- a title of the level `error`, with this text, which is trusted
abbrev title_with_trusted_text : CowStr Global → Title
title_with_trusted_text text = record { level = error_level; id = None; text = text; allows_styling = true }

-- a trusted code stays as it is, and isn't shown as a picture of its escape:
--
--     error: ␛[1mx
normalised_away : (text : CowStr Global)
    → cow_str_bytes text ≡ 27 ∷ codes "[1mx" → (place : GroupPosition) (follows : Next) (rows : List (List Cell)) → row_text (row_at rows 0) ≡ codes "error: "
    ++ 9243 ∷ codes "[1mx" → ShowsTitle plain_settings layout place follows (title_with_trusted_text text) rows → ⊥
unfolding chars norm
normalised_away text is place follows rows wrong shown =
    in_own shown.own shown.rows_are (texts_of shown.shows 0 ∙ ap (λ bytes.
    slice_index_or (heading_texts style.Title (record { level = error_level; id = None; text = bytes; allows_styling = true })) 0 []) is)
  where
    in_own : (own : List (List Cell)) → rows ≡ own ++ rows_after_title plain_settings layout place follows true
        → row_text (row_at own 0) ≡ codes "error: " ++ 27 ∷ codes "[1mx" → ⊥
    in_own [] same right = cc
    in_own (row ∷ own) same right =
        let both : codes "error: " ++ 9243 ∷ codes "[1mx" ≡ codes "error: " ++ 27 ∷ codes "[1mx" = sym wrong ∙ ap (λ all. row_text (row_at all 0)) same
        ∙ right in
        let code : ◌≡◌ {A = ℕ} 9243 27 = ap (λ (cs : List ℕ). slice_index_or cs 7 0) both in
        absurd (omega (arith, code))

-- ---- a link on another cell than those of an id's text

-- the name of a level doesn't link, as `error` would in `error[E1]: e`, whatever its id is, and whether links are on or not:
--
--     error[E1]: e
--     ^ links
linked_elsewhere : (r : Renderer) (text : CowStr Global) (id : Option Id) (trusted : Bool) (place : GroupPosition) (follows : Next)
    (rows : List (List Cell)) (url : List ℕ) → (cell_at rows 0 0).link ≡ Some url
    → ShowsTitle r layout place follows (record { level = error_level; id = id; text = text; allows_styling = trusted }) rows → ⊥
unfolding chars norm
linked_elsewhere r text id trusted place follows rows url wrong shown = in_own shown.own shown.rows_are (links_of_heading shown.shows 0 0)
  where
    below : (decor : DecorStyle) (first second : Bool)
        → (cell_at (if first then separator_row decor 1 ∷ [] else (if second then closing_row decor 1 ∷ [] else [])) 0 0).link ≡ None
    below decor true second = refl
    below decor false true = refl
    below decor false false = refl

    in_own : (own : List (List Cell)) → rows ≡ own ++ rows_after_title r layout place follows trusted → (cell_at own 0 0).link ≡ None → ⊥
    in_own [] same none =
        let both : ◌≡◌ {A = Option (List ℕ)} (Some url) None = sym wrong ∙ ap (λ all. (cell_at all 0 0).link) same
        ∙ below layout.decor (is_before_message follows) (is_end follows && is_first_of_several place && not trusted) in
        cc
    in_own (row ∷ own) same none = let both : ◌≡◌ {A = Option (List ℕ)} (Some url) None = sym wrong ∙ ap (λ all. (cell_at all 0 0).link) same ∙ none in cc

-- ---- a later column than the least

-- two primary spans of `ab`, of which the second starts at column 1: the row of the path doesn't name the column at which the
-- first one starts
--
--      --> f:1:2
abbrev pub both_spans : List Annotation
both_spans = span_of Primary 1 2 ∷ span_of Primary 0 1 ∷ []

abbrev pub source_ab : Source
source_ab = record { text = codes "ab"; first = 1 }

-- the place that they name is at line 1 and column 1
pub at_first : (place : Location) → IsLocation source_ab both_spans place → (place.line ≡ 1) × (place.column ≡ Some 1)
unfolding start_location location_of steps_after_text place_of line_of start_of chars
at_first place is =
    elim (Contains-cons_cases second is.span (first ∷ []) is.naming.0) [
      | inl same ↦ absurd (not_second same)
      | inr rest ↦ by_first (Contains-cons_cases first is.span [] rest)
    ]
  where
    first : Annotation
    first = span_of Primary 0 1

    second : Annotation
    second = span_of Primary 1 2

    not_second : second ≡ is.span → ⊥
    not_second same =
        let line : first_line (codes "ab") first ≡ first_line (codes "ab") is.span = ap (first_line (codes "ab")) same in
        let less : start_at source_ab is.span ≤ start_at source_ab first = is.least first
        (Contains-tail second first (first ∷ []) (Contains-head first []), refl) line in
        let two : 2 ≤ 1 = subst (λ a. start_at source_ab a ≤ 1) (sym same) less in
        absurd (omega (arith, two))

    by_first : (first ≡ is.span) ⊎ Contains [] is.span → (place.line ≡ 1) × (place.column ≡ Some 1)
    by_first (inl same) = (is.line ∙ ap (λ a. 1 + first_line (codes "ab") a) (sym same), is.column ∙ ap (λ a. Some (start_at source_ab a)) (sym same))
    by_first (inr rest) = absurd (Contains-nil is.span rest)

origin_of_first_given_span : (s : Snippet Annotation) → IsSnippetOf s (codes "ab") both_spans → s.line_start ≡ 1 → (row : List Cell)
    → row_text (drop 5 row) ≡ codes "f:1:2" → NamesLocation plain_settings layout s (codes "f") row → ⊥
unfolding origin_text digits norm chars
origin_of_first_given_span s is first row wrong named =
    let Names : List ℕ → ℕ → List Annotation → Type 0 = λ text line marks. IsLocation (record { text = text; first = line }) marks named.place in
    let there : IsLocation source_ab both_spans named.place =
    grind (arith, common_steps, Names, codes, is.marks_are, s.markers.items, s.line_start, is.source_is, named.is) in
    let at : (named.place.line ≡ 1) × (named.place.column ≡ Some 1) = at_first named.place there in
    let right : row_text (drop 5 row) ≡ codes "f:1:1" = grind (arith, common_steps, codes, at, named.text, named.place.column, at.0, at.1) in
    let digit : ◌≡◌ {A = ℕ} 50 49 = ap (λ (cs : List ℕ). slice_index_or cs 4 0) (sym wrong ∙ right) in
    absurd (omega (arith, digit))

-- ---- a byte in place of a column

-- a primary span of the second character of `éb`, which is byte 2: the row of the path names the column of characters, and not the byte
--
--      --> f:1:3
abbrev pub second_span : Annotation
second_span = span_of Primary 2 3

abbrev pub source_eb : Source
source_eb = record { text = encode_utf8_all (codes "éb"); first = 1 }

pub at_second : (place : Location) → IsLocation source_eb (second_span ∷ []) place → (place.line ≡ 1) × (place.column ≡ Some 2)
unfolding start_location location_of steps_after_text place_of line_of start_of chars lib.Utf8.encode
at_second place is = grind (arith, Contains-cons_cases, is.span, is.naming.0, is.line, is.column)

origin_by_byte : (s : Snippet Annotation) → IsSnippetOf s (encode_utf8_all (codes "éb")) (second_span ∷ []) → s.line_start ≡ 1 → (row : List Cell)
    → row_text (drop 5 row) ≡ codes "f:1:3" → NamesLocation plain_settings layout s (codes "f") row → ⊥
unfolding origin_text digits norm chars
origin_by_byte s is first row wrong named =
    let Names : List ℕ → ℕ → List Annotation → Type 0 = λ text line marks. IsLocation (record { text = text; first = line }) marks named.place in
    let there : IsLocation source_eb (second_span ∷ []) named.place =
    grind (arith, common_steps, Names, is.marks_are, s.markers.items, s.line_start, is.source_is, named.is) in
    let at : (named.place.line ≡ 1) × (named.place.column ≡ Some 2) = at_second named.place there in
    let right : row_text (drop 5 row) ≡ codes "f:1:2" = grind (arith, common_steps, codes, at, named.text, named.place.column, at.0, at.1) in
    let digit : ◌≡◌ {A = ℕ} 51 50 = ap (λ (cs : List ℕ). slice_index_or cs 4 0) (sym wrong ∙ right) in
    absurd (omega (arith, digit))

-- ---- the first line of spans of one place

-- `a` and `b` on two lines, all of which are a span, and another one: no rows show it that have no row of the first line
--
--     2 |   b
--       | |_^
first_line_left_out : (s : Snippet Annotation) → IsSnippetOf s (codes "a\nb") (span_of Primary 0 3 ∷ span_of Primary 0 3 ∷ [])
    → (around : ElementContext) (rows : List NamedRow)
    → (Contains (lines_named rows) 0 → ⊥)
    → ShowsSnippet plain_settings layout around s
    (others (cause_head plain_settings layout around s) ++ (rows ++ others (rows_after_cause plain_settings layout around))) → ⊥
unfolding line_of start_of
first_line_left_out s is around rows out shown =
    let tail : List NamedRow = others (rows_after_cause plain_settings layout around) in
    let same : shown.after ≡ rows = append_cancel_right shown.after rows tail
    (sym (append_cancel_left (others (cause_head plain_settings layout around s)) (rows ++ tail) (shown.after ++ tail) shown.rows_are)) in
    let Begins : List Annotation → Type 0 = λ marks. All (λ a. Contains (lines_named shown.after) (first_line (cow_str_bytes s.source.text) a)
    × Contains (lines_named shown.after) (last_line (cow_str_bytes s.source.text) a)) marks in
    let ends : Begins (span_of Primary 0 3 ∷ span_of Primary 0 3 ∷ []) = subst Begins is.marks_are shown.ends in
    let first : Contains (lines_named shown.after) (first_line (cow_str_bytes s.source.text) (span_of Primary 0 3)) =
    (All-head (λ a. Contains (lines_named shown.after) (first_line (cow_str_bytes s.source.text) a)
    × Contains (lines_named shown.after) (last_line (cow_str_bytes s.source.text) a)) (span_of Primary 0 3) (span_of Primary 0 3 ∷ []) ends).0 in
    let at : Contains (lines_named shown.after) 0 = grind (arith, common_steps, first, shown.after, is.source_is) in
    out (subst (λ all. Contains (lines_named all) 0) same at)

-- ---- a closing row that is missing

-- after other rows one alone is the last
last_row : (rows more : List NamedRow) (row other : NamedRow) → rows ++ row ∷ [] ≡ more ++ other ∷ [] → row ≡ other
last_row [] [] row other same = cc
last_row [] (m ∷ more) row other same = absurd (omega (arith, ap length same, length-append more (other ∷ [])))
last_row (r ∷ rows) [] row other same = absurd (omega (arith, ap length same, length-append rows (row ∷ [])))
last_row (r ∷ rows) (m ∷ more) row other same = last_row rows more row other (ap (drop 1) same)

-- the first of several groups closes: no row of marks is the last one of a snippet with which it ends, as in
--
--     1 | a
--       | ^
--     note: n
closing_left_out : (s : Snippet Annotation) (around : ElementContext) → around.place ≡ place.First → around.next ≡ next.Nothing
    → (rows : List NamedRow) (row : NamedRow) → row.cells ≡ row_below (text_cells UnderlinePrimary (codes "^"))
    → ShowsSnippet plain_settings layout around s (rows ++ row ∷ []) → ⊥
closing_left_out s around first last rows row cells shown =
    let closing : NamedRow = record { name = Other; cells = closing_row Ascii 1 } in
    let head : List NamedRow = others (cause_head plain_settings layout around s) in
    let closes : rows_after_cause plain_settings layout around ≡ closing_row Ascii 1 ∷ [] = grind (arith, common_steps, layout) in
    let same : rows ++ row ∷ [] ≡ (head ++ shown.after) ++ closing ∷ [] = cc (shown.rows_are, closes, append_assoc head shown.after (closing ∷ [])) in
    let is : row.cells ≡ closing_row Ascii 1 = ap (λ (r : NamedRow). r.cells) (last_row rows (head ++ shown.after) row closing same) in
    absurd (omega (arith, ap length (sym cells ∙ is)))
