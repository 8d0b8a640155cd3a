-- What isn't written in the short form: rows and texts that are wrong, each of a small report, contradict the definition of that form.
use Rattle.std.proofs.lemmas.Grind.{common_steps}
use Rattle.annotate_snippets.proofs.Common.{◌≡◌, ℕ, true, false, None, Some, Vec, List, [], ◌∷◌, ◌++◌, codes, encode_utf8_all, refl, sym, ap}
use Rattle.annotate_snippets.proofs.Common.{◌∙◌, arith, slice_index_or, Global, All-nil, All-cons, row_at, plain_text, row_text, IsWoven, links_of}
use Rattle.annotate_snippets.proofs.Common.{IsWoven-from_prints, plain_woven, start_of, line_of, Annotation, Element, Group, Snippet, Title, Cell, plain_sheet}
use Rattle.annotate_snippets.proofs.Common.{norm, label_cells, origin_text, short_rows, is_long, ShowsShort, ShowsReport, plain_settings, short_form, Renderer}
use Rattle.std.specs.Fmt.{digits}
use Rattle.std.specs.List.{All}
use Rattle.std.specs.Str.{chars}
use Rattle.snippet_model.specs.declared.snippet.Element.TheVariants as element
use Rattle.annotate_snippets.proofs.AsSetLemmas.{unset-shows}
use Rattle.annotate_snippets.proofs.NotWhole.{at_first, at_second, both_spans, second_span}
use Rattle.annotate_snippets.proofs.SmallReports.{error_title, group, snippet, title_alone}

-- the plain settings, with the short form
abbrev one_line : Renderer
one_line = record plain_settings { short_message = true }

-- ---- a title that is left out

title_is : (v : Vec Element Global) (g : Group) (title : Title) → Some (group v (Some (error_title None (codes "e"))) [] (omega arith)) ≡ Some g
    → g.title ≡ Some title → plain_text (short_form one_line g title) ≡ codes "error: e"
unfolding chars norm label_cells short_rows
title_is v g title first titled = grind arith

links_are : (v : Vec Element Global) (g : Group) (title : Title) → Some (group v (Some (error_title None (codes "e"))) [] (omega arith)) ≡ Some g
    → g.title ≡ Some title → links_of (short_form one_line g title) ≡ []
unfolding chars norm label_cells short_rows
links_are v g title first titled = grind arith

-- no text for the title `error: e`
titles_left_out : (v : Vec Element Global) → ShowsReport one_line (title_alone v) plain_sheet [] → ⊥
unfolding lib.Utf8.encode
titles_left_out v given =
    let shown = unset-shows one_line (title_alone v) (plain_sheet ∷ []) ([] ∷ []) given refl in
    let rows : List (List Cell) = short_form one_line shown.group shown.title in
    let none : links_of rows ≡ [] = links_are v shown.group shown.title shown.first shown.titled in
    let woven : IsWoven plain_sheet [] (plain_text rows) (links_of rows) = IsWoven-from_prints plain_sheet shown.group.level rows [] shown.printed.0 in
    let right : [] ≡ encode_utf8_all (codes "error: e") = plain_woven plain_sheet [] (plain_text rows) (links_of rows) refl none woven
    ∙ ap encode_utf8_all (title_is v shown.group shown.title shown.first shown.titled) in cc

-- ---- another place than the first

-- the title `error: e` above a snippet of the file `f`
abbrev placed : Vec Element Global → Snippet Annotation → Group
placed v s = group v (Some (error_title None (codes "e"))) (element.Cause s ∷ []) (omega arith)

-- two primary spans of `ab`, of which the second starts at column 1
abbrev of_two : Vec Annotation Global → Snippet Annotation
of_two w = snippet w (Some (codes "f")) (codes "ab") both_spans (omega arith)

two_short : (marks : List Annotation) → marks ≡ both_spans → All (λ a. is_long (codes "ab") a ≡ false) marks
unfolding line_of start_of
two_short marks is = grind (arith, All-cons, All-nil)

-- the first row doesn't name the column at which the first one starts:
--
--     f:1:2: error: e
origin_of_first_given_span : (v : Vec Element Global) (w : Vec Annotation Global) (title : Title) (rows : List (List Cell))
    → row_text (row_at rows 0) ≡ codes "f:1:2: error: e" → ShowsShort one_line (placed v (of_two w)) title rows → ⊥
unfolding origin_text digits norm chars
origin_of_first_given_span v w title rows wrong shown =
    let begins = shown.origin (of_two w) refl (codes "f") refl refl (two_short both_spans refl) in
    let at : (begins.place.line ≡ 1) × (begins.place.column ≡ Some 1) = at_first begins.place begins.is in
    let right : row_text (row_at rows 0) ≡ codes "f:1:1" ++ (codes ": " ++ begins.rest) =
    grind (arith, common_steps, begins, codes, at, begins.text, begins.place.column, begins.rest, at.0, at.1) in
    let digit : ◌≡◌ {A = ℕ} 50 49 = ap (λ (cs : List ℕ). slice_index_or cs 4 0) (sym wrong ∙ right) in absurd (omega (arith, digit))

-- a primary span of the second character of `éb`, which is byte 2
abbrev of_second : Vec Annotation Global → Snippet Annotation
of_second w = snippet w (Some (codes "f")) (encode_utf8_all (codes "éb")) (second_span ∷ []) (omega arith)

second_short : (marks : List Annotation) → marks ≡ second_span ∷ [] → All (λ a. is_long (encode_utf8_all (codes "éb")) a ≡ false) marks
unfolding line_of start_of lib.Utf8.encode
second_short marks is = grind (arith, encode_utf8_all, All-cons, All-nil)

-- nor does it name the byte:
--
--     f:1:3: error: e
origin_by_byte : (v : Vec Element Global) (w : Vec Annotation Global) (title : Title) (rows : List (List Cell))
    → row_text (row_at rows 0) ≡ codes "f:1:3: error: e" → ShowsShort one_line (placed v (of_second w)) title rows → ⊥
unfolding origin_text digits norm chars
origin_by_byte v w title rows wrong shown =
    let begins = shown.origin (of_second w) refl (codes "f") refl refl (second_short (second_span ∷ []) refl) in
    let at : (begins.place.line ≡ 1) × (begins.place.column ≡ Some 2) = at_second begins.place begins.is in
    let right : row_text (row_at rows 0) ≡ codes "f:1:2" ++ (codes ": " ++ begins.rest) =
    grind (arith, common_steps, begins, codes, at, begins.text, begins.place.column, begins.rest, at.0, at.1) in
    let digit : ◌≡◌ {A = ℕ} 51 50 = ap (λ (cs : List ℕ). slice_index_or cs 4 0) (sym wrong ∙ right) in absurd (omega (arith, digit))
