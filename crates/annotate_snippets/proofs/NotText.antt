-- What isn't written in the text form: texts that are wrong, each of a small report, contradict the definition of that form.
use Rattle.annotate_snippets.proofs.Common.{◌≡◌, ℕ, true, None, Some, Vec, List, [], ◌∷◌, ◌++◌, codes, encode_utf8_all, length, refl, sym, ap}
use Rattle.annotate_snippets.proofs.Common.{◌∙◌, arith, slice_index_or, Global, newline_count, start_of, end_location, line_of, location_of, locations_of}
use Rattle.annotate_snippets.proofs.Common.{place_of, start_location, steps_after_text, Annotation, Primary, Element, Group, Patch, trimmed_edit, kept_before}
use Rattle.annotate_snippets.proofs.Common.{sandwich, default_sheet, plain_sheet, Stylesheet, text_of, norm, cause_form, form_bytes, form_text, heading_form}
use Rattle.annotate_snippets.proofs.Common.{lines_of_paragraphs, offer, patch, ShowsReport, text_lines, HasLaws, report_paragraphs, plain_settings, text_form}
use Rattle.annotate_snippets.proofs.Common.{Renderer}
use Rattle.std.specs.Fmt.{digits}
use Rattle.std.specs.Str.{chars}
use Rattle.snippet_model.specs.declared.snippet.Element.TheVariants as element
use Rattle.annotate_snippets.proofs.AsSetLemmas.{unset-shows}
use Rattle.annotate_snippets.proofs.NotShown.{labelled_span}
use Rattle.annotate_snippets.proofs.SmallReports.{error_title, group, hidden_title, nameless, note, snippet, title_alone}

-- the plain settings, with the text form
abbrev speaking : Renderer
speaking = record plain_settings { no_graphics = true }

-- ---- texts that are left out

-- no text at all for a report of a title, here `error: e`
text_form_empty : (v : Vec Element Global) → ShowsReport speaking (title_alone v) plain_sheet [] → ⊥
unfolding heading_form norm chars lib.Utf8.encode
text_form_empty v shown = grind (arith, unset-shows)

-- a title above a message left out, here `error: e`:
--
--      note: m
titles_left_out : (v : Vec Element Global)
    → ShowsReport speaking (group v (Some (error_title None (codes "e"))) (note (codes "m") ∷ []) (omega arith) ∷ []) plain_sheet (codes " note: m")
    → ⊥
unfolding heading_form norm chars lib.Utf8.encode
titles_left_out v shown = grind (arith, unset-shows)

-- a message below a title left out, here ` note: m`:
--
--     error: e
messages_left_out : (v : Vec Element Global)
    → ShowsReport speaking (group v (Some (error_title None (codes "e"))) (note (codes "m") ∷ []) (omega arith) ∷ []) plain_sheet (codes "error: e")
    → ⊥
unfolding heading_form norm chars lib.Utf8.encode
messages_left_out v shown = grind (arith, unset-shows)

-- a report of the source `ab` in the file of this path, of which a span with this label covers `a`
abbrev labelled : Vec Element Global → Vec Annotation Global → List ℕ → List ℕ → List Group
labelled v w path label =
    group v (Some (error_title None (codes "e"))) (element.Cause (snippet w (Some path) (codes "ab") (labelled_span (Some (text_of label)) Primary 0 1 ∷ [])
    (omega arith)) ∷ []) (omega arith) ∷ []

labelled_is : (v : Vec Element Global) (w : Vec Annotation Global)
    → form_bytes plain_sheet (text_form speaking (labelled v w (codes "f") (codes "x"))) ≡ codes "error: e\n at f:1:1: x"
unfolding heading_form cause_form locations_of start_location end_location location_of place_of steps_after_text line_of start_of digits norm chars
    lib.Utf8.encode
labelled_is v w = refl

-- a span without its label, here `x`:
--
--     error: e
--      at f:1:1
text_form_without_labels : (v : Vec Element Global) (w : Vec Annotation Global)
    → ShowsReport speaking (labelled v w (codes "f") (codes "x")) plain_sheet (codes "error: e\n at f:1:1") → ⊥
text_form_without_labels v w shown =
    let right : codes "error: e\n at f:1:1" ≡ codes "error: e\n at f:1:1: x" = (unset-shows _ _ _ _ shown refl).are.0 ∙ labelled_is v w in
    absurd (omega (arith, ap length right))

-- ---- texts that are written as they are given, here U+001B, which is shown as U+241B

-- an id:
--
--     error <U+001B>: e
id_drawn_raw : (v : Vec Element Global)
    → ShowsReport speaking (group v (Some (error_title (Some (record { id = Some (text_of (27 ∷ [])); url = None })) (codes "e"))) []
    (omega arith) ∷ []) plain_sheet (codes "error " ++ 27 ∷ codes ": e") → ⊥
unfolding heading_form norm chars lib.Utf8.encode
id_drawn_raw v shown = grind (arith, encode_utf8_all, unset-shows, slice_index_or)

-- a path:
--
--     error: e
--      at <U+001B>:1:1: x
raw_path_is : (v : Vec Element Global) (w : Vec Annotation Global)
    → form_bytes plain_sheet (text_form speaking (labelled v w (27 ∷ []) (codes "x"))) ≡ codes "error: e\n at " ++ encode_utf8_all (0x241B ∷ [])
    ++ codes ":1:1: x"
unfolding heading_form cause_form locations_of start_location end_location location_of place_of steps_after_text line_of start_of digits norm chars
    lib.Utf8.encode
raw_path_is v w = refl

path_drawn_raw : (v : Vec Element Global) (w : Vec Annotation Global)
    → ShowsReport speaking (labelled v w (27 ∷ []) (codes "x")) plain_sheet (codes "error: e\n at " ++ 27 ∷ codes ":1:1: x") → ⊥
unfolding lib.Utf8.encode
path_drawn_raw v w shown =
    let byte : ◌≡◌ {A = ℕ} 27 0xE2 = ap (λ (bs : List ℕ). slice_index_or bs 13 0) ((unset-shows _ _ _ _ shown refl).are.0 ∙ raw_path_is v w) in
    absurd (omega (arith, byte))

-- a label:
--
--     error: e
--      at f:1:1: <U+001B>
raw_label_is : (v : Vec Element Global) (w : Vec Annotation Global)
    → form_bytes plain_sheet (text_form speaking (labelled v w (codes "f") (27 ∷ []))) ≡ codes "error: e\n at f:1:1: " ++ encode_utf8_all (0x241B ∷ [])
unfolding heading_form cause_form locations_of start_location end_location location_of place_of steps_after_text line_of start_of digits norm chars
    lib.Utf8.encode
raw_label_is v w = refl

label_drawn_raw : (v : Vec Element Global) (w : Vec Annotation Global)
    → ShowsReport speaking (labelled v w (codes "f") (27 ∷ [])) plain_sheet (codes "error: e\n at f:1:1: " ++ 27 ∷ []) → ⊥
unfolding lib.Utf8.encode
label_drawn_raw v w shown =
    let byte : ◌≡◌ {A = ℕ} 27 0xE2 = ap (λ (bs : List ℕ). slice_index_or bs 20 0) ((unset-shows _ _ _ _ shown refl).are.0 ∙ raw_label_is v w) in
    absurd (omega (arith, byte))

-- ---- codes

-- the codes of the default sheet's bold text, and of what switches back from it
abbrev bold : List ℕ
bold = 27 ∷ codes "[1m"

abbrev off : List ℕ
off = 27 ∷ codes "[0m"

-- no codes at all, under the default sheet, where the title `e` is bold:
--
--     e
no_codes : (v : Vec Element Global) → ShowsReport speaking (nameless v) default_sheet (codes "e") → ⊥
unfolding heading_form norm chars lib.Utf8.encode digits
no_codes v shown = grind (arith, unset-shows, slice_index_or)

-- a line feed after the codes of a title without a text, as if they were text, under the default sheet: the next title begins the first
-- line of the text, as it does under a plain one
codes_counted_as_text : (v : Vec Element Global)
    → ShowsReport speaking (group v (Some (hidden_title [])) [] (omega arith) ∷ nameless v) default_sheet (bold ++ (off ++ 10 ∷ (bold ++ (codes "e" ++ off))))
    → ⊥
unfolding heading_form norm chars lib.Utf8.encode digits
codes_counted_as_text v shown = grind (arith, unset-shows, slice_index_or)

-- ---- a line that no paragraph begins

-- the same settings, with line feeds shown
abbrev telling : Renderer
telling = record speaking { show_line_feeds = true }

-- a report of the source `x`, over which a patch puts `y`, a line feed and what reads as another error
abbrev forging : Vec Element Global → Vec Patch Global → List Group
forging v w =
    group v (Some (error_title None (codes "e"))) (element.Suggestion (offer w (codes "x") (patch 0 1 (codes "y\nerror: f") ∷ []) (omega arith)) ∷ [])
    (omega arith) ∷ []

-- it has two paragraphs, of one line each
forging_paragraphs : (v : Vec Element Global) (w : Vec Patch Global)
    → lines_of_paragraphs (report_paragraphs telling (forging v w)) ≡ codes "error: e"
    ∷ (codes " on line 1, column 1 to column 2 replace with: y" ++ 0x240A ∷ codes "error: f") ∷ []
unfolding locations_of start_location end_location location_of place_of steps_after_text line_of start_of newline_count trimmed_edit sandwich kept_before digits
    norm chars
forging_paragraphs v w = refl

-- the replacement as it is given, of which a line reads as another error:
--
--     error: e
--      on line 1, column 1 to column 2 replace with: y
--     error: f
forged_error : (v : Vec Element Global) (w : Vec Patch Global) (groups : List Group) (sheet : Stylesheet) (text : List ℕ)
    → (has : HasLaws telling groups sheet text) → has.shown ≡ forging v w
    → form_text (text_form telling has.shown) ≡ codes "error: e\n on line 1, column 1 to column 2 replace with: y\nerror: f" → ⊥
forged_error v w groups sheet text has is raw =
    let cut : text_lines (codes "error: e\n on line 1, column 1 to column 2 replace with: y\nerror: f") ≡ codes "error: e"
    ∷ codes " on line 1, column 1 to column 2 replace with: y" ∷ codes "error: f" ∷ [] = refl in
    let lines : text_lines (form_text (text_form telling has.shown)) ≡ lines_of_paragraphs (report_paragraphs telling (forging v w)) = has.paragraphs refl refl
    ∙ ap (λ gs. lines_of_paragraphs (report_paragraphs telling gs)) is in
    absurd (omega (arith, ap length (sym cut ∙ ap text_lines (sym raw) ∙ lines ∙ forging_paragraphs v w)))
