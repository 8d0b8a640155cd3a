-- What isn't printed: texts that are wrong, each of a small report, contradict what is said of the text that shows a report in the graphic
-- form.
use Rattle.annotate_snippets.proofs.Common.{◌≡◌, ℕ, Bool, true, false, None, Some, Option, Vec, List, [], ◌∷◌, ◌++◌, codes, encode_utf8_all}
use Rattle.annotate_snippets.proofs.Common.{refl, ap, subst, ◌∙◌, arith, inl, AllZip, join_with_byte, slice_index_or, Global, Char, Piece, Prints, Reset}
use Rattle.annotate_snippets.proofs.Common.{next_style, Prints-unique, Element, Cell, text_cells, unlinked_cell, emboldened, is_plain_style, plain_style}
use Rattle.annotate_snippets.proofs.Common.{default_sheet, plain_sheet, MainHeaderMsg, Error, Style, norm, heading_rows, label_cells, ShowsReport, graphic_form}
use Rattle.annotate_snippets.proofs.Common.{GroupPage, PrintsPage, group_rows, page_text, plain_settings, Renderer}
use Rattle.std.specs.Fmt.{digits}
use Rattle.std.specs.Str.{chars}
use Rattle.snippet_grid.specs.Woven.{Opening}
use Rattle.annotate_snippets.proofs.PageWords.{Page}
use Rattle.annotate_snippets.proofs.AsSetLemmas.{unset-shows}
use Rattle.annotate_snippets.proofs.ReportLemmas.{plain_printed}
use Rattle.annotate_snippets.proofs.SmallReports.{nameless, title_alone}
use Rattle.annotate_snippets.proofs.WovenLemmas.{page_links}

-- ---- a text without a byte

no_links_are : (v : Vec Element Global) → page_links (graphic_form plain_settings (title_alone v)) ≡ []
unfolding chars norm heading_rows label_cells
no_links_are v = refl

plain_text_is : (v : Vec Element Global) → page_text (graphic_form plain_settings (title_alone v)) ≡ codes "error: e"
unfolding chars norm heading_rows label_cells
plain_text_is v = refl

-- no text at all for a report of a title, here `error: e`
empty_text : (v : Vec Element Global) → ShowsReport plain_settings (title_alone v) plain_sheet [] → ⊥
unfolding lib.Utf8.encode
empty_text v shown =
    let page : Page = graphic_form plain_settings (title_alone v) in
    let right : [] ≡ encode_utf8_all (codes "error: e") =
    plain_printed plain_sheet page [] (no_links_are v) refl (unset-shows _ _ _ _ shown refl).printed.0 ∙ ap encode_utf8_all (plain_text_is v) in cc

-- ---- codes

-- the default sheet's codes, without links
abbrev coloured : Renderer
coloured = record plain_settings { stylesheet = default_sheet }

-- the row of the title `e`, whose text is bold under that sheet
abbrev bold_row : List Cell
bold_row = text_cells MainHeaderMsg (codes "e")

page_is : (v : Vec Element Global) → graphic_form coloured (nameless v) ≡ record { level = Error; title = bold_row ∷ []; elements = [] } ∷ []
unfolding chars norm heading_rows label_cells
page_is v = refl

-- the text that prints that row: the codes of bold text, the letter, and the code that switches back
abbrev bold_text : List ℕ
bold_text = 27 ∷ codes "[1me" ++ 27 ∷ codes "[0m"

-- whether the style that is open is plain, or none is
abbrev is_plain : Option Style → Bool
is_plain None = true
is_plain (Some style) = is_plain_style style

printed : Prints default_sheet Error (bold_row ∷ []) bold_text
unfolding lib.Utf8.encode digits
printed =
    let bold : Style = emboldened plain_style in
    let pieces : List Piece = Reset plain_style ∷ Opening bold ∷ Char 101 ∷ Reset bold ∷ [] in
    record {
      lines = pieces ∷ [];
      text_is = refl;
      prints = (
        (refl, differs, inl refl, (refl, refl, (unlinked_cell MainHeaderMsg 101, [], refl, refl, refl, refl, (refl, ends, inl refl, (refl, refl, refl))))),
        tt,
      );
    }
  where
    differs : next_style default_sheet Error bold_row ≡ Some plain_style → ⊥
    differs same = let both : false ≡ true = ap is_plain same in cc

    ends : next_style default_sheet Error [] ≡ Some (emboldened plain_style) → ⊥
    ends same = cc

-- so it is the one text under that sheet
only_text : (v : Vec Element Global) (text : List ℕ) → ShowsReport coloured (nameless v) default_sheet text → text ≡ bold_text
only_text v text shown =
    let page : PrintsPage default_sheet (record { level = Error; title = bold_row ∷ []; elements = [] } ∷ []) text = subst (λ page.
    PrintsPage default_sheet page text) (page_is v) (unset-shows _ _ _ _ shown refl).printed.0 in page.joined ∙ joined page.parts page.printed
  where
    joined : (parts : List (List ℕ)) → AllZip (λ (g : GroupPage) part. Prints default_sheet g.level (group_rows g) part)
        (record { level = Error; title = bold_row ∷ []; elements = [] } ∷ []) parts
        → join_with_byte 10 parts ≡ bold_text
    joined [] none = absurd none
    joined (part ∷ []) one = Prints-unique default_sheet Error (bold_row ∷ []) bold_text part printed one.0
    joined (part ∷ other ∷ parts) more = absurd more.1

-- no codes at all:
--
--     e
no_codes : (v : Vec Element Global) → ShowsReport coloured (nameless v) default_sheet (codes "e") → ⊥
no_codes v shown = let byte : ◌≡◌ {A = ℕ} 101 27 = ap (λ (bs : List ℕ). slice_index_or bs 0 0) (only_text v (codes "e") shown) in absurd (omega (arith, byte))

-- a space more, after the codes of a style:
--
--     <bold> e<off>
styled_cells_padded : (v : Vec Element Global) → ShowsReport coloured (nameless v) default_sheet (27 ∷ codes "[1m e" ++ 27 ∷ codes "[0m") → ⊥
styled_cells_padded v shown = let byte : ◌≡◌ {A = ℕ} 32 101 = cc (only_text v (27 ∷ codes "[1m e" ++ 27 ∷ codes "[0m") shown) in absurd (omega (arith, byte))
