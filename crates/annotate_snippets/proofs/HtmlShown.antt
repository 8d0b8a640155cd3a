-- The groups of a report, printed as HTML, are its page as HTML; and the laws of that.
use Rattle.std.proofs.lemmas.Grind.{common_steps}
use Rattle.annotate_snippets.proofs.Common.{◌≡◌, ℕ, suc, ◌==◌, true, false, if◌then◌else◌, List, [], ◌∷◌, ◌++◌, refl, ap, string_bytes, arith, length, map}
use Rattle.annotate_snippets.proofs.Common.{flat_map, join_with_byte, list_all, nat_tests, append_assoc, append-nil, flat_map-append, chars_read, made-append}
use Rattle.annotate_snippets.proofs.Common.{made_rows, rows_chars, says_rows, adds_both, html_says_pieces, is_made, piece_says, tags_are, AddsHtml, HtmlPiece}
use Rattle.annotate_snippets.proofs.Common.{html_bytes, plain_look, rows_html, html_reads_pieces, plain_text, Group, AddsGroupHtml, HtmlLaws, further_chars}
use Rattle.annotate_snippets.proofs.Common.{further_groups, page_chars, page_html, report_html, GroupPage, group_rows, page_text, Takes, Renderer, HtmlPage}
use Rattle.snippet_grid.specs.Html.{Text}
use Rattle.annotate_snippets.proofs.PageWords.{Page}
use Rattle.annotate_snippets.proofs.SinkLemmas.{holds_after}

-- ---- what is printed so far

-- one more group
page_html-more : (page : Page) (g : GroupPage) → page_html (page ++ g ∷ [])
    ≡ page_html page ++ (if length page == 0 then rows_html g.level (group_rows g) else (Text 10 ∷ rows_html g.level (group_rows g)))
page_html-more [] g = append-nil (rows_html g.level (group_rows g))
page_html-more (top ∷ page) g = grind (arith, common_steps, flat_map-append, append-nil, append_assoc, not_first)
  where
    not_first : (n : ℕ) → (suc n == 0) ≡ false
    not_first n = grind (arith, nat_tests)

html_more : (page : Page) (g : GroupPage) (old new : List ℕ) → old ≡ html_bytes (page_html page) → AddsGroupHtml (length page == 0) g old new
    → new ≡ html_bytes (page_html (page ++ g ∷ []))
html_more page g old new before adds =
    let piece : List HtmlPiece = if length page == 0 then rows_html g.level (group_rows g) else (Text 10 ∷ rows_html g.level (group_rows g)) in
    let both : AddsHtml (page_html page ++ piece) [] new = adds_both (page_html page) piece [] old new before adds in cc (both, page_html-more page g)

-- after all
pub html_after : (page : Page) (old new : HtmlPage) → string_bytes old.text ≡ []
    → Takes (λ first g (was : HtmlPage) (is : HtmlPage). AddsGroupHtml first g (string_bytes was.text) (string_bytes is.text)) true page old new
    → string_bytes new.text ≡ html_bytes (page_html page)
html_after page old new none taken =
    holds_after (λ first g (was : HtmlPage) (is : HtmlPage). AddsGroupHtml first g (string_bytes was.text) (string_bytes is.text))
    (λ before (p : HtmlPage). string_bytes p.text ≡ html_bytes (page_html before))
    (λ before g was is. html_more before g (string_bytes was.text) (string_bytes is.text)) page old new none taken

-- ---- laws

says_further : (page : Page) → flat_map piece_says (further_groups page) ≡ flat_map (λ g. 10 ∷ plain_text (group_rows g)) page
says_further [] = refl
says_further (g ∷ gs) = grind (arith, says_further gs, flat_map-append, says_rows, g.level)

joined_by : (x : List ℕ) (page : Page) → x ++ flat_map (λ g. 10 ∷ plain_text (group_rows g)) page
    ≡ join_with_byte 10 (x ∷ map (λ g. plain_text (group_rows g)) page)
joined_by x [] = append-nil x
joined_by x (g ∷ gs) = ap (λ (t : List ℕ). x ++ 10 ∷ t) (joined_by (plain_text (group_rows g)) gs)

says_page : (page : Page) → flat_map piece_says (page_html page) ≡ page_text page
says_page [] = refl
says_page (g ∷ gs) = grind (arith, flat_map-append, says_rows, says_further, joined_by, g.level)

made_further : (page : Page) → list_all is_made (further_groups page) ≡ true
made_further [] = refl
made_further (g ∷ gs) = made-append (Text 10 ∷ rows_html g.level (group_rows g)) (further_groups gs) (made_rows g.level (group_rows g)) (made_further gs)

made_page : (page : Page) → list_all is_made (page_html page) ≡ true
made_page [] = refl
made_page (g ∷ gs) = made-append (rows_html g.level (group_rows g)) (further_groups gs) (made_rows g.level (group_rows g)) (made_further gs)

stands_further : (page : Page) → chars_read plain_look (further_groups page) ≡ further_chars page
stands_further [] = refl
stands_further (g ∷ gs) = grind (arith, stands_further gs, rows_chars, g.level)

stands_page : (page : Page) → chars_read plain_look (page_html page) ≡ page_chars page
stands_page [] = refl
stands_page (g ∷ gs) = grind (arith, rows_chars, stands_further, g.level)

-- a report's text in HTML has its laws
pub html_laws : (r : Renderer) (groups : List Group) (text : List ℕ) → text ≡ html_bytes (report_html r groups) → HtmlLaws r groups text
html_laws r groups text is = grind (arith, html_says_pieces, made_page, says_page, tags_are, html_reads_pieces, stands_page)
