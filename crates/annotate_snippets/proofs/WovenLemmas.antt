-- Woven texts that are joined by line feeds are woven.
use Rattle.std.proofs.lemmas.Grind.{common_steps}
use Rattle.std.proofs.Common.{arith}
use Rattle.annotate_snippets.proofs.Common.{◌≡◌, ℕ, false, List, [], ◌∷◌, ◌++◌, lit<, refl, sym, subst, AllZip, flat_map, join_with_byte}
use Rattle.annotate_snippets.proofs.Common.{append-nil, All-nil, All-append, All-cons, flat_map-append, encode_ascii, plain_text, Piece, Char, piece_text}
use Rattle.annotate_snippets.proofs.Common.{IsOfSheet, IsWoven, links_of, Stylesheet, IsWoven-from_prints, PrintsPage, group_rows, page_text, ended-append}
use Rattle.annotate_snippets.proofs.PageWords.{Page, PrintsPart}

-- no text is woven
pub IsWoven-nil : (sheet : Stylesheet) → IsWoven sheet [] [] []
IsWoven-nil sheet = record { pieces = []; text_is = refl; plain_is = refl; links_are = refl; of_sheet = All-nil (IsOfSheet sheet); ended = refl }

-- two woven texts with a line feed between them
pub IsWoven-joined : (sheet : Stylesheet) (a pa : List ℕ) (la : List (List ℕ)) (b pb : List ℕ) (lb : List (List ℕ)) → IsWoven sheet a pa la
    → IsWoven sheet b pb lb → IsWoven sheet (a ++ 10 ∷ b) (pa ++ 10 ∷ pb) (la ++ lb)
IsWoven-joined sheet a pa la b pb lb first second =
    let pieces : List Piece = first.pieces ++ Char 10 ∷ second.pieces in
    let fed : piece_text (Char 10) ≡ 10 ∷ [] = encode_ascii 10 (lit< tt) in
    record {
      pieces = pieces;
      text_is = grind (arith, common_steps, fed, flat_map-append, first.text_is, first.pieces, second.text_is, second.pieces);
      plain_is = grind (arith, common_steps, flat_map-append, first.plain_is, first.pieces, second.plain_is, second.pieces);
      links_are = grind (arith, common_steps, flat_map-append, first.links_are, first.pieces, second.links_are, second.pieces);
      of_sheet = All-append (λ p. IsOfSheet sheet p) first.pieces (Char 10 ∷ second.pieces) first.of_sheet
          (All-cons (λ p. IsOfSheet sheet p) (Char 10) second.pieces tt second.of_sheet);
      ended = ended-append false first.pieces (Char 10 ∷ second.pieces) first.ended second.ended;
    }

-- the URLs of a page's linked runs of cells, in order
abbrev pub page_links : Page → List (List ℕ)
page_links page = flat_map (λ g. links_of (group_rows g)) page

-- so texts that print the groups of a page, joined, are woven of the page's characters, with the page's links
IsWoven-from_groups : (sheet : Stylesheet) (page : Page) (parts : List (List ℕ)) → AllZip (PrintsPart sheet) page parts
    → IsWoven sheet (join_with_byte 10 parts) (page_text page) (page_links page)
IsWoven-from_groups sheet [] [] printed = IsWoven-nil sheet
IsWoven-from_groups sheet [] (part ∷ parts) printed = absurd printed
IsWoven-from_groups sheet (g ∷ gs) [] printed = absurd printed
IsWoven-from_groups sheet (g ∷ []) (part ∷ []) printed =
    subst (IsWoven sheet part (plain_text (group_rows g))) (sym (append-nil (links_of (group_rows g))))
    (IsWoven-from_prints sheet g.level (group_rows g) part printed.0)
IsWoven-from_groups sheet (g ∷ []) (part ∷ next ∷ parts) printed = absurd printed.1
IsWoven-from_groups sheet (g ∷ other ∷ gs) (part ∷ []) printed = absurd printed.1
IsWoven-from_groups sheet (g ∷ other ∷ gs) (part ∷ next ∷ parts) printed =
    IsWoven-joined sheet part (plain_text (group_rows g)) (links_of (group_rows g)) (join_with_byte 10 (next ∷ parts)) (page_text (other ∷ gs))
    (page_links (other ∷ gs)) (IsWoven-from_prints sheet g.level (group_rows g) part printed.0)
    (IsWoven-from_groups sheet (other ∷ gs) (next ∷ parts) printed.1)

-- what prints a page is woven of its text with its links
pub IsWoven-from_page : (sheet : Stylesheet) (page : Page) (text : List ℕ) → PrintsPage sheet page text
    → IsWoven sheet text (page_text page) (page_links page)
IsWoven-from_page sheet page text prints =
    subst (λ t. IsWoven sheet t (page_text page) (page_links page)) (sym prints.joined) (IsWoven-from_groups sheet page prints.parts prints.printed)
