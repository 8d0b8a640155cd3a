-- A heading's rows link to the address of its id, and to no other.
use Rattle.snippet_titles.proofs.Common.{common_steps, ◌≡◌, ℕ, ◌+◌, ◌<◌, Bool, true, false, Option, None, Some, List, [], ◌∷◌, ◌++◌, map, length, replicate}
use Rattle.snippet_titles.proofs.Common.{All, refl, ap, ◌∙◌, arith, nat_list_eq_equiv, All-nil, All-append, All-cons, All-head, All-tail, All-replicate}
use Rattle.snippet_titles.proofs.Common.{length-slice_split, DecorStyle, Ascii, Unicode, linked, Cell, SPACE, text_cells, link_begun, links_after, links_of}
use Rattle.snippet_titles.proofs.Common.{ElementStyle, norm, Id, Heading, heading_of_title, is_hidden, name_of, HeadingRoles, TitleStyle, Title, Short, Message}
use Rattle.snippet_titles.proofs.Common.{bracketed_cells, colon_of, heading_rows, id_cells, indent_cells, label_cells, lines_below, linked_to, note_bar_of}
use Rattle.snippet_titles.proofs.Common.{on_top, sign_cells, without_empty_end, id_links, text_links, title_rows}
use Rattle.std.proofs.Common.{chars}
use Rattle.snippet_model.specs.declared.snippet.Title as the_title

-- a cell that links to nothing
abbrev pub IsUnlinked : Cell → Type 0
IsUnlinked cell = cell.link ≡ None

-- the cells of a text have no link
pub drawn_unlinked : (r : ElementStyle) (cs : List ℕ) → All IsUnlinked (text_cells r cs)
drawn_unlinked r [] = All-nil IsUnlinked
drawn_unlinked r (c ∷ cs) = All-cons IsUnlinked _ (text_cells r cs) refl (drawn_unlinked r cs)

bar_unlinked : (decor : DecorStyle) (followed : Bool) → IsUnlinked (note_bar_of decor followed)
bar_unlinked Ascii followed = refl
bar_unlinked Unicode true = refl
bar_unlinked Unicode false = refl

-- the cells of a sign have no link
pub sign_unlinked : (style : TitleStyle) → All IsUnlinked (sign_cells style)
sign_unlinked Title = All-nil IsUnlinked
sign_unlinked Short = All-nil IsUnlinked
sign_unlinked (Message place) = grind (arith, common_steps, place.followed, All-append, All-replicate, drawn_unlinked)

-- the cells of an indent have no link
pub indent_unlinked : (style : TitleStyle) (width : ℕ) → All IsUnlinked (indent_cells style width)
indent_unlinked Title width = All-replicate IsUnlinked width SPACE refl
indent_unlinked Short width = All-replicate IsUnlinked width SPACE refl
indent_unlinked (Message place) width =
    let bar : Cell = note_bar_of place.layout.decor place.followed in
    let spaces : List Cell = replicate (width + 1) SPACE in
    All-append IsUnlinked (replicate (place.layout.gutter + 1) SPACE) (bar ∷ spaces) (All-replicate IsUnlinked (place.layout.gutter + 1) SPACE refl)
    (All-cons IsUnlinked bar spaces (bar_unlinked place.layout.decor place.followed) (All-replicate IsUnlinked (width + 1) SPACE refl))

-- such cells link to nothing, after others and before them
pub links_after-unlinked : (last : Option (List ℕ)) (xs ys : List Cell) → All IsUnlinked ys → links_after last (xs ++ ys) ≡ links_after last xs
links_after-unlinked last [] [] none = refl
links_after-unlinked last [] (y ∷ ys) none =
    let here : y.link ≡ None = All-head IsUnlinked y ys none in
    ap (λ l. link_begun last l ++ links_after l ys) here ∙ links_after-unlinked None [] ys (All-tail IsUnlinked y ys none)
links_after-unlinked last (x ∷ xs) ys none =
    ap (λ (urls : List (List ℕ)). link_begun last x.link ++ urls) (links_after-unlinked x.link xs ys none)

-- cells without links in front add no link
pub links-before : (xs ys : List Cell) → All IsUnlinked xs → links_after None (xs ++ ys) ≡ links_after None ys
links-before [] ys none = refl
links-before (x ∷ xs) ys none =
    let here : x.link ≡ None = All-head IsUnlinked x xs none in
    ap (λ l. link_begun None l ++ links_after l (xs ++ ys)) here ∙ links-before xs ys (All-tail IsUnlinked x xs none)

-- linked cells begin one link, if there are any
same_link : (url : List ℕ) → link_begun (Some url) (Some url) ≡ []
same_link url = rw (nat_list_eq_equiv.refl url) refl

linked-links : (url : List ℕ) (r : ElementStyle) (cs : List ℕ) → links_after (Some url) (map (linked url) (text_cells r cs)) ≡ []
linked-links url r [] = refl
linked-links url r (c ∷ cs) =
    ap (λ (urls : List (List ℕ)). urls ++ links_after (Some url) (map (linked url) (text_cells r cs))) (same_link url) ∙ linked-links url r cs

links-linked : (address : Option (List ℕ)) (r : ElementStyle) (cs : List ℕ) → links_after None (linked_to address (text_cells r cs)) ≡ text_links address cs
links-linked None r [] = refl
links-linked None r (c ∷ cs) = links_after-unlinked None [] (text_cells r cs) (drawn_unlinked r cs)
links-linked (Some url) r [] = refl
links-linked (Some url) r (c ∷ cs) = ap (λ (urls : List (List ℕ)). url ∷ urls) (linked-links url r cs)

-- an id's cells link to its address
bracketed-links : (hidden : Bool) (r : ElementStyle) (address : Option (List ℕ)) (text : List ℕ)
    → links_after None (bracketed_cells hidden r address (Some text)) ≡ text_links address (norm (chars text))
bracketed-links hidden r address text = grind (arith, common_steps, links_after-unlinked, drawn_unlinked, links-before, links-linked)

links_after-id : (hyperlink hidden : Bool) (r : ElementStyle) (id : Option Id) → links_after None (id_cells hyperlink hidden r id) ≡ id_links hyperlink id
links_after-id hyperlink hidden r None = refl
links_after-id hyperlink hidden r (Some id) = grind (arith, common_steps, id.id, bracketed-links)

-- so does a label, and the row that begins with it
pub label-links : (hyperlink : Bool) (roles : HeadingRoles) (heading : Heading)
    → links_after None (label_cells hyperlink roles heading) ≡ id_links hyperlink heading.id
unfolding label_cells
label-links hyperlink roles heading =
    let hidden : Bool = is_hidden heading.level.name in
    let name : List ℕ = norm (chars (name_of heading.level)) in
    let id : List Cell = id_cells hyperlink hidden roles.label heading.id in
    links_after-unlinked None (text_cells roles.label name ++ id) (text_cells roles.colon (colon_of hidden heading.id))
    (drawn_unlinked roles.colon (colon_of hidden heading.id)) ∙ links-before (text_cells roles.label name) id (drawn_unlinked roles.label name)
    ∙ links_after-id hyperlink hidden roles.label heading.id

-- rows of cells that link to nothing link to nothing
unlinked_row : (cells : List Cell) (r : ElementStyle) (line : List ℕ) → All IsUnlinked cells → links_after None (cells ++ text_cells r line) ≡ []
unlinked_row cells r line none =
    links_after-unlinked None [] (cells ++ text_cells r line) (All-append IsUnlinked cells (text_cells r line) none (drawn_unlinked r line))

further-links : (further : List Cell) (r : ElementStyle) (lines : List (List ℕ)) → All IsUnlinked further
    → links_of (map (λ l. further ++ text_cells r l) lines) ≡ []
further-links further r [] none = refl
further-links further r (line ∷ lines) none = grind (arith, common_steps, unlinked_row, further-links further r lines none)

-- the links of lines are those of what stands before the first
pub lines-links : (first further : List Cell) (r : ElementStyle) (lines : List (List ℕ)) → 0 < length lines → All IsUnlinked further
    → links_of (lines_below first further r lines) ≡ links_after None first
lines-links first further r [] some none = absurd (omega (arith, some))
lines-links first further r (line ∷ lines) some none = grind (arith, common_steps, further-links, links_after-unlinked, drawn_unlinked)

-- rows that aren't there link to nothing
on_top-links : (row : List Cell) (rows : List (List Cell)) → links_of (on_top row rows) ≡ links_after None row ++ links_of rows
on_top-links [] [] = refl
on_top-links [] (r ∷ rows) = refl
on_top-links (cell ∷ cells) rows = refl

-- trimming rows leaves their links
pub trimmed-links : (rows : List (List Cell)) → links_of (without_empty_end rows) ≡ links_of rows
trimmed-links [] = refl
trimmed-links (row ∷ rows) =
    on_top-links row (without_empty_end rows) ∙ ap (λ urls. links_after None row ++ urls) (trimmed-links rows)

-- the addresses that a heading's rows link to
pub heading_rows-links : (hyperlink : Bool) (style : TitleStyle) (heading : Heading)
    → links_of (heading_rows hyperlink style heading) ≡ id_links hyperlink heading.id
unfolding heading_rows
heading_rows-links hyperlink style heading =
    grind (arith, common_steps, heading.level.kind, trimmed-links, lines-links, length-slice_split, indent_unlinked, links-before, sign_unlinked, label-links)

-- and those of a title
pub title_rows-links : (hyperlink : Bool) (title : the_title.Title) → links_of (title_rows hyperlink title) ≡ id_links hyperlink title.id
title_rows-links hyperlink title = heading_rows-links hyperlink Title (heading_of_title title)
