-- The characters of a heading's rows.
use Rattle.snippet_titles.proofs.Common.{common_steps, ◌≡◌, ℕ, zero, suc, Bool, Option, None, Some, List, [], ◌∷◌, ◌++◌, map, replicate, get_or, refl, ap, ◌∙◌}
use Rattle.snippet_titles.proofs.Common.{arith, cow_str_bytes, option_map, get_or-map, get_or_past, map-append, row_at, Cell, SPACE, text_cells, row_text}
use Rattle.snippet_titles.proofs.Common.{ElementStyle, Id, Heading, HeadingRoles, TitleStyle, address_of, bracketed_cells, bracketed_text, heading_rows}
use Rattle.snippet_titles.proofs.Common.{id_cells, id_text, label_cells, heading_label_text, lines_below, linked_to, heading_texts, texts_below}
use Rattle.snippet_titles.proofs.Common.{row_text-text_cells}
use Rattle.snippet_titles.proofs.EndLemmas.{row_at-trimmed}

-- the text of blank cells is spaces
pub row_text-spaces : (n : ℕ) → row_text (replicate n SPACE) ≡ replicate n 32
row_text-spaces zero = refl
row_text-spaces (suc n) = ap (λ ds. 32 ∷ ds) (row_text-spaces n)

-- the text of cells one after the other is both texts
pub row_text-append : (xs ys : List Cell) → row_text (xs ++ ys) ≡ row_text xs ++ row_text ys
row_text-append xs ys = map-append (λ (cell : Cell). cell.ch) xs ys

-- a link leaves the characters as they are
pub row_text-linked : (address : Option (List ℕ)) (cells : List Cell) → row_text (linked_to address cells) ≡ row_text cells
row_text-linked None cells = refl
row_text-linked (Some url) [] = refl
row_text-linked (Some url) (cell ∷ cells) = ap (λ ds. cell.ch ∷ ds) (row_text-linked (Some url) cells)

-- three texts, drawn one after the other
row_text-three : (xs ys zs : List Cell) (a b c : List ℕ) → row_text xs ≡ a → row_text ys ≡ b → row_text zs ≡ c → row_text (xs ++ ys ++ zs) ≡ a ++ b ++ c
row_text-three xs ys zs a b c first second third = grind (arith, common_steps, row_text-append)

-- those of an id, and of a label
row_text-bracketed : (hidden : Bool) (r : ElementStyle) (address text : Option (List ℕ))
    → row_text (bracketed_cells hidden r address text) ≡ bracketed_text hidden text
row_text-bracketed hidden r address None = refl
row_text-bracketed hidden r address (Some text) = grind (arith, common_steps, row_text-three, row_text-text_cells, row_text-linked)

pub row_text-id : (hyperlink hidden : Bool) (r : ElementStyle) (id : Option Id) → row_text (id_cells hyperlink hidden r id) ≡ id_text hidden id
row_text-id hyperlink hidden r None = refl
row_text-id hyperlink hidden r (Some id) =
    row_text-bracketed hidden r (address_of hyperlink id) (option_map cow_str_bytes id.id)

-- the text of a label's cells is the label's text
pub row_text-label : (hyperlink : Bool) (roles : HeadingRoles) (heading : Heading) → row_text (label_cells hyperlink roles heading) ≡ heading_label_text heading
unfolding label_cells
row_text-label hyperlink roles heading =
    grind (arith, common_steps, heading.level.name, row_text-three, roles.label, heading.level, heading.id, roles.colon, row_text-text_cells, row_text-id)

-- the texts of the rows of lines
pub row_text-after : (cells : List Cell) (text : List ℕ) (r : ElementStyle) (line : List ℕ) → row_text cells ≡ text
    → row_text (cells ++ text_cells r line) ≡ text ++ line
row_text-after cells text r line is =
    row_text-append cells (text_cells r line) ∙ ap (λ cs. cs ++ row_text (text_cells r line)) is ∙ ap (λ cs. text ++ cs) (row_text-text_cells r line)

further_texts : (further : List Cell) (r : ElementStyle) (lines : List (List ℕ))
    → map row_text (map (λ l. further ++ text_cells r l) lines) ≡ map (λ l. row_text further ++ l) lines
further_texts further r [] = refl
further_texts further r (line ∷ lines) = grind (arith, common_steps, row_text-after, further_texts further r lines)

-- the texts of lines below are the lines, each after what stands before it
pub texts_of_lines : (first further : List Cell) (text : List ℕ) (r : ElementStyle) (lines : List (List ℕ)) → row_text first ≡ text
    → map row_text (lines_below first further r lines) ≡ texts_below text (row_text further) lines
texts_of_lines first further text r [] is = refl
texts_of_lines first further text r (line ∷ lines) is = grind (arith, common_steps, row_text-after, further_texts)

-- the text of a row, which is empty where it isn't there
pub text_at : (rows : List (List Cell)) (k : ℕ) → row_text (row_at rows k) ≡ get_or (map row_text rows) k []
text_at rows k = grind (arith, common_steps, get_or-map, get_or_past)

-- the text of each row of a heading
pub heading_rows-texts : (hyperlink : Bool) (style : TitleStyle) (heading : Heading) (k : ℕ)
    → row_text (row_at (heading_rows hyperlink style heading) k) ≡ get_or (heading_texts style heading) k []
unfolding heading_rows
heading_rows-texts hyperlink style heading k =
    grind (arith, common_steps, heading.level.kind, row_text-append, row_text-label, row_at-trimmed, text_at, texts_of_lines)
