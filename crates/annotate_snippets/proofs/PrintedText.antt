-- Whatever rows there are, a text prints them.
use Rattle.annotate_snippets.proofs.Common.{◌≡◌, ◌≢◌, ◌⊎◌, ℕ, List, [], ◌∷◌, ◌++◌, Option, None, Some, refl, sym, ap, ◌∙◌}
use Rattle.annotate_snippets.proofs.Common.{inl, inr, subst, nat_eq, AllZip, flat_map, cases_Bool, false≢true, nat_list_eq_equiv, same_text, cases_style}
use Rattle.annotate_snippets.proofs.Common.{Cell, style_of, LevelInner, Style, Stylesheet, Char, LinkEnd, LinkTo, Piece, Prints, PrintsCells, Reset, next_link}
use Rattle.annotate_snippets.proofs.Common.{piece_text, PrintsFurther, PrintsRows, Prints-from_pieces, Url, none≢some, some_same, group_rows}
use lib.Pointwise.{pointwise}
use Rattle.snippet_grid.specs.Woven.{Opening}
use Rattle.annotate_snippets.proofs.PageWords.{Page, PrintsPart}

-- two links are the same or not
cases_link : (a b : Option Url) → (a ≡ b) ⊎ (a ≢ b)
cases_link None None = inl refl
cases_link None (Some b) = inr (λ h. none≢some h)
cases_link (Some a) None = inr (λ h. none≢some (sym h))
cases_link (Some a) (Some b) =
    elim (cases_Bool (pointwise nat_eq a b)) [
      | inl same ↦ inl (ap Some (same_text a b (sym same)))
      | inr other ↦ inr (λ h. false≢true (sym other ∙ ap (λ u. pointwise nat_eq a u) (sym (some_same h)) ∙ nat_list_eq_equiv.refl a))
    ]

module _ (sheet : Stylesheet) (level : LevelInner) where
  -- pieces that print these cells where this style and this link are open
  abbrev PiecesOf : Option Style → Option Url → List Cell → Type 0
  PiecesOf style link cells = (ps : List Piece) × PrintsCells sheet level style link ps cells

  -- the style of a cell
  abbrev own : Cell → Style
  own cell = style_of sheet level cell.role

  -- a cell whose style and link are open
  char_next : (cell : Cell) (cells : List Cell) → PiecesOf (Some (own cell)) cell.link cells → PiecesOf (Some (own cell)) cell.link (cell ∷ cells)
  char_next cell cells (ps, prints) = (Char cell.ch ∷ ps, (cell, cells, refl, refl, refl, refl, prints))

  -- one whose style is open, and no link
  link_next : (cell : Cell) (cells : List Cell) (link : Option Url) → cell.link ≡ link → PiecesOf (Some (own cell)) link (cell ∷ cells)
      → PiecesOf (Some (own cell)) None (cell ∷ cells)
  link_next cell cells None is rest = rest
  link_next cell cells (Some url) is (ps, prints) = (LinkTo url ∷ ps, (refl, is, refl, prints))

  -- one before which some style is open, and no link or its own
  style_next : (cell : Cell) (cells : List Cell) (style : Style) (link : Option Url) → (link ≡ None) ⊎ (link ≡ cell.link)
      → PiecesOf (Some (own cell)) link (cell ∷ cells) → PiecesOf (Some style) link (cell ∷ cells)
  style_next cell cells style link link_is (ps, prints) =
      elim (cases_style style (own cell)) [
        | inl same ↦ subst (λ (s : Style). PiecesOf (Some s) link (cell ∷ cells)) (sym same) (ps, prints)
        | inr other ↦ (Reset style ∷ Opening (own cell) ∷ ps, (refl, (λ h. other (sym (some_same h))), link_is, (refl, refl, prints)))
      ]

  -- a link that the next cell doesn't go on with ends
  link_ended : (cells : List Cell) (style : Style) (link : Option Url) → link ≢ next_link cells → PiecesOf (Some style) None cells
      → PiecesOf (Some style) link cells
  link_ended cells style None differs rest = rest
  link_ended cells style (Some url) differs (ps, prints) = (LinkEnd ∷ ps, ((λ h. none≢some (sym h)), differs, (λ h. none≢some (sym h)), prints))

  -- a cell before which some style and some link are open
  cell_next : (cell : Cell) (cells : List Cell) (style : Style) (link : Option Url) → PiecesOf (Some (own cell)) cell.link cells
      → PiecesOf (Some style) link (cell ∷ cells)
  cell_next cell cells style link rest =
      let here : PiecesOf (Some (own cell)) cell.link (cell ∷ cells) = char_next cell cells rest in
      elim (cases_link link cell.link) [
        | inl same ↦ style_next cell cells style link (inr same) (subst (λ l. PiecesOf (Some (own cell)) l (cell ∷ cells)) (sym same) here)
        | inr other ↦ link_ended (cell ∷ cells) style link other (style_next cell cells style None (inl refl) (link_next cell cells cell.link refl here))
      ]

  -- after the last cell what is open is closed
  none_next : (style : Style) (link : Option Url) → PiecesOf (Some style) link []
  none_next style None = (Reset style ∷ [], (refl, (λ h. none≢some h), inl refl, (refl, refl, refl)))
  none_next style (Some url) =
      link_ended [] style (Some url) (λ h. none≢some (sym h)) (Reset style ∷ [], (refl, (λ h. none≢some h), inl refl, (refl, refl, refl)))

  pieces_of_cells : (cells : List Cell) (style : Style) (link : Option Url) → PiecesOf (Some style) link cells
  pieces_of_cells [] style link = none_next style link
  pieces_of_cells (cell ∷ cells) style link = cell_next cell cells style link (pieces_of_cells cells (own cell) cell.link)

  pieces_of_further : (rows : List (List Cell)) → (ps : List Piece) × PrintsFurther sheet level ps rows
  pieces_of_further [] = ([], refl)
  pieces_of_further (row ∷ rows) =
      let first = pieces_of_cells row sheet.none None in
      let below = pieces_of_further rows in
      (Char 10 ∷ first.0 ++ below.0, (first.0, below.0, refl, first.1, below.1))

  pieces_of_rows : (rows : List (List Cell)) → (ps : List Piece) × PrintsRows sheet level ps rows
  pieces_of_rows [] = ([], refl)
  pieces_of_rows (row ∷ rows) =
      let first = pieces_of_cells row sheet.none None in
      let below = pieces_of_further rows in
      (first.0 ++ below.0, (first.0, below.0, refl, first.1, below.1))

  -- a text that prints these rows
  pub text_of_rows : (rows : List (List Cell)) → (text : List ℕ) × Prints sheet level rows text
  text_of_rows rows =
      let pieces = pieces_of_rows rows in
      let text : List ℕ = flat_map piece_text pieces.0 in
      (text, Prints-from_pieces sheet level rows text (record { pieces = pieces.0; text_is = refl; prints = pieces.1 }))

-- texts that print the groups of a page
pub texts_of_page : (sheet : Stylesheet) (page : Page) → (parts : List (List ℕ)) × AllZip (PrintsPart sheet) page parts
texts_of_page sheet [] = ([], tt)
texts_of_page sheet (g ∷ page) =
    let part = text_of_rows sheet g.level (group_rows g) in
    let further = texts_of_page sheet page in
    (part.0 ∷ further.0, (part.1, further.1))
