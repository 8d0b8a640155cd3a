-- How a woven text grows by a cell, by a row's end and by a row.
use Rattle.snippet_grid.proofs.Common.{common_steps, arith, ◌≡◌, ◌≢◌, ◌⊎◌, ℕ, Bool, true, false, List, [], ◌∷◌, ◌++◌, Option, None, Some, refl, sym, ap, ◌∙◌}
use Rattle.snippet_grid.proofs.Common.{inl, inr, subst, nat_eq, encode_utf8, encode_utf8_all, cases_Bool, false≢true, append_assoc, append-nil, flat_map-append}
use Rattle.snippet_grid.proofs.Common.{nat_list_eq_equiv, same_text, flat_map, cases_style, reset, Cell, style_of, Piece, Char, Opening, Reset, LinkTo, LinkEnd}
use Rattle.snippet_grid.proofs.Common.{piece_text, PrintsCells, PrintsRow, PrintsFurther, WeavesRow, LevelInner, Style, Stylesheet}
use lib.Pointwise.{pointwise}
pub use Rattle.snippet_grid.specs.OpenRow.{Completes, Goes}

-- the address of a link
abbrev pub Url : Type 0
Url = List ℕ

-- whether there is a value, and the value
abbrev pub is_there : {X : Type 0} → Option X → Bool
is_there None = false
is_there (Some x) = true

abbrev value_or : {X : Type 0} → X → Option X → X
value_or d None = d
value_or d (Some x) = x

-- none is no value that is there
pub none≢some : {X : Type 0} {x : X} → None ≡ Some x → ⊥
none≢some h = false≢true (ap is_there h)

-- two values that are there and the same hold the same
pub some_same : {X : Type 0} {x y : X} → Some x ≡ Some y → x ≡ y
some_same {X = X} {x = x} h = ap (value_or x) h

-- two links are the same or not
cases_link : (a b : Option Url) → (a ≡ b) ⊎ (a ≢ b)
cases_link None None = inl refl
cases_link None (Some b) = inr (λ h. none≢some h)
cases_link (Some a) None = inr (λ h. none≢some (sym h))
cases_link (Some a) (Some b) =
    elim (cases_Bool (pointwise nat_eq a b)) [
      | inl same ↦ inl (ap Some (same_text a b (sym same)))
      | inr other ↦ inr (λ h. false≢true (sym other ∙ ap (λ u. pointwise nat_eq a u) (sym (some_same h)) ∙ nat_list_eq_equiv.refl a))
    ]

-- the same, where this cell comes next
abbrev pub GoesTo : Stylesheet → LevelInner → Option Style → Option Url → List Cell → List ℕ → List ℕ → Cell → Type 0
GoesTo sheet level style link done old now cell =
    (rest : List Piece) (more : List Cell) → PrintsCells sheet level style link rest (cell ∷ more) → Completes sheet level done old now rest (cell ∷ more)

-- the text grew by some of the pieces
grown : (sheet : Stylesheet) (level : LevelInner) (done : List Cell) (old now new : List ℕ) (codes rest : List Piece) (more : List Cell)
    → new ≡ now ++ flat_map piece_text codes → Completes sheet level done old now (codes ++ rest) more → Completes sheet level done old new rest more
grown sheet level done old now new codes rest more is completes =
    grind (arith, common_steps, completes.pieces, flat_map-append, completes.text_is, completes.prints)

-- the text did not grow
kept : (sheet : Stylesheet) (level : LevelInner) (style : Option Style) (link : Option Url) (done : List Cell) (old now new : List ℕ) (cell : Cell) → new ≡ now
    → GoesTo sheet level style link done old now cell → GoesTo sheet level style link done old new cell
kept sheet level style link done old now new cell is goes =
    subst (λ t. GoesTo sheet level style link done old t cell) (sym is) goes

-- a link ended, or there was none
link_ended : (sheet : Stylesheet) (level : LevelInner) (style : Style) (link : Option Url) (done : List Cell) (old now new : List ℕ) (cell : Cell)
    → link ≢ cell.link → (link ≡ None → new ≡ now) → (link ≢ None → link ≢ cell.link → new ≡ now ++ flat_map piece_text (LinkEnd ∷ []))
    → GoesTo sheet level (Some style) link done old now cell → GoesTo sheet level (Some style) None done old new cell
link_ended sheet level style link done old now new cell differs none ended goes =
    elim (cases_link link None) [
      | inl absent ↦ kept sheet level (Some style) None done old now new cell (none absent)
          (subst (λ l. GoesTo sheet level (Some style) l done old now cell) absent goes)
      | inr there ↦ λ rest more prints. grown sheet level done old now new (LinkEnd ∷ []) rest (cell ∷ more) (ended there differs)
          (goes (LinkEnd ∷ rest) more (there, differs, (λ h. none≢some (sym h)), prints))
    ]

-- a style gave way to the next one, or went on
style_changed : (sheet : Stylesheet) (level : LevelInner) (style next : Style) (link : Option Url) (done : List Cell) (old now new : List ℕ)
    (cell : Cell) → next ≡ style_of sheet level cell.role → (link ≡ None) ⊎ (link ≡ cell.link) → (style ≡ next → new ≡ now)
    → (style ≢ next → new ≡ now ++ flat_map piece_text (Reset style ∷ Opening next ∷ [])) → GoesTo sheet level (Some style) link done old now cell
    → GoesTo sheet level (Some next) link done old new cell
style_changed sheet level style next link done old now new cell is link_is continues changed goes =
    elim (cases_style style next) [
      | inl same ↦ kept sheet level (Some next) link done old now new cell (continues same)
          (subst (λ s. GoesTo sheet level (Some s) link done old now cell) same goes)
      | inr other ↦ λ rest more prints. grown sheet level done old now new (Reset style ∷ Opening next ∷ []) rest (cell ∷ more) (changed other)
          (goes (Reset style ∷ Opening next ∷ rest) more (refl, (λ h. other (sym (some_same h) ∙ sym is)), link_is, (refl, ap Some (sym is), prints)))
    ]

-- the next link began, if there is one
link_began : (sheet : Stylesheet) (level : LevelInner) (style : Style) (link next : Option Url) (done : List Cell) (old now new : List ℕ)
    (cell : Cell) → style ≡ style_of sheet level cell.role → cell.link ≡ next → link ≢ next → (next ≡ None → new ≡ now)
    → ((url : Url) → next ≡ Some url → link ≢ Some url → new ≡ now ++ flat_map piece_text (LinkTo url ∷ []))
    → GoesTo sheet level (Some style) None done old now cell → GoesTo sheet level (Some style) next done old new cell
link_began sheet level style link None done old now new cell style_is is differs none begun goes =
    kept sheet level (Some style) None done old now new cell (none refl) goes
link_began sheet level style link (Some url) done old now new cell style_is is differs none begun goes =
    λ rest more prints. grown sheet level done old now new (LinkTo url ∷ []) rest (cell ∷ more) (begun url refl differs)
    (goes (LinkTo url ∷ rest) more (refl, is, ap Some style_is, prints))

-- the next character was printed
char_printed : (sheet : Stylesheet) (level : LevelInner) (style : Style) (done : List Cell) (old now new : List ℕ) (cell : Cell)
    → style ≡ style_of sheet level cell.role → new ≡ now ++ encode_utf8 cell.ch → GoesTo sheet level (Some style) cell.link done old now cell
    → Goes sheet level (Some style) cell.link (done ++ cell ∷ []) old new
char_printed sheet level style done old now new cell is pushed goes =
    λ rest more prints.
    let bytes : new ≡ now ++ flat_map piece_text (Char cell.ch ∷ []) = pushed ∙ ap (λ (t : List ℕ). now ++ t) (sym (append-nil (encode_utf8 cell.ch))) in
    let completes = grown sheet level done old now new (Char cell.ch ∷ []) rest (cell ∷ more) bytes
    (goes (Char cell.ch ∷ rest) more (cell, more, refl, refl, ap Some is, refl, prints)) in
    record {
      pieces = completes.pieces;
      text_is = completes.text_is;
      prints = subst (λ cells. PrintsRow sheet level completes.pieces cells) (sym (append_assoc done (cell ∷ []) more)) completes.prints;
    }

-- the codes before a cell were written, and the cell was printed
pub cell_printed : (sheet : Stylesheet) (level : LevelInner) (style next : Style) (link : Option Url) (done : List Cell)
    (old now ended changed begun new : List ℕ) (cell : Cell) → next ≡ style_of sheet level cell.role → (link ≡ cell.link → ended ≡ now)
    → (link ≡ None → ended ≡ now) → (link ≢ None → link ≢ cell.link → ended ≡ now ++ flat_map piece_text (LinkEnd ∷ []))
    → (style ≡ next → changed ≡ ended) → (style ≢ next → changed ≡ ended ++ flat_map piece_text (Reset style ∷ Opening next ∷ []))
    → (link ≡ cell.link → begun ≡ changed) → (cell.link ≡ None → begun ≡ changed)
    → ((url : Url) → cell.link ≡ Some url → link ≢ Some url → begun ≡ changed ++ flat_map piece_text (LinkTo url ∷ []))
    → new ≡ begun ++ encode_utf8 cell.ch → Goes sheet level (Some style) link done old now
    → Goes sheet level (Some next) cell.link (done ++ cell ∷ []) old new
cell_printed sheet level style next link done old now ended changed begun new cell is continues absent ends style_continues style_changes link_continues
    link_absent begins pushed goes =
    let before : GoesTo sheet level (Some style) link done old now cell = λ rest more prints. goes rest (cell ∷ more) prints in
    let ready : GoesTo sheet level (Some next) cell.link done old begun cell = elim (cases_link link cell.link) [
      | inl same ↦
          let first = kept sheet level (Some style) link done old now ended cell (continues same) before in
          let second = style_changed sheet level style next link done old ended changed cell is (inr same) style_continues style_changes first in
          kept sheet level (Some next) cell.link done old changed begun cell (link_continues same)
          (subst (λ l. GoesTo sheet level (Some next) l done old changed cell) same second)
      | inr differs ↦
          let first = link_ended sheet level style link done old now ended cell differs absent ends before in
          let second = style_changed sheet level style next None done old ended changed cell is (inl refl) style_continues style_changes first in
          link_began sheet level next link cell.link done old changed begun cell is refl differs link_absent begins second
    ] in
    char_printed sheet level next done old begun new cell is pushed ready

-- a row whose last cell was printed is whole
whole : (sheet : Stylesheet) (level : LevelInner) (row : List Cell) (old now new : List ℕ) (rest : List Piece) → new ≡ now ++ flat_map piece_text rest
    → Completes sheet level row old now rest [] → WeavesRow sheet level row old new
whole sheet level row old now new rest is completes = grind (arith, common_steps, completes.pieces, completes.text_is, completes.prints)

-- a row was closed
pub row_closed : (sheet : Stylesheet) (level : LevelInner) (style : Style) (link : Option Url) (row : List Cell) (old now ended new : List ℕ)
    → (link ≡ None → ended ≡ now) → (link ≢ None → link ≢ None → ended ≡ now ++ flat_map piece_text (LinkEnd ∷ []))
    → new ≡ ended ++ encode_utf8_all (reset style) → Goes sheet level (Some style) link row old now → WeavesRow sheet level row old new
row_closed sheet level style link row old now ended new absent ends closed goes =
    let code : List ℕ = encode_utf8_all (reset style) in
    let close : flat_map piece_text (Reset style ∷ []) ≡ code = append-nil code in
    elim (cases_link link None) [
      | inl none ↦ whole sheet level row old now new (Reset style ∷ [])
          (closed ∙ ap (λ (t : List ℕ). t ++ code) (absent none) ∙ ap (λ (t : List ℕ). now ++ t) (sym close))
          (goes (Reset style ∷ []) [] (refl, none≢some, inl none, (refl, refl, none)))
      | inr there ↦ whole sheet level row old now new (LinkEnd ∷ Reset style ∷ [])
          (closed ∙ ap (λ (t : List ℕ). t ++ code) (ends there there) ∙ append_assoc now (flat_map piece_text
          (LinkEnd ∷ [])) code ∙ ap (λ (t : List ℕ). now ++ (flat_map piece_text (LinkEnd ∷ []) ++ t)) (sym close))
          (goes (LinkEnd ∷ Reset style ∷ []) [] (there, there, (λ h. none≢some (sym h)), (refl, none≢some, inl refl, (refl, refl, refl))))
    ]

-- further rows below further rows
pub further-append : (sheet : Stylesheet) (level : LevelInner) (ps qs : List Piece) (rows more : List (List Cell)) → PrintsFurther sheet level ps rows
    → PrintsFurther sheet level qs more → PrintsFurther sheet level (ps ++ qs) (rows ++ more)
further-append sheet level ps qs [] more none prints =
    subst (λ (pieces : List Piece). PrintsFurther sheet level (pieces ++ qs) more) (sym none) prints
further-append sheet level ps qs (row ∷ rows) more (first, others, split, prints, below) prints_more =
    grind (arith, common_steps, further-append sheet level others qs rows more below prints_more)
