-- A grid has one printed text under a sheet.
use Rattle.snippet_grid.proofs.Common.{common_steps, arith, ◌≡◌, ℕ, List, [], ◌∷◌, ◌++◌, Option, None, Some, refl, sym, ap, ◌∙◌, inl, inr, subst, Cell, Piece}
use Rattle.snippet_grid.proofs.Common.{Char, Opening, Reset, LinkTo, LinkEnd, next_style, next_link, PrintsCells, PrintsRow, Prints, PrintsFurther, PrintsRows}
use Rattle.snippet_grid.proofs.Common.{LevelInner, Style, Stylesheet}
use Rattle.snippet_grid.proofs.HtmlLaws.{PrintsPieces-from_prints}
use Rattle.snippet_grid.proofs.WeaveLemmas.{Url, none≢some, some_same}
use Rattle.snippet_grid.proofs.WovenLemmas.{nil≢cons}

abbrev rest_of : {X : Type 0} → List X → List X
rest_of [] = []
rest_of (x ∷ xs) = xs

abbrev first_or : {X : Type 0} → X → List X → X
first_or d [] = d
first_or d (x ∷ xs) = x

-- what is open and what comes next say which piece stands here
cells_once : (sheet : Stylesheet) (level : LevelInner) (style : Option Style) (link : Option Url) (ps qs : List Piece) (cells : List Cell)
    → PrintsCells sheet level style link ps cells → PrintsCells sheet level style link qs cells → ps ≡ qs
cells_once sheet level style link [] [] cells a b = refl
cells_once sheet level style link [] (Char ch2 ∷ qs) cells (a_cells_are, _, _) (_, _, b_cells_are, _, _, _, _) =
    absurd (nil≢cons (sym b_cells_are ∙ a_cells_are))
cells_once sheet level style link [] (Opening new2 ∷ qs) cells (a_cells_are, _, _) (_, b_next, _) =
    absurd (none≢some (ap (next_style sheet level) (sym a_cells_are) ∙ b_next))
cells_once sheet level style link [] (Reset old2 ∷ qs) cells (_, a_style_is, _) (b_style_is, _, _, _) =
    absurd (none≢some (sym a_style_is ∙ b_style_is))
cells_once sheet level style link [] (LinkTo url2 ∷ qs) cells (a_cells_are, _, _) (_, b_next, _, _) =
    absurd (none≢some (ap next_link (sym a_cells_are) ∙ b_next))
cells_once sheet level style link [] (LinkEnd ∷ qs) cells (_, _, a_link_is) (b_there, _, _, _) =
    absurd (b_there a_link_is)
cells_once sheet level style link (Char ch ∷ ps) [] cells (_, _, a_cells_are, _, _, _, _) (b_cells_are, _, _) =
    absurd (nil≢cons (sym a_cells_are ∙ b_cells_are))
cells_once sheet level style link (Char ch ∷ ps) (Char ch2 ∷ qs) cells (a, more, a_cells, a_is, _, _, a_rest) (b, others, b_cells, b_is, _, _, b_rest) =
    let both : a ∷ more ≡ b ∷ others = sym a_cells ∙ b_cells in
    let same : ch ≡ ch2 = a_is ∙ ap (λ (cell : Cell). cell.ch) (ap (first_or a) both) ∙ sym b_is in
    let rest = cells_once sheet level style link ps qs more a_rest (subst (λ (cs : List Cell). PrintsCells sheet level style link qs cs)
    (sym (ap rest_of both)) b_rest) in
    ap (λ (c : ℕ). Char c ∷ ps) same ∙ ap (λ (ts : List Piece). Char ch2 ∷ ts) rest
cells_once sheet level style link (Char ch ∷ ps) (Opening new2 ∷ qs) cells (_, _, _, _, a_style_is, _, _) (b_style_is, _, _) =
    absurd (none≢some (sym b_style_is ∙ a_style_is))
cells_once sheet level style link (Char ch ∷ ps) (Reset old2 ∷ qs) cells (_, _, a_cells_are, _, a_style_is, _, _) (b_style_is, b_next, _, _) =
    absurd (b_next (ap (next_style sheet level) a_cells_are ∙ sym a_style_is ∙ b_style_is))
cells_once sheet level style link (Char ch ∷ ps) (LinkTo url2 ∷ qs) cells (_, _, a_cells_are, _, _, a_link_is, _) (b_link_is, b_next, _, _) =
    absurd (none≢some (sym b_link_is ∙ a_link_is ∙ sym (ap next_link a_cells_are) ∙ b_next))
cells_once sheet level style link (Char ch ∷ ps) (LinkEnd ∷ qs) cells (_, _, a_cells_are, _, _, a_link_is, _) (_, b_differs, _, _) =
    absurd (b_differs (a_link_is ∙ sym (ap next_link a_cells_are)))
cells_once sheet level style link (Opening new ∷ ps) [] cells (_, a_next, _) (b_cells_are, _, _) =
    absurd (none≢some (ap (next_style sheet level) (sym b_cells_are) ∙ a_next))
cells_once sheet level style link (Opening new ∷ ps) (Char ch2 ∷ qs) cells (a_style_is, _, _) (_, _, _, _, b_style_is, _, _) =
    absurd (none≢some (sym a_style_is ∙ b_style_is))
cells_once sheet level style link (Opening new ∷ ps) (Opening new2 ∷ qs) cells (_, a_next, a_rest) (_, b_next, b_rest) =
    let same : new2 ≡ new = some_same (sym b_next ∙ a_next) in
    let rest = cells_once sheet level (Some new) link ps qs cells a_rest (subst (λ (s : Style). PrintsCells sheet level (Some s) link qs cells) same b_rest) in
    ap (λ (s : Style). Opening s ∷ ps) (sym same) ∙ ap (λ (ts : List Piece). Opening new2 ∷ ts) rest
cells_once sheet level style link (Opening new ∷ ps) (Reset old2 ∷ qs) cells (a_style_is, _, _) (b_style_is, _, _, _) =
    absurd (none≢some (sym a_style_is ∙ b_style_is))
cells_once sheet level style link (Opening new ∷ ps) (LinkTo url2 ∷ qs) cells (a_style_is, a_next, _) (_, _, b_style_is, _) =
    absurd (none≢some (sym a_style_is ∙ b_style_is ∙ a_next))
cells_once sheet level style link (Opening new ∷ ps) (LinkEnd ∷ qs) cells (a_style_is, _, _) (_, _, b_open_style, _) =
    absurd (b_open_style a_style_is)
cells_once sheet level style link (Reset old ∷ ps) [] cells (a_style_is, _, _, _) (_, b_style_is, _) =
    absurd (none≢some (sym b_style_is ∙ a_style_is))
cells_once sheet level style link (Reset old ∷ ps) (Char ch2 ∷ qs) cells (a_style_is, a_next, _, _) (_, _, b_cells_are, _, b_style_is, _, _) =
    absurd (a_next (ap (next_style sheet level) b_cells_are ∙ sym b_style_is ∙ a_style_is))
cells_once sheet level style link (Reset old ∷ ps) (Opening new2 ∷ qs) cells (a_style_is, _, _, _) (b_style_is, _, _) =
    absurd (none≢some (sym b_style_is ∙ a_style_is))
cells_once sheet level style link (Reset old ∷ ps) (Reset old2 ∷ qs) cells (a_style, _, _, a_rest) (b_style, _, _, b_rest) =
    grind (arith, common_steps, some_same, cells_once sheet level None link ps qs cells a_rest b_rest)
cells_once sheet level style link (Reset old ∷ ps) (LinkTo url2 ∷ qs) cells (a_style_is, a_next, _, _) (_, _, b_style_is, _) =
    absurd (a_next (sym b_style_is ∙ a_style_is))
cells_once sheet level style link (Reset old ∷ ps) (LinkEnd ∷ qs) cells (_, _, a_ended, _) (b_there, b_differs, _, _) =
    absurd (elim a_ended [ inl none ↦ b_there none | inr same ↦ b_differs same ])
cells_once sheet level style link (LinkTo url ∷ ps) [] cells (_, a_next, _, _) (b_cells_are, _, _) =
    absurd (none≢some (ap next_link (sym b_cells_are) ∙ a_next))
cells_once sheet level style link (LinkTo url ∷ ps) (Char ch2 ∷ qs) cells (a_link_is, a_next, _, _) (_, _, b_cells_are, _, _, b_link_is, _) =
    absurd (none≢some (sym a_link_is ∙ b_link_is ∙ sym (ap next_link b_cells_are) ∙ a_next))
cells_once sheet level style link (LinkTo url ∷ ps) (Opening new2 ∷ qs) cells (_, _, a_style_is, _) (b_style_is, b_next, _) =
    absurd (none≢some (sym b_style_is ∙ a_style_is ∙ b_next))
cells_once sheet level style link (LinkTo url ∷ ps) (Reset old2 ∷ qs) cells (_, _, a_style_is, _) (b_style_is, b_next, _, _) =
    absurd (b_next (sym a_style_is ∙ b_style_is))
cells_once sheet level style link (LinkTo url ∷ ps) (LinkTo url2 ∷ qs) cells (_, a_next, _, a_rest) (_, b_next, _, b_rest) =
    let same : url2 ≡ url = some_same (sym b_next ∙ a_next) in
    let rest = cells_once sheet level style (Some url) ps qs cells a_rest (subst (λ (u : Url). PrintsCells sheet level style (Some u) qs cells) same b_rest) in
    ap (λ (u : Url). LinkTo u ∷ ps) (sym same) ∙ ap (λ (ts : List Piece). LinkTo url2 ∷ ts) rest
cells_once sheet level style link (LinkTo url ∷ ps) (LinkEnd ∷ qs) cells (a_link_is, _, _, _) (b_there, _, _, _) =
    absurd (b_there a_link_is)
cells_once sheet level style link (LinkEnd ∷ ps) [] cells (a_there, _, _, _) (_, _, b_link_is) =
    absurd (a_there b_link_is)
cells_once sheet level style link (LinkEnd ∷ ps) (Char ch2 ∷ qs) cells (_, a_differs, _, _) (_, _, b_cells_are, _, _, b_link_is, _) =
    absurd (a_differs (b_link_is ∙ sym (ap next_link b_cells_are)))
cells_once sheet level style link (LinkEnd ∷ ps) (Opening new2 ∷ qs) cells (_, _, a_open_style, _) (b_style_is, _, _) =
    absurd (a_open_style b_style_is)
cells_once sheet level style link (LinkEnd ∷ ps) (Reset old2 ∷ qs) cells (a_there, a_differs, _, _) (_, _, b_ended, _) =
    absurd (elim b_ended [ inl none ↦ a_there none | inr same ↦ a_differs same ])
cells_once sheet level style link (LinkEnd ∷ ps) (LinkTo url2 ∷ qs) cells (a_there, _, _, _) (b_link_is, _, _, _) =
    absurd (a_there b_link_is)
cells_once sheet level style link (LinkEnd ∷ ps) (LinkEnd ∷ qs) cells (_, _, _, a_rest) (_, _, _, b_rest) =
    ap (λ (ts : List Piece). LinkEnd ∷ ts) (cells_once sheet level style None ps qs cells a_rest b_rest)

rows_once : (sheet : Stylesheet) (level : LevelInner) (first first2 others others2 : List Piece) (row : List Cell) → PrintsRow sheet level first row
    → PrintsRow sheet level first2 row → others ≡ others2 → first ++ others ≡ first2 ++ others2
rows_once sheet level first first2 others others2 row a b below =
    ap (λ (ts : List Piece). ts ++ others) (cells_once sheet level (Some sheet.none) None first first2 row a b) ∙ ap (λ (ts : List Piece). first2 ++ ts) below

further_once : (sheet : Stylesheet) (level : LevelInner) (ps qs : List Piece) (rows : List (List Cell)) → PrintsFurther sheet level ps rows
    → PrintsFurther sheet level qs rows → ps ≡ qs
further_once sheet level ps qs [] a b = a ∙ sym b
further_once sheet level ps qs (row ∷ rows) (first, others, a_is, a, a_below) (first2, others2, b_is, b, b_below) =
    grind (arith, common_steps, rows_once, further_once sheet level others others2 rows a_below b_below)

pieces_once : (sheet : Stylesheet) (level : LevelInner) (ps qs : List Piece) (rows : List (List Cell)) → PrintsRows sheet level ps rows
    → PrintsRows sheet level qs rows → ps ≡ qs
pieces_once sheet level ps qs [] a b = a ∙ sym b
pieces_once sheet level ps qs (row ∷ rows) (first, others, a_is, a, a_below) (first2, others2, b_is, b, b_below) =
    a_is ∙ rows_once sheet level first first2 others others2 row a b (further_once sheet level others others2 rows a_below b_below) ∙ sym b_is

-- rows are printed as one text only
pub Prints-unique : (sheet : Stylesheet) (level : LevelInner) (rows : List (List Cell)) (text other : List ℕ) → Prints sheet level rows text
    → Prints sheet level rows other → other ≡ text
Prints-unique sheet level rows text other one two =
    grind (arith, common_steps, PrintsPieces-from_prints sheet level rows text one, one, PrintsPieces-from_prints sheet level rows other two, two, pieces_once)
