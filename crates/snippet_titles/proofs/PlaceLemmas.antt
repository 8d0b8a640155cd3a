-- Which cells of a heading's rows link to its id's address.
use Rattle.snippet_titles.proofs.Common.{common_steps, ◌≡◌, ℕ, suc, ◌+◌, ◌-◌, ◌<◌, ◌≤◌, ◌==◌, ◌&&◌, nat_le, nat_lt, cond, Bool, true, false, Option, None, Some}
use Rattle.snippet_titles.proofs.Common.{List, [], ◌∷◌, ◌++◌, length, map, get_or, All, refl, sym, ap, ◌∙◌, arith, inl, inr, cow_str_bytes, Global, CowStr}
use Rattle.snippet_titles.proofs.Common.{option_map, cases_Bool, cases_eq, cases_lt, nat_tests, length-slice_split, append-nil, get_or-map, get_or_past}
use Rattle.snippet_titles.proofs.Common.{length-map, places, All-nil, All-append, cell_at, linked, Cell, SPACE, text_cells, ElementStyle, length-text_cells}
use Rattle.snippet_titles.proofs.Common.{norm, Id, Heading, is_hidden, name_of, HeadingRoles, TitleStyle, address_of, bracketed_cells, closing_bracket_of}
use Rattle.snippet_titles.proofs.Common.{colon_of, shown_text, heading_lines, heading_rows, id_cells, indent_cells, label_cells, label_width, lines_below}
use Rattle.snippet_titles.proofs.Common.{linked_to, opening_bracket_of, roles_of, sign_cells, LinksId, id_start, is_id_cell, id_address, id_chars}
use Rattle.std.proofs.Common.{chars}
use Rattle.snippet_titles.proofs.EndLemmas.{row_at-trimmed}
use Rattle.snippet_titles.proofs.LinkLemmas.{IsUnlinked, drawn_unlinked, indent_unlinked, sign_unlinked}

-- no cell of such a row links to anything, nor does any after it
unlinked_at : (row : List Cell) → All IsUnlinked row → (c : ℕ) → (get_or row c SPACE).link ≡ None
unlinked_at row all c = grind (arith, common_steps, get_or_past)

-- in cells that link to an address each does
linked_at : (address : Option (List ℕ)) (r : ElementStyle) (cs : List ℕ) (c : ℕ) → c < length cs
    → (get_or (linked_to address (text_cells r cs)) c SPACE).link ≡ address
linked_at None r cs c within = unlinked_at (text_cells r cs) (drawn_unlinked r cs) c
linked_at (Some url) r cs c within =
    ap (λ (cell : Cell). cell.link) (get_or-map (linked url) (text_cells r cs) c SPACE SPACE (omega (arith, within, length-text_cells r cs)))

length-linked_to : (address : Option (List ℕ)) (cells : List Cell) → length (linked_to address cells) ≡ length cells
length-linked_to None cells = refl
length-linked_to (Some url) cells = length-map cells (linked url)

-- three parts of a row, of which the second alone may link
module _ (xs ys zs : List Cell) where
  second_part : (c : ℕ) → c < length ys → get_or (xs ++ (ys ++ zs)) (length xs + c) SPACE ≡ get_or ys c SPACE
  second_part c within = grind (arith, places)

  other_parts : All IsUnlinked xs → All IsUnlinked zs → (c : ℕ) → (length xs ≤ c → c < length xs + length ys → ⊥)
      → (get_or (xs ++ (ys ++ zs)) c SPACE).link ≡ None
  other_parts first third c outside = grind (arith, common_steps)

-- a first row in three parts: what stands before an id's text, the text, and what stands after it
regrouped : (s n o l k c e : List Cell) → (s ++ ((n ++ ((o ++ l) ++ k)) ++ c)) ++ e ≡ (s ++ (n ++ o)) ++ (l ++ ((k ++ c) ++ e))
regrouped s n o l k c e = grind (arith, common_steps)

module _ (hyperlink : Bool) (style : TitleStyle) (roles : HeadingRoles) (heading : Heading) (line : List ℕ) where
  abbrev hidden : Bool
  hidden = is_hidden heading.level.name

  abbrev name_chars : List ℕ
  name_chars = norm (chars (name_of heading.level))

  abbrev name : List Cell
  name = text_cells roles.label name_chars

  abbrev colon : List Cell
  colon = text_cells roles.colon (colon_of hidden heading.id)

  abbrev rest : List Cell
  rest = text_cells roles.text line

  abbrev row : List Cell
  row = (sign_cells style ++ label_cells hyperlink roles heading) ++ rest

  -- where the id shows a text
  module _ (id : Id) (text : List ℕ) (own : heading.id ≡ Some id) (given : option_map cow_str_bytes id.id ≡ Some text) where
    abbrev opening : List Cell
    opening = text_cells roles.label (opening_bracket_of hidden)

    abbrev closing : List Cell
    closing = text_cells roles.label (closing_bracket_of hidden)

    abbrev before : List Cell
    before = sign_cells style ++ (name ++ opening)

    abbrev shown : List Cell
    shown = linked_to (address_of hyperlink id) (text_cells roles.label (norm (chars text)))

    abbrev after : List Cell
    after = closing ++ colon ++ rest

    in_parts : row ≡ before ++ (shown ++ after)
    unfolding label_cells
    in_parts = grind (arith, common_steps, regrouped)

    length-before : length before ≡ id_start style heading
    length-before = grind (arith, common_steps, length-text_cells)

    length-shown : length shown ≡ length (norm (chars text))
    length-shown =
        length-linked_to (address_of hyperlink id) (text_cells roles.label (norm (chars text))) ∙ length-text_cells roles.label (norm (chars text))

    before_unlinked : All IsUnlinked before
    before_unlinked =
        All-append IsUnlinked (sign_cells style) (name ++ opening) (sign_unlinked style)
        (All-append IsUnlinked name opening (drawn_unlinked roles.label name_chars) (drawn_unlinked roles.label (opening_bracket_of hidden)))

    after_unlinked : All IsUnlinked after
    after_unlinked =
        All-append IsUnlinked (closing ++ colon) rest (All-append IsUnlinked closing colon (drawn_unlinked roles.label (closing_bracket_of hidden))
        (drawn_unlinked roles.colon (colon_of hidden heading.id))) (drawn_unlinked roles.text line)

    text_linked : (c : ℕ) → c < length (norm (chars text)) → (get_or row (id_start style heading + c) SPACE).link ≡ address_of hyperlink id
    text_linked c within = grind (arith, common_steps, in_parts, length-before, second_part, length-shown, linked_at)

    others_unlinked : (c : ℕ) → (id_start style heading ≤ c → c < id_start style heading + length (norm (chars text)) → ⊥) → (get_or row c SPACE).link ≡ None
    others_unlinked c outside =
        ap (λ (r : List Cell). (get_or r c SPACE).link) in_parts ∙ other_parts before shown after before_unlinked after_unlinked c (λ from to.
        outside (omega (arith, from, length-before)) (omega (arith, to, length-before, length-shown)))

  -- where no id shows a text
  bare_unlinked : id_cells hyperlink hidden roles.label heading.id ≡ [] → (c : ℕ) → (get_or row c SPACE).link ≡ None
  unfolding label_cells
  bare_unlinked none c =
      ap (λ (id : List Cell). (get_or ((sign_cells style ++ (name ++ id ++ colon)) ++ rest) c SPACE).link) none
      ∙ unlinked_at ((sign_cells style ++ (name ++ [] ++ colon)) ++ rest)
      (All-append IsUnlinked (sign_cells style ++ (name ++ [] ++ colon))
      rest (All-append IsUnlinked (sign_cells style) (name ++ [] ++ colon) (sign_unlinked style)
      (All-append IsUnlinked (name ++ []) colon (All-append IsUnlinked name [] (drawn_unlinked roles.label name_chars) (All-nil IsUnlinked))
      (drawn_unlinked roles.colon (colon_of hidden heading.id)))) (drawn_unlinked roles.text line)) c

  -- which cells of the first row link, and to which address
  abbrev LinksIn : Option Id → Type 0
  LinksIn own = ((c : ℕ) → c < length (id_chars own) → (get_or row (id_start style heading + c) SPACE).link ≡ id_address hyperlink own)
      × ((c : ℕ) → (id_start style heading ≤ c → c < id_start style heading + length (id_chars own) → ⊥) → (get_or row c SPACE).link ≡ None)

  links_in : (own : Option Id) → heading.id ≡ own → LinksIn own
  links_in None own =
      (λ c within. absurd (omega (arith, within)), λ c outside. bare_unlinked (ap (id_cells hyperlink hidden roles.label) own) c)
  links_in (Some id) own = of_text id.id refl
    where
      of_text : (text : Option (CowStr Global)) → id.id ≡ text → LinksIn (Some id)
      of_text None is =
          let none : length (id_chars (Some id)) ≡ 0 = rw is refl in (
            λ c within. absurd (omega (arith, within, none)),
            λ c outside.
                bare_unlinked (ap (id_cells hyperlink hidden roles.label) own
                ∙ ap (λ t. bracketed_cells hidden roles.label (address_of hyperlink id) (option_map cow_str_bytes t)) is) c,
          )
      of_text (Some text) is =
          let bytes : List ℕ = cow_str_bytes text in
          let same : length (id_chars (Some id)) ≡ length (norm (chars bytes)) = rw is (ap (λ (cs : List ℕ). length cs) (append-nil (norm (chars bytes)))) in
          let given = ap (option_map cow_str_bytes) is in (
            λ c within. text_linked id bytes own given c (omega (arith, within, same)),
            λ c outside.
                others_unlinked id bytes own given c (λ from to. outside from (omega (arith, to, same))),
          )

-- the first row, and the others
first_places : (hyperlink : Bool) (style : TitleStyle) (roles : HeadingRoles) (heading : Heading) (line : List ℕ)
    → LinksIn hyperlink style roles heading line heading.id
first_places hyperlink style roles heading line = links_in hyperlink style roles heading line heading.id refl

further_at : (further : List Cell) (r : ElementStyle) (lines : List (List ℕ)) (k c : ℕ) → All IsUnlinked further
    → (cell_at (map (λ l. further ++ text_cells r l) lines) k c).link ≡ None
further_at further r lines k c none =
    elim (cases_lt k (length lines)) [
      | inl within ↦ ap (λ (row : List Cell). (get_or row c SPACE).link) (get_or-map (λ l. further ++ text_cells r l) lines k [] [] within)
          ∙ unlinked_at (further ++ text_cells r (get_or lines k []))
          (All-append IsUnlinked further (text_cells r (get_or lines k [])) none (drawn_unlinked r (get_or lines k []))) c
      | inr past ↦ ap (λ (row : List Cell). (get_or row c SPACE).link)
          (get_or_past (map (λ l. further ++ text_cells r l) lines) k [] (omega (arith, past, length-map lines (λ l. further ++ text_cells r l))))
    ]

-- what the test for a cell of the id says
id_cell : (style : TitleStyle) (heading : Heading) (i c : ℕ) → is_id_cell style heading i c ≡ true
    → (i ≡ 0) × (id_start style heading ≤ c) × (c < id_start style heading + length (id_chars heading.id))
id_cell style heading i c is = grind (arith, common_steps, heading.id)

id_cell_from : (start end i c : ℕ) → i ≡ 0 → start ≤ c → c < end → (i == 0 && nat_le start c && nat_lt c end) ≡ true
id_cell_from start end i c first from to = grind (arith, nat_tests, first, from, to)

clash : (b : Bool) → b ≡ false → b ≡ true → ⊥
clash true is_false is_true = cc
clash false is_false is_true = cc

-- in the rows of lines the id's text links, and nothing else
module _ (hyperlink : Bool) (style : TitleStyle) (roles : HeadingRoles) (heading : Heading) where
  abbrev label : List Cell
  label = sign_cells style ++ label_cells hyperlink roles heading

  abbrev address : Bool → Option (List ℕ)
  address inside = cond inside (id_address hyperlink heading.id) None

  places_in : (line : List ℕ) (below : List (List Cell)) → ((k c : ℕ) → (cell_at below k c).link ≡ None)
      → LinksId hyperlink style heading ((label ++ text_cells roles.text line) ∷ below)
  places_in line below none =
      let places = first_places hyperlink style roles heading line in
      let start : ℕ = id_start style heading in
      let first : List Cell = label ++ text_cells roles.text line in
      λ i c. elim (cases_Bool (is_id_cell style heading i c)) [
        | inl inside ↦
            let parts = id_cell style heading i c inside in
            let k : ℕ = c - start in
            let same : start + k ≡ c = omega (arith, parts.1) in
            ap (λ n. (cell_at (first ∷ below) n c).link) parts.0 ∙ ap (λ n. (get_or first n SPACE).link) (sym same)
            ∙ places.0 k (omega (arith, parts.1, parts.2)) ∙ sym (ap address inside)
        | inr outside ↦ elim (cases_eq i 0) [
          | inl top ↦ ap (λ n. (cell_at (first ∷ below) n c).link) top ∙ places.1 c (λ from to.
              clash (is_id_cell style heading i c) outside (id_cell_from start (start + length (id_chars heading.id)) i c top from to))
              ∙ sym (ap address outside)
          | inr later ↦
              let under : i ≡ suc (i - 1) = omega (arith, later) in
              ap (λ n. (cell_at (first ∷ below) n c).link) under ∙ none (i - 1) c ∙ sym (ap address outside)
        ]
      ]

  lines_places : (further : List Cell) (lines : List (List ℕ)) → 0 < length lines → All IsUnlinked further
      → LinksId hyperlink style heading (lines_below label further roles.text lines)
  lines_places further [] some none = absurd (omega (arith, some))
  lines_places further (line ∷ lines) some none =
      places_in line (map (λ l. further ++ text_cells roles.text l) lines) (λ k c. further_at further roles.text lines k c none)

-- in the rows of a heading
pub heading_rows-places : (hyperlink : Bool) (style : TitleStyle) (heading : Heading) → LinksId hyperlink style heading (heading_rows hyperlink style heading)
unfolding heading_rows
heading_rows-places hyperlink style heading =
    let roles : HeadingRoles = roles_of style heading.level.kind heading.allows_styling in
    let first : List Cell = sign_cells style ++ label_cells hyperlink roles heading in
    let further : List Cell = indent_cells style (label_width heading) in
    let lines : List (List ℕ) = heading_lines heading in
    λ i c. ap (λ (row : List Cell). (get_or row c SPACE).link) (row_at-trimmed (lines_below first further roles.text lines) i)
    ∙ lines_places hyperlink style roles heading further lines (omega (arith, length-slice_split (λ ch. ch == 10) (shown_text heading)))
    (indent_unlinked style (label_width heading)) i c
