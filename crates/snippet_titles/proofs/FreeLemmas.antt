-- A heading's rows hold no listed character but those of a trusted text.
use Rattle.snippet_titles.proofs.Common.{common_steps, arith, ◌≡◌, ℕ, ◌==◌, ◌+◌, ◌&&◌, if◌then◌else◌, not, codes, Bool, true, false, List, [], ◌∷◌, ◌++◌, map}
use Rattle.snippet_titles.proofs.Common.{replicate, All, Option, None, Some, refl, sym, subst, slice_split, onto_first, Contains, get_or_default, All-nil}
use Rattle.snippet_titles.proofs.Common.{All-cons, All-head, All-tail, All-append, All-from_get_or, All-map, All-replicate, All-weaker, slice_split-cons_yes}
use Rattle.snippet_titles.proofs.Common.{slice_split-cons_no, cow_str_bytes, option_map, DecorStyle, Ascii, Unicode, ElementStyle, LineNumber, Cell, SPACE}
use Rattle.snippet_titles.proofs.Common.{text_cells, row_text, norm, is_listed, list_any-norm, Id, Heading, is_hidden, name_of, HeadingRoles, TitleStyle, Title}
use Rattle.snippet_titles.proofs.Common.{Short, Message, bracketed_text, closing_bracket_of, colon_of, shown_text, heading_lines, heading_rows, id_text}
use Rattle.snippet_titles.proofs.Common.{indent_cells, is_set, label_cells, heading_label_text, label_width, lines_below, note_bar_of, on_top}
use Rattle.snippet_titles.proofs.Common.{opening_bracket_of, roles_of, sign_cells, without_empty_end, note_sign_of, IsFreeButText, separator_of}
use Rattle.snippet_titles.proofs.Common.{row_text-text_cells}
use Rattle.std.proofs.Common.{chars}
use Rattle.snippet_titles.proofs.TextLemmas.{row_text-append, row_text-after, row_text-label, row_text-spaces}
use Rattle.snippet_model.proofs.RowLemmas.{each_fails as fails_each}

-- a character that isn't listed
abbrev pub IsUnlisted : ℕ → Type 0
IsUnlisted c = is_listed c ≡ false

-- normalised text holds no listed character
pub norm-free : (cs : List ℕ) → All IsUnlisted (norm cs)
norm-free cs = fails_each is_listed (norm cs) (list_any-norm cs)

module _ (P : ℕ → Type 0) (p : ℕ → Bool) where
  -- one more element at the front of the first part
  parts-more : (x : ℕ) (parts : List (List ℕ)) → P x → All (All P) parts → All (All P) (onto_first x parts)
  parts-more x [] one all = All-cons (All P) (x ∷ []) [] (All-cons P x [] one (All-nil P)) (All-nil (All P))
  parts-more x (part ∷ parts) one all =
      All-cons (All P) (x ∷ part) parts (All-cons P x part one (All-head (All P) part parts all)) (All-tail (All P) part parts all)

  -- one more element before a list that is cut
  cut-more : (x : ℕ) (xs : List ℕ) (cut : Bool) → p x ≡ cut → P x → All (All P) (slice_split p xs) → All (All P) (slice_split p (x ∷ xs))
  cut-more x xs true is one all = rw (slice_split-cons_yes p x xs is) (All-cons (All P) [] (slice_split p xs) (All-nil P) all)
  cut-more x xs false is one all = rw (slice_split-cons_no p x xs is) (parts-more x (slice_split p xs) one all)

  -- what holds of each element holds of those of each part
  pub All-slice_split : (xs : List ℕ) → All P xs → All (All P) (slice_split p xs)
  All-slice_split [] all = All-cons (All P) [] [] (All-nil P) (All-nil (All P))
  All-slice_split (x ∷ xs) all =
      cut-more x xs (p x) refl (All-head P x xs all) (All-slice_split xs (All-tail P x xs all))

-- what holds of each row holds where rows at the end aren't there
module _ (P : List Cell → Type 0) where
  All-on_top : (row : List Cell) (rows : List (List Cell)) → P row → All P rows → All P (on_top row rows)
  All-on_top [] [] one all = All-nil P
  All-on_top [] (r ∷ rows) one all = All-cons P [] (r ∷ rows) one all
  All-on_top (cell ∷ cells) rows one all = All-cons P (cell ∷ cells) rows one all

  -- what holds of each row holds of each row once rows are trimmed
  pub All-trimmed : (rows : List (List Cell)) → All P rows → All P (without_empty_end rows)
  All-trimmed [] all = All-nil P
  All-trimmed (row ∷ rows) all =
      All-on_top row (without_empty_end rows) (All-head P row rows all) (All-trimmed rows (All-tail P row rows all))

-- what holds of each character that isn't listed
module _ (P : ℕ → Type 0) (free : (c : ℕ) → IsUnlisted c → P c) where
  -- holds of those of an id, of a label, and of what stands left of them
  pub from_free : (cs : List ℕ) → All IsUnlisted cs → All P cs
  from_free cs all = All-weaker IsUnlisted P free cs all

  opening-all : (hidden : Bool) → All P (opening_bracket_of hidden)
  opening-all true = All-nil P
  opening-all false = All-cons P 91 [] (free 91 refl) (All-nil P)

  closing-all : (hidden : Bool) → All P (closing_bracket_of hidden)
  closing-all true = All-nil P
  closing-all false = All-cons P 93 [] (free 93 refl) (All-nil P)

  colon-if : (bare : Bool) → All P (if bare then [] else codes ": ")
  colon-if true = All-nil P
  colon-if false = All-cons P 58 (32 ∷ []) (free 58 refl) (All-cons P 32 [] (free 32 refl) (All-nil P))

  colon-all : (hidden : Bool) (id : Option Id) → All P (colon_of hidden id)
  colon-all hidden id = colon-if (hidden && not (is_set id))

  text-all : (hidden : Bool) (text : Option (List ℕ)) → All P (bracketed_text hidden text)
  text-all hidden None = All-nil P
  text-all hidden (Some text) =
      All-append P (opening_bracket_of hidden ++ norm (chars text)) (closing_bracket_of hidden)
      (All-append P (opening_bracket_of hidden) (norm (chars text)) (opening-all hidden) (from_free (norm (chars text)) (norm-free (chars text))))
      (closing-all hidden)

  id-all : (hidden : Bool) (id : Option Id) → All P (id_text hidden id)
  id-all hidden None = All-nil P
  id-all hidden (Some id) = text-all hidden (option_map cow_str_bytes id.id)

  -- what holds of what a label is made of holds of its characters
  pub label-all : (heading : Heading) → All P (heading_label_text heading)
  label-all heading =
      let hidden : Bool = is_hidden heading.level.name in
      let name : List ℕ = norm (chars (name_of heading.level)) in
      All-append P (name ++ id_text hidden heading.id) (colon_of hidden heading.id)
      (All-append P name (id_text hidden heading.id) (from_free name (norm-free (chars (name_of heading.level)))) (id-all hidden heading.id))
      (colon-all hidden heading.id)

  spaces-all : (n : ℕ) → All P (row_text (replicate n SPACE))
  spaces-all n = subst (All P) (sym (row_text-spaces n)) (All-replicate P n 32 (free 32 refl))

  note_sign-all : (decor : DecorStyle) (followed : Bool) → All P (note_sign_of decor followed)
  note_sign-all Ascii followed = from_free (note_sign_of Ascii followed) (fails_each is_listed (note_sign_of Ascii followed) refl)
  note_sign-all Unicode true = from_free (note_sign_of Unicode true) (fails_each is_listed (note_sign_of Unicode true) refl)
  note_sign-all Unicode false = from_free (note_sign_of Unicode false) (fails_each is_listed (note_sign_of Unicode false) refl)

  note_bar-free : (decor : DecorStyle) (followed : Bool) → P (note_bar_of decor followed).ch
  note_bar-free Ascii followed = free 32 refl
  note_bar-free Unicode true = free (separator_of Unicode) refl
  note_bar-free Unicode false = free 32 refl

  parts-all : (xs ys : List Cell) → All P (row_text xs) → All P (row_text ys) → All P (row_text (xs ++ ys))
  parts-all xs ys first second =
      subst (All P) (sym (row_text-append xs ys)) (All-append P (row_text xs) (row_text ys) first second)

  sign-all : (style : TitleStyle) → All P (row_text (sign_cells style))
  sign-all Title = All-nil P
  sign-all Short = All-nil P
  sign-all (Message place) =
      let sign : List ℕ = note_sign_of place.layout.decor place.followed in
      parts-all (replicate (place.layout.gutter + 1) SPACE) (text_cells LineNumber sign) (spaces-all (place.layout.gutter + 1))
      (subst (All P) (sym (row_text-text_cells LineNumber sign)) (note_sign-all place.layout.decor place.followed))

  -- what holds of what an indent is made of holds of its characters
  pub indent-all : (style : TitleStyle) (width : ℕ) → All P (row_text (indent_cells style width))
  indent-all Title width = spaces-all width
  indent-all Short width = spaces-all width
  indent-all (Message place) width =
      let bar : Cell = note_bar_of place.layout.decor place.followed in
      parts-all (replicate (place.layout.gutter + 1) SPACE) (bar ∷ replicate (width + 1) SPACE) (spaces-all (place.layout.gutter + 1))
      (All-cons P bar.ch (row_text (replicate (width + 1) SPACE)) (note_bar-free place.layout.decor place.followed) (spaces-all (width + 1)))

  -- and of those of the rows of lines, where it holds of those of the lines
  pub row-all : (cells : List Cell) (r : ElementStyle) → All P (row_text cells) → (line : List ℕ) → All P line → All P (row_text (cells ++ text_cells r line))
  row-all cells r before line all =
      subst (All P) (sym (row_text-after cells (row_text cells) r line refl)) (All-append P (row_text cells) line before all)

  -- what holds of what stands before lines and of the lines holds of their rows
  pub lines_all : (first further : List Cell) (r : ElementStyle) (lines : List (List ℕ)) → All P (row_text first) → All P (row_text further) → All (All P) lines
      → All (λ row. All P (row_text row)) (lines_below first further r lines)
  lines_all first further r [] begun below all = All-nil (λ row. All P (row_text row))
  lines_all first further r (line ∷ lines) begun below all =
      All-cons (λ row. All P (row_text row)) (first ++ text_cells r line) (map (λ l. further ++ text_cells r l) lines)
      (row-all first r begun line (All-head (All P) line lines all))
      (All-map (λ row. All P (row_text row)) (λ l. further ++ text_cells r l)
      lines (All-weaker (All P) (λ l. All P (row_text (further ++ text_cells r l))) (row-all further r below)
      lines (All-tail (All P) line lines all)))

  -- what holds of each character of a heading that is shown holds of those of its rows
  pub heading_rows-all : (hyperlink : Bool) (style : TitleStyle) (heading : Heading) → All P (shown_text heading)
      → All (λ row. All P (row_text row)) (heading_rows hyperlink style heading)
  unfolding heading_rows
  heading_rows-all hyperlink style heading all =
      let roles : HeadingRoles = roles_of style heading.level.kind heading.allows_styling in
      let label : List Cell = label_cells hyperlink roles heading in
      let first : List Cell = sign_cells style ++ label in
      let further : List Cell = indent_cells style (label_width heading) in
      All-trimmed (λ row. All P (row_text row)) (lines_below first further roles.text (heading_lines heading))
      (lines_all first further roles.text (heading_lines heading)
      (parts-all (sign_cells style) label (sign-all style) (subst (All P) (sym (row_text-label hyperlink roles heading)) (label-all heading)))
      (indent-all style (label_width heading)) (All-slice_split P (λ c. c == 10) (shown_text heading) all))

-- each listed character of a heading's rows stands in its text, and that is trusted
abbrev pub IsOwn : Heading → ℕ → Type 0
IsOwn heading c = is_listed c ≡ true → (heading.allows_styling ≡ true) × Contains (chars heading.text) c

-- a character that isn't listed is allowed in a heading's rows
pub own_unlisted : (heading : Heading) (c : ℕ) → IsUnlisted c → IsOwn heading c
own_unlisted heading c unlisted listed = cc

-- each character that a heading's text shows is allowed in its rows
pub own_text : (heading : Heading) (trusted : Bool) → heading.allows_styling ≡ trusted → All (IsOwn heading) (shown_text heading)
own_text heading true is =
    let same : shown_text heading ≡ chars heading.text = rw is refl in
    subst (All (IsOwn heading)) (sym same) (All-from_get_or (IsOwn heading) (chars heading.text) 0 (λ k within listed.
    (is, (k, within, get_or_default (chars heading.text) k _ 0 within))))
own_text heading false is = grind (arith, common_steps, heading.text, All-weaker, own_unlisted, norm-free)

-- the rows of a heading are free of listed characters but those of its own text
pub heading_rows-free : (hyperlink : Bool) (style : TitleStyle) (heading : Heading) → All (IsFreeButText heading) (heading_rows hyperlink style heading)
heading_rows-free hyperlink style heading =
    heading_rows-all (IsOwn heading) (own_unlisted heading) hyperlink style heading (own_text heading heading.allows_styling refl)
