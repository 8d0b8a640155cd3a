-- No row of a title that begins with a word begins with a number.
use Rattle.annotate_snippets.proofs.Common.{◌≡◌, ℕ, zero, suc, ◌+◌, ◌<◌, ◌≤◌, ◌==◌, ◌||◌, not, Bool, true, false, cond, Option, Some, List, [], ◌∷◌, ◌++◌, All}
use Rattle.annotate_snippets.proofs.Common.{get_or, length, map, replicate, take, refl, sym, ap, subst, ◌∙◌, arith, is_ascii_alphanumeric, is_ascii_digit}
use Rattle.annotate_snippets.proofs.Common.{is_in_range, slice_index_or, append_assoc, All-append, All-cons, All-from_get_or, All-nil, row_text, Heading}
use Rattle.annotate_snippets.proofs.Common.{heading_of_title, is_hidden, name_of, HasNoNumber, Title, Cell, SPACE, norm, colon_of, heading_lines, id_text}
use Rattle.annotate_snippets.proofs.Common.{heading_label_text, label_width, roles_of, row_text-label, HeadingRoles, width_of, texts_below}
use Rattle.annotate_snippets.proofs.Common.{closing_row-unnumbered, separator_row-unnumbered, IsTitleOfWords, begins_with_number, begins_with_word}
use Rattle.annotate_snippets.proofs.Common.{rows_after_title, ShowsTitlePart, Renderer, Layout, GroupPosition, Next, closing_row, separator_row}
use Rattle.std.proofs.Common.{chars}
use Rattle.snippet_titles.specs.declared.style.TitleStyle.TheVariants as style
use Rattle.annotate_snippets.proofs.HeadingShown.{texts_of}

-- a character that is neither a space nor a digit begins no number
no_number : (space digit rest : Bool) → not (space || digit) ≡ true → cond space rest digit ≡ false
no_number true digit rest word = cc
no_number false true rest word = cc
no_number false false rest word = refl

-- what begins with a word begins with no number
word_first : (n : ℕ) (name rest : List ℕ) → begins_with_word name ≡ true → begins_with_number (take n (name ++ rest)) ≡ false
word_first zero name rest word = refl
word_first (suc n) [] rest word = cc
word_first (suc n) (c ∷ cs) rest word = no_number (c == 32) (is_ascii_digit c) (begins_with_number (take n (cs ++ rest))) word

-- nor do spaces
spaces_first : (n w : ℕ) (rest : List ℕ) → n ≤ w → begins_with_number (take n (map (λ (cell : Cell). cell.ch) (replicate w SPACE) ++ rest)) ≡ false
spaces_first zero w rest fits = refl
spaces_first (suc n) zero rest fits = absurd (omega (arith, fits))
spaces_first (suc n) (suc w) rest fits = spaces_first n w rest (omega (arith, fits))

-- nor does a row without letters and digits there
none_there : (space alphanumeric digit rest : Bool) → (digit ≡ true → alphanumeric ≡ true) → alphanumeric ≡ false → rest ≡ false → cond space rest digit ≡ false
none_there true alphanumeric digit rest more none later = later
none_there false alphanumeric true rest more none later = let never : ◌≡◌ {A = Bool} true false = sym (more refl) ∙ none in cc
none_there false alphanumeric false rest more none later = refl

digit_too : (c : ℕ) → is_ascii_digit c ≡ true → is_ascii_alphanumeric c ≡ true
digit_too c is = ap (λ (b : Bool). (b || is_in_range 65 90 c) || is_in_range 97 122 c) is

unnumbered_row : (n : ℕ) (row : List Cell) → ((c : ℕ) → c < n → is_ascii_alphanumeric (get_or row c SPACE).ch ≡ false)
    → begins_with_number (take n (row_text row)) ≡ false
unnumbered_row zero row none = refl
unnumbered_row (suc n) [] none = refl
unnumbered_row (suc n) (cell ∷ cells) none =
    none_there (cell.ch == 32) _ _ _ (digit_too cell.ch) (none 0 (omega arith)) (unnumbered_row n cells (λ c within. none (suc c) (omega (arith, within))))

-- a row has no number where those of lines stand, in the cells up to the one before the separator
abbrev IsUnnumbered : ℕ → List Cell → Type 0
IsUnnumbered gutter row = begins_with_number (take (gutter + 1) (row_text row)) ≡ false

unnumbered : (gutter : ℕ) (row : List Cell) → HasNoNumber gutter row → IsUnnumbered gutter row
unnumbered gutter row none = unnumbered_row (gutter + 1) row (λ c within. none c (omega (arith, within)))

-- the rows below a title
after_title : (r : Renderer) (layout : Layout) (sets_off closes : Bool)
    → All (IsUnnumbered layout.gutter) (cond sets_off (separator_row layout.decor layout.gutter ∷ [])
    (cond closes (closing_row layout.decor layout.gutter ∷ []) []))
after_title r layout true closes = All-cons (IsUnnumbered layout.gutter) _ []
    (unnumbered layout.gutter _ (separator_row-unnumbered layout.decor layout.gutter)) (All-nil (IsUnnumbered layout.gutter))
after_title r layout false true = All-cons (IsUnnumbered layout.gutter) _ [] (unnumbered layout.gutter _ (closing_row-unnumbered layout.decor layout.gutter))
    (All-nil (IsUnnumbered layout.gutter))
after_title r layout false false = All-nil (IsUnnumbered layout.gutter)

-- each text of a title's rows begins with its level's name, or with as many spaces as what stands before its text is wide
module _ (n : ℕ) (name more : List ℕ) (width : ℕ) (word : begins_with_word name ≡ true) (wide : n ≤ width) where
  text_further : (lines : List (List ℕ)) (i : ℕ)
      → begins_with_number (take n (slice_index_or (map (λ l. map (λ (cell : Cell). cell.ch) (replicate width SPACE) ++ l) lines) i [])) ≡ false
  text_further [] i = none_taken n
    where
      none_taken : (k : ℕ) → begins_with_number (take k []) ≡ false
      none_taken zero = refl
      none_taken (suc k) = refl
  text_further (line ∷ lines) zero = spaces_first n width line wide
  text_further (line ∷ lines) (suc i) = text_further lines i

  text_of_row : (lines : List (List ℕ)) (i : ℕ)
      → begins_with_number (take n (slice_index_or (texts_below (name ++ more) (map (λ (cell : Cell). cell.ch) (replicate width SPACE)) lines) i [])) ≡ false
  text_of_row [] i = text_further [] i
  text_of_row (line ∷ lines) zero = ap (λ text. begins_with_number (take n text)) (append_assoc name more line) ∙ word_first n name (more ++ line) word
  text_of_row (line ∷ lines) (suc i) = text_further lines i

-- no row of such a title begins with a number
pub title_unnumbered : (r : Renderer) (layout : Layout) (place : GroupPosition) (follows : Next) (title : Title) (rows : List (List Cell))
    → ShowsTitlePart r layout place follows (Some title) rows → IsTitleOfWords layout.gutter title → All (IsUnnumbered layout.gutter) rows
title_unnumbered r layout place follows title rows shown words =
    let heading : Heading = heading_of_title title in
    let hidden : Bool = is_hidden title.level.name in
    let roles : HeadingRoles = roles_of style.Title title.level.kind title.allows_styling in
    let after_name : List ℕ = id_text hidden title.id ++ colon_of hidden title.id in
    let label : heading_label_text heading ≡ norm (chars (name_of title.level))
    ++ after_name = append_assoc (norm (chars (name_of title.level))) (id_text hidden title.id) (colon_of hidden title.id) in
    let text_at : List ℕ → ℕ → List ℕ = λ first i. slice_index_or (texts_below first (row_text (replicate (label_width heading) SPACE))
    (heading_lines heading)) i [] in
    let each : (i : ℕ) → i < length shown.own → IsUnnumbered layout.gutter (get_or shown.own i []) =
    λ i within. ap (λ text. begins_with_number (take (layout.gutter + 1) text)) (texts_of shown.shows i ∙ ap (λ first. text_at first i) label)
    ∙ text_of_row (layout.gutter + 1) (norm (chars (name_of title.level))) after_name (label_width heading) words.word
    (omega (arith, words.wide roles, ap width_of (row_text-label false roles heading))) (heading_lines heading) i in
    subst (All (IsUnnumbered layout.gutter)) (sym shown.rows_are) (All-append (IsUnnumbered layout.gutter) shown.own
    (rows_after_title r layout place follows title.allows_styling) (All-from_get_or (IsUnnumbered layout.gutter) shown.own [] each) (after_title r layout _ _))

-- the same of the title that a group has
pub group_title_unnumbered : (r : Renderer) (layout : Layout) (place : GroupPosition) (follows : Next) (own : Option Title) (title : Title)
    (rows : List (List Cell))
    → ShowsTitlePart r layout place follows own rows → own ≡ Some title → IsTitleOfWords layout.gutter title → All (IsUnnumbered layout.gutter) rows
group_title_unnumbered r layout place follows own title rows shown is words =
    title_unnumbered r layout place follows title rows (subst (λ t. ShowsTitlePart r layout place follows t rows) is shown) words
