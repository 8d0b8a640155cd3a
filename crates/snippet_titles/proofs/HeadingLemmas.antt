-- A heading's rows, from what is drawn of them.
use Rattle.snippet_titles.proofs.Common.{common_steps, ◌≡◌, ℕ, List, [], ◌++◌, All, length, map, take, Bool, true, false, if◌then◌else◌, refl, ap, ◌∙◌, arith}
use Rattle.snippet_titles.proofs.Common.{IsUtf8, get_or_past, row_at, Cell, ElementStyle, Level, Heading, norm, IsPlain, norm-plain, HeadingRoles, TitleStyle}
use Rattle.snippet_titles.proofs.Common.{appended, heading_lines, heading_rows, indent_cells, label_cells, label_width, lines_below, roles_of, sign_cells}
use Rattle.snippet_titles.proofs.Common.{without_empty_end, AddsToRow, GridRow}
use Rattle.std.specs.Str.{chars}
use Rattle.snippet_titles.proofs.EndLemmas.{IsAtEnd-begun}
use Rattle.snippet_text.proofs.SplitLemmas.{lines_at, lines_at-chars}

-- the row below all others has no cells yet
pub row_at-below : (rows : List (List Cell)) (row : ℕ) → row ≡ length rows → row_at rows row ≡ []
row_at-below rows row at = get_or_past rows row [] (omega (arith, at))

-- the cells that a row of a grid gained since no cell of it was there
pub row_begun : (old drawn : List (List Cell)) (row : ℕ) (start done : GridRow) (cells : List Cell) → start.grid ≡ old → start.number ≡ row
    → drawn ≡ done.grid → AddsToRow start done cells → drawn ≡ appended old row cells
row_begun old drawn row start done cells from at is adds =
    is ∙ adds.grid ∙ ap (λ rows. appended rows start.number cells) from ∙ ap (λ n. appended old n cells) at

-- no cells were added to it
pub row_none : (row : GridRow) → AddsToRow row row []
row_none row = record { number = refl; grid = refl }

-- the roles of a heading's parts
pub roles_known : (style : TitleStyle) (heading : Heading) (level : Level) (trusted : Bool) (roles : HeadingRoles) → level ≡ heading.level
    → trusted ≡ heading.allows_styling → roles ≡ roles_of style level.kind trusted → roles ≡ roles_of style heading.level.kind heading.allows_styling
roles_known style heading level trusted roles leveled trusts are =
    are ∙ ap (λ (l : Level). roles_of style l.kind trusted) leveled ∙ ap (roles_of style heading.level.kind) trusts

-- what is drawn of a text that spells these characters, below a label
pub text_drawn : (old new : List (List Cell)) (row : ℕ) (further : List Cell) (role : ElementStyle) (text shown : List ℕ) → IsUtf8 text
    → chars text ≡ shown → new ≡ take row old ++ without_empty_end (lines_below (row_at old row) further role (map chars (lines_at text)))
    → new ≡ take row old ++ without_empty_end (lines_below (row_at old row) further role (lines_at shown))
text_drawn old new row further role text shown utf8 spelled is = grind (arith, common_steps, lines_at-chars)

-- a text of printable ASCII is drawn as it is, trusted or not
drawn_as_is : (trusted : Bool) (text : List ℕ) → All IsPlain text → chars text ≡ (if trusted then chars text else norm (chars text))
drawn_as_is true text plain = refl
drawn_as_is false text plain = norm-plain text text plain refl

pub plain_shown : (trusted : Bool) (text given : List ℕ) → text ≡ given → All IsPlain text
    → chars text ≡ (if trusted then chars given else norm (chars given))
plain_shown trusted text given is plain =
    drawn_as_is trusted text plain ∙ ap (λ (t : List ℕ). if trusted then chars t else norm (chars t)) is

-- the lines after a label make the rows
pub heading_drawn : (old begun new : List (List Cell)) (row : ℕ) (hyperlink : Bool) (style : TitleStyle) (heading : Heading) (level : Level)
    (trusted : Bool) (roles : HeadingRoles) → row ≡ length old → level ≡ heading.level → trusted ≡ heading.allows_styling
    → roles ≡ roles_of style level.kind trusted → begun ≡ appended old row (sign_cells style ++ label_cells hyperlink roles heading)
    → new ≡ take row begun ++ without_empty_end
    (lines_below (row_at begun row) (indent_cells style (label_width heading)) roles.text (heading_lines heading))
    → new ≡ old ++ heading_rows hyperlink style heading
unfolding heading_rows
heading_drawn old begun new row hyperlink style heading level trusted roles at leveled trusts roles_are first lines =
    grind (arith, common_steps, IsAtEnd-begun, roles.text, roles_known)
