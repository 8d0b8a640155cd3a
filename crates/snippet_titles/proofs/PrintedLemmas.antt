-- The one row of a plain heading.
use Rattle.snippet_titles.proofs.Common.{common_steps, ◌≡◌, ◌<◌, ℕ, Bool, List, [], ◌∷◌, ◌++◌, length, map, refl, sym, ap, ◌∙◌, arith, IsUtf8, length-append}
use Rattle.snippet_titles.proofs.Common.{chars_some, Heading, ElementStyle, length-text_cells, Cell, text_cells, heading_lines, heading_rows, indent_cells}
use Rattle.snippet_titles.proofs.Common.{label_cells, label_width, lines_below, roles_of, sign_cells, without_empty_end, IsPlainHeading, TitleStyle}
use Rattle.snippet_titles.proofs.Common.{HeadingRoles, Level}
use Rattle.std.specs.Str.{chars}
use Rattle.snippet_titles.proofs.HeadingLemmas.{plain_shown, roles_known}
use Rattle.snippet_titles.proofs.LineLemmas.{lines_at-plain}
use Rattle.snippet_text.proofs.SplitLemmas.{lines_at, lines_at-chars}

-- the cells of that row
abbrev pub plain_row : Bool → TitleStyle → Heading → List Cell
plain_row hyperlink style heading =
    let roles = roles_of style heading.level.kind heading.allows_styling in
    (sign_cells style ++ label_cells hyperlink roles heading) ++ text_cells roles.text (chars heading.text)

-- a row with cells stays at the end
stays : (row : List Cell) → 0 < length row → without_empty_end (row ∷ []) ≡ row ∷ []
stays [] some = absurd (omega (arith, some))
stays (cell ∷ cells) some = refl

-- a plain heading has one row
pub one_row : (hyperlink : Bool) (style : TitleStyle) (heading : Heading) → IsUtf8 heading.text → IsPlainHeading heading
    → heading_rows hyperlink style heading ≡ plain_row hyperlink style heading ∷ []
unfolding heading_rows
one_row hyperlink style heading utf8 is =
    let roles = roles_of style heading.level.kind heading.allows_styling in
    let first = sign_cells style ++ label_cells hyperlink roles heading in
    let further = indent_cells style (label_width heading) in
    let line : heading_lines heading ≡ chars heading.text ∷ [] = ap lines_at (sym (plain_shown heading.allows_styling heading.text heading.text refl is.plain))
    ∙ sym (lines_at-chars heading.text utf8) ∙ ap (map chars) (lines_at-plain heading.text is.plain) in
    ap (λ (ls : List (List ℕ)). without_empty_end (lines_below first further roles.text ls)) line
    ∙ stays (plain_row hyperlink style heading) (omega (
      arith,
      length-append first (text_cells roles.text (chars heading.text)),
      length-text_cells roles.text (chars heading.text),
      chars_some heading.text utf8 is.some,
    ))

-- that row, with the roles and the text as they are known
pub row_known : (hyperlink : Bool) (style : TitleStyle) (heading : Heading) (level : Level) (trusted : Bool) (roles : HeadingRoles) (text : List ℕ)
    → level ≡ heading.level → trusted ≡ heading.allows_styling → roles ≡ roles_of style level.kind trusted → text ≡ heading.text → IsUtf8 text
    → IsPlainHeading heading → ((sign_cells style ++ label_cells hyperlink roles heading) ++ text_cells roles.text (chars text)) ∷ []
    ≡ heading_rows hyperlink style heading
row_known hyperlink style heading level trusted roles text leveled trusts are given utf8 plain =
    grind (arith, common_steps, roles_known, heading.level.kind, one_row)

-- a row that has the text of a heading has cells
pub row_some : (front : List Cell) (role : ElementStyle) (heading : Heading) (text : List ℕ) → text ≡ heading.text → IsUtf8 text → IsPlainHeading heading
    → 0 < length (front ++ text_cells role (chars text))
row_some front role heading text given utf8 plain = grind (arith, common_steps, length-text_cells, chars_some, plain.some)
