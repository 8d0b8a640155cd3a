-- What holds of each row that a snippet begins with, of the text in the row of a path, and of each row of a message.
use Rattle.snippet_titles.proofs.Common.{common_steps, ◌≡◌, ℕ, ◌+◌, ◌<◌, Bool, true, false, Option, None, Some, List, [], ◌∷◌, ◌++◌, All, length, map, drop}
use Rattle.snippet_titles.proofs.Common.{replicate, refl, sym, ap, ◌∙◌, arith, All-nil, All-cons, All-append, All-replicate, DecorStyle, Ascii, Unicode}
use Rattle.snippet_titles.proofs.Common.{ElementStyle, LineAndColumn, LineNumber, Cell, SPACE, text_cells, row_text, Heading, FileStart, Alone, First, Later}
use Rattle.snippet_titles.proofs.Common.{Secondary, OriginLocation, OriginLayout, HeadingRoles, MessageContext, TitleStyle, Message, heading_lines}
use Rattle.snippet_titles.proofs.Common.{heading_rows, indent_cells, label_cells, label_width, lines_below, note_bar_of, roles_of, sign_cells, note_sign_of}
use Rattle.snippet_titles.proofs.Common.{file_glyph, file_row, origin_row, origin_text, primary_start, snippet_head, separator_row, HasNoNumber, IsFree}
use Rattle.snippet_titles.proofs.Common.{row_text-text_cells}
use Rattle.snippet_titles.proofs.FreeLemmas.{All-trimmed}
use Rattle.snippet_titles.proofs.HeadLemmas.{nameless_head-each, primary_head-each, secondary_head-each}
use Rattle.snippet_titles.proofs.LinkLemmas.{IsUnlinked, drawn_unlinked, indent_unlinked, sign_unlinked}
use Rattle.snippet_titles.proofs.OriginFree.{file_row-free, origin_row-free, separator_row-free}
use Rattle.snippet_titles.proofs.OriginNumbers.{file_row-unnumbered, origin_row-unnumbered, separator_row-unnumbered}
use Rattle.snippet_titles.proofs.OriginRowText.{origin_row-after}

-- what a primary snippet without a path begins with
abbrev pub opening_rows : DecorStyle → OriginLayout → Bool → List (List Cell)
opening_rows decor layout first =
    elim decor [ Ascii ↦ separator_row layout.base.decor layout.base.gutter ∷ [] | Unicode ↦ file_row layout (primary_start first) ∷ [] ]

-- what holds of separator rows, of those that lead to a file, and of those of paths
module _ (P : List Cell → Type 0) (layout : OriginLayout) (separator : P (separator_row layout.base.decor layout.base.gutter))
    (file : (start : FileStart) → P (file_row layout start)) where
  pub opening_rows-each : (decor : DecorStyle) (first : Bool) → All P (opening_rows decor layout first)
  opening_rows-each Ascii first = All-cons P (separator_row layout.base.decor layout.base.gutter) [] separator (All-nil P)
  opening_rows-each Unicode true = All-cons P (file_row layout First) [] (file First) (All-nil P)
  opening_rows-each Unicode false = All-cons P (file_row layout Later) [] (file Later) (All-nil P)

  -- holds of each that a snippet begins with
  module _ (place : OriginLocation) (origin : (path : List ℕ) (start : FileStart) → P (origin_row layout start path place)) where
    pub snippet_head-each : (primary first : Bool) (path : Option (List ℕ)) → All P (snippet_head layout primary first path place)
    snippet_head-each true first None = opening_rows-each layout.base.decor first
    snippet_head-each true first (Some path) = primary_head-each P layout separator path place (origin path) first
    snippet_head-each false first None = nameless_head-each P layout separator (file Secondary)
    snippet_head-each false first (Some path) = secondary_head-each P layout separator path place (origin path)

-- so none of them holds a listed character or a link
pub snippet_head-free : (layout : OriginLayout) (primary first : Bool) (path : Option (List ℕ)) (place : OriginLocation)
    → All IsFree (snippet_head layout primary first path place)
snippet_head-free layout primary first path place =
    snippet_head-each IsFree layout (separator_row-free layout.base.decor layout.base.gutter) (file_row-free layout) place (λ path start.
    origin_row-free layout start path place) primary first path

-- and none can be taken for a line's
pub snippet_head-unnumbered : (layout : OriginLayout) (primary first : Bool) (path : Option (List ℕ)) (place : OriginLocation)
    → All (HasNoNumber layout.base.gutter) (snippet_head layout primary first path place)
snippet_head-unnumbered layout primary first path place =
    snippet_head-each (HasNoNumber layout.base.gutter) layout (separator_row-unnumbered layout.base.decor layout.base.gutter)
    (file_row-unnumbered layout) place (λ path start. origin_row-unnumbered layout start path place) primary first path

-- each glyph that leads to a file is four characters wide
glyph-width : (start : FileStart) (decor : DecorStyle) → length (file_glyph start decor) ≡ 4
glyph-width Alone Ascii = refl
glyph-width Alone Unicode = refl
glyph-width First Ascii = refl
glyph-width First Unicode = refl
glyph-width Later Ascii = refl
glyph-width Later Unicode = refl
glyph-width Secondary Ascii = refl
glyph-width Secondary Unicode = refl

-- after it the row of a path shows the path with its place
pub origin_row-text : (layout : OriginLayout) (start : FileStart) (path : List ℕ) (place : OriginLocation)
    → row_text (drop (layout.base.gutter + 4) (origin_row layout start path place)) ≡ origin_text layout.anonymized path place
origin_row-text layout start path place =
    ap (λ n. row_text (drop (layout.base.gutter + n) (origin_row layout start path place))) (sym (glyph-width start layout.base.decor))
    ∙ ap row_text (origin_row-after layout start path place) ∙ row_text-text_cells LineAndColumn (origin_text layout.anonymized path place)

-- what holds of each row that begins with these cells, and of each that begins with those, holds of the rows of lines
module _ (P : List Cell → Type 0) (first further : List Cell) (r : ElementStyle) (begun : (line : List ℕ) → P (first ++ text_cells r line))
    (below : (line : List ℕ) → P (further ++ text_cells r line)) where
  further-each : (lines : List (List ℕ)) → All P (map (λ l. further ++ text_cells r l) lines)
  further-each [] = All-nil P
  further-each (line ∷ lines) =
      All-cons P (further ++ text_cells r line) (map (λ l. further ++ text_cells r l) lines) (below line) (further-each lines)

  lines_below-each : (lines : List (List ℕ)) → All P (lines_below first further r lines)
  lines_below-each [] = All-nil P
  lines_below-each (line ∷ lines) =
      All-cons P (first ++ text_cells r line) (map (λ l. further ++ text_cells r l) lines) (begun line) (further-each lines)

-- a row that reaches past the gutter and has no number in it
abbrev IsLed : ℕ → List Cell → Type 0
IsLed gutter row = (gutter < length row) × HasNoNumber gutter row

spaces-led : (gutter : ℕ) → IsLed gutter (replicate (gutter + 1) SPACE)
spaces-led gutter = grind (arith, common_steps, All-replicate)

-- stays one with cells after it
led-more : (gutter : ℕ) (front others : List Cell) → IsLed gutter front → IsLed gutter (front ++ others)
led-more gutter front others led = grind (arith, common_steps, led.0, led.1)

-- no row of a message can be taken for a line's
pub message_rows-unnumbered : (hyperlink : Bool) (place : MessageContext) (heading : Heading)
    → All (HasNoNumber place.layout.gutter) (heading_rows hyperlink (Message place) heading)
unfolding heading_rows
message_rows-unnumbered hyperlink place heading =
    let roles : HeadingRoles = roles_of (Message place) heading.level.kind heading.allows_styling in
    let spaces : List Cell = replicate (place.layout.gutter + 1) SPACE in
    let sign : List Cell = text_cells LineNumber (note_sign_of place.layout.decor place.followed) in
    let label : List Cell = label_cells hyperlink roles heading in
    let width : ℕ = label_width heading in
    let bar : List Cell = note_bar_of place.layout.decor place.followed ∷ replicate (width + 1) SPACE in
    let first : IsLed place.layout.gutter ((spaces ++ sign) ++ label) = led-more place.layout.gutter (spaces ++ sign) label
    (led-more place.layout.gutter spaces sign (spaces-led place.layout.gutter)) in
    let further : IsLed place.layout.gutter (spaces ++ bar) = led-more place.layout.gutter spaces bar (spaces-led place.layout.gutter) in
    let P : List Cell → Type 0 = HasNoNumber place.layout.gutter in
    All-trimmed P (lines_below ((spaces ++ sign) ++ label) (spaces ++ bar) roles.text (heading_lines heading))
    (lines_below-each P ((spaces ++ sign) ++ label) (spaces ++ bar)
    roles.text (λ line. (led-more place.layout.gutter ((spaces ++ sign) ++ label) (text_cells roles.text line) first).1)
    (λ line. (led-more place.layout.gutter (spaces ++ bar) (text_cells roles.text line) further).1) (heading_lines heading))

-- a label without an id links to nothing
label-unlinked : (hyperlink : Bool) (roles : HeadingRoles) (heading : Heading) → heading.id ≡ None → All IsUnlinked (label_cells hyperlink roles heading)
unfolding label_cells
label-unlinked hyperlink roles heading none =
    grind (arith, common_steps, heading.level.name, heading.level, roles.label, heading.id, roles.colon, All-nil, All-append, drawn_unlinked)

-- nor does any row of a heading without one
pub heading_rows-unlinked : (hyperlink : Bool) (style : TitleStyle) (heading : Heading) → heading.id ≡ None
    → All (All IsUnlinked) (heading_rows hyperlink style heading)
unfolding heading_rows
heading_rows-unlinked hyperlink style heading none =
    let roles : HeadingRoles = roles_of style heading.level.kind heading.allows_styling in
    let sign : List Cell = sign_cells style in
    let label : List Cell = label_cells hyperlink roles heading in
    let further : List Cell = indent_cells style (label_width heading) in
    let first : All IsUnlinked (sign ++ label) = All-append IsUnlinked sign label (sign_unlinked style) (label-unlinked hyperlink roles heading none) in
    All-trimmed (All IsUnlinked) (lines_below (sign ++ label) further roles.text (heading_lines heading))
    (lines_below-each (All IsUnlinked) (sign ++ label)
    further roles.text (λ line. All-append IsUnlinked (sign ++ label) (text_cells roles.text line) first (drawn_unlinked roles.text line))
    (λ line. All-append IsUnlinked further (text_cells roles.text line) (indent_unlinked style (label_width heading))
    (drawn_unlinked roles.text line)) (heading_lines heading))

-- no cell of a message's rows has a link where the message has no id
pub message_rows-unlinked : (hyperlink : Bool) (place : MessageContext) (heading : Heading) → heading.id ≡ None
    → All (All (λ (cell : Cell). cell.link ≡ None)) (heading_rows hyperlink (Message place) heading)
message_rows-unlinked hyperlink place heading none = heading_rows-unlinked hyperlink (Message place) heading none
