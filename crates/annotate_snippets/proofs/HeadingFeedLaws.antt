-- The rows of a title or message hold a line feed only where its level's name or its id does: its text is cut at each.
use Rattle.std.proofs.Common.{arith, chars}
use Rattle.annotate_snippets.proofs.Common.{◌≡◌, ℕ, ◌+◌, ◌==◌, ◌&&◌, not, Bool, true, false, cond, IfSome, Option, None, Some, List, [], ◌∷◌, ◌++◌, All, map}
use Rattle.annotate_snippets.proofs.Common.{replicate, codes, refl, sym, subst, cow_str_bytes, onto_first, slice_split, option_map, All-append, All-cons}
use Rattle.annotate_snippets.proofs.Common.{All-head, All-map, All-nil, All-replicate, All-tail, slice_split-cons_no, slice_split-cons_yes, linked, Cell, SPACE}
use Rattle.annotate_snippets.proofs.Common.{text_cells, DecorStyle, Ascii, Unicode, ElementStyle, LineNumber, norm, Heading, heading_of_title, is_hidden}
use Rattle.annotate_snippets.proofs.Common.{name_of, Id, bracketed_cells, closing_bracket_of, colon_of, heading_lines, heading_rows, id_cells, indent_cells}
use Rattle.annotate_snippets.proofs.Common.{is_set, label_cells, label_width, linked_to, lines_below, note_bar_of, opening_bracket_of, roles_of, sign_cells}
use Rattle.annotate_snippets.proofs.Common.{note_sign_of, title_rows, HeadingRoles, TitleStyle, All-trimmed, Renderer, Layout, GroupPosition, is_before_message}
use Rattle.annotate_snippets.proofs.Common.{HasNoFeed, rows_after_title, title_part, each-fails, closing_row, separator_row}
use Rattle.snippet_model.specs.declared.snippet.Title.{Title as TitleGiven}
use Rattle.snippet_titles.specs.HeadingRows.{address_of, shown_text}
use Rattle.snippet_titles.specs.declared.style.TitleStyle.TheVariants.{Message, Short, Title}
use Rattle.annotate_snippets.specs.declared.renderer.element_context.Next.{Next as NextElement}
use Rattle.annotate_snippets.proofs.OneLineTexts.{HoldsNoFeed, IsNoFeed, IsOneLineId, IsOneLineName, IsOneLineText, IsOneLineTitle}
use Rattle.annotate_snippets.proofs.FeedLaws.{after_spaces, bare-plain}
use Rattle.annotate_snippets.proofs.PathFeedLaws.{alone, cells_plain, choice, closing_plain as closing_row-plain, norm-plain}

-- ---- the label

-- neither the name of a heading's level nor the text of its id, if there is one, holds a line feed
abbrev pub IsOneLineHeading : Heading → Type 0
IsOneLineHeading heading = IsOneLineName heading.level × IsOneLineId heading.id

linked_plain : (address : Option (List ℕ)) (cells : List Cell) → HasNoFeed cells → HasNoFeed (linked_to address cells)
linked_plain None cells plain = plain
linked_plain (Some url) cells plain = All-map HoldsNoFeed (linked url) cells plain

opening_plain : (hidden : Bool) → All IsNoFeed (opening_bracket_of hidden)
opening_plain true = All-nil IsNoFeed
opening_plain false = alone 91 refl

closing_plain : (hidden : Bool) → All IsNoFeed (closing_bracket_of hidden)
closing_plain true = All-nil IsNoFeed
closing_plain false = alone 93 refl

brackets_plain : (hidden : Bool) (role : ElementStyle) (address text : Option (List ℕ)) → IsOneLineText text
    → HasNoFeed (bracketed_cells hidden role address text)
brackets_plain hidden role address None plain = All-nil HoldsNoFeed
brackets_plain hidden role address (Some text) plain =
    let own : List Cell = linked_to address (text_cells role (norm (chars text))) in
    let opened : HasNoFeed (text_cells role (opening_bracket_of hidden) ++ own) =
    All-append HoldsNoFeed (text_cells role (opening_bracket_of hidden)) own (cells_plain role (opening_bracket_of hidden) (opening_plain hidden))
    (linked_plain address (text_cells role (norm (chars text))) (cells_plain role (norm (chars text)) (norm-plain (chars text) plain))) in
    All-append HoldsNoFeed (text_cells role (opening_bracket_of hidden) ++ own) (text_cells role (closing_bracket_of hidden)) opened
    (cells_plain role (closing_bracket_of hidden) (closing_plain hidden))

id_cells-plain : (hyperlink hidden : Bool) (role : ElementStyle) (id : Option Id) → IsOneLineId id → HasNoFeed (id_cells hyperlink hidden role id)
id_cells-plain hyperlink hidden role None plain = All-nil HoldsNoFeed
id_cells-plain hyperlink hidden role (Some id) plain = brackets_plain hidden role (address_of hyperlink id) (option_map cow_str_bytes id.id) plain

colon_plain : (hidden : Bool) (id : Option Id) → All IsNoFeed (colon_of hidden id)
colon_plain hidden id = choice (hidden && not (is_set id)) [] (codes ": ") (All-nil IsNoFeed) (All-cons IsNoFeed 58 (32 ∷ []) refl (alone 32 refl))

label_plain : (hyperlink : Bool) (roles : HeadingRoles) (heading : Heading) → IsOneLineHeading heading → HasNoFeed (label_cells hyperlink roles heading)
unfolding label_cells
label_plain hyperlink roles heading plain =
    let hidden : Bool = is_hidden heading.level.name in
    let name : List ℕ = norm (chars (name_of heading.level)) in
    let id : List Cell = id_cells hyperlink hidden roles.label heading.id in
    let named : HasNoFeed (text_cells roles.label name ++ id) = All-append HoldsNoFeed (text_cells roles.label name) id
    (cells_plain roles.label name (norm-plain (chars (name_of heading.level)) plain.0)) (id_cells-plain hyperlink hidden roles.label heading.id plain.1) in
    All-append HoldsNoFeed (text_cells roles.label name ++ id) (text_cells roles.colon (colon_of hidden heading.id)) named
    (cells_plain roles.colon (colon_of hidden heading.id) (colon_plain hidden heading.id))

-- ---- what stands before it, and below

blank : (n : ℕ) → HasNoFeed (replicate n SPACE)
blank n = All-replicate HoldsNoFeed n SPACE refl

sign_plain : (style : TitleStyle) → HasNoFeed (sign_cells style)
sign_plain Title = All-nil HoldsNoFeed
sign_plain Short = All-nil HoldsNoFeed
sign_plain (Message place) =
    let sign : List ℕ = note_sign_of place.layout.decor place.followed in
    after_spaces (place.layout.gutter + 1) (text_cells LineNumber sign) (cells_plain LineNumber sign (by_decor place.layout.decor place.followed))
  where
    by_decor : (decor : DecorStyle) (followed : Bool) → All IsNoFeed (note_sign_of decor followed)
    by_decor Ascii followed = each-fails (λ c. c == 10) (note_sign_of Ascii followed) refl
    by_decor Unicode true = each-fails (λ c. c == 10) (note_sign_of Unicode true) refl
    by_decor Unicode false = each-fails (λ c. c == 10) (note_sign_of Unicode false) refl

indent_plain : (style : TitleStyle) (width : ℕ) → HasNoFeed (indent_cells style width)
indent_plain Title width = blank width
indent_plain Short width = blank width
indent_plain (Message place) width =
    let bar : Cell = note_bar_of place.layout.decor place.followed in
    after_spaces (place.layout.gutter + 1) (bar ∷ replicate (width + 1) SPACE)
    (All-cons HoldsNoFeed bar (replicate (width + 1) SPACE) (by_decor place.layout.decor place.followed) (blank (width + 1)))
  where
    by_decor : (decor : DecorStyle) (followed : Bool) → HoldsNoFeed (note_bar_of decor followed)
    by_decor Ascii followed = refl
    by_decor Unicode true = refl
    by_decor Unicode false = refl

-- ---- the lines of a text

-- a character before the first of such parts
onto_plain : (c : ℕ) (parts : List (List ℕ)) → IsNoFeed c → All (All IsNoFeed) parts → All (All IsNoFeed) (onto_first c parts)
onto_plain c [] plain all = All-cons (All IsNoFeed) (c ∷ []) [] (alone c plain) (All-nil (All IsNoFeed))
onto_plain c (part ∷ parts) plain all =
    All-cons (All IsNoFeed) (c ∷ part) parts (All-cons IsNoFeed c part plain (All-head (All IsNoFeed) part parts all)) (All-tail (All IsNoFeed) part parts all)

one_more : (c : ℕ) (cs : List ℕ) (feed : Bool) → (c == 10) ≡ feed → All (All IsNoFeed) (slice_split (λ x. x == 10) cs)
    → All (All IsNoFeed) (slice_split (λ x. x == 10) (c ∷ cs))
one_more c cs true is all = grind (arith, slice_split-cons_yes, All-cons, All-nil)
one_more c cs false is all = subst (All (All IsNoFeed)) (sym (slice_split-cons_no (λ x. x == 10) c cs is)) (onto_plain c (slice_split (λ x. x == 10) cs) is all)

-- no part of a text that is cut at each line feed holds one
pub parts_plain : (cs : List ℕ) → All (All IsNoFeed) (slice_split (λ x. x == 10) cs)
parts_plain [] = All-cons (All IsNoFeed) [] [] (All-nil IsNoFeed) (All-nil (All IsNoFeed))
parts_plain (c ∷ cs) = one_more c cs (c == 10) refl (parts_plain cs)

after_plain : (front : List Cell) (role : ElementStyle) (line : List ℕ) → HasNoFeed front → All IsNoFeed line → HasNoFeed (front ++ text_cells role line)
after_plain front role line plain own = All-append HoldsNoFeed front (text_cells role line) plain (cells_plain role line own)

lines_plain : (first further : List Cell) (role : ElementStyle) (lines : List (List ℕ)) → HasNoFeed first → HasNoFeed further → All (All IsNoFeed) lines
    → All HasNoFeed (lines_below first further role lines)
lines_plain first further role [] begun below all = All-nil HasNoFeed
lines_plain first further role (line ∷ lines) begun below all =
    let rest : List (List Cell) = map (λ l. further ++ text_cells role l) lines in
    let later : All (All IsNoFeed) lines = All-tail (All IsNoFeed) line lines all in
    All-cons HasNoFeed (first ++ text_cells role line) rest (after_plain first role line begun (All-head (All IsNoFeed) line lines all))
    (All-map HasNoFeed (λ l. further ++ text_cells role l) lines (λ k d within. after_plain further role _ below (later k d within)))

-- so no row of a title or message holds one, whatever its text is, where its level's name and its id hold none
pub heading_one_line : (hyperlink : Bool) (style : TitleStyle) (heading : Heading) → IsOneLineHeading heading
    → All HasNoFeed (heading_rows hyperlink style heading)
unfolding heading_rows
heading_one_line hyperlink style heading plain =
    let roles : HeadingRoles = roles_of style heading.level.kind heading.allows_styling in
    let sign : List Cell = sign_cells style in
    let label : List Cell = label_cells hyperlink roles heading in
    let indent : List Cell = indent_cells style (label_width heading) in
    let begun : HasNoFeed (sign ++ label) = All-append HoldsNoFeed sign label (sign_plain style) (label_plain hyperlink roles heading plain) in
    All-trimmed HasNoFeed (lines_below (sign ++ label) indent roles.text (heading_lines heading))
    (lines_plain (sign ++ label) indent roles.text (heading_lines heading) begun (indent_plain style (label_width heading)) (parts_plain (shown_text heading)))

-- so no row of a group's title does, and none below it
pub title_part-one_line : (r : Renderer) (layout : Layout) (place : GroupPosition) (follows : NextElement) (title : Option TitleGiven)
    → IfSome title IsOneLineTitle → All HasNoFeed (title_part r layout place follows title)
title_part-one_line r layout place follows None plain = All-nil HasNoFeed
title_part-one_line r layout place follows (Some title) plain =
    let own : List (List Cell) = title_rows r.hyperlink title in
    let after : List (List Cell) = rows_after_title r layout place follows title.allows_styling in
    All-append HasNoFeed own after (heading_one_line r.hyperlink Title (heading_of_title title) plain) (below (is_before_message follows) _)
  where
    below : (before closes : Bool)
        → All HasNoFeed (cond before (separator_row layout.decor layout.gutter ∷ []) (cond closes (closing_row layout.decor layout.gutter ∷ []) []))
    below true closes = All-cons HasNoFeed _ [] (bare-plain layout.decor layout.gutter false) (All-nil HasNoFeed)
    below false closes = closing_row-plain r layout closes
