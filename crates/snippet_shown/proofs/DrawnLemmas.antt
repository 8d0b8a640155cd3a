-- How wide the rows of titles and messages are.
use Rattle.snippet_shown.proofs.Common.{common_steps, ◌≡◌, ℕ, zero, suc, ◌+◌, ◌-◌, ◌<◌, ◌≤◌, ◌==◌, ◌||◌, ◌&&◌, nat_le, Bool, true, false, List, [], ◌∷◌, ◌++◌}
use Rattle.snippet_shown.proofs.Common.{All, length, map, replicate, refl, sym, ap, ◌∙◌, subst, arith, chars, cond, if◌then◌else◌, list_any, onto_first}
use Rattle.snippet_shown.proofs.Common.{slice_split, nat_tests, All-append, All-cons, All-head, All-map, All-nil, All-replicate, All-tail, All-weaker}
use Rattle.snippet_shown.proofs.Common.{length-slice_split, slice_split-cons_no, slice_split-cons_yes, sum_by-append, sum_by-cons, row_text-text_cells}
use Rattle.snippet_shown.proofs.Common.{separator_cell, row_text, each_fails, Heading, SPACE, note_sign_of, DecorStyle, Ascii, Unicode, width_of-norm}
use Rattle.snippet_shown.proofs.Common.{unicode_width, is_listed, norm, shown, char_width, width_of, lines_at-after, row_text-append, row_text-spaces}
use Rattle.snippet_shown.proofs.Common.{heading_label_text, heading_lines, indent_cells, label_width, note_bar_of, sign_cells, heading_texts, texts_below}
use Rattle.snippet_shown.proofs.Common.{MessageContext, Message, Title, IsUnlisted, indent-all, label-all, Letter, first_place, is_code, letter, letter_width}
use Rattle.snippet_shown.proofs.Common.{letters, letters_of, place_after, AreRowsWithin, AreWithin, columns_of, lines_in, Place, Untrusted, Outside, Escape}
use Rattle.snippet_shown.proofs.Common.{Bracket, Command, CommandEscape}

-- ---- what a row begins with

space-one : char_width 32 ≡ 1
unfolding char_width unicode_width
space-one = refl

width-spaces : (n : ℕ) → width_of (replicate n 32) ≡ n
width-spaces zero = refl
width-spaces (suc n) = omega (arith, sum_by-cons char_width 32 (replicate n 32), space-one, width-spaces n)

sign-two : (decor : DecorStyle) (followed : Bool) → width_of (note_sign_of decor followed) ≡ 2
unfolding char_width unicode_width
sign-two Ascii followed = refl
sign-two Unicode true = refl
sign-two Unicode false = refl

bar-one : (decor : DecorStyle) (followed : Bool) → width_of (row_text (note_bar_of decor followed ∷ [])) ≡ 1
unfolding char_width unicode_width
bar-one Ascii followed = refl
bar-one Unicode true = refl
bar-one Unicode false = refl

sign-text : (place : MessageContext) → row_text (sign_cells (Message place))
    ≡ replicate (separator_cell place.layout) 32 ++ note_sign_of place.layout.decor place.followed
sign-text place = grind (arith, row_text-append, row_text-spaces, row_text-text_cells)

-- the sign of a message takes three columns more than the gutter
sign-width : (place : MessageContext) → width_of (row_text (sign_cells (Message place))) ≡ place.layout.gutter + 3
sign-width place = grind (arith, sign-text, sum_by-append, width-spaces, sign-two)

-- and so does what stands below it, with the label
indent-width : (place : MessageContext) (width : ℕ) → width_of (row_text (indent_cells (Message place) width)) ≡ place.layout.gutter + 3 + width
indent-width place width = grind (arith, row_text-append, row_text-spaces, sum_by-append, sum_by-cons, width-spaces, bar-one)

-- ---- lines as they are drawn

-- a character that is no line feed
abbrev IsOther : ℕ → Type 0
IsOther c = (c == 10) ≡ false

-- the lines of characters
abbrev lines_of : List ℕ → List (List ℕ)
lines_of cs = slice_split (λ c. c == 10) cs

-- normalising puts in no line feed
choice : (b : Bool) (xs ys : List ℕ) → All IsOther xs → All IsOther ys → All IsOther (cond b xs ys)
choice true xs ys one other = one
choice false xs ys one other = other

alone : (c : ℕ) → IsOther c → All IsOther (c ∷ [])
alone c plain = All-cons IsOther c [] plain (All-nil IsOther)

shown-other : (c : ℕ) → IsOther c → All IsOther (shown c)
shown-other c plain = grind (arith, common_steps, All-cons, alone, nat_tests, choice, All-nil)

lines_of-norm_onto : (c : ℕ) (cs rest : List ℕ) (parts : List (List ℕ)) → (c == 10) ≡ false → lines_of cs ≡ parts → lines_of rest ≡ map norm parts
    → lines_of (shown c ++ rest) ≡ map norm (lines_of (c ∷ cs))
unfolding norm
lines_of-norm_onto c cs rest [] other is below = absurd (omega (arith, length-slice_split (λ d. d == 10) cs, ap (λ (ps : List (List ℕ)). length ps) is))
lines_of-norm_onto c cs rest (part ∷ parts) other is below = grind (arith, lines_at-after, shown-other, slice_split-cons_no)

lines_of-norm_step : (c : ℕ) (cs : List ℕ) (feed : Bool) → (c == 10) ≡ feed → lines_of (norm cs) ≡ map norm (lines_of cs)
    → lines_of (norm (c ∷ cs)) ≡ map norm (lines_of (c ∷ cs))
unfolding norm
lines_of-norm_step c cs true is below = grind (arith, slice_split-cons_yes)
lines_of-norm_step c cs false is below = lines_of-norm_onto c cs (norm cs) (lines_of cs) is refl below

lines-norm : (cs : List ℕ) → lines_of (norm cs) ≡ map norm (lines_of cs)
unfolding norm
lines-norm [] = refl
lines-norm (c ∷ cs) = lines_of-norm_step c cs (c == 10) refl (lines-norm cs)

-- where the lines of a text begin
abbrev line_place : Place → Place
line_place Untrusted = Untrusted
line_place other = Outside

choice-place : (b : Bool) (p q : Place) → line_place p ≡ Outside → line_place q ≡ Outside → line_place (if b then p else q) ≡ Outside
choice-place true p q one other = one
choice-place false p q one other = other

outside-line : (c : ℕ) → line_place (place_after Outside c) ≡ Outside
outside-line c = choice-place (c == 27) Escape Outside refl refl

command-line : (c : ℕ) → line_place (place_after Command c) ≡ Outside
command-line c = choice-place ((c == 10) || (c == 7)) Outside _ refl (choice-place (c == 27) CommandEscape Command refl refl)

place-line : (place : Place) (c : ℕ) → line_place (place_after place c) ≡ line_place place
place-line Untrusted c = refl
place-line Outside c = outside-line c
place-line Escape c = choice-place (c == 91) Bracket _ refl (choice-place (c == 93) Command _ refl (outside-line c))
place-line Bracket c = choice-place ((c == 10) || nat_le 64 c && nat_le c 126) Outside Bracket refl refl
place-line Command c = command-line c
place-line CommandEscape c = choice-place (c == 92) Outside _ refl (command-line c)

place-feed : (place : Place) → place_after place 10 ≡ line_place place
place-feed Untrusted = refl
place-feed Outside = refl
place-feed Escape = refl
place-feed Bracket = refl
place-feed Command = refl
place-feed CommandEscape = refl

line-line : (place : Place) → line_place (line_place place) ≡ line_place place
line-line Untrusted = refl
line-line Outside = refl
line-line Escape = refl
line-line Bracket = refl
line-line Command = refl
line-line CommandEscape = refl

-- the letters of lines: the first of which begins there
abbrev letter_lines : Place → List (List ℕ) → List (List Letter)
letter_lines place [] = []
letter_lines place (line ∷ lines) = letters place line ∷ map (letters (line_place place)) lines

letter_lines-map : (place : Place) (parts : List (List ℕ)) → letter_lines (line_place place) parts ≡ map (letters (line_place place)) parts
letter_lines-map place [] = refl
letter_lines-map place (part ∷ parts) = ap (λ (p : Place). letters (line_place place) part ∷ map (letters p) parts) (line-line place)

onto-lines : (place : Place) (c : ℕ) (parts : List (List ℕ)) → 0 < length parts
    → onto_first (letter place c) (letter_lines (place_after place c) parts) ≡ letter_lines place (onto_first c parts)
onto-lines place c [] some = absurd (omega (arith, some))
onto-lines place c (part ∷ parts) some =
    ap (λ (p : Place). (letter place c ∷ letters (place_after place c) part) ∷ map (letters p) parts) (place-line place c)

lines-one : (place : Place) (c : ℕ) (cs : List ℕ) (feed : Bool) → (c == 10) ≡ feed
    → lines_in (letters (place_after place c) cs) ≡ letter_lines (place_after place c) (lines_of cs)
    → lines_in (letters place (c ∷ cs)) ≡ letter_lines place (lines_of (c ∷ cs))
lines-one place c cs true is rest = grind (arith, place-feed, slice_split-cons_yes, letter_lines-map)
lines-one place c cs false is rest = grind (arith, slice_split-cons_no, onto-lines, length-slice_split)

lines-letters : (cs : List ℕ) (place : Place) → lines_in (letters place cs) ≡ letter_lines place (lines_of cs)
lines-letters [] place = refl
lines-letters (c ∷ cs) place = lines-one place c cs (c == 10) refl (lines-letters cs (place_after place c))

-- so the lines of a text have the room that those of its letters have
first-line : (trusted : Bool) → line_place (first_place trusted) ≡ first_place trusted
first-line true = refl
first-line false = refl

All-map_back : {X Y : Type 0} (P : Y → Type 0) (f : X → Y) (xs : List X) → All P (map f xs) → All (λ x. P (f x)) xs
All-map_back P f [] all = All-nil (λ x. P (f x))
All-map_back P f (x ∷ xs) all = All-cons (λ x. P (f x)) x xs (All-head P (f x) (map f xs) all) (All-map_back P f xs (All-tail P (f x) (map f xs) all))

pub rows-within : (room : ℕ) (trusted : Bool) (cs : List ℕ) → AreWithin room (lines_in (letters_of trusted cs)) → AreRowsWithin trusted room (lines_of cs)
rows-within room trusted cs within =
    let own = lines-letters cs (first_place trusted) in
    let all : letter_lines (first_place trusted) (lines_of cs) ≡ map (letters_of trusted) (lines_of cs) =
    ap (λ (p : Place). letter_lines p (lines_of cs)) (sym (first-line trusted)) ∙ letter_lines-map (first_place trusted) (lines_of cs)
    ∙ ap (λ (p : Place). map (letters p) (lines_of cs)) (first-line trusted) in
    All-map_back (λ part. columns_of part ≤ room) (letters_of trusted) (lines_of cs) (subst (AreWithin room) (own ∙ all) within)

-- the columns of a text that isn't trusted are those of its characters
untrusted-columns : (cs : List ℕ) → columns_of (letters Untrusted cs) ≡ width_of cs
untrusted-columns [] = refl
untrusted-columns (c ∷ cs) = grind (arith, common_steps, sum_by-cons, untrusted-columns cs)

norm-within : (room : ℕ) (rows : List (List ℕ)) → AreRowsWithin false room rows → AreRowsWithin false room (map norm rows)
norm-within room rows within =
    All-map (λ row. columns_of (letters_of false row) ≤ room) norm rows
    (All-weaker (λ row. columns_of (letters_of false row) ≤ room) (λ row. columns_of (letters_of false (norm row)) ≤ room)
    (λ row least. omega (arith, untrusted-columns (norm row), untrusted-columns row, width_of-norm row, least)) rows within)

drawn-within : (room : ℕ) (trusted : Bool) (cs : List ℕ) → AreWithin room (lines_in (letters_of trusted cs))
    → AreRowsWithin trusted room (lines_of (if trusted then cs else norm cs))
drawn-within room true cs within = rows-within room true cs within
drawn-within room false cs within = subst (AreRowsWithin false room) (sym (lines-norm cs)) (norm-within room (lines_of cs) (rows-within room false cs within))

-- ---- rows

-- a character that begins no code
abbrev IsQuiet : ℕ → Type 0
IsQuiet c = (c == 27) ≡ false

quiet_either : (c : ℕ) (escape : Bool) → (c == 27) ≡ escape → IsUnlisted c → IsQuiet c
quiet_either c false is free = is
quiet_either c true is free = grind arith

quiet-free : (c : ℕ) → IsUnlisted c → IsQuiet c
quiet-free c free = quiet_either c (c == 27) refl free

quiet-width : (c : ℕ) (code : Bool) → letter_width (record { char = c; code = code }) ≤ char_width c
quiet-width c true = omega arith
quiet-width c false = omega arith

-- what stands before a line takes no more columns than its characters
before-trusted : (first line : List ℕ) → All IsQuiet first → columns_of (letters Outside (first ++ line)) ≤ width_of first + columns_of (letters Outside line)
before-trusted [] line quiet = omega arith
before-trusted (c ∷ first) line quiet =
    let still : place_after Outside c ≡ Outside = ap (λ (b : Bool). if b then Escape else Outside) (All-head IsQuiet c first quiet) in
    omega (
      arith,
      ap (λ (p : Place). columns_of (letter Outside c ∷ letters p (first ++ line))) still,
      sum_by-cons letter_width (letter Outside c) (letters Outside (first ++ line)),
      quiet-width c (is_code Outside c),
      sum_by-cons char_width c first,
      before-trusted first line (All-tail IsQuiet c first quiet),
    )

before-row : (trusted : Bool) (first line : List ℕ) → All IsQuiet first
    → columns_of (letters_of trusted (first ++ line)) ≤ width_of first + columns_of (letters_of trusted line)
before-row true first line quiet = before-trusted first line quiet
before-row false first line quiet =
    omega (arith, untrusted-columns (first ++ line), untrusted-columns line, sum_by-append char_width first line)

-- rows that begin with so many columns at most
further-within : (trusted : Bool) (further : List ℕ) (start room term_width : ℕ) → All IsQuiet further → width_of further ≤ start
    → start + room ≤ term_width → (lines : List (List ℕ)) → AreRowsWithin trusted room lines
    → AreRowsWithin trusted term_width (map (λ l. further ++ l) lines)
further-within trusted further start room term_width quiet narrow fits lines within =
    All-map (λ row. columns_of (letters_of trusted row) ≤ term_width) (λ l. further ++ l) lines
    (All-weaker (λ row. columns_of (letters_of trusted row) ≤ room) (λ l. columns_of (letters_of trusted (further ++ l)) ≤ term_width)
    (λ l least. omega (arith, before-row trusted further l quiet, narrow, fits, least)) lines within)

texts-within : (trusted : Bool) (first further : List ℕ) (start room term_width : ℕ) → All IsQuiet first → All IsQuiet further → width_of first ≤ start
    → width_of further ≤ start → start + room ≤ term_width → (lines : List (List ℕ)) → AreRowsWithin trusted room lines
    → AreRowsWithin trusted term_width (texts_below first further lines)
texts-within trusted first further start room term_width quiet still narrow below fits [] within =
    All-nil (λ row. columns_of (letters_of trusted row) ≤ term_width)
texts-within trusted first further start room term_width quiet still narrow below fits (line ∷ lines) within =
    let least = All-head (λ row. columns_of (letters_of trusted row) ≤ room) line lines within in
    All-cons (λ row. columns_of (letters_of trusted row) ≤ term_width) (first ++ line) (map (λ l. further ++ l) lines)
    (omega (arith, before-row trusted first line quiet, narrow, fits, least))
    (further-within trusted further start room term_width still below fits lines
    (All-tail (λ row. columns_of (letters_of trusted row) ≤ room) line lines within))

-- ---- titles and messages

quiet-all : (cs : List ℕ) → list_any is_listed cs ≡ false → All IsQuiet cs
quiet-all cs free = All-weaker IsUnlisted IsQuiet quiet-free cs (each_fails is_listed cs free)

quiet-sign : (decor : DecorStyle) (followed : Bool) → All IsQuiet (note_sign_of decor followed)
quiet-sign Ascii followed = quiet-all (note_sign_of Ascii followed) refl
quiet-sign Unicode true = quiet-all (note_sign_of Unicode true) refl
quiet-sign Unicode false = quiet-all (note_sign_of Unicode false) refl

-- the rows of a title are no wider than the terminal where its lines have room
pub title-within : (term_width : ℕ) (heading : Heading) → label_width heading ≤ term_width
    → AreWithin (term_width - label_width heading) (lines_in (letters_of heading.allows_styling (chars heading.text)))
    → AreRowsWithin heading.allows_styling term_width (heading_texts Title heading)
title-within term_width heading fits within =
    let width = label_width heading in
    texts-within heading.allows_styling (heading_label_text heading) (row_text (replicate width SPACE)) width (term_width - width) term_width
    (label-all IsQuiet quiet-free heading) (indent-all IsQuiet quiet-free Title width) (omega arith)
    (omega (arith, ap width_of (row_text-spaces width), width-spaces width)) (omega (arith, fits)) (heading_lines heading)
    (drawn-within (term_width - width) heading.allows_styling (chars heading.text) within)

-- and so are those of a message
pub message-within : (term_width : ℕ) (place : MessageContext) (heading : Heading) → place.layout.gutter + 3 + label_width heading ≤ term_width
    → AreWithin (term_width - (place.layout.gutter + 3 + label_width heading)) (lines_in (letters_of heading.allows_styling (chars heading.text)))
    → AreRowsWithin heading.allows_styling term_width (heading_texts (Message place) heading)
message-within term_width place heading fits within =
    let width = label_width heading in
    let start = place.layout.gutter + 3 + width in
    let sign = row_text (sign_cells (Message place)) in
    let signs : All IsQuiet sign = subst (All IsQuiet) (sym (sign-text place))
    (All-append IsQuiet (replicate (separator_cell place.layout) 32) (note_sign_of place.layout.decor place.followed)
    (All-replicate IsQuiet (separator_cell place.layout) 32 refl) (quiet-sign place.layout.decor place.followed)) in
    texts-within heading.allows_styling (sign ++ heading_label_text heading) (row_text (indent_cells (Message place) width)) start
    (term_width - start) term_width (All-append IsQuiet sign (heading_label_text heading) signs (label-all IsQuiet quiet-free heading))
    (indent-all IsQuiet quiet-free (Message place) width)
    (omega (arith, sum_by-append char_width sign (heading_label_text heading), sign-width place)) (omega (arith, indent-width place width))
    (omega (arith, fits)) (heading_lines heading)
    (drawn-within (term_width - start) heading.allows_styling (chars heading.text) within)
