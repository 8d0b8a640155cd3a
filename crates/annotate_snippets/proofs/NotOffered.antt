-- What is not offered: rows of suggestions that are wrong, each on a small report, contradict the definitions of what rows
-- show.
use Rattle.std.proofs.lemmas.Grind.{common_steps}
use Rattle.annotate_snippets.proofs.Common.{◌≡◌, ◌≢◌, ℕ, ◌==◌, not, Bool, true, false, List, [], ◌∷◌, ◌++◌, codes, drop, length}
use Rattle.annotate_snippets.proofs.Common.{row_text, refl, sym, ap, subst, ◌∙◌, arith, inl, inr, cow_str_bytes, Contains, list_all, eq-eqb}
use Rattle.annotate_snippets.proofs.Common.{append_cancel_left, All-nil, All-cons, All-head, All-tail, All-weaker, filter_map-append, AllPass-from_list_all}
use Rattle.annotate_snippets.proofs.Common.{Cell, SPACE, text_cells, Ascii, Addition, LineNumber, Quotation, norm, char_width, unicode_width, Patch, Snippet}
use Rattle.annotate_snippets.proofs.Common.{last_byte, lines_of, source_lines, start_of, text_at, line_of, Edit, patched, trimmed_edit, HasNoCr, IsTouched}
use Rattle.annotate_snippets.proofs.Common.{shown_line, texts_of, kept_before, sandwich, IsOfferable, edits_of, given_lines, last_reached, is_blank_text}
use Rattle.annotate_snippets.proofs.Common.{IsBareRow, Ascends, Elision, NamedRow, OfferedLine, RemovedLine, Other, RowName, SourceRow, lines_offered, others}
use Rattle.annotate_snippets.proofs.Common.{suggestion_head, plain_settings, Layout, ElementContext, IsOfferedRow, IsSuggestionRow, ShowsSuggestion}
use Rattle.std.specs.List.{All}
use Rattle.std.specs.Str.{chars}
use Rattle.snippet_splice.specs.ShownText.{shown_text}
use Rattle.annotate_snippets.proofs.Ascending.{IsAscending, ascending}
use Rattle.annotate_snippets.proofs.NotShown.{two_of_one}

-- ---- small suggestions, and their rows

-- a row that offers the first line of a source, with this code, as in `1 + code`
abbrev pub offering_row : List ℕ → List Cell
offering_row code = text_cells LineNumber (codes "1") ++ SPACE ∷ text_cells Addition (codes "+") ++ SPACE ∷ text_cells Quotation code

-- the bytes from one to another are replaced by a text
abbrev replaced : ℕ → ℕ → List ℕ → Edit
replaced start end text = record { start = start; end = end; text = text }

-- the snippet has this source and these patches
record IsSnippetOf (s : Snippet Patch) (source : List ℕ) (es : List Edit) : Type 0 where
  source_is : cow_str_bytes s.source.text ≡ source
  edits_are : edits_of s ≡ es

-- what is given of a snippet, by its source and its edits
given_by : (s : Snippet Patch) (source : List ℕ) (es : List Edit) (lines : List (List ℕ)) → IsSnippetOf s source es
    → ((fold : Bool) → texts_of (lines_of (shown_text fold source es)) ≡ lines) → given_lines s ≡ lines
given_by s source es lines is given = grind (arith, s.fold, is.source_is, is.edits_are)

-- a row that offers the one line that is given has the characters of that line
offered_text : (s : Snippet Patch) (source : List ℕ) (es : List Edit) (line : List ℕ) → IsSnippetOf s source es
    → ((fold : Bool) → texts_of (lines_of (shown_text fold source es)) ≡ line ∷ []) → (j : ℕ) (row : List Cell)
    → IsOfferedRow plain_settings Ascii 1 s j row → row_text (drop 4 row) ≡ norm (chars line)
offered_text s source es line is gives j row offers = grind (arith, offers.from, offers.within, offers.line)

-- what stands below the head of a suggestion is its rows
below_head : {found : List Cell} (s : Snippet Patch) (layout : Layout) (around : ElementContext) (rows : List NamedRow)
    → (shown : ShowsSuggestion plain_settings layout around found s (others (suggestion_head plain_settings layout around s) ++ rows)) → shown.after ≡ rows
below_head s layout around rows shown = append_cancel_left (others (suggestion_head plain_settings layout around s)) shown.after rows (sym shown.rows_are)

-- each of them is what its name says
rows_named : {found : List Cell} (s : Snippet Patch) (layout : Layout) → layout.gutter ≡ 1 → layout.decor ≡ Ascii
    → (around : ElementContext) (rows : List NamedRow)
    → ShowsSuggestion plain_settings layout around found s (others (suggestion_head plain_settings layout around s) ++ rows)
    → All (λ r. IsSuggestionRow plain_settings Ascii 1 s r.name r.cells) rows
rows_named s layout narrow ascii around rows shown = grind (arith, below_head, layout.gutter, layout.decor, shown.named)

-- ---- the source's own lines

-- `ab`, with `c` in place of `b`, gives `ac`
abbrev one_edit : List Edit
one_edit = replaced 1 2 (codes "c") ∷ []

gives_ac : (fold : Bool) → texts_of (lines_of (shown_text fold (codes "ab") one_edit)) ≡ codes "ac" ∷ []
unfolding shown_text trimmed_edit sandwich kept_before start_of line_of
gives_ac true = refl
gives_ac false = refl

-- so no row offers the line as it was, whatever line it is said to be:
--
--     1 + ab
old_line_offered : (s : Snippet Patch) → IsSnippetOf s (codes "ab") one_edit → (j : ℕ) → IsOfferedRow plain_settings Ascii 1 s j (offering_row (codes "ab")) → ⊥
unfolding char_width unicode_width norm chars
old_line_offered s is j offers = grind (arith, offered_text, gives_ac)

-- ---- a second copy

from_first : (fold : Bool) → shown_line fold (codes "ab") one_edit ≡ 0
unfolding line_of
from_first true = refl
from_first false = refl

-- a row `1 + ac` can only be named as that of the first line of `ac`: it has a digit in the gutter, and `+` after it
named_first : (s : Snippet Patch) → IsSnippetOf s (codes "ab") one_edit → (name : RowName) (cells : List Cell) → cells ≡ offering_row (codes "ac")
    → IsSuggestionRow plain_settings Ascii 1 s name cells → name ≡ OfferedLine 0
named_first s is (SourceRow k) cells same shows = absurd shows
named_first s is Elision cells same shows = absurd shows
named_first s is (OfferedLine j) cells same shows = grind (arith, gives_ac, from_first, s.fold, is.source_is, is.edits_are, shows.from, shows.within)
named_first s is (RemovedLine i) cells same shows = grind (arith, shows.minus)
named_first s is Other cells same shows = let digit : false ≡ true = (subst (IsBareRow Ascii 1) same shows).strokes 0 (omega arith) in cc

-- a row after others is what its name says, if all are, and so are those after it
row_named : (s : Snippet Patch) (before : List NamedRow) (row : NamedRow) (after : List NamedRow)
    → All (λ r. IsSuggestionRow plain_settings Ascii 1 s r.name r.cells) (before ++ (row ∷ after))
    → IsSuggestionRow plain_settings Ascii 1 s row.name row.cells × All (λ r. IsSuggestionRow plain_settings Ascii 1 s r.name r.cells) after
row_named s [] row after named = (
  All-head (λ r. IsSuggestionRow plain_settings Ascii 1 s r.name r.cells) row after named,
  All-tail (λ r. IsSuggestionRow plain_settings Ascii 1 s r.name r.cells) row after named,
)
row_named s (first ∷ before) row after named =
    row_named s before row after (All-tail (λ r. IsSuggestionRow plain_settings Ascii 1 s r.name r.cells) first (before ++ (row ∷ after)) named)

-- the row `1 + ab` is none of a suggestion that gives `ac`, whatever it is named
old_row_named : (s : Snippet Patch) → IsSnippetOf s (codes "ab") one_edit → (name : RowName) (cells : List Cell) → cells ≡ offering_row (codes "ab")
    → IsSuggestionRow plain_settings Ascii 1 s name cells → ⊥
old_row_named s is (SourceRow k) cells same shows = shows
old_row_named s is Elision cells same shows = shows
old_row_named s is (OfferedLine j) cells same shows = old_line_offered s is j (subst (IsOfferedRow plain_settings Ascii 1 s j) same shows)
old_row_named s is (RemovedLine i) cells same shows = grind (arith, shows.minus)
old_row_named s is Other cells same shows = let digit : false ≡ true = (subst (IsBareRow Ascii 1) same shows).strokes 0 (omega arith) in cc

-- so no rows in which it stands show the suggestion, wherever that is:
--
--     1 - ab
--     1 + ab
suggestion_repeats_old_lines : {found : List Cell} (s : Snippet Patch) → IsSnippetOf s (codes "ab") one_edit → (layout : Layout) → layout.gutter ≡ 1
    → layout.decor ≡ Ascii
    → (around : ElementContext) (row : NamedRow) (before after : List NamedRow) → row.cells ≡ offering_row (codes "ab")
    → ShowsSuggestion plain_settings layout around found s (others (suggestion_head plain_settings layout around s) ++ (before ++ (row ∷ after))) → ⊥
suggestion_repeats_old_lines s is layout narrow ascii around row before after row_is shown =
    old_row_named s is row.name row.cells row_is (row_named s before row after (rows_named s layout narrow ascii around (before ++ (row ∷ after)) shown)).0

-- so no rows that offer it twice show the suggestion, after the row of its path, where that is named:
--
--     1 + ac
--     1 + ac
second_copy_offered : {found : List Cell} (s : Snippet Patch) → IsSnippetOf s (codes "ab") one_edit → (layout : Layout) → layout.gutter ≡ 1
    → layout.decor ≡ Ascii
    → (around : ElementContext) (row copy : NamedRow) (before between after : List NamedRow) → row.cells ≡ offering_row (codes "ac")
    → copy.cells ≡ offering_row (codes "ac")
    → ShowsSuggestion plain_settings layout around found s
    (others (suggestion_head plain_settings layout around s) ++ (before ++ (row ∷ (between ++ (copy ∷ after))))) → ⊥
second_copy_offered s is layout narrow ascii around row copy before between after row_is copy_is shown =
    let rows : List NamedRow = before ++ (row ∷ (between ++ (copy ∷ after))) in
    let named = rows_named s layout narrow ascii around rows shown in
    let ordered : IsAscending (lines_offered rows) = ascending (lines_offered rows)
    (subst (λ all. Ascends (lines_offered all)) (below_head s layout around rows shown) shown.ordered) in
    let first = row_named s before row (between ++ (copy ∷ after)) named in
    let second = row_named s between copy after first.1 in
    let row_named : row.name ≡ OfferedLine 0 = named_first s is row.name row.cells row_is first.0 in
    let copy_named : copy.name ≡ OfferedLine 0 = named_first s is copy.name copy.cells copy_is second.0 in
    two_of_one 0 (lines_offered before) (lines_offered between) (lines_offered after) (simp (filter_map-append, row_named, copy_named) at ordered)

-- ---- a touched line that is left out

-- `a` and `b` on two lines, with `x` in place of the one and `y` in place of the other, give `x` and `y`
abbrev two_lines : List ℕ
two_lines = codes "a" ++ 10 ∷ codes "b"

abbrev two_edits : List Edit
two_edits = replaced 0 1 (codes "x") ∷ replaced 2 3 (codes "y") ∷ []

-- a text without a CR
no_cr : (text : List ℕ) → list_all (λ b. not (b == 13)) text ≡ true → HasNoCr text
no_cr text none =
    All-weaker (λ b. not (b == 13) ≡ true) (λ b. b ≢ 13) (λ b other same.
    clash (b == 13) (eq-eqb b 13 same) other) text (AllPass-from_list_all (λ b. not (b == 13)) text none)
  where
    clash : (t : Bool) → t ≡ true → not t ≡ true → ⊥
    clash true is isnt = cc
    clash false is isnt = cc

-- the promise speaks of a snippet with two edits, where no text has a CR and the source doesn't end with LF
offerable : (s : Snippet Patch) (source : List ℕ) (e d : Edit) → IsSnippetOf s source (e ∷ d ∷ []) → HasNoCr source → HasNoCr e.text → HasNoCr d.text
    → (last_byte source ≡ 10 → ⊥) → IsOfferable s
offerable s source e d is none first second unended = grind (arith, no_cr, All-cons, All-nil, is.source_is, is.edits_are)

-- so a line of the patched source that is touched and isn't blank is offered, where two lines are given: rows that don't offer
-- it don't show the snippet
line_left_out : {found : List Cell} (s : Snippet Patch) (source : List ℕ) (es : List Edit) (one two : List ℕ) → IsSnippetOf s source es
    → IsOfferable s → (j : ℕ) → IsTouched source es j → is_blank_text (text_at (source_lines (patched source es)) j) ≡ false
    → ((fold : Bool) → texts_of (lines_of (shown_text fold source es)) ≡ one ∷ two ∷ [])
    → (layout : Layout) (around : ElementContext) (rows : List NamedRow) → (Contains (lines_offered rows) j → ⊥)
    → ShowsSuggestion plain_settings layout around found s (others (suggestion_head plain_settings layout around s) ++ rows) → ⊥
line_left_out s source es one two is may j touched visible gives layout around rows out shown =
    let reached : IsTouched (cow_str_bytes s.source.text) (edits_of s) j = subst (λ text.
    IsTouched text (edits_of s) j) (sym is.source_is) (subst (λ xs. IsTouched source xs j) (sym is.edits_are) touched) in
    let seen : is_blank_text (text_at (source_lines (patched (cow_str_bytes s.source.text) (edits_of s))) j) ≡ false =
    cc (is.source_is, is.edits_are, visible) in
    elim (shown.offered may j reached seen) [
      | inl as_it_was ↦ changed as_it_was
      | inr among ↦ out (subst (λ all. Contains (lines_offered all) j) (below_head s layout around rows shown) among)
    ]
  where
    changed : given_lines s ≡ last_reached s ∷ [] → ⊥
    changed same =
        let both : one ∷ two ∷ [] ≡ last_reached s ∷ [] = sym (given_by s source es (one ∷ two ∷ []) is gives) ∙ same in
        absurd (omega (arith, ap length both))

-- the second line is touched
second_touched : IsTouched two_lines two_edits 1
unfolding trimmed_edit sandwich kept_before start_of
second_touched = record { stand = record { from = 2; to = 3 }; among = (1, omega arith, refl); by = grind (arith, common_steps) }

-- it isn't blank
second_visible : is_blank_text (text_at (source_lines (patched two_lines two_edits)) 1) ≡ false
unfolding chars
second_visible = refl

-- two lines are given
gives_two : (fold : Bool) → texts_of (lines_of (shown_text fold two_lines two_edits)) ≡ codes "x" ∷ codes "y" ∷ []
unfolding shown_text trimmed_edit sandwich kept_before start_of line_of
gives_two true = refl
gives_two false = refl

-- so no rows show it that don't offer its second line, as where the text is cut off after the first:
--
--     1 ~ x
touched_left_out : {found : List Cell} (s : Snippet Patch) → IsSnippetOf s two_lines two_edits
    → (layout : Layout) (around : ElementContext) (rows : List NamedRow)
    → (Contains (lines_offered rows) 1 → ⊥)
    → ShowsSuggestion plain_settings layout around found s (others (suggestion_head plain_settings layout around s) ++ rows) → ⊥
touched_left_out s is =
    line_left_out s two_lines two_edits (codes "x") (codes "y") is
    (offerable s two_lines (replaced 0 1 (codes "x")) (replaced 2 3 (codes "y")) is (no_cr two_lines refl) (no_cr (codes "x") refl)
    (no_cr (codes "y") refl) unended) 1 second_touched second_visible gives_two
  where
    unended : last_byte two_lines ≡ 10 → ⊥
    unended final = let letter : ◌≡◌ {A = ℕ} 98 10 = final in absurd (omega (arith, letter))

-- ---- a line that is lost

-- `a` and `bc` on two lines, with `x` put in at the start and `b` deleted, give `xa` and `c`
abbrev lines_of_three : List ℕ
lines_of_three = codes "a" ++ 10 ∷ codes "bc"

abbrev put_in_and_deleted : List Edit
put_in_and_deleted = replaced 0 0 (codes "x") ∷ replaced 2 3 [] ∷ []

-- the second line is touched: the place of what is deleted lies in it
rest_touched : IsTouched lines_of_three put_in_and_deleted 1
unfolding trimmed_edit sandwich kept_before start_of
rest_touched = record { stand = record { from = 3; to = 3 }; among = (1, omega arith, refl); by = grind (arith, common_steps) }

rest_visible : is_blank_text (text_at (source_lines (patched lines_of_three put_in_and_deleted)) 1) ≡ false
unfolding chars
rest_visible = refl

gives_rest : (fold : Bool) → texts_of (lines_of (shown_text fold lines_of_three put_in_and_deleted)) ≡ codes "xa" ∷ codes "c" ∷ []
unfolding shown_text trimmed_edit sandwich kept_before start_of line_of
gives_rest true = refl
gives_rest false = refl

-- so no rows show it that don't offer its second line, as where the text is cut off after the line feed with which it ends so far:
--
--     1 ~ xa
cut_at_any_line_feed : {found : List Cell} (s : Snippet Patch) → IsSnippetOf s lines_of_three put_in_and_deleted
    → (layout : Layout) (around : ElementContext) (rows : List NamedRow)
    → (Contains (lines_offered rows) 1 → ⊥) → ShowsSuggestion plain_settings layout around found s
    (others (suggestion_head plain_settings layout around s) ++ rows) → ⊥
cut_at_any_line_feed s is =
    line_left_out s lines_of_three put_in_and_deleted (codes "xa") (codes "c") is
    (offerable s lines_of_three (replaced 0 0 (codes "x")) (replaced 2 3 []) is (no_cr lines_of_three refl) (no_cr (codes "x") refl) (no_cr [] refl) unended)
    1 rest_touched rest_visible gives_rest
  where
    unended : last_byte lines_of_three ≡ 10 → ⊥
    unended final = let letter : ◌≡◌ {A = ℕ} 99 10 = final in absurd (omega (arith, letter))

-- ---- edits in another order

-- `a`, with `b` in its place given before `x` put in at the same start, gives `xb`
abbrev replaced_and_put_in : List Edit
replaced_and_put_in = replaced 0 1 (codes "b") ∷ replaced 0 0 (codes "x") ∷ []

gives_xb : (fold : Bool) → texts_of (lines_of (shown_text fold (codes "a") replaced_and_put_in)) ≡ codes "xb" ∷ []
unfolding shown_text trimmed_edit sandwich kept_before start_of line_of
gives_xb true = refl
gives_xb false = refl

-- so no row offers a line in which the replacement stands first, and what it replaced again after what is put in:
--
--     1 + bxa
replacement_before_insertion : (s : Snippet Patch) → IsSnippetOf s (codes "a") replaced_and_put_in → (j : ℕ)
    → IsOfferedRow plain_settings Ascii 1 s j (offering_row (codes "bxa")) → ⊥
unfolding char_width unicode_width norm chars
replacement_before_insertion s is j offers = grind (arith, offered_text, gives_xb)

-- ---- edits at other bytes

-- `abcd`, with `xyz` in place of `a` and `q` in place of `c`, gives `xyzbqd`
abbrev longer_and_another : List Edit
longer_and_another = replaced 0 1 (codes "xyz") ∷ replaced 2 3 (codes "q") ∷ []

gives_xyzbqd : (fold : Bool) → texts_of (lines_of (shown_text fold (codes "abcd") longer_and_another)) ≡ codes "xyzbqd" ∷ []
unfolding shown_text trimmed_edit sandwich kept_before start_of line_of
gives_xyzbqd true = refl
gives_xyzbqd false = refl

-- so no row offers a line in which the second edit is made at its bytes in what the first one gave:
--
--     1 + xyqbcd
patches_at_old_offsets : (s : Snippet Patch) → IsSnippetOf s (codes "abcd") longer_and_another → (j : ℕ)
    → IsOfferedRow plain_settings Ascii 1 s j (offering_row (codes "xyqbcd")) → ⊥
unfolding char_width unicode_width norm chars
patches_at_old_offsets s is j offers = grind (arith, offered_text, gives_xyzbqd)
