-- The rows of small suggestions, cell by cell, in ASCII and with a gutter of one cell.
use Rattle.snippet_suggest.proofs.Common.{ℕ, ◌≡◌, Bool, true, false, Vec, List, [], ◌∷◌, ◌++◌, codes, refl, replicate, Global, digits, Patch}
use Rattle.snippet_suggest.proofs.Common.{Cell, SPACE, text_cells, written, Ascii, Addition, LineNumber, NoStyle, Removal, norm, char_width, unicode_width}
use Rattle.snippet_suggest.proofs.Common.{changed_within, newline_count, start_of, end_location, line_of, location_of, locations_of, place_of, start_location}
use Rattle.snippet_suggest.proofs.Common.{steps_after_text, Shown, trimmed_edit, shown_text, last_line_reached, new_stretches, replaced_stretches, kept_before}
use Rattle.snippet_suggest.proofs.Common.{sandwich, SuggestionLayout, Opening, begin_cells, end_cells, line_cells, offered_cells, on_last, put, removed_cells}
use Rattle.snippet_suggest.proofs.Common.{sign_of, with_stretches, with_mark, with_marks, body_cells, suggested_cells, suggestion_cells}
use Rattle.std.specs.Str.{chars, trim_end, trim_start}
use Rattle.snippet_suggest.proofs.Examples.{deleted_line, first_line_deleted, one_word, text_put_in, third_unfolded, two_lines}

-- suggestions in ASCII, with a gutter of one digit
abbrev pub ascii : ℕ → SuggestionLayout
ascii code = record { base = record { gutter = 1; code = code; decor = Ascii; label_lines = false; label_end = 0 }; numbers = Shown }

-- the row that a suggestion begins and ends with, where no mark stands in it
abbrev pub stroke : List Cell
stroke = SPACE ∷ SPACE ∷ text_cells LineNumber (codes "|")

-- `foo()` with `x` put before the bracket. A separator stands beside the one line, `x` has the role of additions, and the mark stands
-- below it:
--
--       |
--     1 | foo(x)
--       |     +
pub put_in_cells : (code : ℕ) (v : Vec Patch Global) (follows : Bool)
    → suggestion_cells (ascii code) Opening follows (text_put_in v) []
    ≡ stroke ∷ (text_cells LineNumber (codes "1") ++ SPACE ∷ text_cells LineNumber (codes "| ") ++ text_cells NoStyle (codes "foo(")
    ++ text_cells Addition (codes "x") ++ text_cells NoStyle (codes ")")) ∷ (stroke ++ replicate 5 SPACE ++ text_cells Addition (codes "+")) ∷ []
unfolding suggestion_cells body_cells suggested_cells begin_cells end_cells line_cells offered_cells put sign_of with_stretches with_mark with_marks
    changed_within written new_stretches norm digits char_width unicode_width locations_of location_of start_location end_location place_of
    steps_after_text shown_text trimmed_edit sandwich kept_before start_of line_of chars last_line_reached newline_count trim_start trim_end
    lib.Utf8.encode
put_in_cells code v true = refl
put_in_cells code v false = refl

-- `foo` with `bar` in its place: what is removed and what is put in its place have their roles, with their signs
--
--       |
--     1 - foo
--     1 + bar
--       |
word_cells : (code : ℕ) (v : Vec Patch Global) (follows : Bool)
    → suggestion_cells (ascii code) Opening follows (one_word v) []
    ≡ stroke ∷ (text_cells LineNumber (codes "1") ++ SPACE ∷ text_cells Removal (codes "- foo"))
    ∷ (text_cells LineNumber (codes "1") ++ SPACE ∷ text_cells Addition (codes "+ bar")) ∷ stroke ∷ []
unfolding suggestion_cells body_cells suggested_cells begin_cells end_cells line_cells offered_cells removed_cells on_last put sign_of with_stretches
    with_mark with_marks changed_within written new_stretches replaced_stretches norm digits char_width unicode_width locations_of location_of
    start_location end_location place_of steps_after_text shown_text trimmed_edit sandwich kept_before start_of line_of chars last_line_reached
    newline_count trim_start trim_end lib.Utf8.encode
word_cells code v true = refl
word_cells code v false = refl

-- `a` and `bc` with `x` put first and `b` deleted. The line that the empty stretch stands on at its start is as if it were kept:
--
--       |
--     1 ~ xa
--     2 | c
--       |
two_line_cells : (code : ℕ) (v : Vec Patch Global) (follows : Bool)
    → suggestion_cells (ascii code) Opening follows (two_lines v) []
    ≡ stroke ∷ (text_cells LineNumber (codes "1") ++ SPACE ∷ text_cells Addition (codes "~ x") ++ text_cells NoStyle (codes "a"))
    ∷ (text_cells LineNumber (codes "2") ++ SPACE ∷ text_cells LineNumber (codes "|") ++ SPACE ∷ text_cells NoStyle (codes "c")) ∷ stroke ∷ []
unfolding suggestion_cells body_cells suggested_cells begin_cells end_cells line_cells offered_cells put sign_of with_stretches with_mark with_marks
    changed_within written new_stretches norm digits char_width unicode_width locations_of location_of start_location end_location place_of
    steps_after_text shown_text trimmed_edit sandwich kept_before start_of line_of chars last_line_reached newline_count trim_start trim_end
    lib.Utf8.encode
two_line_cells code v true = refl
two_line_cells code v false = refl

-- `a`, `b` and `c`, with `x` in place of `c`, unfolded. Separators stand beside the lines that no edit touches, and `+` beside the one
-- that is new as a whole:
--
--       |
--     1 | a
--     2 | b
--     3 + x
--       |
pub unfolded_cells : (code : ℕ) (v : Vec Patch Global) (follows : Bool)
    → suggestion_cells (ascii code) Opening follows (third_unfolded v) []
    ≡ stroke ∷ (text_cells LineNumber (codes "1") ++ SPACE ∷ text_cells LineNumber (codes "|") ++ SPACE ∷ text_cells NoStyle (codes "a"))
    ∷ (text_cells LineNumber (codes "2") ++ SPACE ∷ text_cells LineNumber (codes "|") ++ SPACE ∷ text_cells NoStyle (codes "b"))
    ∷ (text_cells LineNumber (codes "3") ++ SPACE ∷ text_cells Addition (codes "+ x")) ∷ stroke ∷ []
unfolding suggestion_cells body_cells suggested_cells begin_cells end_cells line_cells offered_cells put sign_of with_stretches with_mark with_marks
    changed_within written new_stretches norm digits char_width unicode_width locations_of location_of start_location end_location place_of
    steps_after_text shown_text trimmed_edit sandwich kept_before start_of line_of chars last_line_reached newline_count trim_start trim_end
    lib.Utf8.encode
unfolded_cells code v true = refl
unfolded_cells code v false = refl

-- `a`, deleted: all of the removed line has the role of removals
--
--       |
--     1 - a
--       |
deleted_cells : (code : ℕ) (v : Vec Patch Global) (follows : Bool)
    → suggestion_cells (ascii code) Opening follows (deleted_line v) []
    ≡ stroke ∷ (text_cells LineNumber (codes "1") ++ SPACE ∷ text_cells Removal (codes "- a")) ∷ stroke ∷ []
unfolding suggestion_cells body_cells suggested_cells begin_cells end_cells removed_cells on_last put sign_of with_stretches with_mark with_marks
    changed_within written new_stretches replaced_stretches norm digits char_width unicode_width locations_of location_of start_location end_location
    place_of steps_after_text shown_text trimmed_edit sandwich kept_before start_of line_of chars last_line_reached newline_count trim_start trim_end
    lib.Utf8.encode
deleted_cells code v true = refl
deleted_cells code v false = refl

-- `a` and `b`, the first with its LF deleted. The line that isn't shown gives its stretch to the row above, where the empty one in it
-- changes nothing:
--
--       |
--     1 - a
--       |
left_out_row : (code : ℕ) (v : Vec Patch Global) (follows : Bool)
    → suggestion_cells (ascii code) Opening follows (first_line_deleted v) []
    ≡ stroke ∷ (text_cells LineNumber (codes "1") ++ SPACE ∷ text_cells Removal (codes "- a")) ∷ stroke ∷ []
unfolding suggestion_cells body_cells suggested_cells begin_cells end_cells removed_cells on_last put sign_of with_stretches with_mark with_marks
    changed_within written new_stretches replaced_stretches norm digits char_width unicode_width locations_of location_of start_location end_location
    place_of steps_after_text shown_text trimmed_edit sandwich kept_before start_of line_of chars last_line_reached newline_count trim_start trim_end
    lib.Utf8.encode
left_out_row code v true = refl
left_out_row code v false = refl
