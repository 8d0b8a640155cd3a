-- The definitions, computed on small suggestions. In these LF is 10.
use Rattle.snippet_suggest.proofs.Common.{◌≡◌, ℕ, ◌<◌, ◌^◌, Bool, true, false, None, Vec, List, [], ◌∷◌, ◌++◌, codes, length, refl, arith, Global, CowStr}
use Rattle.snippet_suggest.proofs.Common.{Borrowed, unindexed, Snippet, Patch, newline_count, start_of, line_of, trimmed_edit, shown_text, last_line_reached}
use Rattle.snippet_suggest.proofs.Common.{kept_before, sandwich, DisplaySuggestion, Add, Diff, Plain, Underline, Opening, Begins, Empty, Offers, Removes, Skips}
use Rattle.snippet_suggest.proofs.Common.{SuggestionRow, rows_of_suggestion, counted_line, given_lines, removed_lines, shown_kind, offered_lines}
use Rattle.std.specs.Str.{chars, trim_end, trim_start}

-- a patch that puts a text in place of the bytes from one to another, and a snippet of such patches, whose first line has number 1
abbrev pub text_of : List ℕ → CowStr Global
text_of text = Borrowed (record { ref_ptr = (0, 0); now = text })

abbrev pub patch : ℕ → ℕ → List ℕ → Patch
patch start end text = record { span = record { start = start; end = end }; replacement = text_of text }

abbrev pub snippet : Vec Patch Global → Bool → List ℕ → (ps : List Patch) → length ps < 2 ^ 63 → Snippet Patch
snippet v folds text ps few =
    record {
      path = None;
      line_start = 1;
      source = unindexed (text_of text);
      markers = record { ptr = v.ptr; len = length ps; cap = length ps; alloc = v.alloc; items = ps; ok = (refl, omega arith); small = few };
      line_numbering = true;
      fold = folds;
    }

-- a suggestion of some patches is of this kind. These lines are given. Of the lines of the patched source those of these numbers
-- are offered, and of the source's lines those of these are shown as removed. This number is counted. Where it begins in a row of its
-- own, its rows but the last show this
pub record Gives (s : Snippet Patch) (kind : DisplaySuggestion) (lines : List (List ℕ)) (offered removed : List ℕ) (counted : ℕ)
    (rows : List SuggestionRow) : Type 0 where
  pub kind_is : shown_kind s ≡ kind
  pub lines_are : given_lines s ≡ lines
  pub offered_are : offered_lines s ≡ offered
  pub removed_are : removed_lines s ≡ removed
  pub counted-is : counted_line s ≡ counted
  pub rows_are : rows_of_suggestion Opening s ≡ rows

-- `foo` with `bar` in its place:
--
--       |
--     1 - foo
--     1 + bar
--       |
abbrev pub one_word : Vec Patch Global → Snippet Patch
one_word v = snippet v true (codes "foo") (patch 0 3 (codes "bar") ∷ []) (omega arith)

-- one word in place of another is a diff: it removes the line, and offers the one with the new word
pub one_word_gives : (v : Vec Patch Global)
    → Gives (one_word v) Diff (codes "bar" ∷ []) (0 ∷ []) (0 ∷ []) 1 (Begins Opening ∷ Removes 0 1 (codes "foo") ∷ Offers 0 ∷ [])
unfolding shown_text trimmed_edit sandwich kept_before start_of line_of chars last_line_reached newline_count trim_start trim_end lib.Utf8.encode
one_word_gives v = record { kind_is = refl; lines_are = refl; offered_are = refl; removed_are = refl; counted-is = refl; rows_are = refl }

-- `foo()` with `x` put before the bracket:
--
--       |
--     1 | foo(x)
--       |     +
abbrev pub text_put_in : Vec Patch Global → Snippet Patch
text_put_in v = snippet v true (codes "foo()") (patch 4 4 (codes "x") ∷ []) (omega arith)

text_put_in_gives : (v : Vec Patch Global) → Gives (text_put_in v) Underline (codes "foo(x)" ∷ []) (0 ∷ []) [] 1 (Begins Opening ∷ Offers 0 ∷ [])
unfolding shown_text trimmed_edit sandwich kept_before start_of line_of chars last_line_reached newline_count trim_start trim_end lib.Utf8.encode
text_put_in_gives v = record { kind_is = refl; lines_are = refl; offered_are = refl; removed_are = refl; counted-is = refl; rows_are = refl }

-- `a` and `bc` with `x` put first and `b` deleted. No line is lost:
--
--       |
--     1 ~ xa
--     2 | c
--       |
abbrev pub two_lines : Vec Patch Global → Snippet Patch
two_lines v = snippet v true (codes "a" ++ 10 ∷ codes "bc") (patch 0 0 (codes "x") ∷ patch 2 3 [] ∷ []) (omega arith)

two_lines_gives : (v : Vec Patch Global) → Gives (two_lines v) Plain (codes "xa" ∷ codes "c" ∷ []) (0 ∷ 1 ∷ []) [] 2 (Begins Opening ∷ Offers 0 ∷ Offers 1 ∷ [])
unfolding shown_text trimmed_edit sandwich kept_before start_of line_of chars last_line_reached newline_count trim_start trim_end lib.Utf8.encode
two_lines_gives v = record { kind_is = refl; lines_are = refl; offered_are = refl; removed_are = refl; counted-is = refl; rows_are = refl }

-- `a` with `b` in its place, given before `x` that is put before it:
--
--       |
--     1 - a
--     1 + xb
--       |
abbrev insertion_first : Vec Patch Global → Snippet Patch
insertion_first v = snippet v true (codes "a") (patch 0 1 (codes "b") ∷ patch 0 0 (codes "x") ∷ []) (omega arith)

insertion_first_gives : (v : Vec Patch Global)
    → Gives (insertion_first v) Diff (codes "xb" ∷ []) (0 ∷ []) (0 ∷ []) 1 (Begins Opening ∷ Removes 0 1 (codes "a") ∷ Offers 0 ∷ [])
unfolding shown_text trimmed_edit sandwich kept_before start_of line_of chars last_line_reached newline_count trim_start trim_end lib.Utf8.encode
insertion_first_gives v = record { kind_is = refl; lines_are = refl; offered_are = refl; removed_are = refl; counted-is = refl; rows_are = refl }

-- `a`, deleted:
--
--       |
--     1 - a
--       |
abbrev pub deleted_line : Vec Patch Global → Snippet Patch
deleted_line v = snippet v true (codes "a") (patch 0 1 [] ∷ []) (omega arith)

deleted_line_gives : (v : Vec Patch Global) → Gives (deleted_line v) Diff [] [] (0 ∷ []) 1 (Begins Opening ∷ Removes 0 1 (codes "a") ∷ [])
unfolding shown_text trimmed_edit sandwich kept_before start_of line_of chars last_line_reached newline_count trim_start trim_end lib.Utf8.encode
deleted_line_gives v = record { kind_is = refl; lines_are = refl; offered_are = refl; removed_are = refl; counted-is = refl; rows_are = refl }

-- `a` and a final LF, with `x` put after that. It is joined to the last line:
--
--       |
--     1 | ax
--       |  +
abbrev after_final : Vec Patch Global → Snippet Patch
after_final v = snippet v true (codes "a" ++ 10 ∷ []) (patch 2 2 (codes "x") ∷ []) (omega arith)

after_final_gives : (v : Vec Patch Global) → Gives (after_final v) Underline (codes "ax" ∷ []) (0 ∷ []) [] 1 (Begins Opening ∷ Offers 0 ∷ [])
unfolding shown_text trimmed_edit sandwich kept_before start_of line_of chars last_line_reached newline_count trim_start trim_end lib.Utf8.encode
after_final_gives v = record { kind_is = refl; lines_are = refl; offered_are = refl; removed_are = refl; counted-is = refl; rows_are = refl }

-- `a` and `b`, the first with its LF deleted. The one line that is left is the same as the last line that is reached,
-- so neither is shown:
--
--       |
--     1 - a
--       |
abbrev pub first_line_deleted : Vec Patch Global → Snippet Patch
first_line_deleted v = snippet v true (codes "a" ++ 10 ∷ codes "b") (patch 0 2 [] ∷ []) (omega arith)

first_line_deleted_gives : (v : Vec Patch Global)
    → Gives (first_line_deleted v) Diff (codes "b" ∷ []) [] (0 ∷ []) 2 (Begins Opening ∷ Removes 0 1 (codes "a") ∷ [])
unfolding shown_text trimmed_edit sandwich kept_before start_of line_of chars last_line_reached newline_count trim_start trim_end lib.Utf8.encode
first_line_deleted_gives v = record { kind_is = refl; lines_are = refl; offered_are = refl; removed_are = refl; counted-is = refl; rows_are = refl }

-- `a` and `b`, the first with its LF put in its own place, and the second deleted. No text of a patch stands on the one line:
--
--       |
--
--       |
abbrev untouched_only : Vec Patch Global → Snippet Patch
untouched_only v = snippet v true (codes "a" ++ 10 ∷ codes "b") (patch 0 2 (codes "a" ++ 10 ∷ []) ∷ patch 2 3 [] ∷ []) (omega arith)

untouched_only_gives : (v : Vec Patch Global) → Gives (untouched_only v) Diff (codes "a" ∷ []) [] [] 2 (Begins Opening ∷ Empty ∷ [])
unfolding shown_text trimmed_edit sandwich kept_before start_of line_of chars last_line_reached newline_count trim_start trim_end lib.Utf8.encode
untouched_only_gives v = record { kind_is = refl; lines_are = refl; offered_are = refl; removed_are = refl; counted-is = refl; rows_are = refl }

-- `a`, `b` and `c`, with `x` put first and `c` deleted. A line that is emptied at the end isn't given, and `b` isn't touched:
--
--       |
--     1 ~ xa
--       |
abbrev first_of_three : Vec Patch Global → Snippet Patch
first_of_three v = snippet v true (codes "a" ++ 10 ∷ codes "b" ++ 10 ∷ codes "c") (patch 0 0 (codes "x") ∷ patch 4 5 [] ∷ []) (omega arith)

first_of_three_gives : (v : Vec Patch Global) → Gives (first_of_three v) Plain (codes "xa" ∷ codes "b" ∷ []) (0 ∷ []) [] 2 (Begins Opening ∷ Offers 0 ∷ [])
unfolding shown_text trimmed_edit sandwich kept_before start_of line_of chars last_line_reached newline_count trim_start trim_end lib.Utf8.encode
first_of_three_gives v = record { kind_is = refl; lines_are = refl; offered_are = refl; removed_are = refl; counted-is = refl; rows_are = refl }

-- `a` to `g`, with `x` put before the first and `y` after the last. Of more than three lines between these the first and the last
-- are shown:
--
--       |
--     1 ~ xa
--     2 | b
--     ...
--     6 | f
--     7 ~ gy
--       |
abbrev gap : Vec Patch Global → Snippet Patch
gap v = snippet v true (codes "a" ++ 10 ∷ codes "b" ++ 10 ∷ codes "c" ++ 10 ∷ codes "d" ++ 10 ∷ codes "e" ++ 10 ∷ codes "f" ++ 10 ∷ codes "g")
    (patch 0 0 (codes "x") ∷ patch 13 13 (codes "y") ∷ []) (omega arith)

gap_gives : (v : Vec Patch Global)
    → Gives (gap v) Plain (codes "xa" ∷ codes "b" ∷ codes "c" ∷ codes "d" ∷ codes "e" ∷ codes "f" ∷ codes "gy" ∷ []) (0 ∷ 1 ∷ 5 ∷ 6 ∷ []) [] 7
    (Begins Opening ∷ Offers 0 ∷ Offers 1 ∷ Skips ∷ Offers 5 ∷ Offers 6 ∷ [])
unfolding shown_text trimmed_edit sandwich kept_before start_of line_of chars last_line_reached newline_count trim_start trim_end lib.Utf8.encode
gap_gives v = record { kind_is = refl; lines_are = refl; offered_are = refl; removed_are = refl; counted-is = refl; rows_are = refl }

-- `a`, `b` and `c`, with `x` in place of `c`. Folded one line is given:
--
--       |
--     3 - c
--     3 + x
--       |
abbrev third_line : Vec Patch Global → Snippet Patch
third_line v = snippet v true (codes "a" ++ 10 ∷ codes "b" ++ 10 ∷ codes "c") (patch 4 5 (codes "x") ∷ []) (omega arith)

third_line_gives : (v : Vec Patch Global)
    → Gives (third_line v) Diff (codes "x" ∷ []) (2 ∷ []) (2 ∷ []) 3 (Begins Opening ∷ Removes 2 3 (codes "c") ∷ Offers 0 ∷ [])
unfolding shown_text trimmed_edit sandwich kept_before start_of line_of chars last_line_reached newline_count trim_start trim_end lib.Utf8.encode
third_line_gives v = record { kind_is = refl; lines_are = refl; offered_are = refl; removed_are = refl; counted-is = refl; rows_are = refl }

-- `a`, `b` and `c`, with `x` in place of `c`. Unfolded all are given:
--
--       |
--     1 | a
--     2 | b
--     3 + x
--       |
abbrev pub third_unfolded : Vec Patch Global → Snippet Patch
third_unfolded v = snippet v false (codes "a" ++ 10 ∷ codes "b" ++ 10 ∷ codes "c") (patch 4 5 (codes "x") ∷ []) (omega arith)

third_unfolded_gives : (v : Vec Patch Global)
    → Gives (third_unfolded v) Plain (codes "a" ∷ codes "b" ∷ codes "x" ∷ []) (0 ∷ 1 ∷ 2 ∷ []) [] 3 (Begins Opening ∷ Offers 0 ∷ Offers 1 ∷ Offers 2 ∷ [])
unfolding shown_text trimmed_edit sandwich kept_before start_of line_of chars last_line_reached newline_count trim_start trim_end lib.Utf8.encode
third_unfolded_gives v = record { kind_is = refl; lines_are = refl; offered_are = refl; removed_are = refl; counted-is = refl; rows_are = refl }

-- `a` with a line `x` put before it:
--
--       |
--     1 + x
--       |
abbrev line_put_in : Vec Patch Global → Snippet Patch
line_put_in v = snippet v true (codes "a") (patch 0 0 (codes "x" ++ 10 ∷ []) ∷ []) (omega arith)

line_put_in_gives : (v : Vec Patch Global) → Gives (line_put_in v) Add (codes "x" ∷ []) (0 ∷ []) [] 1 (Begins Opening ∷ Offers 0 ∷ [])
unfolding shown_text trimmed_edit sandwich kept_before start_of line_of chars last_line_reached newline_count trim_start trim_end lib.Utf8.encode
line_put_in_gives v =
    record { kind_is = refl; lines_are = refl; offered_are = refl; removed_are = refl; counted-is = refl; rows_are = refl }

-- a blank line, deleted. It is no diff, so the removed line stands in the row that the suggestion begins with:
--
--     1 -
--       |
abbrev blank_deleted : Vec Patch Global → Snippet Patch
blank_deleted v = snippet v true (codes " ") (patch 0 1 [] ∷ []) (omega arith)

blank_deleted_gives : (v : Vec Patch Global) → Gives (blank_deleted v) Plain [] [] (0 ∷ []) 1 (Removes 0 1 (codes " ") ∷ [])
unfolding shown_text trimmed_edit sandwich kept_before start_of line_of chars last_line_reached newline_count trim_start trim_end lib.Utf8.encode
blank_deleted_gives v = record { kind_is = refl; lines_are = refl; offered_are = refl; removed_are = refl; counted-is = refl; rows_are = refl }
