-- The definitions, computed on small inputs. In these `a` is 97, LF is 10 and CR is 13.
use Rattle.snippet_splice.proofs.Common.{◌≡◌, ◌≤◌, ℕ, true, false, Some, None, List, [], ◌∷◌, Vec, length, refl, arith, kept_before}
use Rattle.snippet_splice.proofs.Common.{sandwich, Edit, trimmed_edit, trimmed_edits, patched, overlap, first_overlap, shown_text, last_line_reached}
use Rattle.snippet_splice.proofs.Common.{new_stretches, num_replaced_lines, num_shown_lines, spliced_text, line_ranges, SubstitutionHighlight, Global, start_of}
use Rattle.snippet_splice.proofs.Common.{line_of}
use Rattle.std.specs.Str.{chars}

-- `AABBCC` in place of `AACC` puts `BB` after two bytes and before two
a_text_put_in : sandwich (65 ∷ 65 ∷ 67 ∷ 67 ∷ []) (65 ∷ 65 ∷ 66 ∷ 66 ∷ 67 ∷ 67 ∷ []) ≡ Some (2, 66 ∷ 66 ∷ [], 2)
unfolding sandwich kept_before
a_text_put_in = refl

-- `b` in place of `a` keeps nothing
nothing_kept : sandwich (97 ∷ []) (98 ∷ []) ≡ None
unfolding sandwich kept_before
nothing_kept = refl

abbrev edit : ℕ → ℕ → List ℕ → Edit
edit start end text = record { start = start; end = end; text = text }

-- `abcx` in place of `abc` is `x` after it; an empty text stays as it is
trimmed_to_its_end : trimmed_edit (97 ∷ 98 ∷ 99 ∷ []) (edit 0 3 (97 ∷ 98 ∷ 99 ∷ 120 ∷ [])) ≡ edit 3 3 (120 ∷ [])
unfolding trimmed_edit sandwich kept_before
trimmed_to_its_end = refl

deletion_stays : trimmed_edit (97 ∷ []) (edit 0 1 []) ≡ edit 0 1 []
unfolding trimmed_edit
deletion_stays = refl

-- an insertion comes before a replacement that starts where it does, given before it or not
insertion_first : patched (97 ∷ []) (edit 0 1 (98 ∷ []) ∷ edit 0 0 (120 ∷ []) ∷ []) ≡ 120 ∷ 98 ∷ []
insertion_first = refl

-- trimmed edits keep the order of the untrimmed ones, here 0..3 before 3..3
untrimmed_order : trimmed_edits (97 ∷ 98 ∷ 99 ∷ []) (edit 3 3 (121 ∷ []) ∷ edit 0 3 (97 ∷ 98 ∷ 99 ∷ 120 ∷ []) ∷ [])
    ≡ edit 3 3 (120 ∷ []) ∷ edit 3 3 (121 ∷ []) ∷ []
unfolding trimmed_edit sandwich kept_before
untrimmed_order = refl

-- 0..2 and 1..3 overlap, in either order; 0..1 and 1..3 don't
overlapping : overlap (edit 0 2 []) (edit 1 3 []) ≡ true
overlapping = refl

overlapping_swapped : overlap (edit 1 3 []) (edit 0 2 []) ≡ true
overlapping_swapped = refl

beside : overlap (edit 1 3 []) (edit 0 1 []) ≡ false
beside = refl

-- of 5..6, 2..4, 0..1, 3..5 and 0..9 the first overlaps with the last alone, and the pair of the first is named
named_pair : first_overlap (edit 5 6 [] ∷ edit 2 4 [] ∷ edit 0 1 [] ∷ edit 3 5 [] ∷ edit 0 9 [] ∷ []) ≡ Some (0, 4)
unfolding first_overlap
named_pair = refl

no_pair : first_overlap (edit 1 3 [] ∷ edit 0 1 [] ∷ []) ≡ None
unfolding first_overlap
no_pair = refl

-- `x` put before the `b` of `a` LF `b`: folded the one line `xb`, unfolded all
folded : spliced_text true (97 ∷ 10 ∷ 98 ∷ []) (edit 2 2 (120 ∷ []) ∷ []) ≡ 120 ∷ 98 ∷ []
unfolding spliced_text trimmed_edit sandwich kept_before start_of line_of
folded = refl

unfolded : spliced_text false (97 ∷ 10 ∷ 98 ∷ []) (edit 2 2 (120 ∷ []) ∷ []) ≡ 97 ∷ 10 ∷ 120 ∷ 98 ∷ []
unfolding spliced_text start_of line_of
unfolded = refl

-- a text that ends with LF closes its line: of `a` LF with `x` LF put first only `x` is shown, folded
closed_line : spliced_text true (97 ∷ 10 ∷ []) (edit 0 0 (120 ∷ 10 ∷ []) ∷ []) ≡ 120 ∷ []
unfolding spliced_text trimmed_edit sandwich kept_before start_of line_of
closed_line = refl

-- a deletion closes none: of `a` LF `bc` with `x` put first and `b` deleted both lines are shown
deleted_after : spliced_text true (97 ∷ 10 ∷ 98 ∷ 99 ∷ []) (edit 0 0 (120 ∷ []) ∷ edit 2 3 [] ∷ []) ≡ 120 ∷ 97 ∷ 10 ∷ 99 ∷ []
unfolding spliced_text trimmed_edit sandwich kept_before start_of line_of
deleted_after = refl

-- the texts of these stand on lines 0 and 1 of the patched source, and the source is reached up to its line 1
ranges : line_ranges (97 ∷ 10 ∷ 98 ∷ 99 ∷ []) (edit 0 0 (120 ∷ []) ∷ edit 2 3 [] ∷ []) ≡ record { first = 0; last = 0 } ∷ record { first = 1; last = 1 } ∷ []
unfolding trimmed_edit sandwich kept_before
ranges = refl

reached : last_line_reached (97 ∷ 10 ∷ 98 ∷ 99 ∷ []) (edit 0 0 (120 ∷ []) ∷ edit 2 3 [] ∷ []) ≡ 1
unfolding last_line_reached trimmed_edit sandwich kept_before line_of
reached = refl

-- an insertion after a final LF is joined to the last line, and one inside CR LF loses the CR
joined_to_last : shown_text true (97 ∷ 10 ∷ []) (edit 2 2 (120 ∷ []) ∷ []) ≡ 97 ∷ 120 ∷ []
unfolding shown_text trimmed_edit sandwich kept_before start_of line_of
joined_to_last = refl

inside_line_end : shown_text true (97 ∷ 13 ∷ 10 ∷ 98 ∷ []) (edit 2 2 (120 ∷ []) ∷ []) ≡ 97 ∷ 120 ∷ []
unfolding shown_text trimmed_edit sandwich kept_before start_of line_of
inside_line_end = refl

-- line ends that are copied before the last edit are LF, those after it stay in an unfolded text
line_ends : shown_text false (97 ∷ 13 ∷ 10 ∷ 98 ∷ 13 ∷ 10 ∷ 99 ∷ []) (edit 3 3 (120 ∷ []) ∷ []) ≡ 97 ∷ 10 ∷ 120 ∷ 98 ∷ 13 ∷ 10 ∷ 99 ∷ []
unfolding shown_text trimmed_edit sandwich kept_before start_of line_of
line_ends = refl

-- ---- stretches that are written anew

abbrev stretch : ℕ → ℕ → SubstitutionHighlight
stretch start end = record { start = start; end = end }

-- of `foo()` with `x` put in at 4 the fifth character
stretch_of_an_argument : new_stretches false (102 ∷ 111 ∷ 111 ∷ 40 ∷ 41 ∷ []) (edit 4 4 (120 ∷ []) ∷ []) 0 ≡ stretch 4 5 ∷ []
unfolding new_stretches trimmed_edit sandwich kept_before chars
stretch_of_an_argument = refl

-- a tab takes four
stretch_of_a_tab : new_stretches false (97 ∷ []) (edit 0 0 (9 ∷ []) ∷ []) 0 ≡ stretch 0 4 ∷ []
unfolding new_stretches trimmed_edit sandwich kept_before chars
stretch_of_a_tab = refl

-- of `ab` with `x`, LF, `y` put in at 1 the second character of the first line, and the first of the second line
stretches_of_two_lines : new_stretches false (97 ∷ 98 ∷ []) (edit 1 1 (120 ∷ 10 ∷ 121 ∷ []) ∷ []) 0 ≡ stretch 1 2 ∷ []
unfolding new_stretches trimmed_edit sandwich kept_before chars
stretches_of_two_lines = refl

stretches_of_the_second : new_stretches false (97 ∷ 98 ∷ []) (edit 1 1 (120 ∷ 10 ∷ 121 ∷ []) ∷ []) 1 ≡ stretch 0 1 ∷ []
unfolding new_stretches trimmed_edit sandwich kept_before chars
stretches_of_the_second = refl

-- of `a b` with `x` put in at 0 and `y` at 2 the first character and, moved by that, the fourth
stretches_of_two_edits : new_stretches false (97 ∷ 32 ∷ 98 ∷ []) (edit 0 0 (120 ∷ []) ∷ edit 2 2 (121 ∷ []) ∷ []) 0 ≡ stretch 0 1 ∷ stretch 3 4 ∷ []
unfolding new_stretches trimmed_edit sandwich kept_before chars
stretches_of_two_edits = refl

-- with `x`, LF, `y` put in two lines of the text are shown, in place of one line of the source
lines_of_two : num_shown_lines false (97 ∷ 98 ∷ []) (edit 1 1 (120 ∷ 10 ∷ 121 ∷ []) ∷ []) ≡ 2
unfolding num_shown_lines trimmed_edit sandwich kept_before
lines_of_two = refl

one_replaced : num_replaced_lines true (97 ∷ 98 ∷ []) (edit 1 1 (120 ∷ 10 ∷ 121 ∷ []) ∷ []) ≡ 1
unfolding num_replaced_lines trimmed_edit sandwich kept_before start_of line_of
one_replaced = refl

-- so no list, or one alone, is not what they have
pub one_line_opened : (lines : List (Vec SubstitutionHighlight Global)) → length lines ≤ 1
    → length lines ≡ num_shown_lines false (97 ∷ 98 ∷ []) (edit 1 1 (120 ∷ 10 ∷ 121 ∷ []) ∷ []) → ⊥
one_line_opened lines few is = omega (arith, lines_of_two, few, is)
