-- The definitions, computed on small inputs.
use Rattle.snippet_window.proofs.Common.{◌≡◌, ℕ, true, false, Some, None, [], ◌∷◌, ◌++◌, replicate, codes, encode_utf8_all, refl, written}
use Rattle.snippet_window.proofs.Common.{char_width, width_of, unicode_width, norm, Annotation, AnnotationKind, Primary, Context, Visible, Eof, Lf, Crlf}
use Rattle.snippet_window.proofs.Common.{Reversed, PastEnd, OffBoundary, source_lines, start_of, line_of, place_of, location_of, start_location, end_location}
use Rattle.snippet_window.proofs.Common.{locations_of, steps_after_text, span_fault, annotated_lines, is_trivial, kept_lines, primary_place, secondary_place}
use Rattle.snippet_window.proofs.Common.{window, end_mark_column, is_near_span}
use Rattle.std.specs.Str.{chars}

-- ---- lines

crlf_ends_a_line : source_lines (97 ∷ 13 ∷ 10 ∷ 98 ∷ []) ≡ (codes "a", Crlf) ∷ (codes "b", Eof) ∷ []
crlf_ends_a_line = refl

an_empty_source_has_one_line : source_lines [] ≡ ([], Eof) ∷ []
an_empty_source_has_one_line = refl

-- a line feed at the end of the source begins no line
a_last_line_feed_begins_no_line : source_lines (codes "one" ++ 13 ∷ 10 ∷ codes "two" ++ 10 ∷ []) ≡ (codes "one", Crlf) ∷ (codes "two", Lf) ∷ []
a_last_line_feed_begins_no_line = refl

-- ---- places

-- a tab takes four columns
after_a_tab : place_of (9 ∷ 120 ∷ []) 1 ≡ record { line = 0; character = 1; column = 4 }
unfolding place_of line_of start_of chars char_width
after_a_tab = refl

-- byte 2, inside CR LF, stands at the end of its line's text
inside_crlf : place_of (97 ∷ 13 ∷ 10 ∷ 98 ∷ []) 2 ≡ record { line = 0; character = 1; column = 1 }
unfolding place_of line_of start_of chars char_width unicode_width
inside_crlf = refl

after_a_wide_character : place_of (encode_utf8_all (codes "日本")) 3 ≡ record { line = 0; character = 1; column = 2 }
unfolding place_of line_of start_of chars char_width unicode_width lib.Utf8.encode
after_a_wide_character = refl

-- ---- what is shown

-- of `a`, a tab, `b`, ESC, `[1m` and a zero width joiner
listed_characters_shown : norm (97 ∷ 9 ∷ 98 ∷ 0x1B ∷ codes "[1m" ++ 0x200D ∷ []) ≡ codes "a    b␛[1m"
unfolding norm
listed_characters_shown = refl

-- ---- lines that are kept

a_bracket_is_trivial : is_trivial (codes "  }") ≡ true
a_bracket_is_trivial = refl

an_empty_line_is_trivial : is_trivial [] ≡ true
an_empty_line_is_trivial = refl

a_comment_is_trivial : is_trivial (codes "// x") ≡ true
a_comment_is_trivial = refl

a_doc_comment_is_not_trivial : is_trivial (codes "/// x") ≡ false
a_doc_comment_is_not_trivial = refl

code_is_not_trivial : is_trivial (codes "a") ≡ false
code_is_not_trivial = refl

-- a span of the first byte
first_byte : Annotation
first_byte = record { span = record { start = 0; end = 1 }; label = None; kind = Primary; highlight_source = false }

folded_lines : kept_lines true (codes "a" ++ 10 ∷ codes "b" ++ 10 ∷ codes "c") (first_byte ∷ []) ≡ 0 ∷ []
unfolding first_byte line_of
folded_lines = refl

lines_not_folded : kept_lines false (codes "a" ++ 10 ∷ codes "b" ++ 10 ∷ codes "c") (first_byte ∷ []) ≡ 0 ∷ 1 ∷ 2 ∷ []
unfolding first_byte line_of
lines_not_folded = refl

-- ---- what is wrong with a span of `é`, which has two bytes

all_of_it : span_fault (encode_utf8_all (codes "é")) 0 2 ≡ None
unfolding span_fault lib.Utf8.encode
all_of_it = refl

-- one byte after the source
empty_after_it : span_fault (encode_utf8_all (codes "é")) 3 3 ≡ None
unfolding span_fault lib.Utf8.encode
empty_after_it = refl

start_after_end : span_fault (encode_utf8_all (codes "é")) 2 1 ≡ Some Reversed
unfolding span_fault lib.Utf8.encode
start_after_end = refl

two_bytes_after_it : span_fault (encode_utf8_all (codes "é")) 0 4 ≡ Some PastEnd
unfolding span_fault lib.Utf8.encode
two_bytes_after_it = refl

inside_a_character : span_fault (encode_utf8_all (codes "é")) 1 2 ≡ Some OffBoundary
unfolding span_fault lib.Utf8.encode
inside_a_character = refl

-- ---- widths

wide_characters : width_of (codes "日本") ≡ 4
unfolding char_width unicode_width
wide_characters = refl

a_tab_takes_four : width_of (9 ∷ 120 ∷ []) ≡ 5
unfolding char_width unicode_width
a_tab_takes_four = refl

-- `e` and a combining acute accent
a_combining_mark_takes_none : width_of (101 ∷ 0x301 ∷ []) ≡ 1
unfolding char_width unicode_width
a_combining_mark_takes_none = refl

-- ---- windows

-- sixty characters in a room of 16, around the T in their middle
cut_at_both_ends : window (codes "...") 16 23 39 (replicate 30 97 ++ 84 ∷ replicate 29 97) ≡ codes "...aaaaTaaaaa..."
unfolding char_width unicode_width written
cut_at_both_ends = refl

stands_whole : window (codes "...") 16 0 5 (codes "abcde") ≡ codes "abcde"
unfolding char_width unicode_width written
stands_whole = refl

cut_at_the_right : window (codes "...") 8 0 8 (codes "abcdefghij") ≡ codes "abcde..."
unfolding char_width unicode_width written
cut_at_the_right = refl

-- ---- nothing is cut from the left

-- thirty spaces and a letter, a line feed, and 27 spaces: a span from the letter to after the end of the second line. The mark
-- at its end is in column 27, one before that of the corrected end
a_mark_after_the_end : end_mark_column (replicate 30 32 ++ 97 ∷ 10 ∷ replicate 27 32)
    (record { span = record { start = 30; end = 60 }; label = None; kind = Primary; highlight_source = false }) ≡ 27
unfolding place_of location_of end_location steps_after_text line_of start_of char_width unicode_width lib.Utf8.encode
a_mark_after_the_end = refl

is_too_far_right : is_near_span (replicate 30 32 ++ 97 ∷ 10 ∷ replicate 27 32)
    (record { span = record { start = 30; end = 60 }; label = None; kind = Primary; highlight_source = false }) ≡ false
unfolding place_of location_of end_location steps_after_text line_of start_of char_width unicode_width lib.Utf8.encode
is_too_far_right = refl

and_one_less_is_near : is_near_span (replicate 30 32 ++ 97 ∷ 10 ∷ replicate 26 32)
    (record { span = record { start = 30; end = 59 }; label = None; kind = Primary; highlight_source = false }) ≡ true
unfolding place_of location_of end_location steps_after_text line_of start_of char_width unicode_width lib.Utf8.encode
and_one_less_is_near = refl

-- ---- the place that a head names

-- a span of a kind, without a label
span_of : AnnotationKind → ℕ → ℕ → Annotation
span_of kind start end = record { span = record { start = start; end = end }; label = None; kind = kind; highlight_source = false }

-- `a`, a line feed and `éb`: the primary span is named, though another one stands above it, and columns are characters
second_line : primary_place (annotated_lines true (record { text = 97 ∷ 10 ∷ encode_utf8_all (codes "éb"); first = 1 })
    (span_of Context 0 1 ∷ span_of Primary 4 5 ∷ [])) ≡ Some (record { line = 2; column = Some 2 })
unfolding span_of place_of location_of start_location end_location locations_of steps_after_text line_of start_of char_width unicode_width lib.Utf8.encode
second_line = refl

-- one byte after a source that ends without a line feed
after_the_end : primary_place (annotated_lines true (record { text = codes "ab"; first = 1 }) (span_of Primary 3 3 ∷ []))
    ≡ Some (record { line = 1; column = Some 4 })
unfolding span_of place_of location_of start_location end_location locations_of steps_after_text line_of start_of char_width unicode_width lib.Utf8.encode
after_the_end = refl

-- the least column on the line, in whichever order the spans are given
least_of_two : primary_place (annotated_lines true (record { text = codes "abc"; first = 7 }) (span_of Context 2 3 ∷ span_of Context 1 2 ∷ []))
    ≡ Some (record { line = 7; column = Some 2 })
unfolding span_of place_of location_of start_location end_location locations_of steps_after_text line_of start_of char_width unicode_width lib.Utf8.encode
least_of_two = refl

-- of a snippet that isn't primary the first span given on the line
first_of_two : secondary_place (annotated_lines true (record { text = codes "abc"; first = 7 }) (span_of Context 2 3 ∷ span_of Context 1 2 ∷ []))
    ≡ Some (record { line = 7; column = Some 3 })
unfolding span_of place_of location_of start_location end_location locations_of steps_after_text line_of start_of char_width unicode_width lib.Utf8.encode
first_of_two = refl

-- a line that is only kept is named where the snippet isn't primary, without a column
no_span_marked : primary_place (annotated_lines true (record { text = codes "a" ++ 10 ∷ codes "b"; first = 1 }) (span_of Visible 2 3 ∷ [])) ≡ None
unfolding span_of place_of location_of start_location end_location locations_of steps_after_text line_of start_of char_width unicode_width lib.Utf8.encode
no_span_marked = refl

kept_line_alone : secondary_place (annotated_lines true (record { text = codes "a" ++ 10 ∷ codes "b"; first = 1 }) (span_of Visible 2 3 ∷ []))
    ≡ Some (record { line = 2; column = None })
unfolding span_of place_of location_of start_location end_location locations_of steps_after_text line_of start_of char_width unicode_width lib.Utf8.encode
kept_line_alone = refl
