-- How far the word goes at a point that a tool names.
use Rattle.std.specs.Prelude.{◌≡◌, ℕ, ◌+◌, ◌-◌, ◌^◌, ◌==◌, ◌||◌, Bool, false, nat_le, nat_lt, min, suc, List, [], ◌∷◌, Option, Some, None, drop}
use Rattle.std.specs.Prelude.{if◌then◌else◌}
use Rattle.std.specs.Char.{is_ascii_alphanumeric}
use Rattle.redraw_report.specs.Region.{IsSpanBetween, end_place, start_place}
use Rattle.redraw_report.specs.declared.diagnostic.LineRegion.{LineRegion}
use Rattle.redraw_report.specs.declared.diagnostic.Region.TheVariants.{Lines}
use Rattle.snippet_lines.specs.declared.clamp.SpanAt.{SpanAt}

-- whether a byte is one of a word: an underscore, a letter or digit, or one of a character that isn't ASCII
abbrev pub is_in_word : ℕ → Bool
is_in_word b = b == 95 || (nat_le 128 b || is_ascii_alphanumeric b)

-- how many bytes the word has that some bytes begin with
abbrev pub word_length : List ℕ → ℕ
word_length [] = 0
word_length (b ∷ bs) = if is_in_word b then suc (word_length bs) else 0

-- whether columns are marked: from one to before a later one
abbrev pub is_wide : Option ℕ → Option ℕ → Bool
is_wide None end = false
is_wide (Some start) None = false
is_wide (Some start) (Some end) = nat_lt start end

-- a point in a column of bytes, up to the end of the word at it, in a text of which the lines start at these bytes
abbrev pub IsUpToWord : (text starts : List ℕ) → LineRegion → ℕ → LineRegion → Type 0
IsUpToWord text starts r column found =
    let point = Lines (record r { end_column = r.start_column }) in
    (at : SpanAt) × IsSpanBetween text (start_place text starts 1 point) (end_place text starts 1 point) at
    × (found ≡ record r { end_column = Some (min (column + word_length (drop at.span.start text)) (2 ^ 64 - 1)) })
