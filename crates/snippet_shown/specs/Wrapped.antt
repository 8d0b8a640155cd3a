-- Texts that are wrapped: broken into rows that are no wider than a room of so many columns.
use Rattle.std.specs.Prelude.{ℕ, ◌+◌, ◌-◌, ◌&&◌, ◌||◌, nat_le, nat_lt, not, Bool, true, false, List, [], ◌∷◌, ◌++◌, Option, None, Some}
use Rattle.std.specs.Prelude.{map, unwrap_or, if◌then◌else◌}
use Rattle.snippet_text.specs.Width.{char_width}
use Rattle.snippet_shown.specs.Letters.{Letter, is_before_word, is_blank, is_feed, letter_width, letters_of}
use Rattle.snippet_shown.specs.declared.wrap.row.Row.{Row}
use Rattle.snippet_shown.specs.declared.wrap.row.Stage.{Stage}
use Rattle.snippet_shown.specs.declared.wrap.row.Stage.TheVariants.{Indentation, Gap, Word}
use Rattle.snippet_shown.specs.declared.wrap.row.Step.{Step}

-- the columns of the widest character, a tab: in fewer nothing is broken
abbrev pub least_room : ℕ
least_room = 4

-- the columns of the first character of the next word of a line, if it has one more: that after its blanks and codes
abbrev pub next_width : List Letter → Option ℕ
next_width [] = None
next_width (l ∷ ls) = if is_feed l then None else if is_before_word l then next_width ls else Some (char_width l.char)

-- whether what is ahead ends at a character: at the end of a line, or at a blank after a word has begun; and whether one has, after it
abbrev pub ends_ahead : Bool → Letter → Bool
ends_ahead inside l = is_feed l || inside && is_blank l

abbrev pub inside_after : Bool → Letter → Bool
inside_after inside l = inside || not (is_before_word l)

-- the columns of what is ahead in a line: of its blanks up to a word, and of that; of the rest of the word where one has begun
abbrev pub columns_ahead : Bool → List Letter → ℕ
columns_ahead inside [] = 0
columns_ahead inside (l ∷ ls) = if ends_ahead inside l then 0 else letter_width l + columns_ahead (inside_after inside l) ls

-- a row before its first word, with columns left for blanks beside the first character of the next word, where there is one
abbrev pub row_start : ℕ → List Letter → Row
row_start room ls = record { stage = Indentation; left = room - unwrap_or (next_width ls) 0 }

-- a character that is shown, one that isn't, one that stands on a row of its own, and a blank that gives its place to the end of a row
abbrev pub kept : Row → Step
kept row = record { breaks = false; keeps = true; row = row }

abbrev pub dropped : Row → Step
dropped row = record { breaks = false; keeps = false; row = row }

abbrev pub begins : Row → Step
begins row = record { breaks = true; keeps = true; row = row }

-- the end of a row at a blank, where a line goes on with a character of so many columns, or where it doesn't: no row is begun for blanks
abbrev pub ended : ℕ → Option ℕ → Step
ended room None = dropped (record { stage = Gap; left = 0 })
ended room (Some width) = record { breaks = true; keeps = false; row = record { stage = Gap; left = room - width } }

-- a blank of so many columns: an indentation is cut so that the first character of its word has room beside it, after the end of a row blanks
-- go with the one that ended it, and after a word the row ends where the blanks and the next word have no room
abbrev pub at_blank : ℕ → Stage → ℕ → ℕ → List Letter → Step
at_blank room Indentation left width ls =
    if nat_le width left then kept (record { stage = Indentation; left = left - width }) else dropped (record { stage = Indentation; left = left })
at_blank room Gap left width ls = dropped (record { stage = Gap; left = left })
at_blank room Word left width ls =
    if nat_le (width + columns_ahead false ls) left then kept (record { stage = Word; left = left - width }) else ended room (next_width ls)

-- a character of a word of so many columns: the first of a row has room, any other stands on the next row where it has none
abbrev pub in_word : ℕ → Stage → ℕ → ℕ → Step
in_word room Word left width =
    if nat_le width left then kept (record { stage = Word; left = left - width }) else begins (record { stage = Word; left = room - width })
in_word room other left width = kept (record { stage = Word; left = left })

-- a character in a row, before others. Codes are shown where they stand
abbrev pub step : ℕ → Row → Letter → List Letter → Step
step room row l ls =
    if is_feed l then kept (row_start room ls)
    else if l.code then kept row
    else if is_blank l then at_blank room row.stage row.left (char_width l.char) ls
    else in_word room row.stage row.left (char_width l.char)

-- what is shown of a character
abbrev pub feed : Letter
feed = record { char = 10; code = false }

abbrev pub shown_by : Bool → Bool → Letter → List Letter
shown_by breaks keeps l = (if breaks then feed ∷ [] else []) ++ (if keeps then l ∷ [] else [])

abbrev pub shown_at : Step → Letter → List Letter
shown_at s l = shown_by s.breaks s.keeps l

-- what is shown of the rest of a text that goes on in this row
abbrev pub rows : ℕ → Row → List Letter → List Letter
rows room row [] = []
rows room row (l ∷ ls) = shown_at (step room row l ls) l ++ rows room (step room row l ls).row ls

-- the characters that are shown of a text in a room of so many columns
abbrev pub shown_letters : ℕ → List Letter → List Letter
shown_letters room ls = if nat_lt room least_room then ls else rows room (row_start room ls) ls

-- the text that is shown in place of one that is trusted or not
abbrev pub wrapped : ℕ → Bool → List ℕ → List ℕ
wrapped room trusted cs = map (λ l. l.char) (shown_letters room (letters_of trusted cs))
