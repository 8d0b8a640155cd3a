-- What follows of a text that is wrapped, for who reads it.
use Rattle.std.specs.Prelude.{◌≡◌, ◌⊎◌, ℕ, ◌+◌, ◌<◌, ◌≤◌, ◌||◌, not, Bool, true, false, List, [], ◌∷◌, ◌++◌, All, filter, length, sum_by, if◌then◌else◌}
use Rattle.std.specs.List.{Contains, onto_first, slice_split}
use Rattle.snippet_shown.specs.Letters.{Letter, is_blank, is_feed, letter_width, letters_of}
use Rattle.snippet_shown.specs.Wrapped.{columns_ahead, feed, least_room}

-- what stands between words: line feeds and blanks
abbrev pub is_gap : Letter → Bool
is_gap l = is_feed l || is_blank l

-- a character of a word, or of a code
abbrev pub is_inside : Letter → Bool
is_inside l = not (is_gap l)

-- the columns of characters: codes take none
abbrev pub columns_of : List Letter → ℕ
columns_of ls = sum_by letter_width ls

-- the lines of a text, cut at its line feeds, and how many of them are empty
abbrev pub lines_in : List Letter → List (List Letter)
lines_in ls = slice_split is_feed ls

abbrev pub is_empty : List Letter → Bool
is_empty [] = true
is_empty (l ∷ ls) = false

abbrev pub empty_lines : List Letter → ℕ
empty_lines ls = length (filter is_empty (lines_in ls))

-- a text cut at each line feed, and at each blank that doesn't stand before all words of its line; codes aren't in it. So the first part of a
-- line is its first word with the indentation, and each other one a word or nothing
abbrev pub parts_from : Bool → List Letter → List (List Letter)
parts_from inside [] = [] ∷ []
parts_from inside (l ∷ ls) =
    if is_feed l then [] ∷ parts_from false ls
    else if l.code then parts_from inside ls
    else if is_blank l then (if inside then [] ∷ parts_from true ls else onto_first l (parts_from false ls))
    else onto_first l (parts_from true ls)

-- the words of a text, the first of each line with the indentation before it
abbrev pub words_of : List Letter → List (List Letter)
words_of ls = filter (λ word. not (is_empty word)) (parts_from false ls)

-- each of these takes at most so many columns
abbrev pub AreWithin : ℕ → List (List Letter) → Type 0
AreWithin room parts = All (λ part. columns_of part ≤ room) parts

-- the same of rows as they are drawn, which begin outside codes
abbrev pub AreRowsWithin : Bool → ℕ → List (List ℕ) → Type 0
AreRowsWithin trusted room rows = All (λ row. columns_of (letters_of trusted row) ≤ room) rows

-- a character of a text, or a line feed
abbrev pub IsAmong : List Letter → Letter → Type 0
IsAmong ls l = (l ≡ feed) ⊎ Contains ls l

-- the columns of the last row of what is shown, which begins after so many columns
abbrev pub columns_from : ℕ → List Letter → ℕ
columns_from n [] = n
columns_from n (l ∷ ls) = if is_feed l then columns_from 0 ls else columns_from (n + letter_width l) ls

-- a row of what is shown of a text ends after these characters: so much of the text is shown before it, and there a line of it ends; or else
-- nothing but blanks goes, if anything does, and the rest of the line up to the end of its next word has no room beside what the row has.
-- So many columns stand before the first row
pub record IsRowEnd (room n : ℕ) (ls before : List Letter) : Type 0 where
  pub given : List Letter
  pub gap : List Letter
  pub rest : List Letter
  pub is : ls ≡ given ++ gap ++ rest
  pub same : filter is_inside before ≡ filter is_inside given
  pub ends : ((l : Letter) × (gap ≡ l ∷ []) × (is_feed l ≡ true))
      ⊎ (All (λ l. is_blank l ≡ true) gap × (room < columns_from n before + columns_of gap + columns_ahead false rest))

-- the second text is shown in place of the first in a room of so many columns: the characters of its words and codes are the same in the same
-- order, none lost, none new and no code torn; where each word has room, so are the words; each line has room, if that is wide enough for
-- each character; where each line of the first has room, the two are the same; as many lines are empty; no row ends where the next word has
-- room; and no character is new but line feeds
pub record IsRewrapped (room : ℕ) (ls shown : List Letter) : Type 0 where
  pub kept : filter is_inside shown ≡ filter is_inside ls
  pub words : AreWithin room (words_of ls) → words_of shown ≡ words_of ls
  pub rows : least_room ≤ room → AreWithin room (lines_in shown)
  pub same : AreWithin room (lines_in ls) → shown ≡ ls
  pub empty : empty_lines shown ≡ empty_lines ls
  pub ends : least_room ≤ room → (before after : List Letter) → shown ≡ before ++ feed ∷ after → IsRowEnd room 0 ls before
  pub among : All (IsAmong ls) shown
