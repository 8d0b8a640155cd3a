-- The part of a line that is sure to hold its window, and how the characters at its end are counted.
use Rattle.std.specs.Prelude.{◌≡◌, ℕ, ◌+◌, ◌-◌, ◌<◌, ◌≤◌, ◌==◌, List, ◌++◌, length, if◌then◌else◌, nat_le, [], ◌∷◌}
use Rattle.snippet_text.specs.Width.{width_of}
use Rattle.snippet_window.specs.declared.margin.Margin.{Margin}
use Rattle.snippet_window.specs.Window.{fitting, window_left, window_right}

-- how many characters, from the first on, take fewer columns than these: the most, and none where there is no column
abbrev pub falling_short : ℕ → List ℕ → ℕ
falling_short columns cs = if columns == 0 then 0 else fitting (columns - 1) cs

-- the columns between the beginning and the end of a text's window
abbrev pub window_columns : ℕ → ℕ → ℕ → List ℕ → ℕ
window_columns room left right text = window_right room left right text - window_left left text

-- `part` is a part of a text, after so many columns, that holds the window of the text: the characters before it end left
-- of the window, and it reaches past the window by more than a character's columns, unless no character stands after it
pub record HoldsWindow (room left right : ℕ) (text : List ℕ) (skipped : ℕ) (part : List ℕ) : Type 0 where
  pub before : List ℕ
  pub after : List ℕ
  pub text_is : text ≡ before ++ (part ++ after)
  pub skipped_is : skipped ≡ width_of before
  pub starts : 0 < length before → skipped < window_left left text
  pub reaches : 0 < length after → (window_left left text - skipped) + window_columns room left right text + 4 ≤ width_of part

-- that part of a line of this width, between the bounds of a margin
abbrev pub IsPartOf : Margin → List ℕ → ℕ → ℕ → List ℕ → Type 0
IsPartOf margin line width skipped part =
    (width ≡ width_of line) × HoldsWindow margin.term_width margin.computed_left margin.computed_right line skipped part

-- how many characters, up to the last one, reach so many columns, the fewest, or all: as many as reach them in the reverse
abbrev pub reaching_last : ℕ → List ℕ → ℕ
reaching_last columns [] = 0
reaching_last columns (c ∷ cs) = if nat_le columns (width_of cs) then reaching_last columns cs else length cs + 1
