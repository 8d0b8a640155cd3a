-- Words for which rows of a page begin with a number: those that show a line, and no other row of an element, nor of a title that begins
-- with a word.
use Rattle.std.specs.Prelude.{◌≡◌, ℕ, ◌<◌, ◌==◌, ◌||◌, not, Bool, true, false, List, [], ◌∷◌, chars, if◌then◌else◌}
use Rattle.std.specs.Char.{is_ascii_digit}
use Rattle.snippet_grid.specs.Print.{row_text}
use Rattle.snippet_model.specs.Heading.{heading_of_title}
use Rattle.snippet_model.specs.Level.{name_of}
use Rattle.snippet_model.specs.declared.snippet.Title.{Title}
use Rattle.snippet_text.specs.Normalized.{norm}
use Rattle.snippet_text.specs.Width.{width_of}
use Rattle.snippet_titles.specs.HeadingRows.{label_cells}
use Rattle.snippet_titles.specs.declared.style.HeadingRoles.{HeadingRoles}
use Rattle.annotate_snippets.specs.Page.{RowName, Elision, Other}

-- whether a row of an element shows a line: of the source, of the patched source, or one that is removed
abbrev pub shows_a_line : RowName → Bool
shows_a_line Elision = false
shows_a_line Other = false
shows_a_line name = true

-- ---- titles

-- whether some characters begin with a number: the first that is no space is a digit
abbrev pub begins_with_number : List ℕ → Bool
begins_with_number [] = false
begins_with_number (c ∷ cs) = if c == 32 then begins_with_number cs else is_ascii_digit c

-- whether they begin with a word: there is a first, and it is neither a space nor a digit
abbrev pub begins_with_word : List ℕ → Bool
begins_with_word [] = false
begins_with_word (c ∷ cs) = not (c == 32 || is_ascii_digit c)

-- a title begins with a word: with the name of its level, as it is drawn. And what stands before its text is wider than the gutter, whatever
-- its roles are, so that no further line of the text reaches into that
pub record IsTitleOfWords (gutter : ℕ) (title : Title) : Type 0 where
  pub word : begins_with_word (norm (chars (name_of title.level))) ≡ true
  pub wide : (roles : HeadingRoles) → gutter < width_of (row_text (label_cells false roles (heading_of_title title)))
