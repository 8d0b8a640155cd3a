-- Line feeds: which rows hold none, and which texts of a report could bring one into its rows.
use Rattle.std.specs.Prelude.{◌≡◌, ℕ, ◌==◌, Bool, false, List, [], ◌∷◌, ◌++◌, All, chars, if◌then◌else◌, map}
use Rattle.std.specs.Cow.{cow_str_bytes}
use Rattle.std.specs.List.{filter_map, flat_map, slice_split}
use Rattle.std.specs.Option.{option_map, option_to_list}
use Rattle.snippet_grid.specs.Print.{row_text}
use Rattle.snippet_style.specs.Cell.{Cell}
use Rattle.snippet_model.specs.Level.{name_of}
use Rattle.snippet_model.specs.declared.snippet.Element.{Element}
use Rattle.snippet_model.specs.declared.snippet.Element.TheVariants as element
use Rattle.snippet_model.specs.declared.snippet.Group.{Group}
use Rattle.snippet_model.specs.declared.snippet.Id.{Id}
use Rattle.snippet_model.specs.declared.snippet.Title.{Title}
use Rattle.annotate_snippets.specs.Page.{GroupPage, group_rows}

-- ---- rows

-- a row in which no cell is a line feed, U+000A
abbrev pub HasNoFeed : List Cell → Type 0
HasNoFeed row = All (λ cell. (cell.ch == 10) ≡ false) row

-- ---- lines of a text

-- the lines of a text: what stands between its line feeds, one line more than there are of these
abbrev pub text_lines : List ℕ → List (List ℕ)
text_lines text = slice_split (λ c. c == 10) text

-- some lines, or one empty line where there are none
abbrev pub or_empty_line : List (List ℕ) → List (List ℕ)
or_empty_line [] = [] ∷ []
or_empty_line (line ∷ lines) = line ∷ lines

-- the lines that the rows of a page are: each is one. A group without rows is one empty line, and so is a page without groups
abbrev pub page_lines : List GroupPage → List (List ℕ)
page_lines page = or_empty_line (flat_map (λ g. or_empty_line (map row_text (group_rows g))) page)

-- ---- texts

-- the texts of a title that may stand on one line only: its level's name and its id. Where its text has several lines, each has a row
abbrev pub row_texts_of_title : Title → List (List ℕ)
row_texts_of_title title =
    name_of title.level ∷ flat_map (λ (id : Id). option_to_list (option_map cow_str_bytes id.id)) (option_to_list title.id)

-- the texts of an element that may stand on one line only: the name of a message's level, a path, and, unless they are cut at their line
-- feeds, the labels of a snippet's spans. Where a message's text, a source, or what a patch puts into one has several lines, each that is
-- shown has a row
abbrev pub row_texts_of_element : Bool → Element → List (List ℕ)
row_texts_of_element cut (element.Message message) = name_of message.level ∷ []
row_texts_of_element cut (element.Cause snippet) =
    option_to_list (option_map cow_str_bytes snippet.path)
    ++ (if cut then [] else filter_map (λ a. option_map cow_str_bytes a.label) snippet.markers.items)
row_texts_of_element cut (element.Suggestion snippet) = option_to_list (option_map cow_str_bytes snippet.path)
row_texts_of_element cut (element.Origin origin) = cow_str_bytes origin.path ∷ []
row_texts_of_element cut (element.Padding padding) = []

-- no path, id and name of a level of these groups holds a line feed, and no label, unless labels are cut at them
abbrev pub HasOneLineTexts : Bool → List Group → Type 0
HasOneLineTexts cut groups =
    All (λ text. All (λ ch. (ch == 10) ≡ false) (chars text))
    (flat_map (λ g. flat_map row_texts_of_title (option_to_list g.title) ++ flat_map (row_texts_of_element cut) g.elements.items) groups)
