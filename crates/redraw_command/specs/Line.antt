-- What a line of an input is, before it is read.
use Rattle.std.specs.Prelude.{◌≡◌, ◌≢◌, ℕ, ◌⊎◌, ◌==◌, ◌&&◌, ◌||◌, Bool, true, false, not, List, [], ◌∷◌, ◌++◌, Option, None, Some, is_some}
use Rattle.std.specs.Char.{is_ascii_whitespace}
use Rattle.std.specs.List.{find}
use Rattle.std.specs.Option.{option_map_or}
use Rattle.std.specs.Str.{IsUtf8}
use Rattle.redraw_command.specs.declared.line.Line.{Line}
use Rattle.redraw_command.specs.declared.line.Line.TheVariants as form

-- the mark of the order of bytes
abbrev pub mark : List ℕ
mark = 239 ∷ 187 ∷ 191 ∷ []

-- the first line of an input is this after the mark, where it begins with that; any other line is this as it stands
abbrev pub IsUnmarked : Bool → List ℕ → List ℕ → Type 0
IsUnmarked true line text = (line ≡ mark ++ text) ⊎ ((text ≡ line) × ((rest : List ℕ) → line ≢ mark ++ rest))
IsUnmarked false line text = text ≡ line

-- the first byte of a text that isn't blank
abbrev pub first_of : List ℕ → Option ℕ
first_of text = find (λ b. not (is_ascii_whitespace b)) text

-- whether a text begins as an object of JSON does: its first byte that isn't blank is a brace
abbrev pub begins_object : List ℕ → Bool
begins_object text = option_map_or (λ b. b == 123) (first_of text) false

-- whether a text begins as an object or a list of JSON does
abbrev pub begins_document : List ℕ → Bool
begins_document text = option_map_or (λ b. b == 123 || b == 91) (first_of text) false

-- two bytes begin a text in UTF-16: the mark of its order, or a brace
abbrev pub are_utf16 : ℕ → ℕ → Bool
are_utf16 first second =
    (first == 255 && second == 254) || (first == 254 && second == 255) || (first == 123 && second == 0) || (first == 0 && second == 123)

-- a text begins with two such bytes
abbrev pub begins_utf16 : List ℕ → Bool
begins_utf16 (first ∷ second ∷ rest) = are_utf16 first second
begins_utf16 (first ∷ []) = false
begins_utf16 [] = false

-- what a line with this text is: it may be an object or a list, whose text this is; or it begins as an object does and isn't UTF-8; or it
-- is blank, or it begins otherwise
abbrev pub IsForm : List ℕ → Line → Type 0
IsForm text (form.Object object) = (object.now ≡ text) × (begins_object text ≡ true)
IsForm text (form.List list) = (list.now ≡ text) × (first_of text ≡ Some 91)
IsForm text form.Undecoded = (IsUtf8 text → ⊥) × (begins_object text ≡ true)
IsForm text form.Blank = first_of text ≡ None
IsForm text form.Other = (begins_object text ≡ false) × (is_some (first_of text) ≡ true)
