-- Rows of the short form, computed.
use Rattle.snippet_titles.proofs.Common.{◌≡◌, List, ℕ, [], ◌∷◌, false, None, codes, refl, Error, plain_text, norm, char_width, unicode_width}
use Rattle.snippet_titles.proofs.Common.{LevelName, Hidden, Standard, Heading, label_cells, short_rows, short_texts}
use Rattle.std.specs.Str.{chars}

-- an error whose name is shown like this, with this text
abbrev error_of : LevelName → List ℕ → Heading
error_of name text =
    record { level = record { name = name; kind = Error }; id = None; text = text; allows_styling = false }

-- a path stands before the label, and another text after the title's
path_before : short_texts (codes "src/main.rs:1:5: ") (codes ": here") (error_of Standard (codes "unused")) ≡ codes "src/main.rs:1:5: error: unused: here" ∷ []
unfolding chars norm
path_before = refl

rows : plain_text (short_rows false (codes "src/main.rs:1:5: ") (codes ": here") (error_of Standard (codes "unused")))
    ≡ codes "src/main.rs:1:5: error: unused: here"
unfolding chars norm label_cells short_rows
rows = refl

-- where there are two lines it stands after the first one, and the second one below the label's width
two_lines : plain_text (short_rows false (codes "a.rs: ") (codes ": here") (error_of Standard (codes "one\ntwo"))) ≡ codes "a.rs: error: one: here\n       two"
unfolding chars norm char_width unicode_width label_cells short_rows
two_lines = refl

-- a text after an empty title makes its row
empty_title : plain_text (short_rows false [] (codes ": here") (error_of Hidden [])) ≡ codes ": here"
unfolding chars norm label_cells short_rows
empty_title = refl
