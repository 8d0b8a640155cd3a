-- Texts as they are shown: without listed characters, and on one line.
use Rattle.std.specs.Prelude.{ℕ, ◌==◌, List, ◌++◌, chars, codes, encode_utf8_all, if◌then◌else◌, map}
use Rattle.snippet_text.specs.Normalized.{norm}

-- a text as it may be shown: what is listed in it is replaced
abbrev pub normalized_text : List ℕ → List ℕ
normalized_text text = encode_utf8_all (norm (chars text))

-- what a line shows of a character: of a line feed its picture, U+240A, and any other as it is
abbrev pub picture_of : ℕ → ℕ
picture_of c = if c == 10 then 0x240A else c

-- the characters of a text as one line shows them
abbrev pub on_one_line : List ℕ → List ℕ
on_one_line cs = map picture_of cs

-- a text as a message shows it: on one line, and what is listed in it is replaced
abbrev pub message_text : List ℕ → List ℕ
message_text text = encode_utf8_all (norm (on_one_line (chars text)))

-- the message of a program of this name that it can't do this to the file of that name, such as `snip: cannot read a.rs`
abbrev pub cannot : (program verb name : List ℕ) → List ℕ
cannot program verb name = program ++ (codes ": cannot " ++ (verb ++ (codes " " ++ message_text name)))
