-- The text of a message that holds links: `[text](1)` and `[text](sarif:..)` are their texts.
use Rattle.std.specs.Prelude.{ℕ, zero, suc, ◌+◌, Bool, false, nat_lt, ◌==◌, ◌&&◌, ◌||◌, List, [], ◌∷◌, ◌++◌, drop, slice_get, not, take, if◌then◌else◌}
use Rattle.std.specs.Char.{is_ascii_digit}
use Rattle.std.specs.Option.{option_map_or}

-- whether a character is a square bracket
abbrev pub is_bracket : ℕ → Bool
is_bracket c = c == 91 || c == 93

-- whether a character is a backslash
abbrev pub is_backslash : ℕ → Bool
is_backslash c = c == 92

-- whether a character escapes the one after it: a backslash that isn't escaped itself
abbrev pub escapes : Bool → ℕ → Bool
escapes escaped c = is_backslash c && not escaped

-- how many characters come before the first bracket that isn't escaped; the first is told whether it is
abbrev pub before_bracket : Bool → List ℕ → ℕ
before_bracket escaped [] = 0
before_bracket escaped (c ∷ cs) = if is_bracket c && not escaped then 0 else suc (before_bracket (escapes escaped c) cs)

-- how many digits some characters begin with
abbrev pub digits_before : List ℕ → ℕ
digits_before [] = 0
digits_before (c ∷ cs) = if is_ascii_digit c then suc (digits_before cs) else 0

-- whether some characters begin with this one
abbrev pub begins_with : ℕ → List ℕ → Bool
begins_with c [] = false
begins_with c (d ∷ ds) = d == c

-- how many characters a number and the parenthesis that closes after it have, if some characters begin with these; else 0
abbrev pub number_length : List ℕ → ℕ
number_length cs =
    if nat_lt 0 (digits_before cs) && begins_with 41 (drop (digits_before cs) cs) then digits_before cs + 1 else 0

-- how many characters come up to the first parenthesis that closes, and with it, after so many others; 0 where none does
abbrev pub closed_within : ℕ → List ℕ → ℕ
closed_within before [] = 0
closed_within before (c ∷ cs) = if c == 41 then before + 1 else closed_within (before + 1) cs

abbrev pub closed_length : List ℕ → ℕ
closed_length cs = closed_within 0 cs

-- whether the character with this index is this one
abbrev pub has_at : List ℕ → ℕ → ℕ → Bool
has_at cs index c = option_map_or (λ d. d == c) (slice_get cs index) false

-- whether some characters begin with `sarif:`
abbrev pub leads_into_log : List ℕ → Bool
leads_into_log cs =
    has_at cs 0 115 && (has_at cs 1 97 && (has_at cs 2 114 && (has_at cs 3 105 && (has_at cs 4 102 && has_at cs 5 58))))

-- how many characters the address of a part of the log and the parenthesis that closes after it have
abbrev pub part_length : List ℕ → ℕ
part_length cs = if nat_lt 0 (closed_length cs) then closed_length cs + 6 else 0

-- how many characters what a link leads to and the parenthesis that closes after it have: a number, or the address of a part of the log,
-- `sarif:..`; 0 where some characters don't begin with these
abbrev pub address_length : List ℕ → ℕ
address_length cs = if leads_into_log cs then part_length (drop 6 cs) else number_length cs

-- how many characters a link has after its text: `](`, what it leads to and `)`; 0 where some characters don't begin with these
abbrev pub target_length : List ℕ → ℕ
target_length (c ∷ d ∷ cs) =
    if c == 93 && d == 40 && nat_lt 0 (address_length cs) then address_length cs + 2 else 0
target_length cs = 0

-- what is shown for a character of a link's text: nothing for one that escapes the next, and for one that is escaped and needn't be the
-- backslash as well
abbrev pub link_text_at : Bool → ℕ → List ℕ
link_text_at escaped c =
    if escapes escaped c then []
    else if escaped && not (is_bracket c || is_backslash c) then 92 ∷ c ∷ []
    else c ∷ []

-- a link's text as it is shown, of which the first character is told whether it is escaped
abbrev pub unescaped : Bool → List ℕ → List ℕ
unescaped escaped [] = if escaped then 92 ∷ [] else []
unescaped escaped (c ∷ cs) = link_text_at escaped c ++ unescaped (escapes escaped c) cs

-- what is shown for the first of some characters, and how many more it takes with it
pub record Piece : Type 0 where
  pub shown : List ℕ
  pub more : ℕ

-- a bracket: a link is its text, with all that comes up to the link's end
abbrev pub link_piece : ℕ → List ℕ → Piece
link_piece c cs =
    if nat_lt 0 (target_length (drop (before_bracket false cs) cs))
    then record {
      shown = unescaped false (take (before_bracket false cs) cs);
      more = before_bracket false cs + target_length (drop (before_bracket false cs) cs);
    }
    else record { shown = c ∷ []; more = 0 }

-- a backslash: before a bracket it isn't shown; two of them are both shown, and the second has no meaning for what comes after it
abbrev pub backslash_piece : ℕ → List ℕ → Piece
backslash_piece c [] = record { shown = c ∷ []; more = 0 }
backslash_piece c (d ∷ ds) =
    if is_bracket d then record { shown = d ∷ []; more = 1 }
    else if is_backslash d then record { shown = c ∷ d ∷ []; more = 1 }
    else record { shown = c ∷ []; more = 0 }

-- any character and what comes after it
abbrev pub piece_of : ℕ → List ℕ → Piece
piece_of c cs =
    if c == 91 then link_piece c cs
    else if is_backslash c then backslash_piece c cs
    else record { shown = c ∷ []; more = 0 }

-- the text of a message of these characters, the first of which were taken with what came before
abbrev pub without_links : ℕ → List ℕ → List ℕ
without_links taken [] = []
without_links (suc taken) (c ∷ cs) = without_links taken cs
without_links zero (c ∷ cs) = (piece_of c cs).shown ++ without_links (piece_of c cs).more cs
