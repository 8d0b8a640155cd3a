-- What a line of a compiler says of its place: the level, the name of the rule, and the message.
use Rattle.std.specs.Prelude.{ℕ, ◌==◌, ◌&&◌, ◌||◌, Bool, true, false, List, [], ◌∷◌, Option, Some, None, bytes_eq, codes, drop, length, nat_le, nat_lt, suc}
use Rattle.std.specs.Prelude.{if◌then◌else◌, option_and_then, option_map, unwrap_or}
use Rattle.std.specs.Char.{is_ascii_digit, is_ascii_uppercase}
use Rattle.std.specs.List.{list_all, list_any}
use Rattle.std.specs.Option.{option_or}
use Rattle.std.specs.Str.{trim_end, trim_start}
use Rattle.json_lines.specs.Field.{lent_text}
use Rattle.redraw_report.specs.declared.diagnostic.Severity.{Severity}
use Rattle.redraw_report.specs.declared.diagnostic.Severity.TheVariants.{Error, Warning, Info, Note, Help}
use Rattle.redraw_tools.specs.Cut.{Parts, after, before, parted, parted_last}
use Rattle.redraw_tools.specs.declared.said.Said.{Said}

-- what is said of a place, and whether the tool counts columns from 0
pub record Says : Type 0 where
  pub severity : Severity
  pub id : Option (List ℕ)
  pub message : List ℕ
  pub is_from_zero : Bool

abbrev pub said_view : Said → Says
said_view s = record { severity = s.severity; id = lent_text s.id; message = s.message.now; is_from_zero = s.is_from_zero }

-- the level that these words name
abbrev pub level_of : List ℕ → Option Severity
level_of words =
    if bytes_eq words (codes "error") then Some Error
    else if bytes_eq words (codes "fatal error") then Some Error
    else if bytes_eq words (codes "fatal") then Some Error
    else if bytes_eq words (codes "internal compiler error") then Some Error
    else if bytes_eq words (codes "sorry, unimplemented") then Some Error
    else if bytes_eq words (codes "warning") then Some Warning
    else if bytes_eq words (codes "info") then Some Info
    else if bytes_eq words (codes "information") then Some Info
    else if bytes_eq words (codes "style") then Some Info
    else if bytes_eq words (codes "performance") then Some Info
    else if bytes_eq words (codes "portability") then Some Info
    else if bytes_eq words (codes "remark") then Some Info
    else if bytes_eq words (codes "note") then Some Note
    else if bytes_eq words (codes "help") then Some Help
    else if bytes_eq words (codes "hint") then Some Help
    else None

-- the level that a code of pylint has by its letter: E and F, W, and others
abbrev pub level_by_letter : ℕ → Severity
level_by_letter c = if c == 69 || c == 70 then Error else if c == 87 then Warning else Info

abbrev pub level_by : List ℕ → Severity
level_by [] = Info
level_by (c ∷ cs) = level_by_letter c

-- how many capital letters some bytes begin with
abbrev pub capitals_before : List ℕ → ℕ
capitals_before [] = 0
capitals_before (c ∷ cs) = if is_ascii_uppercase c then suc (capitals_before cs) else 0

abbrev pub is_long_number : List ℕ → Bool
is_long_number cs = nat_le 2 (length cs) && list_all is_ascii_digit cs

-- whether a word is a code: some capital letters, and then two digits or more
abbrev pub is_code : List ℕ → Bool
is_code word = nat_lt 0 (capitals_before word) && is_long_number (drop (capitals_before word) word)

abbrev pub code_in : List ℕ → Option (List ℕ)
code_in word = if is_code word then Some word else None

-- whether a byte is a blank or a bracket
abbrev pub is_blank_or_bracket : ℕ → Bool
is_blank_or_bracket b = b == 32 || (b == 9 || (b == 91 || (b == 93 || (b == 40 || b == 41))))

-- what comes before brackets at the end of a text, and what stands in them, which isn't empty and has neither blanks nor brackets
abbrev pub if_name : Parts → Option Parts
if_name p = if length p.1 == 0 || list_any is_blank_or_bracket p.1 then None else Some (trim_end p.0, p.1)

abbrev pub after_last : List ℕ → (opening closing : List ℕ) → Option Parts
after_last text opening closing = option_and_then if_name (option_and_then (parted_last opening) (before closing text))

-- a message with the name of its rule, and one without
abbrev pub said_by : Severity → (id message : List ℕ) → Bool → Says
said_by severity id message is_from_zero =
    record { severity = severity; id = Some id; message = message; is_from_zero = is_from_zero }

abbrev pub unnamed : Severity → List ℕ → Says
unnamed severity text = record { severity = severity; id = None; message = text; is_from_zero = false }

abbrev pub named : Severity → Parts → Says
named severity p = said_by severity p.1 p.0 false

-- `MESSAGE [ID]`, or a message
abbrev pub with_id_after : Severity → List ℕ → Says
with_id_after severity text =
    unwrap_or (option_map (named severity) (after_last text (codes " [") (codes "]"))) (unnamed severity text)

-- `error TS2304: MESSAGE`, and `C0114: MESSAGE`, where the column is counted from 0
abbrev pub with_code : Option Severity → Option (List ℕ) → List ℕ → Bool → Option Says
with_code (Some severity) (Some id) message is_from_zero = Some (said_by severity id message is_from_zero)
with_code (Some severity) None message is_from_zero = None
with_code None id message is_from_zero = None

abbrev pub coded_level_by : Option Parts → (word message : List ℕ) → Option Says
coded_level_by (Some p) word message = with_code (level_of p.0) (code_in p.1) message false
coded_level_by None word message = with_code (Some (level_by word)) (code_in word) message true

abbrev pub coded_level : (word message : List ℕ) → Option Says
coded_level word message = coded_level_by (parted_last (codes " ") word) word message

-- `warning: MESSAGE [ID]`
abbrev pub leveled_by : Option Severity → Parts → Option Says
leveled_by (Some severity) p = Some (with_id_after severity (trim_start p.1))
leveled_by None p = coded_level p.0 p.1

abbrev pub leveled : List ℕ → Option Says
leveled text = option_and_then (λ (p : Parts). leveled_by (level_of p.0) p) (parted (codes ": ") text)

-- `[warning] MESSAGE (ID)`
abbrev pub named_in_brackets : List ℕ → Severity → Says
named_in_brackets message severity =
    unwrap_or (option_map (named severity) (after_last message (codes " (") (codes ")"))) (with_id_after severity message)

abbrev pub bracketed_by : Parts → Option Says
bracketed_by p = option_map (named_in_brackets p.1) (level_of p.0)

abbrev pub bracketed : List ℕ → Option Says
bracketed text = option_and_then bracketed_by (option_and_then (parted (codes "] ")) (after (codes "[") text))

-- `E501 MESSAGE`, or a message that may have a name: a warning
abbrev pub coded : List ℕ → Option Says
coded text = option_and_then (λ (p : Parts). with_code (Some Warning) (code_in p.0) p.1 false) (parted (codes " ") text)

abbrev pub unleveled : List ℕ → Says
unleveled text = unwrap_or (coded text) (with_id_after Warning text)

-- what a text says
abbrev pub said_of : List ℕ → Says
said_of text = unwrap_or (option_or (leveled text) (bracketed text)) (unleveled text)
