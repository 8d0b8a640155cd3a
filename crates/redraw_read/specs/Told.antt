-- What rustc's JSON tells of a diagnostic: its level, its code, its places and its edits.
use Rattle.std.specs.Prelude.{◌≡◌, ℕ, ◌++◌, ◌&&◌, ◌||◌, nat_le, nat_lt, Bool, false, List, [], ◌∷◌, Option, Some, None, codes, length}
use Rattle.std.specs.Prelude.{string_bytes, if◌then◌else◌}
use Rattle.std.specs.List.{list_all}
use Rattle.std.specs.Option.{option_and_then, option_map, option_map_or}
use Rattle.std.specs.Str.{bytes_eq}
use Rattle.json_lines.specs.Field.{given, text_field}
use Rattle.serde_json.specs.Data.{Data}
use Rattle.redraw_report.specs.declared.diagnostic.Code.{Code}
use Rattle.redraw_report.specs.declared.diagnostic.Diagnostic.{Diagnostic}
use Rattle.redraw_report.specs.declared.diagnostic.Severity.{Severity}
use Rattle.redraw_report.specs.declared.diagnostic.Severity.TheVariants.{Error, Warning, Note, Help, Plain}
use Rattle.redraw_read.specs.Rendered.{after}

-- how severe a diagnostic of this level is, by the level's name
abbrev pub severity_named : List ℕ → Option Severity
severity_named name =
    if bytes_eq name (codes "error") || bytes_eq name (codes "error: internal compiler error") then Some Error
    else if bytes_eq name (codes "warning") then Some Warning
    else if bytes_eq name (codes "note") then Some Note
    else if bytes_eq name (codes "help") then Some Help
    else if bytes_eq name (codes "failure-note") then Some Plain
    else None

-- whether a byte is a digit
abbrev pub is_digit : ℕ → Bool
is_digit b = nat_le 48 b && nat_le b 57

-- whether a code is that of an error: `E`, and digits, at least one
abbrev pub is_error_code : List ℕ → Bool
is_error_code code = option_map_or (λ digits. nat_lt 0 (length digits) && list_all is_digit digits) (after (codes "E") code) false

-- the label of a place: one that is empty says nothing
abbrev pub said_label : Option (List ℕ) → Option (List ℕ)
said_label None = None
said_label (Some []) = None
said_label (Some (b ∷ bs)) = Some (b ∷ bs)

-- the message of a diagnostic of a level with this name: that of an internal compiler error says what it is
abbrev pub message_for : Option (List ℕ) → List ℕ → List ℕ
message_for None message = message
message_for (Some level) message =
    if bytes_eq level (codes "error: internal compiler error") then codes "internal compiler error: " ++ message else message

-- a value says a level of this severity and this message
pub record IsHeading (d : Data) (severity : Severity) (message : List ℕ) : Type 0 where
  pub level : option_and_then severity_named (text_field (codes "level") d) ≡ Some severity
  pub text : List ℕ
  pub said : text_field (codes "message") d ≡ Some text
  pub is : message ≡ message_for (text_field (codes "level") d) text

-- where the code of an error is explained
abbrev pub code_address : List ℕ → List ℕ
code_address code = codes "https://doc.rust-lang.org/error_codes/" ++ (code ++ codes ".html")

-- a code as it is drawn: its name, and where it is explained
pub record CodeTold : Type 0 where
  pub id : List ℕ
  pub url : Option (List ℕ)

abbrev pub code_seen : Code → CodeTold
code_seen c = record { id = string_bytes c.id; url = option_map string_bytes c.url }

-- this code, where it is that of an error
abbrev pub error_code : List ℕ → Option CodeTold
error_code code = if is_error_code code then Some record { id = code; url = Some (code_address code) } else None

-- the code that a value says
abbrev pub code_in : Option Data → Option CodeTold
code_in None = None
code_in (Some e) = option_and_then error_code (text_field (codes "code") e)

-- the code of a diagnostic, as its field `code` says it, if it does
abbrev pub code_told : Data → Option CodeTold
code_told d = code_in (given (codes "code") d)

-- what a diagnostic is headed by is what a value says
pub record IsHeaded (d : Data) (diagnostic : Diagnostic) : Type 0 where
  pub heading : IsHeading d diagnostic.severity (string_bytes diagnostic.message)
  pub code : option_map code_seen diagnostic.code ≡ code_told d
  pub gone : diagnostic.shows_gone ≡ false

-- a diagnostic has the level, the message and the code of another
pub record KeepsHeading (old new : Diagnostic) : Type 0 where
  pub severity : new.severity ≡ old.severity
  pub message : new.message ≡ old.message
  pub code : new.code ≡ old.code
  pub gone : new.shows_gone ≡ old.shows_gone
