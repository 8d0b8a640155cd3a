-- The path that an address of a file names.
use Rattle.std.specs.Prelude.{ℕ, zero, suc, ◌==◌, ◌||◌, Bool, false, List, [], ◌∷◌, ◌++◌, Option, Some, None, codes, is_some, length, unwrap_or}
use Rattle.std.specs.Prelude.{if◌then◌else◌, option_and_then, option_map}
use Rattle.serde_json.specs.Data.{Data}
use Rattle.serde_json.specs.Find.{get}
use Rattle.json_lines.specs.Field.{lent_text, text_field}
use Rattle.json_lines.specs.Lenient.{field_in}
use Rattle.std.specs.Str.Lossy.{utf8_valid_len}
use Rattle.percent_encoding.specs.Percent.{percent_decode}
use Rattle.redraw_tools.specs.Cut.{after, before}
use Rattle.redraw_tools.specs.declared.uri.Address as declared

-- whether a path begins with a slash, the letter of a drive and a colon
abbrev pub has_drive : List ℕ → Bool
has_drive (slash ∷ letter ∷ colon ∷ path) = if slash == 47 then colon == 58 else false
has_drive path = false

-- what stands after the slashes of an empty host, and a path without the slash before the letter of a drive
abbrev pub without_host : List ℕ → List ℕ
without_host rest = unwrap_or (after (codes "//") rest) rest

abbrev pub without_slash : List ℕ → List ℕ
without_slash path = if has_drive path then unwrap_or (after (codes "/") path) path else path

-- an address without `file:` and an empty host; another one without `./` before it
abbrev pub local_by : Option (List ℕ) → List ℕ → List ℕ
local_by (Some rest) uri = without_slash (without_host rest)
local_by None uri = unwrap_or (after (codes "./") uri) uri

abbrev pub local : List ℕ → List ℕ
local uri = local_by (after (codes "file:") uri) uri

-- a path with characters for its escapes, unless these don't give characters
abbrev pub if_text : (bytes path : List ℕ) → List ℕ
if_text bytes path = if utf8_valid_len bytes == length bytes then bytes else path

abbrev pub decoded : List ℕ → List ℕ
decoded path = if_text (percent_decode path) path

-- the path that an address names
abbrev pub path_of : List ℕ → List ℕ
path_of uri = decoded (local uri)

-- an address below another one
abbrev pub slash_after : List ℕ → List ℕ
slash_after base = if length base == 0 || is_some (before (codes "/") base) then [] else codes "/"

abbrev pub joined : (base uri : List ℕ) → List ℕ
joined base uri = base ++ (slash_after base ++ uri)

-- an address after the one of its base, which may have none
abbrev pub after_base : Data → List ℕ → List ℕ
after_base location uri = unwrap_or (option_map (λ base. joined base uri) (text_field (codes "uri") location)) uri

-- the base of a name that a run has
abbrev pub base_location : Data → Option (List ℕ) → Option Data
base_location run base = option_and_then (λ id. field_in id (get (codes "originalUriBaseIds") run)) base

-- an address after the base of a name, which may have a base itself, but after no more than so many
unfoldable pub based : ℕ → Data → Option (List ℕ) → List ℕ → List ℕ
based zero run base uri = uri
based (suc n) run base uri =
    unwrap_or (option_map (λ l. based n run (text_field (codes "uriBaseId") l) (after_base l uri)) (base_location run base)) uri

-- an address, and the name of its base
abbrev pub Address : Type 0
Address = List ℕ × Option (List ℕ)

abbrev pub address_view : declared.Address → Address
address_view a = (a.uri.now, lent_text a.base)

-- the path that an address names after its bases
abbrev pub path_at : Data → Address → List ℕ
path_at run a = path_of (based 16 run a.1 a.0)
