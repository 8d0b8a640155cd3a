-- Which rule a result of a SARIF log has, how severe it is, and the name that its report has: by the result, and by its rule.
use Rattle.std.specs.Prelude.{ℕ, zero, suc, Bool, false, ◌||◌, List, [], ◌∷◌, Option, Some, None, codes, length, unwrap_or, string_bytes}
use Rattle.std.specs.Prelude.{bytes_eq, if◌then◌else◌, option_and_then, option_map}
use Rattle.std.specs.Char.{is_ascii_digit}
use Rattle.std.specs.List.{list_all, slice_get}
use Rattle.std.specs.Option.{option_map_or, option_or}
use Rattle.serde_json.specs.Data.{Data}
use Rattle.serde_json.specs.Find.{as_array, as_str, get}
use Rattle.serde_json.specs.View.{view}
use Rattle.json_lines.specs.Field.{as_whole, text_field}
use Rattle.json_lines.specs.Lenient.{field_in, number_at, object_at, text_at, text_in, values}
use Rattle.redraw_report.specs.declared.diagnostic.Code.{Code}
use Rattle.redraw_report.specs.declared.diagnostic.Severity.{Severity}
use Rattle.redraw_report.specs.declared.diagnostic.Severity.TheVariants.{Error, Warning, Info, Note, Help, Plain}
use Rattle.redraw_tools.specs.Cut.{Parts, parted_last}
use Rattle.redraw_tools.specs.declared.rule.SarifRule.{SarifRule}

-- the rule of a result, where its tool has it
abbrev pub rule_data : SarifRule → Option Data
rule_data rule = option_map (λ v. view v.now) rule.rule

-- the part of the tool that has it
abbrev pub part_data : SarifRule → Option Data
part_data rule = option_map (λ v. view v.now) rule.component

-- the level of a name: `none` is a note too
abbrev pub level_named : List ℕ → Option Severity
level_named name =
    if bytes_eq name (codes "error") then Some Error
    else if bytes_eq name (codes "warning") then Some Warning
    else if bytes_eq name (codes "note") || bytes_eq name (codes "none") then Some Note
    else None

-- the level that a rule gives its results
abbrev pub rule_level : Option Data → Option Severity
rule_level rule = option_and_then level_named (text_in (codes "level") (field_in (codes "defaultConfiguration") rule))

-- the level of a result that says none: a note if its kind isn't `fail`, else its rule's, else a warning
abbrev pub level_by_kind : (kind : Option (List ℕ)) → Option Data → Severity
level_by_kind None rule = unwrap_or (rule_level rule) Warning
level_by_kind (Some kind) rule = if bytes_eq kind (codes "fail") then unwrap_or (rule_level rule) Warning else Note

abbrev pub other_level : Data → Option Data → Severity
other_level result rule = level_by_kind (text_at (codes "kind") result) rule

-- the level that a result says
abbrev pub own_level : Data → Option Severity
own_level result = option_and_then level_named (text_at (codes "level") result)

-- the level of a result: the one that it says, if it does
abbrev pub level_of : Data → Option Data → Severity
level_of result rule = unwrap_or (own_level result) (other_level result rule)

-- the id of the rule as a result has it: `ruleId`, and only where that isn't there `rule.id`
abbrev pub id_in : Option Data → Data → Option (List ℕ)
id_in (Some id) result = as_str id
id_in None result = text_in (codes "id") (get (codes "rule") result)

abbrev pub own_id : Data → Option (List ℕ)
own_id result = id_in (get (codes "ruleId") result) result

-- whether a name is that of a level
abbrev pub is_level : List ℕ → Severity → Bool
is_level name Error = bytes_eq name (codes "error")
is_level name Warning = bytes_eq name (codes "warning")
is_level name Note = bytes_eq name (codes "note")
is_level name Info = false
is_level name Help = false
is_level name Plain = false

-- whether a name is nothing but digits
abbrev pub is_number : List ℕ → Bool
is_number name = list_all is_ascii_digit name

-- whether a name says nothing of a result of this level: it is a number, as clang counts its rules, or the level's, as GCC names what no
-- option is for
abbrev pub says_nothing : List ℕ → Severity → Bool
says_nothing name severity = is_number name || is_level name severity

-- a name and the address of its page, as a report has them
abbrev pub Named : Type 0
Named = List ℕ × Option (List ℕ)

abbrev pub code_view : Option Code → Option Named
code_view code = option_map (λ (c : Code). (string_bytes c.id, option_map string_bytes c.url)) code

-- the id of a result: its own, else that of its rule
abbrev pub any_name : Data → Option Data → Option (List ℕ)
any_name result rule = option_or (own_id result) (text_in (codes "id") rule)

-- the name that a report of a result has: its id, unless it says nothing; and the rule's page
abbrev pub if_said : Severity → List ℕ → Option (List ℕ)
if_said severity name = if says_nothing name severity then None else Some name

abbrev pub said_name : Severity → Data → Option Data → Option (List ℕ)
said_name severity result rule = option_and_then (if_said severity) (any_name result rule)

abbrev pub name_of : Severity → Data → Option Data → Option Named
name_of severity result rule = option_map (λ name. (name, text_in (codes "helpUri") rule)) (said_name severity result rule)

-- the values of the list in the field of a name in what is there
abbrev pub items_in : List ℕ → Option Data → List Data
items_in name d = values (option_and_then as_array (field_in name d))

-- a part of the tool of a run: the extension with this number, and the driver where none is named
abbrev pub tool_part : Data → Option ℕ → Option Data
tool_part run None = field_in (codes "driver") (get (codes "tool") run)
tool_part run (Some number) = slice_get (items_in (codes "extensions") (get (codes "tool") run)) number

-- the part of the tool that has the rule of a result
abbrev pub extension_in : Data → Option ℕ
extension_in result = option_and_then as_whole (field_in (codes "index") (field_in (codes "toolComponent") (get (codes "rule") result)))

abbrev pub part_with_rule : Data → Data → Option Data
part_with_rule run result = tool_part run (extension_in result)

-- whether a rule has this id, which isn't empty
abbrev pub has_id : List ℕ → Data → Bool
has_id [] rule = false
has_id (c ∷ cs) rule = option_map_or (λ own. bytes_eq own (c ∷ cs)) (text_field (codes "id") rule) false

-- the number of the first of some rules that has this id
abbrev pub first_with : List ℕ → List Data → Option ℕ
first_with id [] = None
first_with id (rule ∷ rules) = if has_id id rule then Some 0 else option_map suc (first_with id rules)

-- a name without its last part, as `CA1000` of `CA1000/1`
abbrev pub shorter : List ℕ → Option (List ℕ)
shorter name = option_map (λ (p : Parts). p.0) (parted_last (47 ∷ []) name)

-- the number of the first rule of this id, or else of the longest id of which it is a part, of so many that are tried
abbrev pub named_within : ℕ → List Data → List ℕ → Option ℕ
named_within zero rules id = None
named_within (suc n) rules id = option_or (first_with id rules) (option_and_then (named_within n rules) (shorter id))

abbrev pub named : List Data → List ℕ → Option ℕ
named rules id = named_within (length id) rules id

-- the number of its rule that a result has
abbrev pub own_number : Data → Option ℕ
own_number result = option_or (option_and_then (number_at (codes "index")) (object_at (codes "rule") result)) (number_at (codes "ruleIndex") result)

-- the number of a result's rule among these: its own, else that of the first with its id
abbrev pub rule_number : List Data → Data → Option ℕ
rule_number rules result = option_or (own_number result) (named rules (unwrap_or (own_id result) []))

-- the rule of a result, where the part of the tool has it
abbrev pub rule_among : List Data → Data → Option Data
rule_among rules result = option_and_then (slice_get rules) (rule_number rules result)

abbrev pub rule_in : Data → Data → Option Data
rule_in run result = rule_among (items_in (codes "rules") (part_with_rule run result)) result

-- the text of this name among the strings of this kind that a rule or a part of the tool has
abbrev pub string_in : List ℕ → List ℕ → Option Data → Option (List ℕ)
string_in strings name d = text_in (codes "text") (field_in name (field_in strings d))

-- the text of this name that a rule has, else that of the part of the tool
abbrev pub message_string : Option Data → Option Data → List ℕ → Option (List ℕ)
message_string part rule name = option_or (string_in (codes "messageStrings") name rule) (string_in (codes "globalMessageStrings") name part)
