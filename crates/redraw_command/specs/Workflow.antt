-- The workflow command of GitHub that a diagnostic is written as, and what a text becomes in it.
use Rattle.std.specs.Prelude.{ℕ, ◌==◌, ◌&&◌, Bool, true, false, List, [], ◌∷◌, ◌++◌, Option, Some, None, String, chars, codes, encode_utf8_all, string_bytes}
use Rattle.std.specs.Prelude.{if◌then◌else◌}
use Rattle.std.specs.Fmt.{decimal}
use Rattle.std.specs.Global.{Global}
use Rattle.std.specs.List.{find, flat_map}
use Rattle.std.specs.Option.{option_map}
use Rattle.redraw_report.specs.declared.diagnostic.Code.{Code}
use Rattle.redraw_report.specs.declared.diagnostic.Diagnostic.{Diagnostic}
use Rattle.redraw_report.specs.declared.diagnostic.FileSpan.{FileSpan}
use Rattle.redraw_report.specs.declared.diagnostic.LineRegion.{LineRegion}
use Rattle.redraw_report.specs.declared.diagnostic.Region.{Region}
use Rattle.redraw_report.specs.declared.diagnostic.Region.TheVariants as region
use Rattle.redraw_report.specs.declared.diagnostic.Severity.{Severity}
use Rattle.redraw_report.specs.declared.diagnostic.Severity.TheVariants.{Error, Warning, Info, Note, Help, Plain}
use Rattle.redraw_command.specs.Choice.{is_sum}
use Rattle.redraw_command.specs.Told.{normalized_text}
use Rattle.redraw_command.specs.declared.workflow.CommandPart.{CommandPart}
use Rattle.redraw_command.specs.declared.workflow.CommandPart.TheVariants.{Data, Property}

-- whether a part is the value of a property
abbrev pub is_property : CommandPart → Bool
is_property Data = false
is_property Property = true

-- what stands for a character: of a percent sign, a carriage return and a line feed the number, after a percent sign; of a colon and
-- a comma too where they stand in the value of a property; any other stands for itself
abbrev pub escape : CommandPart → ℕ → List ℕ
escape part c =
    if c == 37 then codes "%25"
    else if c == 13 then codes "%0D"
    else if c == 10 then codes "%0A"
    else if is_property part && c == 58 then codes "%3A"
    else if is_property part && c == 44 then codes "%2C"
    else c ∷ []

-- the characters of an escaped text
abbrev pub escaped : CommandPart → List ℕ → List ℕ
escaped part text = flat_map (escape part) text

-- a text as it stands in a part of a command
abbrev pub in_part : CommandPart → List ℕ → List ℕ
in_part part text = encode_utf8_all (escaped part (chars text))

-- the name of the command for a level; a text without a level has none
abbrev pub level_name : Severity → Option (List ℕ)
level_name Error = Some (codes "error")
level_name Warning = Some (codes "warning")
level_name Info = Some (codes "notice")
level_name Note = Some (codes "notice")
level_name Help = Some (codes "notice")
level_name Plain = None

-- the first of some places that is the point of the report
abbrev pub first_primary : List FileSpan → Option FileSpan
first_primary spans = find (λ (s : FileSpan). s.is_primary) spans

-- a property with this value, after what parts it from what stands before it
abbrev pub property : List ℕ → List ℕ → List ℕ → List ℕ
property separator name value = separator ++ (name ++ (codes "=" ++ in_part Property value))

-- a property that is a number, if there is one, after a comma
abbrev pub number_property : List ℕ → Option ℕ → List ℕ
number_property name None = []
number_property name (Some n) = codes "," ++ (name ++ (codes "=" ++ decimal n))

-- the columns of a region
abbrev pub columns_named : LineRegion → List ℕ
columns_named r = number_property (codes "col") r.start_column ++ number_property (codes "endColumn") r.end_column

-- the lines of a region, and its columns where it lies on one line
abbrev pub lines_named : LineRegion → List ℕ
lines_named r =
    number_property (codes "line") (Some r.start_line)
    ++ (number_property (codes "endLine") (Some r.end_line) ++ (if r.start_line == r.end_line then columns_named r else []))

abbrev pub region_named : Region → List ℕ
region_named (region.Lines r) = lines_named r
region_named (region.Bytes start end) = []
region_named (region.Chars start end unit) = []

-- where a finding is: the file of its place, and the lines of that
abbrev pub place_named : Option FileSpan → List ℕ
place_named None = []
place_named (Some s) = property (codes " ") (codes "file") (string_bytes s.file) ++ region_named s.region

-- what parts a property from what stands before it: a comma where that is a place, else a space
abbrev pub separator_after : Option FileSpan → List ℕ
separator_after None = codes " "
separator_after (Some s) = codes ","

-- the name of the rule that a finding breaks, as a title
abbrev pub code_named : List ℕ → Option Code → List ℕ
code_named separator None = []
code_named separator (Some c) = property separator (codes "title") (string_bytes c.id)

-- a label, after the message
abbrev pub label_said : Option (String Global) → List ℕ
label_said None = []
label_said (Some label) = codes ": " ++ in_part Data (string_bytes label)

-- what is said of a place, after the message
abbrev pub said_of : Option FileSpan → List ℕ
said_of None = []
said_of (Some s) = label_said s.label

-- a command of this name, before what is listed in it is replaced: its properties, the message, and what is said of the place
abbrev pub raw_command : List ℕ → Option FileSpan → Diagnostic → List ℕ
raw_command name place d =
    codes "::" ++ (name ++ (place_named place ++ (code_named (separator_after place) d.code
    ++ (codes "::" ++ (in_part Data (string_bytes d.message) ++ said_of place)))))

-- the command of a diagnostic, by its first primary place; a text without a level has none, and neither has one that only sums up others
abbrev pub command : Diagnostic → Option (List ℕ)
command d =
    if is_sum d then None
    else option_map (λ name. normalized_text (raw_command name (first_primary d.spans.items) d)) (level_name d.severity)
