-- A whole report as bytes, and how it is read.
use Rattle.std.specs.Prelude.{◌≡◌, ℕ, ◌^◌, ◌<◌, ◌==◌, List, [], ◌∷◌, length, Result, Ok, Err, if◌then◌else◌}
use Rattle.report_bytes.specs.declared.request.DrawRequest.{DrawRequest}
use Rattle.report_bytes.specs.Bytes.{IsGroupThen, IsListThen, list_then, settings_then, sheet_then}
use Rattle.report_bytes.specs.Reading.{◌>>=◌, after_group, after_list, after_settings, after_sheet, fault_at}
use Rattle.report_bytes.specs.Report.{IsGroup, IsListOf}
use Rattle.report_bytes.specs.declared.fault.ByteFault.{ByteFault}
use Rattle.report_bytes.specs.declared.fault.Wrong.TheVariants.{Kind, Short, Trailing}

-- the version of the form: none was its first byte before it had one, which is 0 or 1 there
abbrev pub version : ℕ
version = 3

-- what stands before the groups of a report: the version, its settings and its sheets
abbrev pub before_groups : DrawRequest → List ℕ → List ℕ
before_groups r rest = version ∷ settings_then r.settings (list_then sheet_then r.sheets.items rest)

-- bytes are those of a report over these texts that are kept: what stands before its groups, its groups, and nothing else. Where they name
-- a kept text by its number, the report has that text
unfoldable pub AreBytesOf : List (List ℕ) → DrawRequest → List ℕ → Type 0
AreBytesOf texts r bytes = (mid : List ℕ) × (bytes ≡ before_groups r mid) × IsListThen (IsGroupThen texts) r.groups.items mid []

-- a report that has bytes
abbrev pub IsReport : DrawRequest → Type 0
IsReport request = (length request.sheets.items < 2 ^ 64) × IsListOf IsGroup request.groups.items

-- nothing is left
abbrev pub ended : List ℕ → Result (List ℕ) ByteFault
ended [] = Ok []
ended (byte ∷ rest) = Err (fault_at Trailing (byte ∷ rest))

-- the version at the front
abbrev pub after_version : List ℕ → Result (List ℕ) ByteFault
after_version [] = Err (fault_at Short [])
after_version (byte ∷ rest) = if byte == version then Ok rest else Err (fault_at Kind (byte ∷ rest))

-- what is left of the bytes of a whole report over so many sources that are kept, nothing, or the first fault
unfoldable pub after_request : ℕ → List ℕ → Result (List ℕ) ByteFault
after_request kept bytes = do
  rest ← after_version bytes
  rest ← after_settings rest
  rest ← after_list after_sheet rest
  rest ← after_list (after_group kept) rest
  ended rest
