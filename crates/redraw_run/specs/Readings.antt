-- Which of the readings that the JSON of a diagnostic leaves open is drawn: the one whose drawing is rustc's own text.
use Rattle.std.specs.Prelude.{◌≡◌, ℕ, ◌++◌, Bool, false, true, List, [], ◌∷◌, Option, Some, codes, if◌then◌else◌}
use Rattle.std.specs.List.{All}
use Rattle.std.specs.Option.{IfSome, option_map_or}
use Rattle.std.specs.Str.{bytes_eq}
use Rattle.program.specs.OptionSettings.{settings_of}
use Rattle.redraw_command.specs.declared.terminal.Markup.TheVariants.{Bare}
use Rattle.serde_json.specs.Data.{Data}
use Rattle.redraw_read.specs.Rustc.{IsPackagedAs, IsReadAs}
use Rattle.redraw_read.specs.declared.sources.File.{File}
use Rattle.redraw_report.specs.declared.diagnostic.Diagnostic.{Diagnostic}
use Rattle.redraw_run.specs.DrawnFinding.{ShowsFinding}
use Rattle.redraw_run.specs.declared.look.ReportRenderer.{ReportRenderer}

-- what a line is read as: what its value is, or what is in it, where it is a message of cargo
abbrev pub IsReadFrom : (is_cargo : Bool) → Data → Diagnostic → Type 0
IsReadFrom false d result = IsReadAs d result
IsReadFrom true d result = IsPackagedAs d result

-- as rustc draws: in the graphic form, without colours and links, in 140 columns, with line-drawing characters or in ASCII
abbrev pub rustc_look : Bool → ReportRenderer
rustc_look is_unicode =
    record {
      settings = settings_of record { unicode = is_unicode; text = false; short = false; styled = false; width = Some 140 };
      markup = Bare;
      is_workflow = false;
    }

-- a reading, and its drawing, where there is one
pub record Candidate : Type 0 where
  pub reading : Diagnostic
  pub drawing : Option (List ℕ)

-- its drawing is the text of its finding, the places looked for in some files
abbrev pub IsDrawnIn : ReportRenderer → Candidate → Type 0
IsDrawnIn look c = (files : List File) × IfSome c.drawing (ShowsFinding look files c.reading)

-- rustc ends its text with the end of the last row and an empty line
abbrev pub as_rustc_ends : List ℕ → List ℕ
as_rustc_ends drawing = drawing ++ codes "\n\n"

-- whether its drawing is this text of rustc's
abbrev pub is_meant : List ℕ → Candidate → Bool
is_meant text c = option_map_or (λ drawing. bytes_eq (as_rustc_ends drawing) text) c.drawing false

-- the report of a finding, drawn as rustc draws, is the text that rustc has of it, or isn't
abbrev pub IsComparison : Diagnostic → Bool → Type 0
IsComparison d is_same =
    (is_unicode : Bool) × (text : List ℕ) × (c : Candidate) × (c.reading ≡ d) × IsDrawnIn (rustc_look is_unicode) c × (is_meant text c ≡ is_same)

-- of some candidates the first that is meant, or this one where none is
abbrev pub chosen_or : Candidate → List ℕ → List Candidate → Candidate
chosen_or other text [] = other
chosen_or other text (c ∷ cs) = if is_meant text c then c else chosen_or other text cs

-- a reading is the one that is chosen among the first and some others
pub record IsChosenReading (look : ReportRenderer) (text : List ℕ) (d : Diagnostic) : Type 0 where
  pub first : Candidate
  pub others : List Candidate
  pub drawn : All (IsDrawnIn look) (first ∷ others)
  pub is : d ≡ (chosen_or first text (first ∷ others)).reading
