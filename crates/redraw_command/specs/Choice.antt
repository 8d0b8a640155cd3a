-- What is only a sum of other findings, and which findings are drawn.
use Rattle.std.specs.Prelude.{◌≡◌, ℕ, Bool, ◌&&◌, ◌||◌, List, [], ◌∷◌, Option, Some, None, codes, true, false, nat_eq, string_bytes}
use Rattle.std.specs.Borrow.{Bor}
use Rattle.std.specs.List.{Any, starts_with, ends_with}
use Rattle.std.specs.Str.Iter.{HasSubslice}
use Rattle.redraw_command.specs.declared.choice.Choice.{Choice}
use Rattle.redraw_command.specs.declared.choice.OutputForm.{OutputForm}
use Rattle.redraw_command.specs.declared.choice.OutputForm.TheVariants.{Report, Workflow, Verify}
use Rattle.redraw_command.specs.declared.choice.Least.{Least}
use Rattle.redraw_command.specs.declared.choice.Least.TheVariants as least
use Rattle.redraw_report.specs.declared.diagnostic.Diagnostic.{Diagnostic}
use Rattle.redraw_report.specs.declared.diagnostic.FileSpan.{FileSpan}
use Rattle.redraw_report.specs.declared.diagnostic.Severity.{Severity}
use Rattle.redraw_report.specs.declared.diagnostic.Severity.TheVariants.{Error, Warning, Info, Note, Help, Plain}

-- whether there are no places
abbrev pub are_none : List FileSpan → Bool
are_none [] = true
are_none (span ∷ spans) = false

-- whether a message says how many others there are
abbrev pub says_how_many : List ℕ → Bool
says_how_many message =
    starts_with nat_eq message (codes "aborting due to ")
    || (ends_with nat_eq message (codes " warning emitted") || ends_with nat_eq message (codes " warnings emitted"))

-- whether a diagnostic only sums up others, as rustc does in the end: it has no place, and its message says how many there are
abbrev pub is_sum : Diagnostic → Bool
is_sum d = are_none d.spans.items && says_how_many (string_bytes d.message)

-- whether findings of a level are drawn where these are asked for: errors alone, errors and warnings, or all
abbrev pub takes_level : Least → Severity → Bool
takes_level least.Error Error = true
takes_level least.Error Warning = false
takes_level least.Error Info = false
takes_level least.Error Note = false
takes_level least.Error Help = false
takes_level least.Error Plain = false
takes_level least.Warning Error = true
takes_level least.Warning Warning = true
takes_level least.Warning Info = false
takes_level least.Warning Note = false
takes_level least.Warning Help = false
takes_level least.Warning Plain = false
takes_level least.Any severity = true

-- a place is the point of a report, and the path of its file holds a text
abbrev pub IsIn : List ℕ → FileSpan → Type 0
IsIn text s = (s.is_primary ≡ true) × HasSubslice (string_bytes s.file) text

-- one of some places is such a one, where a text is asked for
abbrev pub AreIn : Option (Bor (List ℕ)) → List FileSpan → Type 0
AreIn None spans = Unit {0}
AreIn (Some text) spans = Any (IsIn text.now) spans

-- the folder that paths are shown from, by the form: rustc's texts, with which reports are compared, have the paths as they are
abbrev pub shown_from : OutputForm → Option (List ℕ) → Option (List ℕ)
shown_from Report folder = folder
shown_from Workflow folder = folder
shown_from Verify folder = None

-- a diagnostic is one of those that are asked for: by its level, and by its places
abbrev pub IsTaken : Choice → Diagnostic → Type 0
IsTaken c d = (takes_level c.least d.severity ≡ true) × AreIn c.path d.spans.items
