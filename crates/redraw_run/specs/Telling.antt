-- What is told of a finding that is drawn as a report, beside its report.
use Rattle.std.specs.Prelude.{◌≡◌, ◌==◌, ◌⊎◌, ℕ, zero, suc, Bool, List, length}
use Rattle.output_stream.specs.Standing.{Standing}
use Rattle.redraw_command.specs.Told.{Tells}
use Rattle.redraw_read.specs.Counted.{clamped_in, undrawn_in}
use Rattle.redraw_read.specs.Loaded.{Loads, named_files}
use Rattle.redraw_read.specs.Placed.{hand_for, home_of}
use Rattle.redraw_read.specs.declared.sources.File.{File}
use Rattle.redraw_report.specs.declared.diagnostic.Diagnostic.{Diagnostic}
use Rattle.redraw_run.specs.ReadLines.{TellsUnless}

-- so many messages are told, one after another, and nothing else
abbrev pub TellsMany : ℕ → (old new : Standing) → Type 0
TellsMany zero old new = new ≡ old
TellsMany (suc n) old new = (last : Standing) × TellsMany n old last × Tells last new

-- before a report, which is drawn on one line or not, one message is told of each file that couldn't be read, of those that the finding
-- names and of those of which it wasn't told yet (untold); then one where places aren't in their sources as they were given; and one where
-- alternatives aren't drawn
pub record TellsOf (is_short : Bool) (first files : List File) (untold : List (List ℕ)) (d : Diagnostic) (old new : Standing) : Type 0 where
  pub unread : List (List ℕ)
  pub loads : Loads (home_of d.homes.items) (named_files d) first files untold unread
  pub named : Standing
  pub each_file : TellsMany (length unread) old named
  pub placed : Standing
  pub places : TellsUnless (clamped_in (hand_for files is_short d) d == 0) named placed
  pub alternatives : TellsUnless (undrawn_in (hand_for files is_short d) d == 0) placed new

-- that is told, and where the report is refused one more message
abbrev pub TellsAbout : Bool → (first files : List File) → List (List ℕ) → Diagnostic → (old new : Standing) → Type 0
TellsAbout is_short first files untold d old new =
    (before : Standing) × TellsOf is_short first files untold d old before × ((new ≡ before) ⊎ Tells before new)
