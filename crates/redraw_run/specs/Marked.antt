-- A finding that lines tell of, whose places are marked in their files.
use Rattle.std.specs.Prelude.{◌≡◌, ℕ, List, Some}
use Rattle.std.specs.List.{AllZip}
use Rattle.std.specs.Str.{IsUtf8}
use Rattle.redraw_report.specs.declared.diagnostic.Child.{Child}
use Rattle.redraw_report.specs.declared.diagnostic.Diagnostic.{Diagnostic}
use Rattle.redraw_report.specs.declared.diagnostic.FileSpan.{FileSpan}
use Rattle.redraw_report.specs.declared.diagnostic.Unit.{Unit}
use Rattle.redraw_tools.specs.Found.{found_view}
use Rattle.redraw_tools.specs.Told.{reported}

-- a place, and the same as another part of its file
abbrev pub IsPlaceMarked : FileSpan → FileSpan → Type 0
IsPlaceMarked old new = new ≡ record old { region = new.region }

-- a child, and the same with its places marked
pub record IsChildMarked (old new : Child) : Type 0 where
  pub places : AllZip IsPlaceMarked old.spans.items new.spans.items
  pub rest : new ≡ record old { spans = new.spans }

-- a finding, and the same with its places and those of its children marked
pub record IsMarked (old new : Diagnostic) : Type 0 where
  pub places : AllZip IsPlaceMarked old.spans.items new.spans.items
  pub children : AllZip IsChildMarked old.children.items new.children.items
  pub rest : new ≡ record old { spans = new.spans; children = new.children }

-- a finding is what some lines report, where their columns count in this unit, with its places marked
abbrev pub IsToldIn : Unit → List ℕ → Diagnostic → Type 0
IsToldIn unit lines d = (told : Diagnostic) × (IsUtf8 lines → Some (found_view told) ≡ reported unit lines) × IsMarked told d
