-- A diagnostic whose paths are shown from a folder.
use Rattle.std.specs.Prelude.{◌≡◌, ℕ, List, Option, Some, None, string_bytes}
use Rattle.std.specs.Global.{Vec}
use Rattle.std.specs.List.{AllZip}
use Rattle.redraw_command.specs.Files.{IsShownFrom}
use Rattle.redraw_report.specs.declared.diagnostic.Child.{Child}
use Rattle.redraw_report.specs.declared.diagnostic.Diagnostic.{Diagnostic}
use Rattle.redraw_report.specs.declared.diagnostic.FileSpan.{FileSpan}
use Rattle.redraw_report.specs.declared.diagnostic.SuggestedEdit.{SuggestedEdit}

-- a place, and the same with its path as it is shown from a folder
pub record IsPlaceFrom (folder : List ℕ) (old new : FileSpan) : Type 0 where
  pub path : IsShownFrom folder (string_bytes old.file) (string_bytes new.file)
  pub rest : new ≡ record old { file = new.file }

-- the same of an edit
pub record IsEditFrom (folder : List ℕ) (old new : SuggestedEdit) : Type 0 where
  pub path : IsShownFrom folder (string_bytes old.file) (string_bytes new.file)
  pub rest : new ≡ record old { file = new.file }

-- the same of each edit of an alternative
abbrev pub AreEditsFrom : List ℕ → Vec SuggestedEdit → Vec SuggestedEdit → Type 0
AreEditsFrom folder old new = AllZip (IsEditFrom folder) old.items new.items

-- a child, and the same with the paths of its places and edits as they are shown from a folder
pub record IsChildFrom (folder : List ℕ) (old new : Child) : Type 0 where
  pub places : AllZip (IsPlaceFrom folder) old.spans.items new.spans.items
  pub edits : AllZip (AreEditsFrom folder) old.alternatives.items new.alternatives.items
  pub rest : new ≡ record old { spans = new.spans; alternatives = new.alternatives }

-- a diagnostic, and the same with each path of its places and children as it is shown from a folder
pub record IsDiagnosticFrom (folder : List ℕ) (old new : Diagnostic) : Type 0 where
  pub places : AllZip (IsPlaceFrom folder) old.spans.items new.spans.items
  pub children : AllZip (IsChildFrom folder) old.children.items new.children.items
  pub rest : new ≡ record old { spans = new.spans; children = new.children }

-- a diagnostic as it is shown: from a folder, where there is one, and else as it is
abbrev pub IsShownOf : Option (List ℕ) → Diagnostic → Diagnostic → Type 0
IsShownOf None old new = new ≡ old
IsShownOf (Some folder) old new = IsDiagnosticFrom folder old new
