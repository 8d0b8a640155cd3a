-- What shortening never does to a diagnostic.
use Rattle.std.proofs.Common.{◌≡◌, ◌≢◌, ◌∙◌, ap, ℕ, List, [], ◌∷◌, ◌++◌, arith, inl, inr, length, subst, string_bytes}
use Rattle.std.proofs.lemmas.List.{length-append}
use Rattle.std.specs.List.{AllZip}
use Rattle.redraw_report.specs.declared.diagnostic.Diagnostic.{Diagnostic}
use Rattle.redraw_report.specs.declared.diagnostic.FileSpan.{FileSpan}
use Rattle.redraw_command.specs.Files.{IsBelow, IsShownFrom}
use Rattle.redraw_command.specs.Shortened.{IsDiagnosticFrom, IsPlaceFrom}

none_left : (folder : List ℕ) (place : FileSpan) (rest new : List FileSpan) → new ≡ [] → AllZip (IsPlaceFrom folder) (place ∷ rest) new → ⊥
none_left folder place rest [] none h = h
none_left folder place rest (other ∷ new) none h = cc none

-- a place is dropped
pub place_dropped : (folder : List ℕ) (old new : Diagnostic) (place : FileSpan) (rest : List FileSpan) → old.spans.items ≡ place ∷ rest
    → new.spans.items ≡ [] → IsDiagnosticFrom folder old new → ⊥
place_dropped folder old new place rest some none h =
    none_left folder place rest new.spans.items none (subst (λ (spans : List FileSpan). AllZip (IsPlaceFrom folder) spans new.spans.items) some h.places)

-- the level is another
pub level_changed : (folder : List ℕ) (old new : Diagnostic) → new.severity ≢ old.severity → IsDiagnosticFrom folder old new → ⊥
level_changed folder old new other h = other (ap (λ (d : Diagnostic). d.severity) h.rest)

-- a place is another in the file
pub region_changed : (folder : List ℕ) (old new : FileSpan) → new.region ≢ old.region → IsPlaceFrom folder old new → ⊥
region_changed folder old new other h = other (ap (λ (s : FileSpan). s.region) h.rest)

-- a path below the folder stays
pub path_kept : (folder rest : List ℕ) (old new : FileSpan) → IsBelow folder (string_bytes old.file) rest → string_bytes new.file ≡ string_bytes old.file
    → IsPlaceFrom folder old new → ⊥
path_kept folder rest old new below same h = kept h.path
  where
    longer : (front path : List ℕ) → path ≡ front ++ 47 ∷ path → ⊥
    longer front path is = let long = ap length is in absurd (omega (arith, long, length-append front (47 ∷ path)))

    kept : IsShownFrom folder (string_bytes old.file) (string_bytes new.file) → ⊥
    kept (inl is) = longer folder (string_bytes new.file) (same ∙ is.split)
    kept (inr (outside, is)) = outside rest below
