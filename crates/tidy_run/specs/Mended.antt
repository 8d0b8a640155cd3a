-- A source with findings mended.
use Rattle.std.specs.Prelude.{ℕ, List, [], ◌∷◌, ◌++◌, drop}
use Rattle.std.specs.List.{slice_range}
use Rattle.tidy_run.specs.Findings.{Finding}

-- the source from a byte on, with the text of each of these findings in place of its bytes
abbrev pub mended : List ℕ → ℕ → List Finding → List ℕ
mended source at [] = drop at source
mended source at (f ∷ fs) = slice_range source at f.start ++ (f.text ++ mended source f.end fs)
