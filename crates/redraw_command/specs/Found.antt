-- What a file that a log names is judged to be.
use Rattle.std.specs.Prelude.{◌≡◌, Bool, true, false, is_some, string_bytes}
use Rattle.std.specs.Fs.{IsFile, file_type}
use Rattle.redraw_command.specs.Files.{lies_in}
use Rattle.redraw_command.specs.declared.found.Candidate.{Candidate}
use Rattle.redraw_command.specs.declared.found.Found.{Found}
use Rattle.redraw_command.specs.declared.found.Found.TheVariants as found

-- what becomes of a candidate: it is the file that may be read; or it lies elsewhere than below the folder; or it is no regular file
abbrev pub IsJudged : Candidate → Found → Type 0
IsJudged c (found.File file) = (file.folder ≡ c.folder) × (file.path ≡ c.path) × (file.about ≡ c.about)
IsJudged c found.Outside = lies_in c.folder (string_bytes c.path) ≡ false
IsJudged c found.Nothing = IsFile (file_type c.about) → ⊥

-- a file that may be read has to lie below a folder or not, and one that may not has to
abbrev pub IsBound : Bool → Found → Type 0
IsBound is_bound (found.File file) = is_some file.folder ≡ is_bound
IsBound is_bound found.Outside = is_bound ≡ true
IsBound is_bound found.Nothing = Unit {0}
