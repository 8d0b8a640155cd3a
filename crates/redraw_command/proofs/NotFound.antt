-- What isn't found, and what doesn't pass through: wrong results, each of a small input, contradict the words of a contract.
use Rattle.std.proofs.Common.{◌≡◌, ℕ, List, Option, Some, None, String, Global, ap, arith, codes, length, string_bytes, subst, sym, true, ◌∙◌}
use Rattle.std.specs.Fs.{IsFile, file_type}
use Rattle.std.specs.Option.{option_map}
use Rattle.std.specs.declared.fs.attrs.Metadata.{Metadata}
use Rattle.redraw_command.specs.Files.{lies_in}
use Rattle.redraw_command.specs.Found.{IsJudged}
use Rattle.redraw_command.specs.Unheeded.{unheeded}
use Rattle.redraw_command.specs.declared.found.Candidate.{Candidate}
use Rattle.redraw_command.specs.declared.found.Found.TheVariants as found
use Rattle.redraw_command.specs.declared.found.FoundFile.{FoundFile}

-- a file elsewhere that may be read, here `/b` where the folder is `/a`
elsewhere : (folder : Option (String Global)) (path : List ℕ) → lies_in folder path ≡ true → option_map string_bytes folder ≡ Some (codes "/a/")
    → path ≡ codes "/b" → ⊥
elsewhere None path lies named at = cc named
elsewhere (Some folder) path lies named at =
    let bound : string_bytes folder ≡ codes "/a/" = cc named in
    let never : lies_in (Some folder) path ≡ true = lies in
    cc (rw (bound, at) at never)

pub elsewhere_read : (file : FoundFile) → option_map string_bytes file.folder ≡ Some (codes "/a/") → string_bytes file.path ≡ codes "/b" → ⊥
elsewhere_read file named at = elsewhere file.folder (string_bytes file.path) file.inside named at

-- a device or a pipe that may be read
pub device_read : (c : Candidate) (file : FoundFile) → (IsFile (file_type c.about) → ⊥) → IsJudged c (found.File file) → ⊥
device_read c file device judged = device (subst (λ (m : Metadata). IsFile (file_type m)) judged.2 file.regular)

-- a line that passes through as a command
pub command_passed : unheeded (codes "::error::none") ≡ codes "::error::none" → ⊥
command_passed is = absurd (omega (arith, ap length is))
