-- Ids of what stands in a page.
use Rattle.std.specs.Prelude.{ℕ, ◌==◌, if◌then◌else◌, List, [], ◌∷◌, ◌++◌, decimal, take}
use Rattle.hex.specs.Hex.{encode_lower}
use Rattle.sha2.specs.Sha256.{sha256}

-- the first bytes of the SHA-256 digest of a text
abbrev pub digest : List ℕ → List ℕ
digest text = take 8 (sha256 text)

-- the id of a report with this digest: its digits, and after those, unless it is the first with this digest, which one it is
abbrev pub report_id : List ℕ → ℕ → List ℕ
report_id digest number = encode_lower digest ++ (if number == 1 then [] else 45 ∷ decimal number)

-- the class of what lies in the file of this name: a letter and the digits of its digest
abbrev pub file_class : List ℕ → List ℕ
file_class name = 102 ∷ encode_lower (digest name)
