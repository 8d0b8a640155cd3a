-- What is kept in mind of the diagnostics of cargo that were drawn.
use Rattle.std.specs.Prelude.{◌≡◌, ◌≤◌, ◌⊎◌, ℕ, Bool, true, false, List, [], ◌∷◌, ◌++◌, Option, Some, None, MatchOption, codes, length}
use Rattle.std.specs.Prelude.{option_and_then}
use Rattle.std.specs.List.{list_any}
use Rattle.std.specs.List.Sorted.{IsPermutation}
use Rattle.std.specs.Str.{bytes_eq}
use Rattle.json_lines.specs.Field.{text_field}
use Rattle.serde_json.specs.Data.{Data, depth}
use Rattle.serde_json.specs.Read.{max_depth, read}
use Rattle.serde_json.specs.Written.{compact_text, has_float}
use Rattle.sha2.specs.Sha512.{sha512_256}
use Rattle.redraw_command.specs.declared.seen.SeenDiagnostics.{SeenDiagnostics}

-- a text that isn't empty
abbrev pub but_empty : List ℕ → Option (List ℕ)
but_empty [] = None
but_empty (b ∷ bs) = Some (b ∷ bs)

-- the text that rustc has of a diagnostic, if it isn't empty
abbrev pub own_text : Data → Option (List ℕ)
own_text d = option_and_then but_empty (text_field (codes "rendered") d)

-- the digest of all of a value of JSON: of a text that is read as that value where it nests as deep as is read, and that is the compact one
-- where the value has no number with a point or an exponent; and of a byte after it that is in no text, so that it isn't the digest of one
pub record IsDigestOfWhole (d : Data) (digest : List ℕ) : Type 0 where
  pub text : List ℕ
  pub reads_back : depth d ≤ max_depth → read text ≡ Some d
  pub compact : has_float d ≡ false → text ≡ compact_text d
  pub is : digest ≡ sha512_256 (text ++ 255 ∷ [])

-- the digest by which a diagnostic is told from others: of the text that rustc has of it, and of all of it where it has none
abbrev pub IsDigestOf : Data → List ℕ → Type 0
IsDigestOf d digest = MatchOption (own_text d) (IsDigestOfWhole d digest) (λ text. digest ≡ sha512_256 text)

-- the digests that are kept
abbrev pub digests_of : SeenDiagnostics → List (List ℕ)
digests_of s = s.digests.keys

-- whether a digest is among these
abbrev pub is_among : List ℕ → List (List ℕ) → Bool
is_among digest digests = list_any (bytes_eq digest) digests

-- how many digests are kept before all are forgotten
abbrev pub most_kept : ℕ
most_kept = 16384

-- a digest is kept that wasn't among these: beside them, or alone where too many are kept
abbrev pub Remembers : List ℕ → List (List ℕ) → List (List ℕ) → Type 0
Remembers digest old new = IsPermutation (digest ∷ old) new ⊎ ((most_kept ≤ length old) × IsPermutation (digest ∷ []) new)

-- what is answered of a value, and what is kept then: it was seen where its digest is kept, and then nothing changes; else its digest is
-- kept from then on
pub record Keeps (d : Data) (was : Bool) (old new : List (List ℕ)) : Type 0 where
  pub digest : List ℕ
  pub of : IsDigestOf d digest
  pub told : was ≡ is_among digest old
  pub same : was ≡ true → new ≡ old
  pub more : was ≡ false → Remembers digest old new

-- whether a finding was drawn before, which comes from a message of cargo or from none, and what is kept then: of one that comes from
-- none it isn't asked, nor where those are drawn again that cargo reports again
abbrev pub IsSeen : Option Data → Bool → Bool → (old new : List (List ℕ)) → Type 0
IsSeen None again was old new = (was ≡ false) × (new ≡ old)
IsSeen (Some message) true was old new = (was ≡ false) × (new ≡ old)
IsSeen (Some message) false was old new = Keeps message was old new
