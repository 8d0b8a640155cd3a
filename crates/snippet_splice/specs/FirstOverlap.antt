-- Which edits overlap first, and whether any do, in a reader's words.
use Rattle.std.specs.Prelude.{◌≡◌, ℕ, ◌<◌, ◌≤◌, Bool, true, false, List, [], length, slice_index_or}
use Rattle.snippet_splice.specs.Edits.{Edit}
use Rattle.snippet_splice.specs.Overlap.{overlap}

-- no edit
abbrev pub no_edit : Edit
no_edit = record { start = 0; end = 0; text = [] }

-- whether edit m of some and edit n, given later, overlap
abbrev pub overlap_at : List Edit → ℕ → ℕ → Bool
overlap_at es m n = overlap (slice_index_or es m no_edit) (slice_index_or es n no_edit)

-- edit m of some and edit n, given later, overlap
pub record AreOverlapping (es : List Edit) (m n : ℕ) : Type 0 where
  pub before : m < n
  pub within : n < length es
  pub overlapping : overlap_at es m n ≡ true

-- the pair that is named, of those that overlap: that of the least first number, and of these that of the least second
pub record IsFirstOverlap (es : List Edit) (m n : ℕ) : Type 0 where
  pub is : AreOverlapping es m n
  pub least_first : (a b : ℕ) → AreOverlapping es a b → m ≤ a
  pub least_second : (b : ℕ) → AreOverlapping es m b → n ≤ b

-- no two of some edits overlap
abbrev pub AreDisjoint : List Edit → Type 0
AreDisjoint es =
    (m n : ℕ) → m < n → n < length es → overlap_at es m n ≡ false
