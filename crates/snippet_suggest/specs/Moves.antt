-- What the patches before one move, as the code keeps it, and the edits that they are.
use Rattle.std.specs.Prelude.{◌≡◌, ◌+◌, ◌≤◌, All, List, sum_by, map}
use Rattle.snippet_splice.specs.EditStretches.{capped}
use Rattle.snippet_suggest.specs.declared.marks.Moves.{Moves}
use Rattle.snippet_suggest.specs.declared.marks.PatchColumns.{PatchColumns}
use Rattle.snippet_suggest.specs.declared.marks.Shift.{Shift}
use Rattle.snippet_splice.specs.declared.patches.TrimmedPatch.{TrimmedPatch}
use Rattle.snippet_splice.specs.Edits.{Edit}
use Rattle.snippet_splice.specs.TrimmedEdits.{trimmed_edit_of}

-- what some patches move
abbrev pub shift_of : List PatchColumns → Shift
shift_of earlier = record { right = capped (sum_by (λ c. c.width + c.start) earlier); left = capped (sum_by (λ c. c.end) earlier) }

-- the columns of these patches are kept, with what they move together, and a column that none of them ends after
pub record AreMoves (earlier : List PatchColumns) (m : Moves) : Type 0 where
  pub patches : m.patches.items ≡ earlier
  pub all : m.all ≡ shift_of earlier
  pub ends : All (λ c. c.end ≤ m.end) earlier

-- the edits that some trimmed patches are
abbrev pub edits_at : List TrimmedPatch → List Edit
edits_at patches = map trimmed_edit_of patches
