-- What holds of the rows of paths, and of separator rows, holds of each row that a snippet begins with.
use Rattle.snippet_titles.proofs.Common.{common_steps, arith, ℕ, Bool, true, false, Some, List, [], ◌∷◌, All, All-nil, All-cons, Cell, FileStart, First, Later}
use Rattle.snippet_titles.proofs.Common.{Secondary, OriginLocation, OriginLayout, file_row, origin_row, snippet_head, separator_row}

module _ (P : List Cell → Type 0) (layout : OriginLayout) (separator : P (separator_row layout.base.decor layout.base.gutter)) where
  -- a separator row after others
  ends : All P (separator_row layout.base.decor layout.base.gutter ∷ [])
  ends = All-cons P (separator_row layout.base.decor layout.base.gutter) [] separator (All-nil P)

  -- the head of a snippet without a path
  pub nameless_head-each : P (file_row layout Secondary) → All P (separator_row layout.base.decor layout.base.gutter ∷ file_row layout Secondary ∷ [])
  nameless_head-each file = grind (arith, common_steps, All-cons, All-nil)

  -- those of snippets with a path
  module _ (path : List ℕ) (place : OriginLocation) (origin : (start : FileStart) → P (origin_row layout start path place)) where
    -- of a primary file, or of what stands for it,
    pub primary_head-each : (first : Bool) → All P (snippet_head layout true first (Some path) place)
    primary_head-each true =
        All-cons P (origin_row layout First path place) (separator_row layout.base.decor layout.base.gutter ∷ []) (origin First) ends
    primary_head-each false =
        All-cons P (origin_row layout Later path place) (separator_row layout.base.decor layout.base.gutter ∷ []) (origin Later) ends

    -- and of another file
    pub secondary_head-each : All P (snippet_head layout false false (Some path) place)
    secondary_head-each = grind (arith, common_steps, All-cons, ends)
