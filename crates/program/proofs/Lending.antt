-- What is given to a writer that is lent for a run, in words of what it holds.
use Rattle.std.proofs.Common.{◌≡◌, ◌≢◌, ◌⊎◌, ℕ, List, [], ◌++◌, Option, ap, inl, inr}
use Rattle.std.specs.Io.KnownBytes.{Appends}
use Rattle.program.specs.Lent.{IsLentFor}
use Rattle.program.specs.Stream.{CutShort, Silent, Told, Whole, ended_line}
use Rattle.output_stream.specs.Standing.{Gets, Standing}
use Rattle.output_stream.specs.declared.stream.Stream.{Stream}

-- what it holds grows by a first part of this, and that leaves the rest
abbrev AddsFirst : Option (List ℕ) → Option (List ℕ) → List ℕ → List ℕ → Type 0
AddsFirst old new bytes rest = (part : List ℕ) × (bytes ≡ part ++ rest) × Appends old new part

module _ {W : Type 0} (contents : W → Option (List ℕ)) (old new : W) where
  -- where nothing is given it is as it was
  pub silent : IsLentFor contents old new Silent → new ≡ old
  silent lent = ap (λ (s : Stream W). s.writer) lent.receives

  -- a line that is given whole stands there, and nothing else
  pub whole : (text : List ℕ) → IsLentFor contents old new (Whole text) → Appends (contents old) (contents new) (ended_line text)
  whole text lent = lent.receives.added

  -- of a line that is cut short a first part does, and not all
  pub cut : (text : List ℕ) → IsLentFor contents old new (CutShort text)
      → (rest : List ℕ) × (rest ≢ []) × AddsFirst (contents old) (contents new) (ended_line text) rest
  cut text lent =
      let broken = lent.receives.broken in
      (broken.rest, lent.receives.some_left, (broken.part, broken.split, broken.added))

  told_by : {a b : Standing} (text : List ℕ) → Gets a b (ended_line text)
      → Appends a.held b.held (ended_line text) ⊎ ((rest : List ℕ) × AddsFirst a.held b.held (ended_line text) rest)
  told_by text (inl adds) = inl adds.added
  told_by text (inr breaks) = inr (breaks.rest, (breaks.part, breaks.split, breaks.added))

  -- of a line that is told all does, or a first part
  pub told : (text : List ℕ) → IsLentFor contents old new (Told text)
      → Appends (contents old) (contents new) (ended_line text) ⊎ ((rest : List ℕ) × AddsFirst (contents old) (contents new) (ended_line text) rest)
  told text lent = told_by text lent.receives
