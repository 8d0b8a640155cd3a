-- What a stream isn't given.
use Rattle.std.proofs.Common.{◌≡◌, ℕ, true, false, List, [], ◌∷◌, ◌++◌, Option, Some, arith, inl, inr, refl, length, ap, length-append}
use Rattle.program.specs.Stream.{Receives, Whole, CutShort, Told, ended_line}
use Rattle.output_stream.specs.Standing.{Standing}
use Rattle.output_stream.specs.declared.stream.Stream.{Stream}
use Rattle.output_stream.proofs.Writing.{gets_stays}

-- a stream whose writer holds this, and to which no write has failed, or one has
abbrev pub sound : List ℕ → Stream (Option (List ℕ))
sound held = record { writer = Some held; has_failed = false }

abbrev pub failed : List ℕ → Stream (Option (List ℕ))
failed held = record { writer = Some held; has_failed = true }

-- where no write failed all of what is told stands there, and nothing else
pub all_told : (text part : List ℕ) → Receives (λ held. held) (sound []) (sound part) (Told text) → part ≡ ended_line text
all_told text part (inl adds) = adds.added
all_told text part (inr breaks) = cc

-- so where nothing stands there, nothing was told
pub told_nothing : (text : List ℕ) → Receives (λ held. held) (sound []) (sound []) (Told text) → ⊥
told_nothing text told = omega (arith, ap length (all_told text [] told), length-append text (10 ∷ []))

-- no line is cut short where no write failed
pub cut_unfailed : (text part : List ℕ) → Receives (λ held. held) (sound []) (sound part) (CutShort text) → ⊥
cut_unfailed text part cut =
    let never : false ≡ true = cut.broken.failed in
    cc

-- nothing is written once a write has failed
pub told_after_failure : (text part : List ℕ) → Receives (λ held. held) (failed []) (failed part) (Told text) → part ≡ []
told_after_failure text part told =
    let same : Some part ≡ Some [] = ap (λ (s : Standing). s.held) (gets_stays _ _ _ told refl) in
    cc

-- a line that is written twice is not that line
pub twice_whole : (text : List ℕ) → Receives (λ held. held) (sound []) (sound (ended_line text ++ ended_line text)) (Whole text) → ⊥
twice_whole text whole =
    let long = length-append text (10 ∷ []) in
    let both = length-append (ended_line text) (ended_line text) in
    omega (arith, ap length whole.added, long, both)

-- nor a first part of it
pub twice_cut : (text : List ℕ) → Receives (λ held. held) (sound []) (failed (ended_line text ++ ended_line text)) (CutShort text) → ⊥
twice_cut text cut =
    let long = length-append text (10 ∷ []) in
    let both = length-append (ended_line text) (ended_line text) in
    let split = length-append cut.broken.part cut.broken.rest in
    omega (arith, ap length cut.broken.added, ap length cut.broken.split, split, long, both)
