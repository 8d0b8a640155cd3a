use Rattle.snippet_splice.proofs.Common.{map, refl, sym, edit_of}
use Rattle.snippet_splice.proofs.OverlapLemmas.{disjoint-apart, first_overlap-none, first_overlap-only}
use Rattle.snippet_splice.proofs.overlap.check_patches.Goals as goal

pub returns-then-stand_apart : goal.returns-then-stand_apart
returns-then-stand_apart c =
    let apart = disjoint-apart c.args.source.now c.args.patches.now c.requires.spans (c.stand_apart.ensures.apart c.if-stand_apart.true) in
    record { some = tt; none = (λ _. apart, λ _. refl); value = sym (first_overlap-none (map edit_of c.args.patches.now) apart) }

pub returns-clause-value : goal.returns-clause-value
returns-clause-value c =
    first_overlap-only (map edit_of c.args.patches.now) c.first_overlap.result c.first_overlap.ensures.some c.first_overlap.ensures.none
