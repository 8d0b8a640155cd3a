use Rattle.snippet_labels.proofs.Common.{◌-◌, ◌^◌, arith}
use Rattle.snippet_labels.proofs.PlacedLemmas.{line_positions_low}
use Rattle.snippet_labels.proofs.positions.set_positions.Goals as goal

pub returns-then-flips-clause-low : goal.returns-then-flips-clause-low
returns-then-flips-clause-low c k d within =
    let low = line_positions_low (2 ^ 60 - 1) c.args.entries.now (λ i e inside. omega (arith, c.in_ok-set_label_positions.ensures.low i e inside)) in
    omega (arith, low k d within)
