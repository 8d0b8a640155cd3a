use Rattle.std.proofs.Common.{List, subst, take, ℕ}
use Rattle.redraw_command.specs.LookAhead.{ahead_of}
use Rattle.redraw_run.specs.FindingLines.{AreOfFinding}
use Rattle.redraw_run.proofs.Pieced.{finding_ahead, piece_stays}
use Rattle.redraw_run.proofs.piece.with_rows.Goals as goal

pub returns-then-are_of_finding-clause-found : goal.returns-then-are_of_finding-clause-found
returns-then-are_of_finding-clause-found g c = λ left h.
    let ahead : List ℕ = ahead_of c.end_of_finding.new.ahead in
    let count : ℕ = c.in_ok-count.count in
    let are : AreOfFinding (take count ahead)
    = subst AreOfFinding c.front-2.ensures.value (c.are_of_finding.ensures.are c.if-are_of_finding.true) in
    finding_ahead left (ahead_of c.args.ahead.now) ahead c.args.line count c.in_ok-count.ensures.within.0 c.in_ok-count.ensures.within.1 are h

pub returns-else-are_of_finding-clause-found : goal.returns-else-are_of_finding-clause-found
returns-else-are_of_finding-clause-found g c = λ left h.
    piece_stays left (ahead_of c.args.ahead.now) (ahead_of c.end_of_finding.new.ahead) c.args.line c.in_ok-count.ensures.grows h
