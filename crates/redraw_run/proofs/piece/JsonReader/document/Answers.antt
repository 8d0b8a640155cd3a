use Rattle.std.proofs.Common.{List, length, subst, take, ℕ, ◌≤◌}
use Rattle.redraw_command.specs.LookAhead.{ahead_of}
use Rattle.redraw_run.specs.Pieces.{IsOfForm}
use Rattle.redraw_run.proofs.Pieced.{document_found, some_within}
use Rattle.redraw_run.proofs.piece.JsonReader.document.Goals as goal

pub returns-in_ok-form-in-Some-clause-found : goal.returns-in_ok-form-in-Some-clause-found
returns-in_ok-form-in-Some-clause-found g c =
    let ahead : List ℕ = ahead_of c.end_of_document.new.ahead in
    let count : ℕ = c.in-Some.count in
    let within : count ≤ length ahead = some_within c.in_ok-count.field-0 count (length ahead) c.in-Some.is c.in_ok-count.ensures.within in
    document_found ahead count c.document_of.result within
    (c.document_of.ensures.document (take count ahead)
    (subst (λ (l : List ℕ). IsOfForm l c.in_ok-form-in-Some.form) c.front.ensures.value c.in_ok-form-in-Some.ensures.form))
