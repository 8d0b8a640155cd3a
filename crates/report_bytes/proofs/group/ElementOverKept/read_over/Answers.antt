use Rattle.std.proofs.Common.{List, ℕ, ◌∷◌, ap, ◌∙◌}
use Rattle.report_bytes.proofs.OverKept.{a_cause, a_suggestion}
use Rattle.report_bytes.proofs.group.ElementOverKept.read_over.Goals as goal

pub returns-in_ok-read-in-1-clause-spelled : goal.returns-in_ok-read-in-1-clause-spelled
returns-in_ok-read-in-1-clause-spelled c =
    let mid = c.in_ok-number.rest.now in
    let kind = c.in_ok-number.ensures.spelled ∙ ap (λ (k : ℕ). k ∷ mid) c.in-1.is in
    let read = c.in_ok-read-in-1 in
    a_cause c.args.kept.now read.read.snippet read.read.number c.args.bytes.now mid read.rest.now kind read.ensures.spelled read.ensures.number

pub returns-in_ok-read-in-2-clause-spelled : goal.returns-in_ok-read-in-2-clause-spelled
returns-in_ok-read-in-2-clause-spelled c =
    let mid = c.in_ok-number.rest.now in
    let kind = c.in_ok-number.ensures.spelled ∙ ap (λ (k : ℕ). k ∷ mid) c.in-2.is in
    let read = c.in_ok-read-in-2 in
    a_suggestion c.args.kept.now read.read.snippet read.read.number c.args.bytes.now mid read.rest.now kind read.ensures.spelled read.ensures.number
