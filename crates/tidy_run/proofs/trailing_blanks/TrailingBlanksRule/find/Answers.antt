use Rattle.std.proofs.Common.{◌<◌, ◌≤◌, arith, ℕ, List, IfSome, length, subst, sym, ap, ◌∙◌}
use Rattle.std.specs.Option.{option_map}
use Rattle.tidy_run.specs.Findings.{IsRunAt, finding_of}
use Rattle.tidy_run.specs.Rules.{trailing_blanks_at}
use Rattle.tidy_run.proofs.BlankLemmas.{blanks-past}
use Rattle.tidy_run.proofs.FirstLemmas.{first-here, first-next}
use Rattle.tidy_run.proofs.RunLemmas.{run-finding}
use Rattle.tidy_run.proofs.trailing_blanks.TrailingBlanksRule.find.Goals as goal

pub returns-in-Some-clause-value : goal.returns-in-Some-clause-value
returns-in-Some-clause-value c =
    let bytes = c.as_bytes-bytes.ensures.value in
    let within : c.loop-at.at < length c.args.source.now = subst (λ (l : List ℕ). c.loop-at.at < length l) bytes c.loop-at-test.true in
    sym (c.loop-at.invariant ∙ first-here trailing_blanks_at c.args.source.now c.loop-at.at (finding_of c.in-Some.edit) (omega (arith, within))
    (ap (λ l. trailing_blanks_at l c.loop-at.at) (sym bytes) ∙ sym c.blanks_at.ensures.value ∙ ap (option_map finding_of) c.in-Some.is))

pub returns-in-Some-clause-finding : goal.returns-in-Some-clause-finding
returns-in-Some-clause-finding c =
    let bytes = c.as_bytes-bytes.ensures.value in
    let run = subst (λ r. IfSome r (λ edit. IsRunAt c.as_bytes-bytes.result.now c.loop-at.at (finding_of edit))) c.in-Some.is c.blanks_at.ensures.run in
    run-finding c.args.source.now c.args.from c.loop-at.at (finding_of c.in-Some.edit)
    (subst (λ (l : List ℕ). IsRunAt l c.loop-at.at (finding_of c.in-Some.edit)) bytes run) c.loop-at.auto.at

pub loop-at-preserved : goal.loop-at-preserved
loop-at-preserved c =
    let bytes = c.as_bytes-bytes.ensures.value in
    let within : c.loop-at.at < length c.args.source.now = subst (λ (l : List ℕ). c.loop-at.at < length l) bytes c.loop-at-test.true in
    c.loop-at.invariant ∙ first-next trailing_blanks_at c.args.source.now c.loop-at.at (omega (arith, within))
    (ap (λ l. trailing_blanks_at l c.loop-at.at) (sym bytes) ∙ sym c.blanks_at.ensures.value ∙ ap (option_map finding_of) c.in_default.is)

pub returns-clause-value : goal.returns-clause-value
returns-clause-value c =
    sym (c.loop-at.invariant ∙ blanks-past c.args.source.now c.loop-at.at
    (subst (λ (l : List ℕ). length l ≤ c.loop-at.at) c.as_bytes-bytes.ensures.value c.loop-at-test.false))
