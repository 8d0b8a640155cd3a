use Rattle.std.proofs.Common.{◌≡◌, ◌≢◌, arith, ◌<◌, ◌≤◌, List, ℕ, length, slice_index_or, refl, subst, sym, ◌∙◌}
use Rattle.tidy_run.specs.Rules.{tab_at}
use Rattle.tidy_run.proofs.FirstLemmas.{first-here, first-next}
use Rattle.tidy_run.proofs.TabLemmas.{tab, tab-here, tab-none, tab-past, tab-finding}
use Rattle.tidy_run.proofs.tabs.TabsRule.find.Goals as goal

pub loop-at-init : goal.loop-at-init
loop-at-init c = refl

pub returns-then-bytes-at-eq9-clause-value : goal.returns-then-bytes-at-eq9-clause-value
returns-then-bytes-at-eq9-clause-value c =
    let bytes = c.as_bytes-bytes.ensures.value in
    let within : c.loop-at.at < length c.args.source.now = subst (λ (l : List ℕ). c.loop-at.at < length l) bytes c.loop-at-test.true in
    let is : slice_index_or c.args.source.now c.loop-at.at 0 ≡ 9 = subst (λ (l : List ℕ). slice_index_or l c.loop-at.at 0 ≡ 9) bytes c.if-bytes-at-eq9.true in
    sym (c.loop-at.invariant ∙ first-here tab_at c.args.source.now c.loop-at.at (tab c.loop-at.at) (omega (arith, within))
    (tab-here c.args.source.now c.loop-at.at is))

pub returns-then-bytes-at-eq9-clause-finding : goal.returns-then-bytes-at-eq9-clause-finding
returns-then-bytes-at-eq9-clause-finding c =
    let bytes = c.as_bytes-bytes.ensures.value in
    let within : c.loop-at.at < length c.args.source.now = subst (λ (l : List ℕ). c.loop-at.at < length l) bytes c.loop-at-test.true in
    let is : slice_index_or c.args.source.now c.loop-at.at 0 ≡ 9 = subst (λ (l : List ℕ). slice_index_or l c.loop-at.at 0 ≡ 9) bytes c.if-bytes-at-eq9.true in
    tab-finding c.args.source.now c.args.from c.loop-at.at c.utf8.source c.loop-at.auto.at within is

pub loop-at-preserved : goal.loop-at-preserved
loop-at-preserved c =
    let bytes = c.as_bytes-bytes.ensures.value in
    let within : c.loop-at.at < length c.args.source.now = subst (λ (l : List ℕ). c.loop-at.at < length l) bytes c.loop-at-test.true in
    c.loop-at.invariant ∙ first-next tab_at c.args.source.now c.loop-at.at (omega (arith, within))
    (tab-none c.args.source.now c.loop-at.at (subst (λ (l : List ℕ). slice_index_or l c.loop-at.at 0 ≢ 9) bytes c.if-bytes-at-eq9.false))

pub returns-clause-value : goal.returns-clause-value
returns-clause-value c =
    sym (c.loop-at.invariant ∙ tab-past c.args.source.now c.loop-at.at
    (subst (λ (l : List ℕ). length l ≤ c.loop-at.at) c.as_bytes-bytes.ensures.value c.loop-at-test.false))
