use Rattle.snippet_lines.proofs.Common.{◌≡◌, ◌+◌, ◌-◌, List, ℕ, length, min, subst, sym, ap, ◌∙◌, source_lines, start_of, line_of}
use Rattle.snippet_lines.proofs.PlaceLemmas.{HoldsByte-source, line_of-is}
use Rattle.snippet_lines.proofs.BoundsLemmas.{bounds-around, same_line}
use Rattle.snippet_lines.proofs.line_bounds.line_bounds.Goals as goal

bounds : (c : goal.After-line_end)
    → (c.line_start.result ≡ start_of (source_lines c.args.source.now) (line_of (source_lines c.args.source.now) c.args.byte))
    × (c.line_end.result ≡ start_of (source_lines c.args.source.now) (line_of (source_lines c.args.source.now) c.args.byte + 1))
bounds c =
    let start : ℕ = c.line_start.result in
    let end : ℕ = c.line_end.result in
    let bytes : List ℕ = c.as_bytes-bytes.result.now in
    let before = c.line_start.ensures in
    let after = c.line_end.ensures in
    let at : c.min-at.result ≡ min c.args.byte (length bytes - 1) = c.min-at.ensures ∙ ap (min c.args.byte) c.saturating_sub.ensures in
    subst (λ s. (start ≡ start_of (source_lines s) (line_of (source_lines s) c.args.byte))
    × (end ≡ start_of (source_lines s) (line_of (source_lines s) c.args.byte + 1))) c.as_bytes-bytes.ensures.value
    (bounds-around bytes c.args.byte c.min-at.result start end at before.before before.opens before.none after.within after.after after.closes after.none)

pub returns-clause-start : goal.returns-clause-start
returns-clause-start c = (bounds c).0

pub returns-clause-end : goal.returns-clause-end
returns-clause-end c = (bounds c).1

pub returns-clause-same_line : goal.returns-clause-same_line
returns-clause-same_line c =
    same_line c.args.source.now c.args.byte c.line_start.result c.line_end.result (bounds c).0 (bounds c).1

pub returns-clause-holds : goal.returns-clause-holds
returns-clause-holds c = HoldsByte-source c.args.source.now c.args.byte

pub returns-clause-only : goal.returns-clause-only
returns-clause-only c = λ k holds. sym (line_of-is (source_lines c.args.source.now) c.args.byte k holds)
