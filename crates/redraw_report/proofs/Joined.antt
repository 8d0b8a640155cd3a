-- How the sources of places are gathered.
use Rattle.std.proofs.Common.{◌≡◌, ℕ, suc, arith, ◌+◌, ◌<◌, Bool, List, [], ◌∷◌, ◌++◌, length, slice_index_or, take, refl, sym, ap, ◌∙◌}
use Rattle.std.proofs.Math.Seq.{take-suc}
use Rattle.redraw_report.specs.declared.finding.MarkedSpan.{MarkedSpan}
use Rattle.redraw_report.specs.declared.finding.Shown.{Shown}
use Rattle.redraw_report.specs.Report.{with_source, with_sources}

-- the sources of places, and of one place more
sources-join : (primary : Bool) (order : List Shown) (ms : List MarkedSpan) (m : MarkedSpan)
    → with_sources primary order (ms ++ m ∷ []) ≡ with_source primary (with_sources primary order ms) m
sources-join primary order [] m = refl
sources-join primary order (n ∷ ns) m = sources-join primary (with_source primary order n) ns m

-- with one more mark the sources are those so far with its source
pub sources-next : (primary : Bool) (start : List Shown) (ms : List MarkedSpan) (i : ℕ) (d : MarkedSpan) (old new : List Shown)
    → old ≡ with_sources primary start (take i ms) → i < length ms → new ≡ with_source primary old (slice_index_or ms i d)
    → new ≡ with_sources primary start (take (i + 1) ms)
sources-next primary start ms i d old new so_far within next =
    let m = slice_index_or ms i d in
    let count : i + 1 ≡ suc i = omega arith in
    let taken : take (i + 1) ms ≡ take i ms ++ m ∷ [] = ap (λ n. take n ms) count ∙ take-suc ms i d within in
    next ∙ ap (λ o. with_source primary o m) so_far ∙ sym (sources-join primary start (take i ms) m)
    ∙ sym (ap (with_sources primary start) taken)
