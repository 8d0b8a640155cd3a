use Rattle.snippet_splice.proofs.Common.{◌≡◌, ℕ, List, ◌++◌, length, sym, ap, ◌∙◌, IsSandwiched, IsSandwich}
use Rattle.snippet_splice.proofs.TrimLemmas.{IsSandwich-begins, IsSandwich-ends, IsSandwich-parts, sandwiched-longer}
use Rattle.snippet_splice.proofs.TrimLemmas.{sandwiched-parts, sandwich-is, sandwich-none}
use Rattle.snippet_splice.proofs.trim.as_substr.Goals as goal

pub returns-in-Some-clause-value : goal.returns-in-Some-clause-value
returns-in-Some-clause-value c =
    let (n, found, is, fits) = c.in-Some.ensures.cases in
    let e : c.args.replacement.now ≡ c.args.original.now ++ c.in-Some.middle.now = cc in
    sym (sandwich-is _ _ _ _ _ (IsSandwich-begins c.args.original.now c.args.replacement.now c.in-Some.middle.now e))

pub returns-in-Some-strip_suffix-clause-value : goal.returns-in-Some-strip_suffix-clause-value
returns-in-Some-strip_suffix-clause-value c =
    let (n, found, is, fits) = c.in-Some-strip_suffix.ensures.cases in
    let e : c.args.replacement.now ≡ c.in-Some-strip_suffix.middle.now ++ c.args.original.now = cc in
    sym (sandwich-is _ _ _ _ _ (IsSandwich-ends _ _ c.in-Some-strip_suffix.middle.now c.utf8.original e c.in_default.ensures.cases))

pub returns-in-Some-strip_suffix-2 : goal.returns-in-Some-strip_suffix-2
returns-in-Some-strip_suffix-2 c =
    let o : List ℕ = c.args.original.now in
    let r : List ℕ = c.args.replacement.now in
    let middle : List ℕ = c.in-Some-strip_suffix-2.middle.now in
    let rest : List ℕ = c.range_from-rest.result.now in
    let kept = c.common_prefix-kept in
    let (n, found, is, fits) = c.in-Some-strip_suffix-2.ensures.cases in
    let inside : IsSandwich o r kept.result middle (length rest) = IsSandwich-parts o r kept.result middle rest c.range_from.result.now
    (record { border = kept.ensures.border; other_border = kept.ensures.other_border; same = kept.ensures.same; longest = kept.ensures.longest })
    c.in_default.ensures.cases c.in_default-strip_suffix.ensures.cases c.range_from-rest.ensures.value c.range_from.ensures.value
    (found.1 ∙ ap (λ l. l ++ rest) (sym is)) in
    record { some = inside; none = tt; value = sym (sandwich-is o r _ _ _ inside) }

pub returns-in-None : goal.returns-in-None
returns-in-None c =
    let o : List ℕ = c.args.original.now in
    let r : List ℕ = c.args.replacement.now in
    let kept = c.common_prefix-kept in
    let none : (a : ℕ) (m : List ℕ) (b : ℕ) → IsSandwiched o r a m b → ⊥ =
    sandwiched-parts o r kept.result c.range_from-rest.result.now c.range_from.result.now
    (record { border = kept.ensures.border; other_border = kept.ensures.other_border; same = kept.ensures.same; longest = kept.ensures.longest })
    c.range_from-rest.ensures.value c.range_from.ensures.value c.in-None.ensures.cases in
    record { some = tt; none = none; value = sym (sandwich-none o r none) }

pub returns-then-replacement-original : goal.returns-then-replacement-original
returns-then-replacement-original c =
    let none = sandwiched-longer c.args.original.now c.args.replacement.now c.if-replacement-original.true c.in_default.ensures.cases in
    record { some = tt; none = none; value = sym (sandwich-none c.args.original.now c.args.replacement.now none) }
