-- What the rules find in small sources, and results that are none of theirs.
use Rattle.std.proofs.Common.{◌≡◌, ℕ, List, refl, sym, ap, ◌∙◌, [], ◌∷◌, ◌++◌, codes, length, map, arith}
use Rattle.annotate_snippets.specs.declared.snippet.Element.TheVariants.{Suggestion}
use Rattle.annotate_snippets.specs.declared.snippet.Group.{Group}
use Rattle.annotate_snippets.specs.declared.snippet.Patch.{Patch}
use Rattle.annotate_snippets.specs.declared.snippet.Snippet.{Snippet}
use Rattle.tidy_run.specs.Findings.{Finding, findings_of}
use Rattle.tidy_run.specs.Report.{IsHelp, mended_by}
use Rattle.tidy_run.specs.Rules.{first_from, missing_end_at, tab_at, trailing_blanks_at}

-- two spaces at a line's end
blanks-before-a-line-feed : findings_of (first_from trailing_blanks_at (codes "x  " ++ 10 ∷ [])) (codes "x  " ++ 10 ∷ [])
    ≡ record { start = 1; end = 3; text = [] } ∷ []
unfolding findings_of first_from
blanks-before-a-line-feed = refl

-- blanks inside a line stay, and those before CR LF and at the source's end go
blanks-of-two-lines : findings_of (first_from trailing_blanks_at (codes "a b " ++ 13 ∷ 10 ∷ 9 ∷ [])) (codes "a b " ++ 13 ∷ 10 ∷ 9 ∷ [])
    ≡ record { start = 3; end = 4; text = [] } ∷ record { start = 6; end = 7; text = [] } ∷ []
unfolding findings_of first_from
blanks-of-two-lines = refl

-- a tab before a letter, and one after it
two-tabs : findings_of (first_from tab_at (9 ∷ 121 ∷ 9 ∷ 10 ∷ [])) (9 ∷ 121 ∷ 9 ∷ 10 ∷ [])
    ≡ record { start = 0; end = 1; text = codes "    " } ∷ record { start = 2; end = 3; text = codes "    " } ∷ []
unfolding findings_of first_from
two-tabs = refl

-- a source without a final line feed
no-final-line-end : findings_of (first_from missing_end_at (codes "z")) (codes "z")
    ≡ record { start = 1; end = 1; text = 10 ∷ [] } ∷ []
unfolding findings_of first_from
no-final-line-end = refl

-- an empty source, and one that ends with a line feed
nothing-in-an-empty-source : findings_of (first_from missing_end_at []) [] ≡ []
unfolding findings_of first_from
nothing-in-an-empty-source = refl

nothing-after-a-final-line-feed : findings_of (first_from missing_end_at (codes "ok" ++ 10 ∷ [])) (codes "ok" ++ 10 ∷ []) ≡ []
unfolding findings_of first_from
nothing-after-a-final-line-feed = refl

-- the last finding dropped: of the two tabs of that source the first alone
last_finding_dropped : record { start = 0; end = 1; text = codes "    " } ∷ [] ≡ findings_of (first_from tab_at (9 ∷ 121 ∷ 9 ∷ 10 ∷ [])) (9 ∷ 121 ∷ 9 ∷ 10 ∷ [])
    → ⊥
last_finding_dropped same = absurd (omega (arith, ap length (same ∙ two-tabs)))

-- a help without patches, where a rule found something
report_without_patches : (path source : List ℕ) (f : Finding) (group : Group) (s : Snippet Patch) → group.elements.items ≡ Suggestion s ∷ []
    → s.markers.items ≡ [] → IsHelp path source (f ∷ []) group → ⊥
report_without_patches path source f group s holds none help =
    let same : help.snippet ≡ s = cc (holds, help.is.elements) in
    let patches : [] ≡ f ∷ [] = ap (map mended_by) (sym none) ∙ ap (λ (t : Snippet Patch). map mended_by t.markers.items) (sym same) ∙ help.patches in
    cc
