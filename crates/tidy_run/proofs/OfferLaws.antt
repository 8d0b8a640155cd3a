-- What the help offers: the source with all of a rule's findings mended.
use Rattle.std.proofs.Common.{◌≡◌, ℕ, ◌++◌, List, [], ◌∷◌, map, refl, sym, ap, ◌∙◌, subst}
use Rattle.std.specs.Cow.{cow_str_bytes}
use Rattle.std.specs.List.{slice_range}
use Rattle.annotate_snippets.specs.declared.snippet.Patch.{Patch}
use Rattle.annotate_snippets.specs.Edits.{edit_of, edited_from, patched}
use Rattle.annotate_snippets.proofs.BoundsLaws.{in_order-apart}
use Rattle.tidy_run.specs.Findings.{AreInside, Finding}
use Rattle.tidy_run.specs.Mended.{mended}
use Rattle.tidy_run.specs.Report.{mended_by}
use Rattle.tidy_run.proofs.WithinLemmas.{patches-apart}

-- patches that stand for findings, applied in the order given
edited-mended : (source : List ℕ) → (at : ℕ) → (ps : List Patch) → edited_from source at (map edit_of ps) ≡ mended source at (map mended_by ps)
edited-mended source at [] = refl
edited-mended source at (p ∷ ps) =
    ap (λ l. slice_range source at p.span.start ++ (cow_str_bytes p.replacement ++ l)) (edited-mended source p.span.end ps)

-- so the patched source is the source with all of the findings mended
pub patched-mended : (source : List ℕ) → (found : List Finding) → (ps : List Patch) → map mended_by ps ≡ found → AreInside source 0 found
    → patched source (map edit_of ps) ≡ mended source 0 found
patched-mended source found ps same inside =
    let are : AreInside source 0 (map mended_by ps) = subst (AreInside source 0) (sym same) inside in
    ap (edited_from source 0) (in_order-apart 0 (map edit_of ps) (patches-apart source 0 ps are))
    ∙ edited-mended source 0 ps
    ∙ ap (mended source 0) same
