-- The texts of a run: one for each sheet, if any, and what is written of them is what shows the findings.
use Rattle.std.proofs.Common.{◌≡◌, ◌≢◌, ℕ, Vec, refl, List, [], ◌∷◌, Option, None, Some, IfSome, IsSomeAnd, String, Global, inl, inr, ◌⊎◌, length, map, ap}
use Rattle.std.proofs.Common.{string_bytes, sym, ◌∙◌}
use Rattle.std.specs.List.{AllZip}
use Rattle.std.specs.Prelude.{IfOk}
use Rattle.std.specs.declared.alloc.AllocError.{AllocError}
use Rattle.std.specs.declared.result.Result.{Result}
use Rattle.std.proofs.lemmas.Result.{IfOk-weaker}
use Rattle.std.proofs.lemmas.List.{length-map, nil_from_length}
use Rattle.std.proofs.lemmas.Slice.Zip.{AllZip-long}
use Rattle.annotate_snippets.specs.Laws.Forms.{HasLaws}
use Rattle.annotate_snippets.specs.Forms.{TextsShown}
use Rattle.annotate_snippets.specs.declared.renderer.style.Stylesheet.{Stylesheet}
use Rattle.annotate_snippets.specs.declared.snippet.Group.{Group}
use Rattle.annotate_snippets.proofs.ReportLemmas.{IfOk-both}
use Rattle.tidy_run.specs.Report.{IsReportOf, Told, tidy_settings}
use Rattle.tidy_run.specs.Run.{AreTextsOf, ShowsTold}

-- there is no text of a report, or one for each sheet
counted : (path source : List ℕ) (told : List Told) (sheets : List Stylesheet) (texts : List (List ℕ)) → AreTextsOf path source told sheets texts
    → (texts ≡ []) ⊎ (length texts ≡ length sheets)
counted path source [] sheets texts none = inl none
counted path source (t ∷ ts) sheets texts shown = inr (AllZip-long _ sheets texts shown.shows.shows.printed)

-- so it is of the texts of a file that was read
pub counted_texts : (P : List ℕ → Type 0) (file : Option (List ℕ)) (path : List ℕ) (told : List ℕ → List Told) (sheets : List Stylesheet)
    (texts : List (String Global)) → IsSomeAnd file P
    → IfSome file (λ source. AreTextsOf path source (told source) sheets (map string_bytes texts)) → (texts ≡ []) ⊎ (length texts ≡ length sheets)
counted_texts P None path told sheets texts read shows = absurd read
counted_texts P (Some source) path told sheets texts read shows =
    elim (counted path source (told source) sheets (map string_bytes texts) shows) [
      | inl none ↦ inl (nil_from_length texts (sym (length-map texts string_bytes) ∙ ap length none))
      | inr many ↦ inr (sym (length-map texts string_bytes) ∙ many)
    ]

-- what is drawn of some groups shows these, and has their laws
abbrev AreDrawn : List Group → List Stylesheet → Vec (String Global) Global → Type 0
AreDrawn groups sheets texts =
    TextsShown tidy_settings groups sheets (map string_bytes texts.items) × AllZip (HasLaws tidy_settings groups) sheets (map string_bytes texts.items)

-- the texts of a report that tells all of it are what is written of that
pub texts_of_told : (path source : List ℕ) (told : List Told) (groups : List Group) (sheets : List Stylesheet)
    (drawn : Result (Vec (String Global) Global) AllocError)
    → IsReportOf path source told groups → (groups ≡ [] → IfOk drawn (λ texts. texts.items ≡ []))
    → (groups ≢ [] → IfOk drawn (λ texts. TextsShown tidy_settings groups sheets (map string_bytes texts.items)))
    → (groups ≢ [] → IfOk drawn (λ texts. AllZip (HasLaws tidy_settings groups) sheets (map string_bytes texts.items)))
    → IfOk drawn (λ texts. AreTextsOf path source told sheets (map string_bytes texts.items))
texts_of_told path source [] [] sheets drawn report none shows laws =
    IfOk-weaker drawn (λ texts. texts.items ≡ []) (λ texts. map string_bytes texts.items ≡ []) (λ texts empty. ap (map string_bytes) empty) (none refl)
texts_of_told path source [] (g ∷ groups) sheets drawn report none shows laws = absurd report
texts_of_told path source (t ∷ told) [] sheets drawn report none shows laws = absurd report
texts_of_told path source (t ∷ told) (g ∷ groups) sheets drawn report none shows laws =
    IfOk-weaker drawn (AreDrawn (g ∷ groups) sheets) (λ texts. ShowsTold path source (t ∷ told) sheets (map string_bytes texts.items))
    (λ texts shown. record { groups = g ∷ groups; report = report; shows = shown.0; laws = shown.1 })
    (IfOk-both (λ texts. TextsShown tidy_settings (g ∷ groups) sheets (map string_bytes texts.items))
    (λ texts. AllZip (HasLaws tidy_settings (g ∷ groups)) sheets (map string_bytes texts.items)) drawn (shows (λ empty. cc)) (laws (λ empty. cc)))
