-- What becomes of a report is what `render_sheets` gives.
use Rattle.std.proofs.Common.{◌≡◌, ℕ, List, Option, Some, None, Result, Ok, Err, String, Vec, Global, map, string_bytes, refl, sym, ap, subst, ◌∙◌}
use Rattle.std.specs.List.{AllZip}
use Rattle.std.specs.Prelude.{IfSome, IfOk, IsOkUnless, alloc_error}
use Rattle.annotate_snippets.specs.declared.snippet.Group.{Group}
use Rattle.snippet_style.specs.declared.stylesheet.Stylesheet.{Stylesheet}
use Rattle.annotate_snippets.specs.Fault.{IsWithinBounds, first_refusal}
use Rattle.annotate_snippets.specs.Laws.Forms.{HasLaws}
use Rattle.annotate_snippets.specs.WithLaws.{TextsWithLaws}
use Rattle.annotate_snippets.specs.Forms.{TextsShown}
use Rattle.annotate_snippets.specs.Fits.{ReportFits}
use Rattle.annotate_snippets.specs.declared.renderer.Renderer.{Renderer}
use Rattle.annotate_snippets.specs.declared.renderer.error.RenderError.{RenderError}
use Rattle.annotate_snippets.specs.declared.renderer.error.RenderError.TheVariants as refusal
use Rattle.report_bytes.specs.Request.{AreBytesOf}
use Rattle.report_bytes.specs.declared.request.DrawRequest.{DrawRequest}
use Rattle.yazgult_c.specs.AnswerBytes.{IsAnswerTo, IsDrawn, answer_of_result, renderer_of}
use Rattle.yazgult_c.specs.declared.answer.Answer.{Answer}
use Rattle.yazgult_c.specs.declared.answer.Answer.TheVariants as answer

-- what becomes of the report that some bytes are becomes of the bytes
pub of_drawn : (kept : List (List ℕ)) (input : List ℕ) (r : DrawRequest) (a : Answer) → AreBytesOf kept r input → IsDrawn r a → IsAnswerTo kept input a
of_drawn kept input r (answer.Texts texts) are drawn = (r, are, drawn)
of_drawn kept input r (answer.Refused refusal) are drawn = (r, are, drawn)
of_drawn kept input r (answer.NoReport wrong place) are drawn = absurd drawn
of_drawn kept input r answer.Memory are drawn = tt

abbrev failed : {T : Type 0} → RenderError → Result T RenderError
failed e = Err e

error_is : {T : Type 0} {e x : RenderError} → failed {T = T} e ≡ Err x → e ≡ x
error_is same = cc

-- an error that isn't memory is the first refusal
first_is : (T : Type 0) (first : Option RenderError) (e : RenderError) → (e ≡ refusal.Memory alloc_error → ⊥)
    → IfSome first (λ x. failed {T = T} e ≡ Err x) → (first ≡ None → e ≡ refusal.Memory alloc_error) → first ≡ Some e
first_is T None e other refused bounds = absurd (other (bounds refl))
first_is T (Some x) e other refused bounds = ap Some (sym (error_is {T = T} refused))

-- the same of the renderer and the groups of a report
named : (made : Renderer) (groups : List Group) (r : DrawRequest) (e : RenderError) → made ≡ renderer_of r.settings → groups ≡ r.groups.items
    → ReportFits r.groups.items → (e ≡ refusal.Memory alloc_error → ⊥)
    → IfSome (first_refusal made groups) (λ x. failed {T = Vec (String Global) Global} e ≡ Err x)
    → (IsWithinBounds made groups → e ≡ refusal.Memory alloc_error) → first_refusal (renderer_of r.settings) r.groups.items ≡ Some e
named made groups r e m g fits other refused renders =
    let fit = subst ReportFits (sym g) fits in
    let found = first_is (Vec (String Global) Global) (first_refusal made groups) e other refused (λ none. renders record { faultless = none; fits = fit }) in
    ap (λ k. first_refusal k r.groups.items) (sym m) ∙ ap (first_refusal made) (sym g) ∙ found

-- what was drawn of a report becomes of it
pub drawn_is : (made : Renderer) (groups : List Group) (sheets : List Stylesheet) (r : DrawRequest) (result : Result (Vec (String Global) Global) RenderError)
    → made ≡ renderer_of r.settings → groups ≡ r.groups.items → sheets ≡ r.sheets.items → ReportFits r.groups.items
    → IfSome (first_refusal made groups) (λ x. result ≡ Err x) → (IsWithinBounds made groups → IsOkUnless result (refusal.Memory alloc_error))
    → IfOk result (λ texts. TextsShown made groups sheets (map string_bytes texts.items))
    → IfOk result (λ texts. AllZip (HasLaws made groups) sheets (map string_bytes texts.items)) → IsDrawn r (answer_of_result result)
drawn_is made groups sheets r (Ok texts) m g h fits refused renders shows laws =
    let given : TextsWithLaws made groups sheets (map string_bytes texts.items) = record { shows = shows; laws = laws } in
    let a = subst (λ k. TextsWithLaws k groups sheets (map string_bytes texts.items)) m given in
    let b = subst (λ k. TextsWithLaws (renderer_of r.settings) k sheets (map string_bytes texts.items)) g a in
    subst (λ k. TextsWithLaws (renderer_of r.settings) r.groups.items k (map string_bytes texts.items)) h b
drawn_is made groups sheets r (Err (refusal.Memory e)) m g h fits refused renders shows laws = tt
drawn_is made groups sheets r (Err refusal.NoGroup) m g h fits refused renders shows laws =
    named made groups r refusal.NoGroup m g fits (λ same. cc) refused renders
drawn_is made groups sheets r (Err refusal.NoTitle) m g h fits refused renders shows laws =
    named made groups r refusal.NoTitle m g fits (λ same. cc) refused renders
drawn_is made groups sheets r (Err (refusal.SpanReversed i j k)) m g h fits refused renders shows laws =
    named made groups r (refusal.SpanReversed i j k) m g fits (λ same. cc) refused renders
drawn_is made groups sheets r (Err (refusal.SpanPastEnd i j k)) m g h fits refused renders shows laws =
    named made groups r (refusal.SpanPastEnd i j k) m g fits (λ same. cc) refused renders
drawn_is made groups sheets r (Err (refusal.SpanOffBoundary i j k)) m g h fits refused renders shows laws =
    named made groups r (refusal.SpanOffBoundary i j k) m g fits (λ same. cc) refused renders
drawn_is made groups sheets r (Err (refusal.PatchesOverlap i j k l)) m g h fits refused renders shows laws =
    named made groups r (refusal.PatchesOverlap i j k l) m g fits (λ same. cc) refused renders
drawn_is made groups sheets r (Err (refusal.LineNumberTooLarge i j)) m g h fits refused renders shows laws =
    named made groups r (refusal.LineNumberTooLarge i j) m g fits (λ same. cc) refused renders
