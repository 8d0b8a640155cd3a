-- Pages that lack a line near one that is kept, or have one that isn't: each contradicts what is said of lines around those that are kept.
use Rattle.annotate_snippets.proofs.Common.{◌≡◌, ◌∙◌, ℕ, Bool, false, true, Vec, List, [], ◌∷◌, None, Some, ap, ap₂, codes, length, refl}
use Rattle.annotate_snippets.proofs.Common.{subst, sym, arith, slice_get, slice_index_or, Global, Annotation, Primary, Element, Cause, Group, Snippet}
use Rattle.annotate_snippets.proofs.Common.{lines_around, source_lines, start_of, line_of, kept_lines, with_between, Stylesheet, IsMaskedFor, adds_context}
use Rattle.annotate_snippets.proofs.Common.{ShowsLinesAround, lines_with_context, form_of, HasLaws, graphic_form, GroupPage, lines_named, Renderer}
use Rattle.std.specs.Str.{chars}
use Rattle.annotate_snippets.proofs.PageWords.{Page}
use Rattle.annotate_snippets.proofs.SmallReports.{group, snippet}

-- a span of the first of three lines
abbrev pub first_line_marked : Annotation
first_line_marked =
    record { span = record { start = 0; end = 1 }; label = None; kind = Primary; highlight_source = false }

abbrev pub three_lines : List ℕ
three_lines = codes "a\nb\nc"

abbrev pub marked : Vec Annotation Global → Snippet Annotation
marked v = snippet v None three_lines (first_line_marked ∷ []) (omega arith)

-- a report of it alone
abbrev pub report : Vec Element Global → Vec Annotation Global → List Group
report v w = group v None (Cause (marked w) ∷ []) (omega arith) ∷ []

-- it keeps the first line
kept_first : kept_lines true three_lines (first_line_marked ∷ []) ≡ 0 ∷ []
unfolding line_of start_of chars
kept_first = refl

three : length (source_lines three_lines) ≡ 3
three = refl

-- so with one line after each that is kept the first two are shown
near_first : with_between (lines_around 0 1 3 (0 ∷ [])) ≡ 0 ∷ 1 ∷ []
near_first = refl

first_two : (w : Vec Annotation Global) → lines_with_context 0 1 (marked w) ≡ 0 ∷ 1 ∷ []
first_two w = ap₂ (λ (n : ℕ) (ks : List ℕ). with_between (lines_around 0 1 n ks)) three kept_first ∙ near_first

-- so no page of it shows the first alone
pub context_line_dropped : (v : Vec Element Global) (w : Vec Annotation Global) (page : Page) → ShowsLinesAround 0 1 (report v w) page
    → (part : GroupPage) → slice_get page 0 ≡ Some part → lines_named (slice_index_or part.elements 0 []) ≡ 0 ∷ [] → ⊥
context_line_dropped v w page shows part at wrong =
    let right : ◌≡◌ {A = List ℕ} (0 ∷ []) (0 ∷ 1 ∷ []) = sym wrong ∙ shows.lines 0 0 _ part (marked w) refl at refl ∙ first_two w in
    absurd (omega (arith, ap length right))

-- nor the third line too
pub line_too_many : (v : Vec Element Global) (w : Vec Annotation Global) (page : Page) → ShowsLinesAround 0 1 (report v w) page
    → (part : GroupPage) → slice_get page 0 ≡ Some part → lines_named (slice_index_or part.elements 0 []) ≡ 0 ∷ 1 ∷ 2 ∷ [] → ⊥
line_too_many v w page shows part at wrong =
    let right : ◌≡◌ {A = List ℕ} (0 ∷ 1 ∷ 2 ∷ []) (0 ∷ 1 ∷ []) = sym wrong ∙ shows.lines 0 0 _ part (marked w) refl at refl ∙ first_two w in
    absurd (omega (arith, ap length right))

-- no text of such a report has a page that drops it
pub text_without_context : (r : Renderer) (v : Vec Element Global) (w : Vec Annotation Global) (sheet : Stylesheet) (text : List ℕ)
    → (has : HasLaws r (report v w) sheet text) → r.mask_controls ≡ false → adds_context (form_of r) r ≡ true → r.context_before ≡ 0 → r.context_after ≡ 1
    → (part : GroupPage) → slice_get (graphic_form r has.shown) 0 ≡ Some part → lines_named (slice_index_or part.elements 0 []) ≡ 0 ∷ [] → ⊥
text_without_context r v w sheet text has plain asked before after part at wrong =
    let given : has.masked ≡ report v w = subst (λ (masks : Bool). IsMaskedFor masks r (report v w) has.masked) plain has.masks in
    let Shows : ℕ → ℕ → List Group → Type 0 = λ m n gs. ShowsLinesAround m n gs (graphic_form r has.shown) in
    let lines : Shows r.context_before r.context_after (report v w) = subst (Shows r.context_before r.context_after) given (has.around asked) in
    context_line_dropped v w (graphic_form r has.shown)
    (subst (λ (n : ℕ). Shows 0 n (report v w)) after (subst (λ (n : ℕ). Shows n r.context_after (report v w)) before lines)) part at wrong
