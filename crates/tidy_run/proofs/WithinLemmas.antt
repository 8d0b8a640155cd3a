-- The groups that tell of findings are within the library's bounds.
use Rattle.std.proofs.Common.{true, false, Global, ◌≡◌, ℕ, zero, suc, ◌+◌, ◌*◌, ◌^◌, ◌<◌, ◌≤◌, ◌++◌, Bool, List, [], ◌∷◌, Option, Some, None, All, IfSome}
use Rattle.std.proofs.Common.{length, map, nat_lt, sym, ap, ◌∙◌, subst, arith, lit<, codes, if◌then◌else◌}
use Rattle.std.specs.Cow.{cow_str_bytes}
use Rattle.std.specs.declared.borrow.CowStr.{CowStr}
use Rattle.std.specs.List.{sum_by}
use Rattle.std.specs.Option.{option_map}
use Rattle.std.proofs.lemmas.List.{length-map}
use Rattle.std.proofs.lemmas.List.Elements.{All-nil, All-cons, All-head, All-tail, All-map, All-weaker}
use Rattle.std.proofs.lemmas.List.Sums.{sum_by-le}
use Rattle.annotate_snippets.specs.declared.level.Level.{Level}
use Rattle.annotate_snippets.specs.declared.snippet.Annotation.{Annotation}
use Rattle.annotate_snippets.specs.declared.snippet.Element.{Element}
use Rattle.annotate_snippets.specs.declared.snippet.Element.TheVariants.{Cause, Suggestion}
use Rattle.annotate_snippets.specs.declared.snippet.Group.{Group}
use Rattle.annotate_snippets.specs.declared.snippet.Patch.{Patch}
use Rattle.annotate_snippets.specs.declared.snippet.Snippet.{Snippet}
use Rattle.annotate_snippets.specs.Edits.{edit_of}
use Rattle.annotate_snippets.specs.TrimmedEdits.{AreApart}
use Rattle.annotate_snippets.specs.Fault.{element_faults, faults_from}
use Rattle.annotate_snippets.specs.Drawable.{IsGroupWithinBounds}
use Rattle.annotate_snippets.specs.Fits.{AnnotationFits, ElementFits, IdFits, LevelFits, PatchFits, TextFits, TitleFits}
use Rattle.annotate_snippets.specs.Levels.{help_level, warning_level}
use Rattle.annotate_snippets.specs.Span.{span_fault}
use Rattle.annotate_snippets.proofs.BoundsLaws.{cause-clear, span-faultless, suggestion-clear}
use Rattle.tidy_run.specs.Findings.{AreInside, Finding, IsTitle, findings_from, findings_of, with_rest}
use Rattle.tidy_run.specs.Report.{IsGroupOf, IsHelp, IsOfFile, IsReportOf, IsWarning, annotation_of, mended_by, told_of}

-- a rule finds at most one more than there are bytes
few-rest : (t : Bool) (l : List Finding) (f : Finding) (n : ℕ) → length l ≤ n → length (f ∷ (if t then l else [])) ≤ suc n
few-rest true l f n few = omega (arith, few)
few-rest false l f n few = omega arith

few-more : (rest : ℕ → List Finding) (n : ℕ) → ((at : ℕ) → length (rest at) ≤ n) → (found : Option Finding) → length (with_rest rest found) ≤ suc n
few-more rest n few None = omega arith
few-more rest n few (Some f) = few-rest (nat_lt f.start f.end) (rest f.end) f n (few f.end)

few-from : (find : ℕ → Option Finding) → (n from : ℕ) → length (findings_from find n from) ≤ n
few-from find zero from = omega arith
few-from find (suc n) from = few-more (findings_from find n) n (few-from find n) (find from)

-- no more findings are there than one more than the source's length
pub few-findings : (find : ℕ → Option Finding) → (source : List ℕ) → length (findings_of find source) ≤ length source + 1
unfolding findings_of
few-findings find source = few-from find (length source + 1) 0

-- findings inside a source: each is a span of it without a fault
clear-spans : (source : List ℕ) → (at : ℕ) → (fs : List Finding) → AreInside source at fs → All (λ f. span_fault source f.start f.end ≡ None) fs
clear-spans source at [] are = All-nil (λ (f : Finding). span_fault source f.start f.end ≡ None)
clear-spans source at (f ∷ fs) are =
    All-cons (λ (g : Finding). span_fault source g.start g.end ≡ None) f fs
    (span-faultless source f.start f.end are.0.ordered are.0.starts are.0.ends) (clear-spans source f.end fs are.1)

-- and its text is short
texts-short : (source : List ℕ) → (at : ℕ) → (fs : List Finding) → AreInside source at fs → All (λ f. length f.text ≤ 64) fs
texts-short source at [] are = All-nil (λ (f : Finding). length f.text ≤ 64)
texts-short source at (f ∷ fs) are =
    All-cons (λ (g : Finding). length g.text ≤ 64) f fs are.0.short (texts-short source f.end fs are.1)

-- what holds of each thing that is made of some holds of what is made of each
of-each : {A B : Type 0} (P : B → Type 0) (f : A → B) (xs : List A) → All P (map f xs) → All (λ x. P (f x)) xs
of-each P f [] all = All-nil (λ x. P (f x))
of-each P f (x ∷ xs) all =
    All-cons (λ y. P (f y)) x xs (All-head P (f x) (map f xs) all) (of-each P f xs (All-tail P (f x) (map f xs) all))

-- the patches stand one after the other
pub patches-apart : (source : List ℕ) → (at : ℕ) → (ps : List Patch) → AreInside source at (map mended_by ps) → AreApart at (map edit_of ps)
patches-apart source at [] are = tt
patches-apart source at (p ∷ ps) are = (are.0.after, are.0.ordered, patches-apart source p.span.end ps are.1)

-- what is known of the findings that are told, and of the file
pub record IsToldOf (path source : List ℕ) (found : List Finding) : Type 0 where
  pub inside : AreInside source 0 found
  pub few : length found ≤ length source + 1
  pub path_fits : TextFits path
  pub source_fits : TextFits source

path_text_fits : {T : Type 0} (path source : List ℕ) (s : Snippet T) → IsOfFile path source s → TextFits path → IfSome s.path (λ t. TextFits (cow_str_bytes t))
path_text_fits path source s of fits = by_cases s.path of.path_is
  where
    by_cases : (p : Option (CowStr Global)) → option_map cow_str_bytes p ≡ Some path → IfSome p (λ t. TextFits (cow_str_bytes t))
    by_cases None is = tt
    by_cases (Some t) is = let same : cow_str_bytes t ≡ path = cc in subst TextFits (sym same) fits

source_text_fits : {T : Type 0} (path source : List ℕ) (s : Snippet T) → IsOfFile path source s → TextFits source → TextFits (cow_str_bytes s.source.text)
source_text_fits path source s of fits = subst TextFits (sym of.source_is) fits

-- a title of a level whose name fits, without an id
title_fits : (level : Level) (text : List ℕ) (trusted : Bool) (element : Element) (g : Group) → IsGroupOf level text trusted element g → LevelFits level
    → TextFits text → IfSome g.title TitleFits
title_fits level text trusted element g of name fits =
    subst (λ t. IfSome t TitleFits) (sym of.titled)
    (subst LevelFits (sym of.level_is) name, subst TextFits (sym of.text_is) fits, subst (λ i. IfSome i IdFits) (sym of.id) tt)

-- a group of a title that fits, and one element that fits and has no fault
group-within : (level : Level) (text : List ℕ) (trusted : Bool) (element : Element) (g : Group) → IsGroupOf level text trusted element g → LevelFits level
    → TextFits text
    → ElementFits element → ((n : ℕ) → element_faults n 0 element ≡ []) → IsGroupWithinBounds g
group-within level text trusted element g of name fits element_fits clear =
    record {
      faultless = λ n. subst (λ es. faults_from (element_faults n) 0 es ≡ []) (sym of.elements) (ap (λ l. l ++ []) (clear n));
      fits = (
        title_fits level text trusted element g of name fits,
        subst (All ElementFits) (sym of.elements)
            (All-cons ElementFits element [] element_fits (All-nil ElementFits)),
      );
    }

-- a warning is within bounds
warning-within : (path source title : List ℕ) (found : List Finding) (g : Group) → IsWarning path source title found g → IsTitle title
    → IsToldOf path source found → IsGroupWithinBounds g
warning-within path source title found g is titled of =
    let s : Snippet Annotation = is.snippet in
    let Clear : List ℕ → Annotation → Type 0 = λ text a. span_fault text a.span.start a.span.end ≡ None in
    let spans : All (Clear (cow_str_bytes s.source.text)) s.markers.items =
    subst (λ text. All (Clear text) s.markers.items) (sym is.of_file.source_is)
    (subst (All (Clear source)) (sym is.marks) (All-map (Clear source) annotation_of found (clear-spans source 0 found of.inside))) in
    let size : length (cow_str_bytes s.source.text) ≡ length source = ap length is.of_file.source_is in
    let fits = of.source_fits in
    let first = is.of_file.line_start in
    let numbers : s.line_start + (length (cow_str_bytes s.source.text) + 1) < 2 ^ 64 = omega (arith, size, fits, first) in
    let unlabelled : All AnnotationFits s.markers.items =
    subst (All AnnotationFits) (sym is.marks) (All-map AnnotationFits annotation_of found (λ k d within. tt)) in
    group-within warning_level title false (Cause s) g is.is (lit< tt) (omega (arith, titled.short))
    (source_text_fits path source s is.of_file of.source_fits, path_text_fits path source s is.of_file of.path_fits, unlabelled)
    (λ n. cause-clear n 0 s spans numbers)

-- and so is the help
help-within : (path source : List ℕ) (found : List Finding) (g : Group) → IsHelp path source found g → IsToldOf path source found → IsGroupWithinBounds g
help-within path source found g is of =
    let s : Snippet Patch = is.snippet in
    let ps : List Patch = s.markers.items in
    let inside : AreInside source 0 (map mended_by ps) = subst (AreInside source 0) (sym is.patches) of.inside in
    let Clear : List ℕ → Patch → Type 0 = λ text p. span_fault text p.span.start p.span.end ≡ None in
    let spans : All (Clear (cow_str_bytes s.source.text)) ps =
    subst (λ text. All (Clear text) ps) (sym is.of_file.source_is)
    (of-each (λ (f : Finding). span_fault source f.start f.end ≡ None) mended_by ps (clear-spans source 0 (map mended_by ps) inside)) in
    let short : All (λ (p : Patch). length (cow_str_bytes p.replacement) ≤ 64) ps =
    of-each (λ (f : Finding). length f.text ≤ 64) mended_by ps (texts-short source 0 (map mended_by ps) inside) in
    let all : sum_by (λ (p : Patch). length (cow_str_bytes p.replacement)) ps ≤ length ps * 64 =
    sum_by-le (λ (p : Patch). length (cow_str_bytes p.replacement)) 64 ps short in
    let many : length ps ≡ length found = sym (length-map ps mended_by) ∙ ap length is.patches in
    let few = of.few in
    let size : length (cow_str_bytes s.source.text) ≡ length source = ap length is.of_file.source_is in
    let fits = of.source_fits in
    let first = is.of_file.line_start in
    let numbers : s.line_start + (length (cow_str_bytes s.source.text) + 1) + sum_by (λ (p : Patch). length (cow_str_bytes p.replacement)) ps < 2 ^ 64 =
    omega (arith, all, many, few, size, fits, first) in
    let replacements : All PatchFits ps =
    All-weaker (λ (p : Patch). length (cow_str_bytes p.replacement) ≤ 64) PatchFits (λ p few. omega (arith, few)) ps short in
    group-within help_level (codes "apply this") true (Suggestion s) g is.is (lit< tt) (lit< tt)
    (source_text_fits path source s is.of_file of.source_fits, path_text_fits path source s is.of_file of.path_fits, replacements)
    (λ n. suggestion-clear n 0 s spans (patches-apart source 0 ps inside) numbers)

-- what tells of a rule's findings is
pub told-within : (path source title : List ℕ) (found : List Finding) (groups : List Group) → IsReportOf path source (told_of title found) groups
    → IsTitle title → IsToldOf path source found → All IsGroupWithinBounds groups
told-within path source title [] [] is titled of = All-nil IsGroupWithinBounds
told-within path source title [] (g ∷ groups) is titled of = absurd is
told-within path source title (f ∷ fs) [] is titled of = absurd is
told-within path source title (f ∷ fs) (g ∷ []) is titled of = absurd is.1
told-within path source title (f ∷ fs) (g ∷ h ∷ []) is titled of =
    All-cons IsGroupWithinBounds g (h ∷ []) (warning-within path source title (f ∷ fs) g is.0 titled of)
    (All-cons IsGroupWithinBounds h [] (help-within path source (f ∷ fs) h is.1.0 of) (All-nil IsGroupWithinBounds))
told-within path source title (f ∷ fs) (g ∷ h ∷ j ∷ groups) is titled of = absurd is.1.1
