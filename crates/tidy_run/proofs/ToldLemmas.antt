-- How a report is put together, group by group.
use Rattle.std.proofs.Common.{◌≡◌, ℕ, suc, arith, ◌+◌, ◌<◌, Bool, List, [], ◌∷◌, ◌++◌, Some, None, Ok, Err, Result, IfOk, length, slice_index_or, take, refl}
use Rattle.std.proofs.Common.{sym, ap, ◌∙◌, subst, append_assoc}
use Rattle.std.specs.declared.alloc.AllocError.{AllocError}
use Rattle.std.specs.Cow.{cow_str_bytes}
use Rattle.std.specs.List.{flat_map}
use Rattle.std.proofs.Math.Seq.{take-suc}
use Rattle.annotate_snippets.specs.declared.level.Level.{Level}
use Rattle.annotate_snippets.specs.declared.snippet.Element.{Element}
use Rattle.annotate_snippets.specs.declared.snippet.Group.{Group}
use Rattle.annotate_snippets.specs.declared.snippet.Title.{Title}
use Rattle.tidy_run.specs.Report.{IsGroupOf, IsReportOf, Told}
use Rattle.std.proofs.lemmas.List.{append-nil as append_none}

-- a group of a title and an element, where there is memory for it
pub group_of : (r : Result Group AllocError) (level : Level) (text : List ℕ) (trusted : Bool) (title : Title) (element : Element)
    → IfOk r (λ g. g.title ≡ Some title) → IfOk r (λ g. g.level ≡ title.level.kind) → IfOk r (λ g. g.elements.items ≡ element ∷ [])
    → title.level ≡ level → cow_str_bytes title.text ≡ text → title.id ≡ None → title.allows_styling ≡ trusted
    → IfOk r (IsGroupOf level text trusted element)
group_of (Err e) level text trusted title element titled kind elements l t i s = tt
group_of (Ok g) level text trusted title element titled kind elements l t i s =
    record {
      title = title;
      titled = titled;
      level_is = l;
      text_is = t;
      id = i;
      trusted_is = s;
      kind = kind ∙ ap (λ (x : Level). x.kind) l;
      elements = elements;
    }

-- what is made of two lists, one after the other
flat_map-join : {A B : Type 0} (f : A → List B) (xs ys : List A) → flat_map f (xs ++ ys) ≡ flat_map f xs ++ flat_map f ys
flat_map-join f [] ys = refl
flat_map-join f (x ∷ xs) ys = ap (λ l. f x ++ l) (flat_map-join f xs ys) ∙ sym (append_assoc (f x) (flat_map f xs) (flat_map f ys))

-- one report after another
pub report-join : (path source : List ℕ) (told more : List Told) (groups others : List Group) → IsReportOf path source told groups
    → IsReportOf path source more others → IsReportOf path source (told ++ more) (groups ++ others)
report-join path source [] more [] others is are = are
report-join path source [] more (g ∷ groups) others is are = absurd is
report-join path source (t ∷ told) more [] others is are = absurd is
report-join path source (t ∷ told) more (g ∷ groups) others is are = (is.0, report-join path source told more groups others is.1 are)

-- what is told of one more rule
pub told-next : {R : Type 0} (path source : List ℕ) (tell : R → List Told) (rules : List R) (i : ℕ) (rule : R) (groups more new : List Group)
    → IsReportOf path source (flat_map tell (take i rules)) groups → i < length rules → rule ≡ slice_index_or rules i rule
    → IsReportOf path source (tell rule) more → new ≡ groups ++ more → IsReportOf path source (flat_map tell (take (i + 1) rules)) new
told-next path source tell rules i rule groups more new so_far within is next all =
    let count : i + 1 ≡ suc i = omega arith in
    let rules_are : take (i + 1) rules ≡ take i rules ++ rule ∷ [] =
    ap (λ n. take n rules) count ∙ take-suc rules i rule within ∙ ap (λ r. take i rules ++ r ∷ []) (sym is) in
    let told_are : flat_map tell (take (i + 1) rules) ≡ flat_map tell (take i rules) ++ tell rule =
    ap (flat_map tell) rules_are ∙ flat_map-join tell (take i rules) (rule ∷ []) ∙ ap (λ l. flat_map tell (take i rules) ++ l) (append_none (tell rule)) in
    subst (λ told. IsReportOf path source told new) (sym told_are)
    (subst (IsReportOf path source (flat_map tell (take i rules) ++ tell rule)) (sym all)
    (report-join path source (flat_map tell (take i rules)) (tell rule) groups more so_far next))
