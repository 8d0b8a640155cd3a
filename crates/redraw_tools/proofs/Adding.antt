-- Places that are added, as they are to be marked and labelled.
use Rattle.std.proofs.Common.{◌≡◌, ℕ, ◌+◌, ◌<◌, List, [], ◌∷◌, ◌++◌, Option, Some, None, append_assoc, get_or, length, map, take, sym, subst, ap, ◌∙◌}
use Rattle.std.specs.List.{AllZip, filter_map, flat_map}
use Rattle.std.proofs.lemmas.List.{append-nil}
use Rattle.serde_json.specs.Data.{Data}
use Rattle.serde_json.specs.View.{view}
use Rattle.serde_json.specs.declared.value.Value.{Value}
use Rattle.redraw_report.specs.declared.diagnostic.FileSpan.{FileSpan}
use Rattle.redraw_tools.specs.Places.{Adds, IsMarked, IsMarkedIf, Labelled}
use Rattle.redraw_tools.proofs.Listed.{kept_more, mapped_more}

zipped-more : {A B : Type 0} (R : A → B → Type 0) (xs : List A) (ys : List B) (zs : List A) (ws : List B) → AllZip R xs ys → AllZip R zs ws
    → AllZip R (xs ++ zs) (ys ++ ws)
zipped-more R [] [] zs ws first second = second
zipped-more R [] (y ∷ ys) zs ws first second = absurd first
zipped-more R (x ∷ xs) [] zs ws first second = absurd first
zipped-more R (x ∷ xs) (y ∷ ys) zs ws first second = (first.0, zipped-more R xs ys zs ws first.1 second)

module _ (part rule : Option Data) where
  pub adds-none : (spans : List FileSpan) → Adds part rule [] spans spans
  adds-none spans = ([], sym (append-nil spans), tt)

  pub adds-more : (ps qs : List Labelled) (a b c : List FileSpan) → Adds part rule ps a b → Adds part rule qs b c → Adds part rule (ps ++ qs) a c
  adds-more ps qs a b c (xs, b_is, first) (ys, c_is, second) =
      (xs ++ ys, c_is ∙ ap (λ zs. zs ++ ys) b_is ∙ append_assoc a xs ys, zipped-more (IsMarked part rule) ps xs qs ys first second)

  adds-one : (place : Option Labelled) (span : Option FileSpan) (old new : List FileSpan) → IsMarkedIf part rule place span
      → new ≡ old ++ filter_map (λ (o : Option FileSpan). o) (span ∷ [])
      → Adds part rule (filter_map (λ (o : Option Labelled). o) (place ∷ [])) old new
  adds-one None None old new marked added = ([], added, tt)
  adds-one None (Some s) old new marked added =
      ([], subst (λ o. new ≡ old ++ filter_map (λ (p : Option FileSpan). p) (o ∷ [])) marked added, tt)
  adds-one (Some p) None old new marked added = absurd marked
  adds-one (Some p) (Some s) old new marked added = (s ∷ [], added, (marked, tt))

  -- what is kept of one value more
  pub keeps-adding : (f : Data → Option Labelled) (vs : List Value) (i : ℕ) (v w : Value) (span : Option FileSpan) (old now new : List FileSpan)
      → i < length vs → v ≡ get_or vs i v → w ≡ v → Adds part rule (filter_map f (map view (take i vs))) old now
      → IsMarkedIf part rule (f (view w)) span → new ≡ now ++ filter_map (λ (o : Option FileSpan). o) (span ∷ [])
      → Adds part rule (filter_map f (map view (take (i + 1) vs))) old new
  keeps-adding f vs i v w span old now new within is same before marked added =
      let here = subst (λ (u : Value). IsMarkedIf part rule (f (view u)) span) same marked in
      subst (λ ps. Adds part rule ps old new) (sym (kept_more f vs i v within is))
      (adds-more (filter_map f (map view (take i vs))) (filter_map f (view v ∷ [])) old now new before (adds-one (f (view v)) span now new here added))

  -- the same of what each value gives
  pub gives-adding : (f : Data → List Labelled) (vs : List Value) (i : ℕ) (v w : Value) (old now new : List FileSpan)
      → i < length vs → v ≡ get_or vs i v → w ≡ v → Adds part rule (flat_map f (map view (take i vs))) old now → Adds part rule (f (view w)) now new
      → Adds part rule (flat_map f (map view (take (i + 1) vs))) old new
  gives-adding f vs i v w old now new within is same before added =
      let here : Adds part rule (f (view v)) now new = subst (λ (u : Value). Adds part rule (f (view u)) now new) same added in
      subst (λ ps. Adds part rule ps old new) (sym (mapped_more f vs i v within is))
      (adds-more (flat_map f (map view (take i vs))) (flat_map f (view v ∷ [])) old now new before
      (subst (λ ps. Adds part rule ps now new) (sym (append-nil (f (view v)))) here))
