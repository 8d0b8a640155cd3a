use Rattle.snippet_labels.proofs.Common.{arith, ◌≡◌, ◌-◌, ◌∷◌, ◌++◌, [], ℕ, ap, sym, subst, All, map, length, refl, ◌∙◌, map_push}
use Rattle.snippet_labels.proofs.Common.{Layout, All-append, All-cons, All-nil, LineAnnotation, PlacedEntry, shifted, HasItsLabel, label_of_entry}
use Rattle.snippet_labels.proofs.RowLemmas.{counts_more, labelled_more}
use Rattle.snippet_labels.proofs.PieceLemmas.{label_of_entry-whole}
use Rattle.snippet_labels.proofs.labelled.labelled_entries.Goals as goal
use Rattle.snippet_labels.proofs.labelled.labelled_entries.Goals.{then-cuts+in_ok-label, else-cuts+in_ok-label-2}

pub loop-i-preserved : goal.loop-i-preserved
loop-i-preserved c =
    let i = c.loop-i.i in
    let j : ℕ = i - 1 in
    let es = c.args.entries.now in
    let sh = shifted c.args.dropped in
    let done = c.loop-i.labelled.items in
    let layout : Layout = c.args.layout in
    let given : LineAnnotation = sh c.index-entries-i.result in
    let cuts : layout.label_lines ≡ c.layout.inside.label_lines = ap (λ (l : Layout). l.label_lines) (sym c.layout.view_is) in
    let label_is : c.if-cuts.label ≡ label_of_entry layout given = elim c.if-cuts.branch [
      | then-cuts+in_ok-label w ↦ w.label-is ∙ w.in_ok-label.ensures.value ∙ ap (label_of_entry layout) w.shifted.ensures.value
      | else-cuts+in_ok-label-2 w ↦ w.label-is
          ∙ label_of_entry-whole layout (cuts ∙ w.if-cuts.false) given w.in_ok-label-2.label w.in_ok-label-2.ensures.beside
          w.in_ok-label-2.ensures.below w.in_ok-label-2.ensures.last w.in_ok-label-2.ensures.past
    ] in
    let e : PlacedEntry = record { entry = c.shifted-in-loop-i.result; label = c.if-cuts.label; position = 0; looked = j } in
    let entry : PlacedEntry → LineAnnotation = λ e. e.entry in
    let looked : PlacedEntry → ℕ = λ e. e.looked in
    let all : (P : PlacedEntry → Type 0) → All P done → P e → All P (c.push.new.self.items) = λ P have own.
    subst (All P) (sym c.in_ok-push.ensures.items) (All-append P done (e ∷ []) have (All-cons P e [] own (All-nil P))) in
    record {
      entries = ap (map entry) c.in_ok-push.ensures.items ∙ map_push entry done e ∙ ap (λ l. l ++ e.entry ∷ []) c.loop-i.invariant.entries
          ∙ labelled_more sh es i e.entry _ (omega (arith, c.loop-i-test.true)) (omega (arith, c.loop-i.auto.i))
          (c.shifted-in-loop-i.ensures.value ∙ ap sh c.index-entries-i.is);
      labels = all (HasItsLabel layout) c.loop-i.invariant.labels
          (label_is ∙ ap (label_of_entry layout) (sym c.shifted-in-loop-i.ensures.value));
      positions = all (λ (e : PlacedEntry). e.position ≡ 0) c.loop-i.invariant.positions refl;
      looked = ap (map looked) c.in_ok-push.ensures.items ∙ map_push looked done e ∙ ap (λ l. l ++ j ∷ []) c.loop-i.invariant.looked
          ∙ counts_more (length es) i (omega (arith, c.loop-i-test.true)) (omega (arith, c.loop-i.auto.i));
    }
