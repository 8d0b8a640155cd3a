-- The entries of a line that are placed are those of the value.
use Rattle.std.proofs.lemmas.Grind.{common_steps}
use Rattle.snippet_strokes.proofs.Common.{◌≡◌, ℕ, List, [], ◌∷◌, map, All, refl, sym, ap, ◌∙◌, zip, All-head, All-tail, ordered_by}
use Rattle.snippet_strokes.proofs.Common.{LineAnnotation, PlacedEntry, is_placed_before, line_positions, look_counts, placed_of, ArePlaced, HasItsLabel}
use Rattle.snippet_strokes.proofs.Common.{unplaced, line_positions-changed, look_counts-changed, placed_of-at, labelled, placed_at, arith}
use Rattle.snippet_strokes.proofs.Common.{Layout}

line_positions-unplaced : (es : List PlacedEntry) → line_positions (map unplaced es) ≡ line_positions es
line_positions-unplaced = line_positions-changed unplaced (λ e. refl) (λ p e. refl) (λ e. refl) (λ p e. refl) refl

look_counts-unplaced : (es : List PlacedEntry) → look_counts 0 (map unplaced es) ≡ look_counts 0 es
look_counts-unplaced = look_counts-changed unplaced (λ e. refl) (λ p e. refl) (λ e. refl) (λ p e. refl) refl 0

-- an entry with its label is the entry that is placed where it is
its_label : (layout : Layout) (e : PlacedEntry) → HasItsLabel layout e → e ≡ placed_at layout (e.entry, (e.position, e.looked))
its_label layout e has = ap (λ pieces. record e { label = pieces }) has

all_unplaced : (layout : Layout) (es : List PlacedEntry) → All (HasItsLabel layout) es
    → map unplaced es ≡ map unplaced (labelled layout (map (λ (e : PlacedEntry). e.entry) es))
all_unplaced layout [] has = refl
all_unplaced layout (e ∷ es) has =
    ap (λ x. unplaced x ∷ map unplaced es) (its_label layout e (All-head (HasItsLabel layout) e es has))
    ∙ ap (λ xs. unplaced (placed_at layout (e.entry, (0, 0))) ∷ xs) (all_unplaced layout es (All-tail (HasItsLabel layout) e es has))

-- the positions of entries, each with its count
abbrev places : List PlacedEntry → List (ℕ × ℕ)
places es = zip (map (λ (e : PlacedEntry). e.position) es) (map (λ (e : PlacedEntry). e.looked) es)

all_placed : (layout : Layout) (es : List PlacedEntry) → All (HasItsLabel layout) es
    → es ≡ map (placed_at layout) (zip (map (λ (e : PlacedEntry). e.entry) es) (places es))
all_placed layout [] has = refl
all_placed layout (e ∷ es) has =
    ap (λ x. x ∷ es) (its_label layout e (All-head (HasItsLabel layout) e es has))
    ∙ ap (λ xs. placed_at layout (e.entry, (e.position, e.looked)) ∷ xs) (all_placed layout es (All-tail (HasItsLabel layout) e es has))

-- entries that are placed are the placed entries of the line
pub placed_are : (layout : Layout) (es : List LineAnnotation) (placed : List PlacedEntry) → ArePlaced layout es placed → placed ≡ placed_of layout es
placed_are layout es placed are =
    let entry : PlacedEntry → LineAnnotation = λ e. e.entry in
    let position : PlacedEntry → ℕ = λ e. e.position in
    let count : PlacedEntry → ℕ = λ e. e.looked in
    let ordered = ordered_by is_placed_before es in
    let bytes = all_unplaced layout placed are.labels in
    let alike : line_positions placed ≡ line_positions (labelled layout (map entry placed)) = sym (line_positions-unplaced placed)
    ∙ ap line_positions bytes ∙ line_positions-unplaced (labelled layout (map entry placed)) in
    let counted : look_counts 0 placed ≡ look_counts 0 (labelled layout (map entry placed)) = grind (arith, common_steps, look_counts-unplaced, bytes, entry) in
    let at : map position placed ≡ line_positions (labelled layout ordered) =
    are.positions_are ∙ alike ∙ ap (λ xs. line_positions (labelled layout xs)) are.order in
    let counts : map count placed ≡ look_counts 0 (labelled layout ordered) =
    are.looked_are ∙ counted ∙ ap (λ xs. look_counts 0 (labelled layout xs)) are.order in
    all_placed layout placed are.labels ∙ ap (λ xs. map (placed_at layout) (zip xs (places placed))) are.order
    ∙ ap (λ ps. map (placed_at layout) (zip ordered (zip ps (map count placed)))) at
    ∙ ap (λ ns. map (placed_at layout) (zip ordered (zip (line_positions (labelled layout ordered)) ns))) counts ∙ sym (placed_of-at layout es)
