use Rattle.snippet_labels.proofs.Common.{arith, get_or, get_or-map, length, ℕ, List, ◌≡◌, ◌∙◌, ◌-◌, ◌<◌, ◌^◌, All, sym, subst, ap, map, reverse, range_with_len}
use Rattle.snippet_labels.proofs.Common.{IsPermutation, All-permutation, IsPermutation-map, IsPermutation-reverse, LineAnnotation, PlacedEntry, shifted}
use Rattle.snippet_labels.proofs.Common.{line_positions, look_counts, ArePlaced, HasItsLabel, StandInRow, unplaced, length-map, reverse-reverse}
use Rattle.snippet_labels.proofs.PlacedLemmas.{entries_all, written_back, ArePlaced-from, shifted_narrow}
use Rattle.snippet_labels.proofs.RowLemmas.{ArePlaced-row, map-reverse}
use Rattle.snippet_labels.proofs.Common.{Layout, false}
use Rattle.snippet_labels.specs.Placing.{SharesRow}
use Rattle.snippet_labels.specs.Pieces.{LabelPieces}
use Rattle.snippet_text.specs.Normalized.{normalized_chars}
use Rattle.std.specs.Prelude.{◌&&◌, nat_lt, max, ◌+◌}
use Rattle.std.specs.List.{list_any}
use Rattle.snippet_text.specs.Width.{char_width}
use Rattle.snippet_grid.specs.Layout.{code_cell}
use Rattle.snippet_labels.proofs.positions.placed_entries.Goals as goal

-- where labels aren't cut others may stand in the row of each entry
shares_whole : (layout : Layout) → layout.label_lines ≡ false → (e : PlacedEntry) → HasItsLabel layout e → SharesRow e
shares_whole layout uncut e its =
    let text : List ℕ = normalized_chars e.entry.label in
    let end : ℕ = code_cell layout (max (e.entry.start.display + 1) e.entry.end.display) in (
      ap (λ (l : LabelPieces). l.last) its ∙ ap (λ b. b && nat_lt 0 layout.label_end && list_any (λ c. nat_lt 1 (char_width c)) text) uncut,
      ap (λ (l : LabelPieces). l.past) its ∙ ap (λ b. b && nat_lt 0 layout.label_end && nat_lt layout.label_end end) uncut,
    )

-- entries that are listed from the last to the first, and turned round, are those that are given
turned : (es : List LineAnnotation) (listed : List PlacedEntry) → map (λ (e : PlacedEntry). e.entry) listed ≡ reverse es
    → map (λ (e : PlacedEntry). e.entry) (reverse listed) ≡ es
turned es listed are = map-reverse (λ (e : PlacedEntry). e.entry) listed ∙ ap reverse are ∙ reverse-reverse es

pub stand_in_row-requires : goal.stand_in_row-requires
stand_in_row-requires c =
    let Q : LineAnnotation → Type 0 = λ e. e.end.display < 2 ^ 60 in
    let es = map (shifted c.args.dropped) c.args.entries.now in
    record {
      columns = subst (λ (ps : List PlacedEntry). All (λ (e : PlacedEntry). Q e.entry) ps) (sym c.deref.ensures.value)
          (entries_all Q es c.in_ok-placed.placed.items (subst (IsPermutation es) (sym c.in_ok-placed.ensures.entries) (IsPermutation-reverse es))
          (shifted_narrow c.args.dropped c.args.entries.now (λ k d within. (c.requires.places k d within).near)));
      whole = λ uncut. subst (All SharesRow) (sym c.deref.ensures.value) (λ k d within.
          let cut : c.args.layout.label_lines ≡ false = ap (λ (l : Layout). l.label_lines) (sym c.layout.view_is) ∙ uncut in
          shares_whole c.args.layout cut (get_or c.in_ok-placed.placed.items k d) (c.in_ok-placed.ensures.labels k d within));
    }

pub returns-then-stand_in_row : goal.returns-then-stand_in_row
returns-then-stand_in_row c =
    let es = map (shifted c.args.dropped) c.args.entries.now in
    let placed = c.in_ok-placed.placed.items in
    record {
      placed = ArePlaced-row c.args.layout es (2 ^ 64 - 1) placed c.in_ok-placed.ensures.entries c.in_ok-placed.ensures.labels
          c.in_ok-placed.ensures.positions (c.in_ok-placed.ensures.looked
          ∙ ap (λ n. reverse (range_with_len 0 n)) (sym (length-map c.args.entries.now (shifted c.args.dropped))))
          (subst (StandInRow (2 ^ 64 - 1)) c.deref.ensures.value (c.stand_in_row.ensures.yes c.if-stand_in_row.true));
      low = λ k d within. omega (arith, c.in_ok-placed.ensures.positions k d within);
    }

pub set_positions-requires : goal.set_positions-requires
set_positions-requires c =
    let Q : LineAnnotation → Type 0 = λ e. e.end.display < 2 ^ 60 in
    let es = map (shifted c.args.dropped) c.args.entries.now in
    let listed = c.in_ok-placed.placed.items in
    let sorted = c.sort_from_right.new.entries.items in
    let same = subst (λ es. IsPermutation es (map (λ (e : PlacedEntry). e.entry) sorted)) (turned es listed c.in_ok-placed.ensures.entries)
    (IsPermutation-map (λ (e : PlacedEntry). e.entry) (reverse listed) sorted c.in_ok-sort_from_right.ensures.same) in
    record {
      columns = subst (λ (ps : _). All (λ (e : PlacedEntry). Q e.entry) ps) (sym c.deref_mut.ensures.value)
          (entries_all Q es sorted same (shifted_narrow c.args.dropped c.args.entries.now (λ k d within. (c.requires.places k d within).near)));
    }

pub returns : goal.returns
returns c =
    let es = map (shifted c.args.dropped) c.args.entries.now in
    let listed = c.in_ok-placed.placed.items in
    let sorted = c.sort_from_right.new.entries in
    let placed = c.set_positions.new.entries in
    let back = IsPermutation-reverse listed in
    let kept = c.in_ok-set_positions.ensures.kept ∙ ap (map unplaced) c.deref_mut.ensures.value in
    let whole = written_back placed sorted.items sorted.len sorted.ok.0 kept in
    let position : PlacedEntry → ℕ = λ e. e.position in
    let are = c.in_ok-set_positions.ensures.placed in
    record {
      placed = subst (ArePlaced c.args.layout es) (sym whole)
          (ArePlaced-from c.args.layout es (reverse listed) sorted.items placed (turned es listed c.in_ok-placed.ensures.entries)
          (All-permutation (HasItsLabel c.args.layout) listed (reverse listed) back c.in_ok-placed.ensures.labels)
          c.in_ok-sort_from_right.ensures.same c.in_ok-sort_from_right.ensures.order c.in_ok-sort_from_right.ensures.from_right
          (c.in_ok-set_positions.ensures.placed ∙ ap line_positions c.deref_mut.ensures.value)
          (c.in_ok-set_positions.ensures.looked ∙ ap (look_counts 0) c.deref_mut.ensures.value) kept);
      low = subst (All (λ (e : PlacedEntry). e.position < 2 ^ 60)) (sym whole) (λ k d within.
          subst (λ n. n < 2 ^ 60) (ap (λ ps. get_or ps k 0) (sym are) ∙ get_or-map position placed k d 0 within)
          (c.in_ok-set_positions.ensures.low k 0 (omega (arith, within, length-map placed position, ap length are))));
    }
