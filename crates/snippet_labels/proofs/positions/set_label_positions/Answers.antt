use Rattle.snippet_labels.proofs.Common.{◌≡◌, ◌∙◌, ◌+◌, ◌<◌, ◌^◌, ◌++◌, ◌∷◌, [], ℕ, get_or, map, refl, set, sym}
use Rattle.snippet_labels.proofs.Common.{ap, subst, All, All-append, All-cons, All-nil, take, drop, length, arith, map-set_same, drop_more_same, drop-set-lt}
use Rattle.snippet_labels.proofs.Common.{get_or-map, length-set, map_push}
use Rattle.snippet_labels.proofs.Common.{take_more_set, look_counts, looked_after, position_at, position_after, positions, asks, unplaced, PlacedEntry}
use Rattle.snippet_labels.proofs.PlacedLemmas.{each_kept, look_counts_more, positions_more}
use Rattle.snippet_style.specs.Bounds.{IsRowNumber}
use Rattle.snippet_labels.proofs.positions.set_label_positions.Goals as goal

pub found_at-requires-clause-columns : goal.found_at-requires-clause-columns
found_at-requires-clause-columns c =
    each_kept (λ (e : PlacedEntry). e.entry.end.display < 2 ^ 60) c.loop-i.entries c.args.entries.now (λ e narrow. narrow) (λ e narrow. narrow)
    c.loop-i.invariant.kept c.requires.columns

pub found_at-requires-clause-none : goal.found_at-requires-clause-none
found_at-requires-clause-none c k d past within =
    let es = c.loop-i.entries in
    let given = c.args.entries.now in
    let inside : k < length given = omega (arith, within, c.loop-i.invariant.count) in
    let same : unplaced (get_or es k d) ≡ unplaced (get_or given k d) = sym (get_or-map unplaced es k d (unplaced d) within)
    ∙ ap (λ xs. get_or xs k (unplaced d)) c.loop-i.invariant.kept ∙ get_or-map unplaced given k d (unplaced d) inside in
    ap asks same ∙ c.askers_end-end.ensures.none k d past inside

pub loop-i-preserved : goal.loop-i-preserved
loop-i-preserved c =
    let at = c.loop-i in
    let es = at.entries in
    let given = c.args.entries.now in
    let i : ℕ = at.i in
    let others = drop (i + 1) es in
    let done = take i es in
    let d = c.index-entries-i.result in
    let here : PlacedEntry = get_or es i d in
    let position : PlacedEntry → ℕ = λ e. e.position in
    let count : PlacedEntry → ℕ = λ e. e.looked in
    let reached = at.reached in
    let found = c.in_ok-here.here in
    let after = c.in_ok-here.after in
    let placed : PlacedEntry = record here { position = found.position; looked = found.looked } in
    let within : i < length es = omega (arith, c.loop-i-test.true, at.invariant.count) in
    let p : ℕ = position_at reached here others in
    let n : ℕ = looked_after reached here others in
    let next : ℕ = position_after p here others in
    let rest : drop (i + 1) (set es i placed) ≡ others = drop-set-lt (i + 1) es i placed (omega arith) in
    let taken : take (i + 1) (set es i placed) ≡ done ++ placed ∷ [] = take_more_set es i placed within in
    record {
      placed = ap (λ xs. map position xs ++ positions after (drop (i + 1) (set es i placed))) taken
          ∙ ap (λ xs. map position (done ++ placed ∷ []) ++ positions after xs) rest ∙ ap (λ xs. xs ++ positions after others) (map_push position done placed)
          ∙ ap (λ x. (map position done ++ x ∷ []) ++ positions after others) (c.in_ok-here.ensures.position d)
          ∙ ap (λ x. (map position done ++ p ∷ []) ++ positions x others) (c.in_ok-here.ensures.after d)
          ∙ positions_more (map position done) es (positions 0 given) i reached d within at.invariant.placed;
      low = c.in_ok-here.ensures.low.1;
      small = subst (λ xs. All IsRowNumber (map position xs)) (sym taken) (subst (All IsRowNumber) (sym (map_push position done placed))
          (All-append IsRowNumber (map position done) (found.position ∷ []) at.invariant.small
          (All-cons IsRowNumber found.position [] c.in_ok-here.ensures.low.0 (All-nil IsRowNumber))));
      looked = ap (λ xs. map count xs ++ look_counts after (drop (i + 1) (set es i placed))) taken
          ∙ ap (λ xs. map count (done ++ placed ∷ []) ++ look_counts after xs) rest ∙ ap (λ xs. xs ++ look_counts after others) (map_push count done placed)
          ∙ ap (λ x. (map count done ++ x ∷ []) ++ look_counts after others) (c.in_ok-here.ensures.looked d)
          ∙ ap (λ x. (map count done ++ n ∷ []) ++ look_counts x others) (c.in_ok-here.ensures.after d)
          ∙ look_counts_more (map count done) es (look_counts 0 given) i reached d within at.invariant.looked;
      kept = map-set_same unplaced es i placed d refl ∙ at.invariant.kept;
      left = rest ∙ drop_more_same es given i at.invariant.left;
      count = length-set es i placed ∙ at.invariant.count;
    }
