use Rattle.snippet_labels.proofs.Common.{◌≡◌, ◌∙◌, ◌+◌, ◌-◌, ◌<◌, List, ℕ, ap, arith, drop, get_or, length, map, refl, sym}
use Rattle.snippet_labels.proofs.Common.{map-set_same, drop_more_same, drop-set-lt, get_or-drop, get_or-map, length-map, length-set, take_all, unplaced}
use Rattle.snippet_labels.proofs.Common.{PlacedEntry}
use Rattle.snippet_labels.proofs.PlacedLemmas.{placed_more}
use Rattle.snippet_labels.proofs.positions.flip.Goals as goal

-- the first element of what is left of two lists
first_left : (es fs : List PlacedEntry) (i : ℕ) (d : PlacedEntry) → drop i es ≡ drop i fs → get_or es i d ≡ get_or fs i d
first_left es fs i d same =
    let here : i ≡ i + 0 = omega arith in
    ap (λ k. get_or es k d) here ∙ sym (get_or-drop i es 0 d) ∙ ap (λ xs. get_or xs 0 d) same ∙ get_or-drop i fs 0 d ∙ ap (λ k. get_or fs k d) (sym here)

pub loop-i-preserved : goal.loop-i-preserved
loop-i-preserved c =
    let at = c.loop-i in
    let es = at.entries in
    let given = c.args.entries.now in
    let i : ℕ = at.i in
    let g = c.greatest_position-greatest.result in
    let d = c.index-entries-i.result in
    let e : PlacedEntry = get_or es i d in
    let placed : PlacedEntry = record e { position = c.saturating_sub-placed.result } in
    let within : i < length es = omega (arith, c.loop-i-test.true, at.invariant.count) in
    let inside : i < length given = omega (arith, within, at.invariant.count) in
    let ps : List ℕ = map (λ e. e.position) given in
    let many : length ps ≡ length given = length-map given (λ e. e.position) in
    let is : placed.position ≡ get_or (map (λ p. g - p) ps) i 0 = c.saturating_sub-placed.ensures ∙ ap (λ (x : PlacedEntry). g - x.position)
    (first_left es given i d at.invariant.left)
    ∙ sym (get_or-map (λ p. g - p) ps i 0 0 (omega (arith, inside, many)) ∙ ap (λ p. g - p) (get_or-map (λ e. e.position) given i d 0 inside)) in
    record {
      count = length-set es i placed ∙ at.invariant.count;
      flipped = placed_more (λ e. e.position) es (map (λ p. g - p) ps) i placed within (omega (arith, inside, many, length-map ps (λ p. g - p)))
          at.invariant.flipped is;
      left = drop-set-lt (i + 1) es i placed (omega arith) ∙ drop_more_same es given i at.invariant.left;
      looked = map-set_same (λ e. e.looked) es i placed d refl ∙ at.invariant.looked;
      kept = map-set_same unplaced es i placed d refl ∙ at.invariant.kept;
    }

pub returns : goal.returns
returns c =
    let at = c.loop-i in
    let es = at.entries in
    let given = c.args.entries.now in
    let ps : List ℕ = map (λ e. e.position) given in
    let flipped : List ℕ = map (λ p. c.greatest_position-greatest.result - p) ps in
    let all : length given ≡ at.i = omega (arith, c.loop-i-test.false, c.loop-i.auto.i-end) in
    record {
      flipped = ap (map (λ e. e.position)) (sym (take_all at.i es (omega (arith, all, at.invariant.count)))) ∙ at.invariant.flipped
          ∙ take_all at.i flipped (omega (arith, all, length-map given (λ e. e.position), length-map ps (λ p. c.greatest_position-greatest.result - p)))
          ∙ ap (λ n. map (λ p. n - p) ps) c.greatest_position-greatest.ensures.value;
      looked = at.invariant.looked;
      kept = at.invariant.kept;
    }
