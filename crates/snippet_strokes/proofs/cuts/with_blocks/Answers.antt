use Rattle.snippet_strokes.proofs.Common.{◌≡◌, ◌∙◌, ◌+◌, ◌<◌, ◌≤◌, ◌==◌, ◌&&◌, ◌||◌, ◌∷◌, [], ◌++◌, ℕ, Bool, true, false, List, PlacedEntry, with_blocks}
use Rattle.snippet_strokes.proofs.Common.{ap, sym, refl, arith, drop, take, set, length, get_or, zip, list_any, get_or-map, length-map, nat_le, nat_lt}
use Rattle.snippet_strokes.proofs.Common.{get_or-drop, take_all}
use Rattle.snippet_labels.specs.Positions.{pieces_of}
use Rattle.snippet_strokes.proofs.Common.{Layout}
use Rattle.snippet_labels.specs.Pieces.{breaks_labels}
use Rattle.std.proofs.lemmas.List.{drop-set-lt, length-set, take_more, take_more_set}
use Rattle.std.proofs.lemmas.Grind.{drop_more_same}
use Rattle.std.proofs.lemmas.Slice.Zip.{get_or-zip, length-zip}
use Rattle.snippet_strokes.proofs.cuts.with_blocks.Goals as goal
use Rattle.snippet_strokes.proofs.cuts.with_blocks.Goals.{then-stays_whole, else-stays_whole}

-- whether an entry isn't cut any more
abbrev is_kept : Layout → List PlacedEntry → PlacedEntry → Bool
is_kept layout placed e =
    let is_block : PlacedEntry → Bool = λ f. f.position == 0 && (nat_le e.entry.start.display f.entry.start.display && nat_lt 1 (length (pieces_of f))) in
    breaks_labels layout || list_any is_block placed

length-with_blocks : (layout : Layout) (placed : List PlacedEntry) (flags : List Bool) → length flags ≤ length placed
    → length (with_blocks layout placed flags) ≡ length flags
length-with_blocks layout placed flags few = grind (arith, length-map, length-zip)

-- the flag of the entry at place k
flag_at : (layout : Layout) (placed : List PlacedEntry) (flags : List Bool) (k : ℕ) (d : PlacedEntry) → k < length flags → length flags ≤ length placed
    → get_or (with_blocks layout placed flags) k false ≡ (get_or flags k false || is_kept layout placed (get_or placed k d))
flag_at layout placed flags k d within few =
    let flag : PlacedEntry × Bool → Bool = λ pair. pair.1 || is_kept layout placed pair.0 in
    get_or-map flag (zip placed flags) k (d, false) false (omega (arith, length-zip placed flags, within, few))
    ∙ ap flag (get_or-zip placed flags k (d, false) (omega (arith, within, few)) within)

same_from : (xs ys : List Bool) (k : ℕ) → drop k xs ≡ drop k ys → get_or xs k false ≡ get_or ys k false
same_from xs ys k same =
    let none : k ≡ k + 0 = omega arith in
    ap (λ i. get_or xs i false) none ∙ sym (get_or-drop k xs 0 false) ∙ ap (λ zs. get_or zs 0 false) same ∙ get_or-drop k ys 0 false
    ∙ ap (λ i. get_or ys i false) (sym none)

pub loop-k-init : goal.loop-k-init
loop-k-init c = record { done = refl; left = refl; count = refl }

pub loop-k-preserved : goal.loop-k-preserved
loop-k-preserved c =
    let layout = c.args.layout in
    let placed = c.args.placed.now in
    let initial = c.args.overlapped.items in
    let target = with_blocks layout placed initial in
    let now = c.loop-k.overlapped.items in
    let k : ℕ = c.loop-k.k in
    let here = c.index-placed-k.result in
    let within : k < length initial = omega (arith, c.loop-k-test.true, c.len-k-end.ensures) in
    let inside : k < length now = omega (arith, within, c.loop-k.invariant.count) in
    let in_target : k < length target = omega (arith, within, length-with_blocks layout placed initial c.requires.count) in
    let known : get_or target k false ≡ (get_or now k false || c.stays_whole.result) = flag_at layout placed initial k here within c.requires.count
    ∙ ap (λ b. b || is_kept layout placed (get_or placed k here)) (sym (same_from now initial k c.loop-k.invariant.left))
    ∙ ap (λ e. get_or now k false || is_kept layout placed e) (sym c.index-placed-k.is) ∙ ap (λ b. get_or now k false || b) (sym c.stays_whole.ensures.value) in
    let left = drop_more_same now initial k c.loop-k.invariant.left in
    let next : (x : Bool) → get_or target k false ≡ x → take k now ++ x ∷ [] ≡ take (k + 1) target = λ x is.
    ap (λ ys. ys ++ x ∷ []) c.loop-k.invariant.done ∙ ap (λ y. take k target ++ y ∷ []) (sym is) ∙ sym (take_more target k false in_target) in
    elim c.if-stays_whole.branch [
      | then-stays_whole w ↦
          let is : get_or target k false ≡ true = known ∙ ap (λ b. get_or now k false || b) w.if-stays_whole.true ∙ or_true (get_or now k false) in
          let new : c.if-stays_whole.overlapped.items ≡ set now k true = ap (λ v. v.items) w.overlapped-is in
          record {
            done = ap (take (k + 1)) new ∙ take_more_set now k true inside ∙ next true is;
            left = ap (drop (k + 1)) new ∙ drop-set-lt (k + 1) now k true (omega arith) ∙ left;
            count = ap (λ (xs : List Bool). length xs) new ∙ length-set now k true ∙ c.loop-k.invariant.count;
          }
      | else-stays_whole w ↦
          let is : get_or target k false ≡ get_or now k false = known ∙ ap (λ b. get_or now k false || b) w.if-stays_whole.false
          ∙ or_false (get_or now k false) in
          let new : c.if-stays_whole.overlapped.items ≡ now = ap (λ v. v.items) w.overlapped-is in
          record {
            done = ap (take (k + 1)) new ∙ take_more now k false inside ∙ next (get_or now k false) is;
            left = ap (drop (k + 1)) new ∙ left;
            count = ap (λ (xs : List Bool). length xs) new ∙ c.loop-k.invariant.count;
          }
    ]
  where
    or_true : (b : Bool) → (b || true) ≡ true
    or_true true = refl
    or_true false = refl

    or_false : (b : Bool) → (b || false) ≡ b
    or_false true = refl
    or_false false = refl

pub returns : goal.returns
returns c =
    let initial = c.args.overlapped.items in
    let target = with_blocks c.args.layout c.args.placed.now initial in
    let all : length initial ≤ c.loop-k.k = omega (arith, c.loop-k-test.false, c.len-k-end.ensures) in
    let value : c.loop-k.overlapped.items ≡ target =
    sym (take_all c.loop-k.k c.loop-k.overlapped.items (omega (arith, all, c.loop-k.invariant.count))) ∙ c.loop-k.invariant.done
    ∙ take_all c.loop-k.k target (omega (arith, all, length-with_blocks c.args.layout c.args.placed.now initial c.requires.count)) in
    record {
      value = value;
      count = omega (arith, c.loop-k.invariant.count, c.requires.count);
    }
