-- How the entries of a line are placed, one position after another.
use Rattle.snippet_labels.proofs.Common.{◌+◌, ◌-◌, ◌&&◌, ◌||◌, Bool, List, Option, map, not, ℕ, option_map_or, normalized_chars}
use Rattle.snippet_labels.proofs.Common.{LineAnnotation, greatest, PlacedEntry, blocks, has_label, is_start_part, reaches, ◌≡◌, suc, ◌<◌, ◌≤◌}
use Rattle.snippet_labels.proofs.Common.{◌^◌, ◌==◌, cond, nat_lt, None, Some, true, false, [], ◌∷◌, ◌++◌, length, drop, take, set, get_or}
use Rattle.snippet_labels.proofs.Common.{refl, sym, ap, ◌∙◌, subst, arith, All, zero, list_all, list_any, position, position_or_len, zip, lt-ltb}
use Rattle.snippet_labels.proofs.Common.{map-map, append_assoc, append-nil, drop_more, drop_all, take_more, take_more_set, take_all, length-map}
use Rattle.snippet_labels.proofs.Common.{map_push, get_or-map, list_all-map, IsPermutation, All-permutation, IsPermutation-map, ordered_by, are_starts, crosses}
use Rattle.snippet_labels.proofs.Common.{position_at, position_after, positions, line_positions, ArePlaced, IsFromRight, HasItsLabel, asks, label_at}
use Rattle.snippet_labels.proofs.Common.{label_of_entry, Layout}
use Rattle.snippet_labels.proofs.Common.{unplaced, is_placed_before, look_counts, looked_after, placed_of, list_any-map, All-map, All-head, All-tail, fold}
use Rattle.snippet_labels.proofs.Common.{max, shifted, rules}

-- Words for parts of where labels stand, which proofs cite.
-- the characters that a label shows: normalised, and none where there is no label
abbrev pub label_chars : Option (List ℕ) → List ℕ
label_chars label = normalized_chars label

-- those that the label of an entry shows
abbrev pub label_text : LineAnnotation → List ℕ
label_text e = normalized_chars e.label

-- whether another entry needs a row below that of this entry, which has position p
abbrev pub crowds : ℕ → PlacedEntry → PlacedEntry → Bool
crowds p e other = blocks e other || reaches p e other

-- up to this place, it counted, of so many; all where there is none
abbrev pub up_to : Option ℕ → ℕ → ℕ
up_to place all = option_map_or (λ k. k + 1) place all

-- whether an entry is the start of a span of several lines, and has no label that shows anything
abbrev pub is_start : PlacedEntry → Bool
is_start e = is_start_part e.entry.annotation_type && not (has_label e)

-- positions flipped: the greatest becomes 0, and 0 the greatest
abbrev pub flipped : List ℕ → List ℕ
flipped ps = map (λ p. greatest ps - p) ps

-- an entry with its label, at this position, for which so many were looked at
abbrev pub placed_at : Layout → LineAnnotation × (ℕ × ℕ) → PlacedEntry
placed_at layout found =
    record { entry = found.0; label = label_of_entry layout found.0; position = found.1.0; looked = found.1.1 }

-- entries with their labels, none of which is placed yet
abbrev pub labelled : Layout → List LineAnnotation → List PlacedEntry
labelled layout es = map (λ e. placed_at layout (e, (0, 0))) es

-- the position of an entry whose label could stand after its mark: where a mark is in the way, and where none is
pub position_at-crossed : (p : ℕ) (e : PlacedEntry) (others : List PlacedEntry) → p ≤ 0 → has_label e ≡ true → list_any (crosses e) others ≡ true
    → 1 ≡ position_at p e others
position_at-crossed p e others none has crossed = search rules

pub position_at-clear : (p : ℕ) (e : PlacedEntry) (others : List PlacedEntry) → p ≤ 0 → has_label e ≡ true → list_any (crosses e) others ≡ false
    → 0 ≡ position_at p e others
position_at-clear p e others none has clear = search rules

-- one more position is known
pub positions_more : (ps : List ℕ) (es : List PlacedEntry) (all : List ℕ) (i reached : ℕ) (d : PlacedEntry) → i < length es
    → ps ++ positions reached (drop i es) ≡ all → let e = get_or es i d in let others = drop (i + 1) es in
    (ps ++ position_at reached e others ∷ []) ++ positions (position_after (position_at reached e others) e others) others ≡ all
positions_more ps es all i reached d within so_far = grind (arith, append_assoc, drop_more)

-- one more count is known, of those that are looked at
pub look_counts_more : (ns : List ℕ) (es : List PlacedEntry) (all : List ℕ) (i reached : ℕ) (d : PlacedEntry) → i < length es
    → ns ++ look_counts reached (drop i es) ≡ all → let e = get_or es i d in let others = drop (i + 1) es in
    (ns ++ looked_after reached e others ∷ []) ++ look_counts (position_after (position_at reached e others) e others) others ≡ all
look_counts_more ns es all i reached d within so_far = grind (arith, append_assoc, drop_more)

-- a position, or a count, is given to one more entry
pub placed_more : (f : PlacedEntry → ℕ) (es : List PlacedEntry) (ns : List ℕ) (i : ℕ) (e : PlacedEntry) → i < length es → i < length ns
    → map f (take i es) ≡ take i ns → f e ≡ get_or ns i 0 → map f (take (i + 1) (set es i e)) ≡ take (i + 1) ns
placed_more f es ns i e within within_ns so_far is = grind (arith, take_more_set, map_push, take_more)

-- what holds of the entries of a line holds of the placed ones
pub entries_all : (Q : LineAnnotation → Type 0) (es : List LineAnnotation) (ps : List PlacedEntry) → IsPermutation es (map (λ (e : PlacedEntry). e.entry) ps)
    → All Q es → All (λ (e : PlacedEntry). Q e.entry) ps
entries_all Q es ps same all k d within =
    let f : PlacedEntry → LineAnnotation = λ e. e.entry in
    subst Q (get_or-map f ps k d d.entry within) (All-permutation Q es (map f ps) same all k d.entry (omega (arith, within, length-map ps f)))

-- ---- the first entry in the way

position_or_len-map : {X Y : Type 0} (p : Y → Bool) (f : X → Y) (xs : List X) → position_or_len p (map f xs) ≡ position_or_len (λ x. p (f x)) xs
position_or_len-map p f [] = refl
position_or_len-map p f (x ∷ xs) = ap (λ n. cond (not (p (f x))) (1 + n) 0) (position_or_len-map p f xs)

position-map : {X Y : Type 0} (p : Y → Bool) (f : X → Y) (xs : List X) → position p (map f xs) ≡ position (λ x. p (f x)) xs
position-map p f xs = simp (position_or_len-map, length-map)

-- an element passes a test where there is a first one that does
any-position : {X : Type 0} (p : X → Bool) (xs : List X) → list_any p xs ≡ nat_lt (position_or_len p xs) (length xs)
any-position p [] = refl
any-position p (x ∷ xs) = grind (arith, lt-ltb, any-position p xs)

pub any_at_first : {X : Type 0} (p : X → Bool) (xs : List X) (k : ℕ) → Some k ≡ position p xs → list_any p xs ≡ true
any_at_first p xs k is = grind (arith, any-position)

pub any_at_none : {X : Type 0} (p : X → Bool) (xs : List X) → None ≡ position p xs → list_any p xs ≡ false
any_at_none p xs is = grind (arith, any-position)

-- there is no first element that passes a test where none does
pub no_position : {X : Type 0} (p : X → Bool) (xs : List X) → list_any p xs ≡ false → position p xs ≡ None
no_position p xs none = ap (λ b. cond b (Some (position_or_len p xs)) None) (sym (any-position p xs) ∙ none)

-- ---- positions and counts

-- entries changed in what the rule of positions doesn't look at have the same positions
module _ (f : PlacedEntry → PlacedEntry)
    (has : (e : PlacedEntry) → has_label (f e) ≡ has_label e)
    (high : (p : ℕ) (e : PlacedEntry) → length (label_at p (f e).label) ≡ length (label_at p e.label))
    (crossing : (e : PlacedEntry) → (λ (g : PlacedEntry). crosses (f e) (f g)) ≡ crosses e)
    (crowding : (p : ℕ) (e : PlacedEntry) → (λ (g : PlacedEntry). crowds p (f e) (f g)) ≡ crowds p e)
    (starting : (λ (e : PlacedEntry). is_start (f e)) ≡ is_start) where
  position_at-changed : (p : ℕ) (e : PlacedEntry) (others : List PlacedEntry) → position_at p (f e) (map f others) ≡ position_at p e others
  position_at-changed p e others =
      ap (λ b. cond ((p == 0) && (b && list_any (crosses (f e)) (map f others))) 1 p) (has e)
      ∙ ap (λ b. cond ((p == 0) && (has_label e && b)) 1 p) (list_any-map (crosses (f e)) f others ∙ ap (λ q. list_any q others) (crossing e))

  position_after-changed : (p : ℕ) (e : PlacedEntry) (others : List PlacedEntry) → position_after p (f e) (map f others) ≡ position_after p e others
  position_after-changed p e others =
      ap (λ n. cond (list_any (crowds p (f e)) (map f others)) (p + n) p) (high p e)
      ∙ ap (λ b. cond b (p + length (label_at p e.label)) p) (list_any-map (crowds p (f e)) f others ∙ ap (λ q. list_any q others) (crowding p e))

  positions-changed : (p : ℕ) (es : List PlacedEntry) → positions p (map f es) ≡ positions p es
  positions-changed p [] = refl
  positions-changed p (e ∷ others) =
      let here = position_at p e others in
      ap (λ q. q ∷ positions (position_after q (f e) (map f others)) (map f others)) (position_at-changed p e others)
      ∙ ap (λ q. here ∷ positions q (map f others)) (position_after-changed here e others)
      ∙ ap (λ qs. here ∷ qs) (positions-changed (position_after here e others) others)

  looked_after-changed : (p : ℕ) (e : PlacedEntry) (others : List PlacedEntry) → looked_after p (f e) (map f others) ≡ looked_after p e others
  looked_after-changed p e others =
      let first = position-map (crosses (f e)) f others ∙ ap (λ q. position q others) (crossing e) in
      ap (λ b. cond ((p == 0) && b) (up_to (position (crosses (f e)) (map f others)) (length (map f others))) (length (map f others))) (has e)
      ∙ ap (λ n. cond ((p == 0) && has_label e) (up_to (position (crosses (f e)) (map f others)) n) n) (length-map others f)
      ∙ ap (λ at. cond ((p == 0) && has_label e) (up_to at (length others)) (length others)) first

  pub look_counts-changed : (p : ℕ) (es : List PlacedEntry) → look_counts p (map f es) ≡ look_counts p es
  look_counts-changed p [] = refl
  look_counts-changed p (e ∷ others) =
      let here = position_at p e others in
      let count = looked_after p e others in
      ap (λ n. n ∷ look_counts (position_after (position_at p (f e) (map f others)) (f e) (map f others)) (map f others)) (looked_after-changed p e others)
      ∙ ap (λ q. count ∷ look_counts (position_after q (f e) (map f others)) (map f others)) (position_at-changed p e others)
      ∙ ap (λ q. count ∷ look_counts q (map f others)) (position_after-changed here e others)
      ∙ ap (λ ns. count ∷ ns) (look_counts-changed (position_after here e others) others)

  pub are_starts-changed : (es : List PlacedEntry) → are_starts (map f es) ≡ are_starts es
  are_starts-changed es = list_all-map is_start f es ∙ ap (λ q. list_all q es) starting

  pub line_positions-changed : (es : List PlacedEntry) → line_positions (map f es) ≡ line_positions es
  line_positions-changed es = simp (are_starts-changed, positions-changed)

-- what doesn't look at positions is kept where nothing else changes
pub each_kept : (P : PlacedEntry → Type 0) (es fs : List PlacedEntry) → ((e : PlacedEntry) → P (unplaced e) → P e) → ((e : PlacedEntry) → P e → P (unplaced e))
    → map unplaced es ≡ map unplaced fs → All P fs → All P es
each_kept P es fs back forth kept all k d within =
    let long : length es ≡ length fs = sym (length-map es unplaced) ∙ ap length kept ∙ length-map fs unplaced in
    let inside : k < length fs = omega (arith, long, within) in
    let same : unplaced (get_or es k d) ≡ unplaced (get_or fs k d) = sym (get_or-map unplaced es k d (unplaced d) within)
    ∙ ap (λ xs. get_or xs k (unplaced d)) kept ∙ get_or-map unplaced fs k d (unplaced d) inside in
    back (get_or es k d) (subst P (sym same) (forth (get_or fs k d) (all k d inside)))

pub entries_kept : (es fs : List PlacedEntry) → map unplaced es ≡ map unplaced fs
    → map (λ (e : PlacedEntry). e.entry) es ≡ map (λ (e : PlacedEntry). e.entry) fs
entries_kept es fs kept =
    let f : PlacedEntry → LineAnnotation = λ e. e.entry in
    sym (map-map f unplaced es) ∙ ap (map f) kept ∙ map-map f unplaced fs

-- so positions don't depend on positions
line_positions-unplaced : (es : List PlacedEntry) → line_positions (map unplaced es) ≡ line_positions es
line_positions-unplaced = line_positions-changed unplaced (λ e. refl) (λ p e. refl) (λ e. refl) (λ p e. refl) refl

look_counts-unplaced : (es : List PlacedEntry) → look_counts 0 (map unplaced es) ≡ look_counts 0 es
look_counts-unplaced = look_counts-changed unplaced (λ e. refl) (λ p e. refl) (λ e. refl) (λ p e. refl) refl 0

pub look_counts_kept : (es fs : List PlacedEntry) → map unplaced es ≡ map unplaced fs → look_counts 0 es ≡ look_counts 0 fs
look_counts_kept es fs kept = sym (look_counts-unplaced es) ∙ ap (look_counts 0) kept ∙ look_counts-unplaced fs

pub line_positions_kept : (es fs : List PlacedEntry) → map unplaced es ≡ map unplaced fs → line_positions es ≡ line_positions fs
line_positions_kept es fs kept = sym (line_positions-unplaced es) ∙ ap line_positions kept ∙ line_positions-unplaced fs

-- a part that was lent, as long as the whole, comes back in its place
pub written_back : (xs ys : List PlacedEntry) (len : ℕ) → len ≡ length ys → map unplaced xs ≡ map unplaced ys → take len (xs ++ drop (length xs) ys) ≡ xs
written_back xs ys len is kept = grind (arith, length-map, drop_all, append-nil, take_all)

-- entries that were put in an order and got the positions of it are placed
pub ArePlaced-from : (layout : Layout) (es : List LineAnnotation) (labelled sorted placed : List PlacedEntry)
    → map (λ (e : PlacedEntry). e.entry) labelled ≡ es → All (HasItsLabel layout) labelled → IsPermutation labelled sorted
    → map (λ (e : PlacedEntry). e.entry) sorted ≡ ordered_by is_placed_before (map (λ (e : PlacedEntry). e.entry) labelled)
    → IsFromRight (map (λ (e : PlacedEntry). e.entry) sorted) → map (λ (e : PlacedEntry). e.position) placed ≡ line_positions sorted
    → map (λ (e : PlacedEntry). e.looked) placed ≡ look_counts 0 sorted → map unplaced placed ≡ map unplaced sorted → ArePlaced layout es placed
ArePlaced-from layout es labelled sorted placed entries labels same order ordered are counts kept =
    let f : PlacedEntry → LineAnnotation = λ e. e.entry in
    record {
      order = entries_kept placed sorted kept ∙ order ∙ ap (ordered_by is_placed_before) entries;
      same = subst (IsPermutation es) (sym (entries_kept placed sorted kept))
          (subst (λ xs. IsPermutation xs (map f sorted)) entries (IsPermutation-map f labelled sorted same));
      from_right = subst IsFromRight (sym (entries_kept placed sorted kept)) ordered;
      labels = each_kept (HasItsLabel layout) placed sorted (λ e has. has) (λ e has. has) kept
          (All-permutation (HasItsLabel layout) labelled sorted same labels);
      positions_are = are ∙ sym (line_positions_kept placed sorted kept);
      looked_are = counts ∙ sym (look_counts_kept placed sorted kept);
    }

-- positions that are flipped are no lower than those given
greatest_from : (ps : List ℕ) (m n : ℕ) → m ≤ n → All (λ q. q ≤ n) ps → fold (λ m n. max m n) m ps ≤ n
greatest_from [] m n low all = low
greatest_from (p ∷ ps) m n low all =
    let here : p ≤ n = All-head (λ q. q ≤ n) p ps all in
    greatest_from ps (max m p) n (omega arith) (All-tail (λ q. q ≤ n) p ps all)

-- positions on a line are within a bound where those that are given out are
pub line_positions_low : (n : ℕ) (es : List PlacedEntry) → All (λ q. q ≤ n) (positions 0 es) → All (λ q. q ≤ n) (line_positions es)
line_positions_low n es all =
    elim (are_starts es) as (λ b. All (λ q. q ≤ n) (cond b (flipped (positions 0 es)) (positions 0 es))) [
      | true ↦ All-map (λ q. q ≤ n) (λ p. greatest (positions 0 es) - p) (positions 0 es) (λ k d within.
          omega (arith, greatest_from (positions 0 es) 0 n (omega arith) all))
      | false ↦ all
    ]

-- ---- entries that ask for no row

any_none : {X : Type 0} (q : X → Bool) (xs : List X) → ((k : ℕ) (d : X) → k < length xs → q (get_or xs k d) ≡ false) → list_any q xs ≡ false
any_none q [] none = refl
any_none q (x ∷ xs) none =
    ap (λ b. b || list_any q xs) (none 0 x (omega arith)) ∙ any_none q xs (λ k d within. none (suc k) d (omega (arith, within)))

any_front : {X : Type 0} (q : X → Bool) (n : ℕ) (xs : List X) → ((k : ℕ) (d : X) → n ≤ k → k < length xs → q (get_or xs k d) ≡ false)
    → list_any q (take n xs) ≡ list_any q xs
any_front q zero xs none = sym (any_none q xs (λ k d within. none k d (omega arith) within))
any_front q (suc n) [] none = refl
any_front q (suc n) (x ∷ xs) none =
    ap (λ b. q x || b) (any_front q n xs (λ k d past within. none (suc k) d (omega (arith, past)) (omega (arith, within))))

-- an entry that asks for no row crowds no other
uncrowding : (p : ℕ) (e other : PlacedEntry) → asks other ≡ false → crowds p e other ≡ false
uncrowding p e other none = search rules

-- so only those that ask decide which position is reached
pub position_after-front : (p : ℕ) (e : PlacedEntry) (others : List PlacedEntry) (n : ℕ)
    → ((k : ℕ) (d : PlacedEntry) → n ≤ k → k < length others → asks (get_or others k d) ≡ false)
    → position_after p e (take n others) ≡ position_after p e others
position_after-front p e others n none =
    ap (λ b. cond b (p + length (label_at p e.label)) p)
    (any_front (crowds p e) n others (λ k d past within. uncrowding p e (get_or others k d) (none k d past within)))

-- shifted entries end no farther right
pub shifted_narrow : (dropped : ℕ) (es : List LineAnnotation) → All (λ e. e.end.display < 2 ^ 60) es
    → All (λ e. e.end.display < 2 ^ 60) (map (shifted dropped) es)
shifted_narrow dropped es narrow =
    All-map (λ (e : LineAnnotation). e.end.display < 2 ^ 60) (shifted dropped) es (λ k d within. omega (arith, narrow k d within))

-- ---- placed entries as a value

-- they are made one by one, each from its entry and its place
pub placed_of-at : (layout : Layout) (es : List LineAnnotation) → let ordered = ordered_by is_placed_before es in
    placed_of layout es ≡ map (placed_at layout) (zip ordered (zip (line_positions (labelled layout ordered)) (look_counts 0 (labelled layout ordered))))
placed_of-at layout es =
    let ordered = ordered_by is_placed_before es in
    each ordered (zip (line_positions (labelled layout ordered)) (look_counts 0 (labelled layout ordered)))
  where
    each : (xs : List LineAnnotation) (at : List (ℕ × ℕ))
        → map (λ (found : PlacedEntry × (ℕ × ℕ)). record found.0 { position = found.1.0; looked = found.1.1 }) (zip (labelled layout xs) at)
        ≡ map (placed_at layout) (zip xs at)
    each [] at = refl
    each (x ∷ xs) [] = refl
    each (x ∷ xs) (p ∷ at) = ap (λ ys. placed_at layout (x, p) ∷ ys) (each xs at)
