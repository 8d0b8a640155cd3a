-- Which bars are open, and where they have their place.
use Rattle.snippet_strokes.proofs.Common.{◌≡◌, ℕ, ◌+◌, ◌<◌, ◌++◌, ◌∷◌, [], Bool, Option, List, All, length, take, get_or, arith}
use Rattle.snippet_strokes.proofs.Common.{option_to_list, take_more, All-append, All-cons, All-nil, All-filter, All-same, All-tail, filter_map-append}
use Rattle.snippet_strokes.proofs.Common.{LineAnnotation, LineAnnotationType, Singleline, MultilineStart, MultilineEnd, MultilineLine, Layout, OpenBar, bar_at}
use Rattle.snippet_strokes.proofs.Common.{bars_apart, ends_of_bars, HasBarRoom, bar_of, has_depth, open_below, HasBarCell, HasBarCellAt, common_steps}
use Rattle.snippet_strokes.proofs.Common.{nat_tests, rules}
use Rattle.std.specs.Prelude.{not}

-- the bars of one entry
one_end : (e : LineAnnotation) → ends_of_bars (e ∷ []) ≡ option_to_list (bar_of e)
one_end e = search rules

-- one entry more is read
pub ends_more : (es : List LineAnnotation) (i : ℕ) (d : LineAnnotation) (bars next : List OpenBar) (found : Option OpenBar) → i < length es
    → bars ≡ ends_of_bars (take i es) → found ≡ bar_of (get_or es i d) → next ≡ bars ++ option_to_list found → next ≡ ends_of_bars (take (i + 1) es)
ends_more es i d bars next found within before is pushed = grind (arith, common_steps, nat_tests, take_more, filter_map-append, one_end)

-- the bar of an entry has its place where the entry has
room_at : (layout : Layout) (t : LineAnnotationType) (primary : Bool) → HasBarCellAt layout t → All (HasBarRoom layout) (option_to_list (bar_at t primary))
room_at layout Singleline primary has = All-nil (HasBarRoom layout)
room_at layout (MultilineStart depth) primary has =
    All-cons (HasBarRoom layout) (record { depth = depth; primary = primary }) [] has (All-nil (HasBarRoom layout))
room_at layout (MultilineEnd depth) primary has =
    All-cons (HasBarRoom layout) (record { depth = depth; primary = primary }) [] has (All-nil (HasBarRoom layout))
room_at layout (MultilineLine depth) primary has = All-nil (HasBarRoom layout)

-- where each entry's bar has its cell, the bars that end there have room
pub room_ends : (layout : Layout) (es : List LineAnnotation) → All (HasBarCell layout) es → All (HasBarRoom layout) (ends_of_bars es)
room_ends layout [] all = All-nil (HasBarRoom layout)
room_ends layout (e ∷ es) all =
    let P : LineAnnotation → Type 0 = HasBarCell layout in
    let head : P e = all 0 e (omega arith) in
    let first : All (HasBarRoom layout) (ends_of_bars (e ∷ [])) = grind (arith, common_steps, All-same, one_end, head, e.annotation_type, e.kind) in
    All-same (HasBarRoom layout) (ends_of_bars (e ∷ es)) (ends_of_bars (e ∷ []) ++ ends_of_bars es) (filter_map-append bar_of (e ∷ []) es)
    (All-append (HasBarRoom layout) (ends_of_bars (e ∷ [])) (ends_of_bars es) first (room_ends layout es (All-tail P e es all)))

-- bars that have room have it also without some of them
pub room_apart : (layout : Layout) (bars others : List OpenBar) → All (HasBarRoom layout) bars → All (HasBarRoom layout) (bars_apart bars others)
room_apart layout bars others all =
    All-filter (λ (b : OpenBar). not (has_depth others b.depth)) (HasBarRoom layout) bars all

-- the bars that are open below a line have room, where those above it and its entries' bars do
pub room_below : (layout : Layout) (bars : List OpenBar) (es : List LineAnnotation) → All (HasBarRoom layout) bars → All (HasBarCell layout) es
    → All (HasBarRoom layout) (open_below bars es)
room_below layout bars es all bar_cells = search (rules, All-append, room_apart, room_ends)
