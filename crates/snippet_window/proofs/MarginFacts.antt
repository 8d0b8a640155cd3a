-- What holds of the bounds of a snippet's window: they are in order, and entries stand after the padding of the left one.
use Rattle.snippet_window.proofs.Common.{common_steps, ◌≡◌, ℕ, ◌+◌, ◌-◌, ◌*◌, ◌/◌, ◌<◌, ◌≤◌, ◌^◌, ◌&&◌, nat_le, nat_lt, Bool, true, false, cond, not, min, max}
use Rattle.snippet_window.proofs.Common.{List, [], ◌∷◌, All, ap, arith, map, refl, unwrap_or, fold, flat_map, All-append, All-cons, All-head, All-nil, All-tail}
use Rattle.snippet_window.proofs.Common.{All-weaker, AnnotatedLineInfo, LineAnnotation, KeptLine, is_bar, AllEntries, HasColumnRoom, seen_kept, greatest, least}
use Rattle.snippet_window.proofs.Common.{least_below, max_usize, Margin, Extent, ReachesLines, columns_of, ends_of, entries_of, line_texts, with_columns}
use Rattle.snippet_window.proofs.Common.{capped_sum, StandsClear, margin_of}
use Rattle.snippet_window.proofs.ExtentLemmas.{lines_all, starts_all}
use Rattle.snippet_window.proofs.MarginLaws.{bounds_reached}
use Rattle.snippet_window.proofs.MeasureWords.{margin_by, whitespaces_of, widths_of}

-- ---- margins

-- a margin with its bounds in order, the left of which leaves room for the padding before this column, if lines are cut there
pub record IsSound (first : ℕ) (margin : Margin) : Type 0 where
  pub ordered : margin.computed_left ≤ margin.computed_right
  pub padded : 0 < margin.computed_left → margin.computed_left + 6 ≤ first

-- the margin of a room that begins at a column
abbrev room_from : ℕ → ℕ → Margin
room_from room left = record { computed_left = left; computed_right = capped_sum left room; term_width = room }

-- what holds of both choices holds of the one that is made
either : {X : Type 0} (P : X → Type 0) (b : Bool) (x y : X) → P x → P y → P (cond b x y)
either P true x y first second = first
either P false x y first second = second

-- a room that begins before the padding
room_sound : (first room left : ℕ) → (0 < left → left + 6 ≤ first) → first ≤ max_usize → IsSound first (room_from room left)
room_sound first room left padded fits = grind (arith, common_steps)

-- of whitespace no more is cut than there is
cut_low : (blank : ℕ) → cond (nat_lt 20 blank) (blank - 16) 0 ≤ blank
cut_low blank = either (λ n. n ≤ blank) (nat_lt 20 blank) (blank - 16) 0 (omega arith) (omega arith)

pub margin_sound : (whitespace first last label_end room widest : ℕ) → first ≤ last → first ≤ max_usize
    → IsSound first (margin_by whitespace first last label_end room widest)
margin_sound whitespace first last label_end room widest ordered fits =
    let Sound : Margin → Type 0 = IsSound first in
    let blank : ℕ = min whitespace first - 6 in
    let left : ℕ = cond (nat_lt 20 blank) (blank - 16) 0 in
    let all : Margin = record { computed_left = left; computed_right = max widest left; term_width = room } in
    let spans : Margin = record { computed_left = first - 6; computed_right = capped_sum last 6; term_width = room } in
    let low : left ≤ blank = cut_low blank in
    let all_sound : Sound all = record { ordered = omega arith; padded = λ some. omega (arith, some, low) } in
    let spans_sound : Sound spans = record { ordered = omega (arith, ordered, fits); padded = λ some. omega (arith, some) } in
    let from : ℕ = first - 6 in
    let to : ℕ = capped_sum last 6 in
    let after : ℕ = capped_sum label_end 6 in
    let by_label : ℕ = (room - (after - from)) / 2 in
    let by_spans : ℕ = (room - (to - from)) / 5 * 2 in
    let within_spans : Margin = cond (nat_le (to - from) room) (room_from room (from - by_spans)) spans in
    let within_labels : Margin = cond (nat_le (after - from) room) (room_from room (from - by_label)) within_spans in
    let after_blank : Margin = cond (nat_le (after - blank) room && nat_le blank after) (room_from room blank) within_labels in
    either Sound (nat_le (max widest left - left) room) all after_blank all_sound
    (either Sound (nat_le (after - blank) room && nat_le blank after) (room_from room blank) within_labels (room_sound first room blank (λ some.
    omega (arith, some)) fits) (either Sound (nat_le (after - from) room) (room_from room (from - by_label)) within_spans (less by_label)
    (either Sound (nat_le (to - from) room) (room_from room (from - by_spans)) spans (less by_spans) spans_sound)))
  where
    less : (by : ℕ) → IsSound first (room_from room (first - 6 - by))
    less by = room_sound first room (first - 6 - by) (λ some. omega (arith, some)) fits

-- a margin has the room for which it is computed
either_room : (room : ℕ) (b : Bool) (x y : Margin) → x.term_width ≡ room → y.term_width ≡ room → (cond b x y).term_width ≡ room
either_room room b x y = either (λ (m : Margin). m.term_width ≡ room) b x y

margin_bounds-room : (whitespace first last label_end room widest : ℕ) → (margin_by whitespace first last label_end room widest).term_width ≡ room
margin_bounds-room whitespace first last label_end room widest = grind (arith, common_steps, either_room)

pub margin_of-room : (room : ℕ) (lines : List KeptLine) → (margin_of room lines).term_width ≡ room
margin_of-room room lines = grind (arith, common_steps, margin_bounds-room)

-- ---- the least and the greatest column

fold_above : (n : ℕ) (ns : List ℕ) → n ≤ fold (λ m k. max m k) n ns
fold_above n [] = omega arith
fold_above n (m ∷ ns) = omega (arith, fold_above (max n m) ns)

least_low : (ns : List ℕ) → unwrap_or (least ns) 0 ≤ greatest ns
least_low [] = omega arith
least_low (n ∷ ns) = omega (arith, All-head (λ k. unwrap_or (least (n ∷ ns)) 0 ≤ k) n ns (least_below (n ∷ ns)), fold_above (max 0 n) ns)

least_small : (bound : ℕ) (ns : List ℕ) → 0 < bound → All (λ n. n < bound) ns → unwrap_or (least ns) 0 < bound
least_small bound [] some all = some
least_small bound (n ∷ ns) some all =
    omega (arith, All-head (λ k. unwrap_or (least (n ∷ ns)) 0 ≤ k) n ns (least_below (n ∷ ns)), All-head (λ k. k < bound) n ns all)

-- ---- entries

-- what holds of the columns of entries holds of the columns that are measured
columns_all : (P : ℕ → Type 0) (es : List LineAnnotation) → All (λ e. P e.start.display × P e.end.display) es → All P (columns_of es)
columns_all P [] all = All-nil P
columns_all P (e ∷ es) all =
    let Own : LineAnnotation → Type 0 = λ x. P x.start.display × P x.end.display in
    let rest : All P (columns_of es) = columns_all P es (All-tail Own e es all) in
    let own : Own e = All-head Own e es all in
    elim (not (is_bar e.annotation_type)) as (λ b. All P (flat_map (λ (x : LineAnnotation). x.start.display ∷ x.end.display ∷ [])
    (cond b (e ∷ with_columns es) (with_columns es)))) [
      | true ↦ All-cons P e.start.display (e.end.display ∷ columns_of es) own.0 (All-cons P e.end.display (columns_of es) own.1 rest)
      | false ↦ rest
    ]

entries_all : (Q : LineAnnotation → Type 0) (infos : List AnnotatedLineInfo) → AllEntries Q infos → All Q (entries_of infos)
entries_all Q [] all = All-nil Q
entries_all Q (info ∷ infos) all =
    All-append Q info.annotations.items (entries_of infos) (All-head (λ (x : AnnotatedLineInfo). All Q x.annotations.items) info infos all)
    (entries_all Q infos (All-tail (λ (x : AnnotatedLineInfo). All Q x.annotations.items) info infos all))

-- the margin of lines, by their entries
abbrev pub margin_of_lines : ℕ → List AnnotatedLineInfo → Margin
margin_of_lines room infos =
    let columns = columns_of (entries_of infos) in
    margin_by (unwrap_or (least (whitespaces_of (line_texts infos))) 0) (unwrap_or (least columns) 0) (greatest columns)
    (greatest (ends_of (entries_of infos))) room (greatest (widths_of (line_texts infos)))

-- it is that of the lines as they are seen
pub margin_seen : (room : ℕ) (infos : List AnnotatedLineInfo) → margin_of_lines room infos ≡ margin_of room (map seen_kept infos)
margin_seen room infos =
    let columns : List ℕ = columns_of (entries_of infos) in
    let extent : Extent = record {
      whitespace = least (whitespaces_of (line_texts infos));
      first = least columns;
      last = greatest columns;
      label_end = greatest (ends_of (entries_of infos));
      widest = greatest (widths_of (line_texts infos));
    } in
    let reaches : ReachesLines infos extent = record { entries = record { first = refl; last = refl; label_end = refl }; whitespace = refl; widest = refl } in
    bounds_reached room infos extent reaches

-- the margin of lines whose entries have their places
pub lines_sound : (room : ℕ) (infos : List AnnotatedLineInfo) → AllEntries HasColumnRoom infos
    → IsSound (unwrap_or (least (columns_of (entries_of infos))) 0) (margin_of_lines room infos)
lines_sound room infos places =
    let es : List LineAnnotation = entries_of infos in
    let columns : List ℕ = columns_of es in
    let texts : List (List ℕ) = line_texts infos in
    let Small : ℕ → Type 0 = λ n. n < 2 ^ 60 in
    let small : All Small columns = columns_all Small es (All-weaker HasColumnRoom (λ e. Small e.start.display × Small e.end.display)
    (λ e at. (omega (arith, at.0, at.1), at.1)) es (entries_all HasColumnRoom infos places)) in
    margin_sound (unwrap_or (least (whitespaces_of texts)) 0) (unwrap_or (least columns) 0) (greatest columns) (greatest (ends_of es)) room
    (greatest (widths_of texts)) (least_low columns) (omega (arith, least_small (2 ^ 60) columns (omega arith) small))

-- in this margin the entries stand after the padding
pub lines_clear : (margin : Margin) (room : ℕ) (infos : List AnnotatedLineInfo) → margin ≡ margin_of_lines room infos
    → AllEntries HasColumnRoom infos → AllEntries (StandsClear margin) infos
lines_clear margin room infos is places =
    let columns : List ℕ = columns_of (entries_of infos) in
    let sound = lines_sound room infos places in
    let left : margin.computed_left ≡ (margin_of_lines room infos).computed_left = ap (λ (m : Margin). m.computed_left) is in
    let starts = starts_all (λ n. unwrap_or (least columns) 0 ≤ n) (entries_of infos) (least_below columns) in
    lines_all (StandsClear margin) infos
    (λ k d within not_bar cut. omega (arith, starts k d within not_bar, sound.padded (omega (arith, left, cut)), left))
