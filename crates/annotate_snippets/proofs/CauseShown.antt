-- The rows of an annotated snippet show it.
use Rattle.std.proofs.lemmas.Grind.{common_steps}
use Rattle.annotate_snippets.proofs.Common.{◌≡◌, ℕ, ◌+◌, ◌≤◌, ◌==◌, ◌&&◌, Bool, true, false, cond, Option, None, Some, List, [], ◌∷◌, ◌++◌, map, refl}
use Rattle.annotate_snippets.proofs.Common.{sym, ap, subst, ◌∙◌, arith, Contains, list_any, IsSomeAnd, cow_str_bytes, IsUtf8, All-append, All-cons, All-head}
use Rattle.annotate_snippets.proofs.Common.{All-map, All-nil, All-tail, Annotation, Snippet, Cause, row_at, Cell, IsSpan, KeptLine, annotated_lines, is_long}
use Rattle.annotate_snippets.proofs.Common.{shown_lines, is_marking, first_line, last_line, IsLocation, primary_place, IsFree, Location, primary_place-location}
use Rattle.annotate_snippets.proofs.Common.{HasBarRoom, LineView, CanBeShown, infos_free, origin_row, primary_start, snippet_head, OriginLayout, OriginLocation}
use Rattle.annotate_snippets.proofs.Common.{origin_row-text, snippet_head-free, closing_row-free, separator_row-free, Renderer, Layout, ElementContext}
use Rattle.annotate_snippets.proofs.Common.{closes_after, closes_with, is_before_message, path_bytes, HasRoomFor, code_after, is_first_group, margin_in}
use Rattle.annotate_snippets.proofs.Common.{rows_of_lines, depth_of_element, line_numbers, numbered_source, NamedRow, cells_of, lines_named, others, IsDrawable}
use Rattle.annotate_snippets.proofs.Common.{cause_head, origin_layout, place_found, rows_after_cause, place_named, NamesLocation, HasNoFeed, closing_row}
use Rattle.annotate_snippets.proofs.Common.{separator_row}
use Rattle.std.specs.List.{All}
use Rattle.annotate_snippets.proofs.PageWords.{snippet_rows}
use Rattle.annotate_snippets.proofs.Ascending.{IsAscending, ascends}
use Rattle.annotate_snippets.proofs.ElementShown.{ElementShown}
use Rattle.annotate_snippets.proofs.InfoLines.{bounds_ordered, info_at, infos_seen, lines_ready}
use Rattle.annotate_snippets.proofs.LineFeedLaws.{lines_one_line}
use Rattle.annotate_snippets.proofs.LineValue.{lines_value}
use Rattle.annotate_snippets.proofs.NamedRows.{cells_of-append, cells_of-others}
use Rattle.annotate_snippets.proofs.OneLineTexts.{whole_labels}
use Rattle.annotate_snippets.proofs.PageLemmas.{named_lines}
use Rattle.annotate_snippets.proofs.SpanBarRows.{bars_shown}
use Rattle.annotate_snippets.proofs.PartsFacts.{ends_shown, shown_ascending}
use Rattle.annotate_snippets.proofs.PathFeedLaws.{after_one_line, head_one_line}

-- where a snippet of the group's primary file has a path, its first row is that of the path
path_first : (layout : OriginLayout) (primary first : Bool) (named : Option (List ℕ)) (place : OriginLocation) (more : List NamedRow) (path : List ℕ)
    → primary ≡ true → named ≡ Some path → row_at (cells_of (others (snippet_head layout primary first named place) ++ more))
    0 ≡ origin_row layout (primary_start first) path place
path_first layout true first None place more path is has = cc
path_first layout true first (Some other) place more path is has = ap (λ own. origin_row layout (primary_start first) own place) (same_path other path has)
  where
    same_path : (x y : List ℕ) → Some x ≡ Some y → x ≡ y
    same_path x y same = cc
path_first layout false first named place more path is has = cc

-- the place that it names is that which is found
place_of_primary : (primary : Bool) (lines : List KeptLine) → primary ≡ true → place_named primary lines ≡ place_found (primary_place lines)
place_of_primary true lines is = refl
place_of_primary false lines is = cc

-- a place that has a property, where there is one
pub place_known : (o : Option Location) (P : Location → Type 0) → IsSomeAnd o P → (place : Location) × (o ≡ Some place) × P place
place_known None P known = absurd known
place_known (Some place) P known = (place, refl, known)

-- rows of free cells stay such where they have names
free_named : (part : List NamedRow) → All IsFree (cells_of part) → All (λ (row : NamedRow). IsFree row.cells) part
free_named [] free = All-nil (λ (row : NamedRow). IsFree row.cells)
free_named (row ∷ part) free =
    All-cons (λ (r : NamedRow). IsFree r.cells) row part (All-head IsFree row.cells (cells_of part) free)
    (free_named part (All-tail IsFree row.cells (cells_of part) free))

module _ (r : Renderer) (layout : Layout) (around : ElementContext) (s : Snippet Annotation) where
  -- no row that stands below the lines holds a listed character, or a link
  after-free : All IsFree (rows_after_cause r layout around)
  after-free = either (is_first_group around.place && is_before_message around.next) (closes_after around)
    where
      one : (row : List Cell) → IsFree row → All IsFree (row ∷ [])
      one row free = All-cons IsFree row [] free (All-nil IsFree)

      either : (sets_off closes : Bool)
          → All IsFree (cond sets_off (separator_row layout.decor layout.gutter ∷ []) (cond closes (closing_row layout.decor layout.gutter ∷ []) []))
      either true closes = one _ (separator_row-free layout.decor layout.gutter)
      either false true = one _ (closing_row-free layout.decor layout.gutter)
      either false false = All-nil IsFree

  head_free : All IsFree (cause_head r layout around s)
  head_free = snippet_head-free _ around.primary around.first _ _

  -- the first row names the first place of the snippet's spans
  names_place : All (λ a. IsSpan (cow_str_bytes s.source.text) a.span.start a.span.end) s.markers.items → (more : List NamedRow) → around.primary ≡ true
      → (path : List ℕ) → path_bytes s.path ≡ Some path → list_any (λ a. is_marking a.kind) s.markers.items ≡ true
      → All (λ a. is_long (cow_str_bytes s.source.text) a ≡ false) s.markers.items
      → NamesLocation r layout s path (row_at (cells_of (others (cause_head r layout around s) ++ more)) 0)
  names_place spans more primary path has some none =
      let lines : List KeptLine = annotated_lines s.fold (numbered_source s) s.markers.items in
      let found = place_known (primary_place lines) (IsLocation (numbered_source s) s.markers.items)
      (primary_place-location s.fold (numbered_source s) s.markers.items lines spans refl some none) in
      let named : place_named around.primary lines ≡ place_found (Some found.0) = place_of_primary around.primary lines primary ∙ ap place_found found.1 in
      let first = path_first (origin_layout r layout) around.primary around.first (path_bytes s.path)
      (place_named around.primary lines) more path primary has in grind (arith, common_steps, origin_row-text, first, lines, named)

-- code stands right of the gutter, the separator and a space
pub code_right : (gutter depth : ℕ) → gutter + 3 ≤ code_after gutter depth
code_right gutter depth = either (depth == 0)
  where
    either : (none : Bool) → gutter + 3 ≤ cond none (gutter + 3) (gutter + 3 + depth + 1)
    either true = omega arith
    either false = omega arith

-- the cells of a snippet's rows
pub snippet_cells : (r : Renderer) (layout : Layout) (around : ElementContext) (s : Snippet Annotation)
    → cells_of (snippet_rows r layout around s) ≡ cause_head r layout around s
    ++ (cells_of (rows_of_lines r layout (closes_with around) s [] (shown_lines s.fold (cow_str_bytes s.source.text) s.markers.items))
    ++ rows_after_cause r layout around)
snippet_cells r layout around s = grind (arith, cells_of-append, cells_of-others, s.fold, s.source.text, s.markers.items)

-- the rows of a snippet show it
pub cause_shown : (r : Renderer) (layout : Layout) (around : ElementContext) (found : List Cell) (s : Snippet Annotation) → IsDrawable s
    → HasRoomFor r layout (Cause s) → IsUtf8 (cow_str_bytes s.source.text) → ElementShown r layout around found (Cause s)
cause_shown r layout around found s drawable room texts =
    let src = numbered_source s in
    let closes : Bool = closes_with around in
    let ks : List ℕ = shown_lines s.fold (cow_str_bytes s.source.text) s.markers.items in
    let place : layout.gutter + 3 ≤ layout.code = omega (arith, room.bars, code_right layout.gutter (depth_of_element (Cause s))) in
    let ready = lines_ready r layout s drawable room in
    let named = named_lines r layout s drawable.spans (bounds_ordered r layout s drawable) place closes [] ks ready (All-nil (HasBarRoom layout)) in
    let after : List NamedRow = rows_of_lines r layout closes s [] ks in
    let lines : List (List Cell) = cells_of after in
    let head : List (List Cell) = cause_head r layout around s in
    let tail : List (List Cell) = rows_after_cause r layout around in
    let cells : cells_of (snippet_rows r layout around s) ≡ head ++ (lines ++ tail) = snippet_cells r layout around s in
    let view : LineView = record { margin = margin_in r layout s; numbers = line_numbers r s.line_numbering; closes = closes } in
    let lines_free : All IsFree lines = subst (All IsFree) (lines_value r layout s view refl refl [] ks (map (info_at s drawable.spans) ks)
    (infos_seen s drawable.spans ks)) (infos_free layout view [] (map (info_at s drawable.spans) ks) place (All-nil (HasBarRoom layout))
    (All-map (CanBeShown layout view.margin view.numbers) (info_at s drawable.spans) ks (λ i d within. (ready i d within).1))) in
    let all_free : All IsFree (head ++ (lines ++ tail)) = All-append IsFree head (lines ++ tail) (head_free r layout around s)
    (All-append IsFree lines tail lines_free (after-free r layout around s)) in
    let text : List ℕ = cow_str_bytes s.source.text in
    let Ends : List ℕ → Type 0 = λ js. All (λ a. Contains js (first_line text a) × Contains js (last_line text a)) s.markers.items in
    let ends : Ends (lines_named after) = subst Ends (sym named.lines) (ends_shown src s.markers.items drawable.spans s.fold) in
    let ordered : IsAscending (lines_named after) = subst IsAscending (sym named.lines) (shown_ascending src s.markers.items drawable.spans s.fold) in
    record {
      shows = record {
        after = after;
        rows_are = refl;
        origin = names_place r layout around s drawable.spans (after ++ others tail);
        lines = named.lines;
        ends = ends;
        ordered = ascends (lines_named after) ordered;
        named = named.are;
        are = refl;
        bars = bars_shown r layout closes s drawable.spans after named.are named.drawn named.begins ordered ends room.bars;
      };
      free = free_named (snippet_rows r layout around s) (subst (All IsFree) (sym cells) all_free);
      one_line = λ plain.
          let own : All HasNoFeed lines = lines_one_line r layout closes s after named.are named.drawn named.begins texts
          (whole_labels layout.label_lines s.markers.items plain.1) in
          let below : All HasNoFeed (lines ++ tail) = All-append HasNoFeed lines tail own (after_one_line r layout around) in
          subst (All HasNoFeed) (sym cells) (All-append HasNoFeed head (lines ++ tail) (head_one_line r layout around s plain.0) below);
    }
