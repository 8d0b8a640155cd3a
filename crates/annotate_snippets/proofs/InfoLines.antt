-- A snippet's line with its entries, as painters are given it, made from the snippet alone; and what holds of those that are shown.
use Rattle.annotate_snippets.proofs.Common.{◌≡◌, ℕ, ◌+◌, ◌<◌, ◌≤◌, ◌&&◌, not, All, List, [], ◌∷◌, map, length, refl}
use Rattle.annotate_snippets.proofs.Common.{sym, ap, ◌∙◌, arith, cow_str_bytes, list_any, Layout, Source, source_lines, text_at, shown_number, IsSpan}
use Rattle.annotate_snippets.proofs.Common.{Annotation, Cause, Snippet, annotated_lines, kept_line, AllEntries, HasColumnRoom, seen_kept, kept_lines}
use Rattle.annotate_snippets.proofs.Common.{shown_lines, is_marking, touches, AnnotatedLineInfo, LineAnnotation, places-fit, parts_on-few}
use Rattle.annotate_snippets.proofs.Common.{All-unmapped, AreDrawable, CanBeShown, StandsClear, margin_of, Margin, margin_of_lines, margin_seen, lines_clear}
use Rattle.annotate_snippets.proofs.Common.{lines_sound, HasRoomFor, margin_in, line_numbers, numbered_source, IsDrawable, Renderer}
use Rattle.annotate_snippets.proofs.MarginWords.{room_of}
use Rattle.annotate_snippets.proofs.LineWords.{entries_on}
use Rattle.annotate_snippets.proofs.GutterLemmas.{numbers_fit}
use Rattle.annotate_snippets.proofs.PartsFacts.{lines_entries, shown_clear, snippet_shown-within}

module _ (s : Snippet Annotation) (spans : All (λ a. IsSpan (cow_str_bytes s.source.text) a.span.start a.span.end) s.markers.items) where
  -- line k with its entries, of which there are no more than spans
  abbrev pub info_at : ℕ → AnnotatedLineInfo
  info_at k =
      let es : List LineAnnotation = entries_on s k in
      record {
        line = record { ref_ptr = (0, 0); now = text_at (source_lines (cow_str_bytes s.source.text)) k };
        line_index = s.line_start + k;
        annotations = record {
          ptr = s.markers.ptr;
          len = length es;
          cap = length es;
          alloc = s.markers.alloc;
          items = es;
          ok = (refl, omega arith);
          small = omega (
            arith,
            s.markers.small,
            parts_on-few (numbered_source s) s.markers.items k spans,
          );
        };
        keep = list_any (λ (a : Annotation). not (is_marking a.kind) && touches (cow_str_bytes s.source.text) a k) s.markers.items;
      }

  -- it is seen as line k
  pub seen_at : (k : ℕ) → seen_kept (info_at k) ≡ kept_line (numbered_source s) s.markers.items k
  seen_at k = refl

  pub infos_seen : (ks : List ℕ) → map seen_kept (map info_at ks) ≡ map (kept_line (numbered_source s) s.markers.items) ks
  infos_seen [] = refl
  infos_seen (k ∷ ks) = grind (arith, infos_seen ks)

  -- what holds of each of these lines
  each_of : (P : AnnotatedLineInfo → Type 0) (ks : List ℕ) → All P (map info_at ks) → All (λ k. P (info_at k)) ks
  each_of P ks all = All-unmapped P info_at ks all

  -- a line of the source that can be shown
  abbrev pub IsReadyLine : Renderer → Layout → ℕ → Type 0
  IsReadyLine r layout k =
      (k < length (source_lines (cow_str_bytes s.source.text)))
      × CanBeShown layout (margin_in r layout s) (line_numbers r s.line_numbering) (info_at k)

module _ (r : Renderer) (layout : Layout) (s : Snippet Annotation) (drawable : IsDrawable s) where
  abbrev source : Source
  source = numbered_source s

  abbrev marks : List Annotation
  marks = s.markers.items

  abbrev room : ℕ
  room = room_of r layout

  abbrev kept : List AnnotatedLineInfo
  kept = map (info_at s drawable.spans) (kept_lines s.fold (cow_str_bytes s.source.text) s.markers.items)

  kept_is : map seen_kept kept ≡ annotated_lines s.fold source marks
  kept_is = infos_seen s drawable.spans (kept_lines s.fold (cow_str_bytes s.source.text) s.markers.items)

  margin_is : margin_in r layout s ≡ margin_of_lines room kept
  margin_is = sym (margin_seen room kept ∙ ap (margin_of room) kept_is)

  places : AllEntries HasColumnRoom kept
  places = places-fit source marks (kept_lines s.fold (cow_str_bytes s.source.text) s.markers.items) kept kept_is drawable.source

  -- the bounds of a snippet's window are in order
  pub bounds_ordered : (margin_in r layout s).computed_left ≤ (margin_in r layout s).computed_right
  bounds_ordered = grind (arith, margin_is, lines_sound, places)

  -- each line that is shown can be drawn
  pub lines_ready : HasRoomFor r layout (Cause s)
      → All (IsReadyLine s drawable.spans r layout) (shown_lines s.fold (cow_str_bytes s.source.text) s.markers.items)
  lines_ready fits =
      let ks : List ℕ = shown_lines s.fold (cow_str_bytes s.source.text) s.markers.items in
      let at : ℕ → AnnotatedLineInfo = info_at s drawable.spans in
      let infos : List AnnotatedLineInfo = map at ks in
      let same : map seen_kept infos ≡ map (kept_line source marks) ks = infos_seen s drawable.spans ks in
      let margin : Margin = margin_in r layout s in
      let number = each_of s drawable.spans (λ info. length (shown_number (line_numbers r s.line_numbering) layout.gutter info.line_index) ≤ layout.gutter + 1)
      ks (numbers_fit r layout s infos fits drawable same) in
      let entries = each_of s drawable.spans (λ info. AreDrawable layout info.annotations.items) ks
      (lines_entries source marks drawable.spans ks infos same layout fits.bars drawable.source drawable.labels) in
      let clear = each_of s drawable.spans (λ info. All (StandsClear margin) info.annotations.items) ks
      (shown_clear source marks drawable.spans s.fold kept infos margin kept_is same (lines_clear margin room kept margin_is places)) in
      let within = snippet_shown-within source marks drawable.spans s.fold in
      λ i d inside. (
        within i d inside,
        record {
          small = omega (arith, within i d inside, drawable.numbers);
          number = number i d inside;
          entries = entries i d inside;
          clear = clear i d inside;
        },
      )
