-- What a snippet's window is computed from: how far its lines reach, with their spans and labels.
use Rattle.std.specs.Prelude.{◌≡◌, ℕ, ◌+◌, ◌<◌, ◌≤◌, false, not, List, [], ◌∷◌, Option, map, filter, chars, unwrap_or}
use Rattle.std.specs.List.{flat_map, filter_map}
use Rattle.snippet_text.specs.Width.{width_of}
use Rattle.snippet_parts.specs.declared.entries.LineAnnotation.{LineAnnotation}
use Rattle.snippet_parts.specs.Annotated.{KeptLine}
use Rattle.snippet_parts.specs.Entries.{is_bar}
use Rattle.snippet_parts.specs.Least.{least, greatest}
use Rattle.snippet_window.specs.declared.margin.Margin.{Margin}
use Rattle.snippet_window.specs.Margin.{capped_sum, margin_bounds}
use Rattle.snippet_window.specs.Window.{leading_whitespace}
use Rattle.std.specs.Option.{option_map_or}

-- the column after a label, if there is one, which stands one column after the end of its mark; else that end
abbrev pub end_with : ℕ → Option (List ℕ) → ℕ
end_with end label = option_map_or (λ text. capped_sum end (width_of (chars text) + 1)) label end

-- the margin of some lines with their entries, in a room of so many columns: by the whitespace that those lines
-- begin with which aren't blank, the columns at which entries start and end, those after their labels, and the widths of the
-- lines. Bars have no columns
abbrev pub margin_of : ℕ → List KeptLine → Margin
margin_of room lines =
    let texts = map (λ line. chars line.text) lines in
    let parts = filter (λ p. not (is_bar p.annotation_type)) (flat_map (λ line. line.parts) lines) in
    let columns = flat_map (λ p. p.start.display ∷ p.end.display ∷ []) parts in
    let ends = map (λ p. end_with p.end.display p.label) parts in
    margin_bounds room (record {
      whitespace = unwrap_or (least (filter_map leading_whitespace texts)) 0;
      widest = greatest (map width_of texts);
      first = unwrap_or (least columns) 0;
      last = greatest columns;
      label_end = greatest ends;
    })

-- an entry that has columns stands after the padding of a margin, if lines are cut on the left
abbrev pub StandsClear : Margin → LineAnnotation → Type 0
StandsClear margin e =
    is_bar e.annotation_type ≡ false → 0 < margin.computed_left → margin.computed_left + 6 ≤ e.start.display
