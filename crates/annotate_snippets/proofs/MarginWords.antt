-- The margin of a snippet has the room that code has.
use Rattle.annotate_snippets.proofs.Common.{◌≡◌, ◌-◌, ℕ, Layout, Annotation, Snippet, annotated_lines, margin_of-room, margin_in, numbered_source, Renderer}

-- the columns that code has
abbrev pub room_of : Renderer → Layout → ℕ
room_of r layout = r.term_width - layout.code

pub margin_room : (r : Renderer) (layout : Layout) (s : Snippet Annotation) → (margin_in r layout s).term_width ≡ room_of r layout
margin_room r layout s = margin_of-room (room_of r layout) (annotated_lines s.fold (numbered_source s) s.markers.items)
