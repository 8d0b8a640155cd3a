-- What a page shows of a report where lines around those that are kept are shown too.
use Rattle.std.specs.Prelude.{◌≡◌, ℕ, List, [], Some, length}
use Rattle.std.specs.Cow.{cow_str_bytes}
use Rattle.std.specs.List.{slice_get, slice_index_or}
use Rattle.snippet_shown.specs.Context.{lines_around}
use Rattle.snippet_lines.specs.Lines.{source_lines}
use Rattle.snippet_model.specs.declared.snippet.Annotation.{Annotation}
use Rattle.snippet_model.specs.declared.snippet.Element.TheVariants.{Cause}
use Rattle.snippet_model.specs.declared.snippet.Group.{Group}
use Rattle.snippet_model.specs.declared.snippet.Snippet.{Snippet}
use Rattle.snippet_parts.specs.Kept.{kept_lines, with_between}
use Rattle.annotate_snippets.specs.ElementContext.{drawn_elements}
use Rattle.annotate_snippets.specs.Page.{GroupPage, lines_named}

-- the lines of a snippet that are shown with so many before and after each that it keeps: the lines near one of these, each once and in
-- order, and each single line between two of them
abbrev pub lines_with_context : ℕ → ℕ → Snippet Annotation → List ℕ
lines_with_context before after s =
    let source = cow_str_bytes s.source.text in
    with_between (lines_around before after (length (source_lines source)) (kept_lines s.fold source s.markers.items))

-- the source rows that a page has for each annotated snippet of a report show just these lines, in order
pub record ShowsLinesAround (before after : ℕ) (groups : List Group) (page : List GroupPage) : Type 0 where
  pub lines : (i n : ℕ) (g : Group) (part : GroupPage) (s : Snippet Annotation) → slice_get groups i ≡ Some g → slice_get page i ≡ Some part
      → slice_get (drawn_elements g) n ≡ Some (Cause s) → lines_named (slice_index_or part.elements n []) ≡ lines_with_context before after s
