-- When a report is another with the lines around those that it keeps: what of the two differs, part by part.
use Rattle.std.specs.Prelude.{◌≡◌, ℕ, ◌≤◌, ◌++◌, All, List, length}
use Rattle.std.specs.Cow.{cow_str_bytes}
use Rattle.std.specs.Str.{IsCharBoundary}
use Rattle.std.specs.declared.ops.Range.{Range}
use Rattle.snippet_lines.specs.Lines.{source_lines}
use Rattle.snippet_model.specs.declared.snippet.Annotation.{Annotation}
use Rattle.snippet_model.specs.declared.snippet.Element.{Element}
use Rattle.snippet_model.specs.declared.snippet.Group.{Group}
use Rattle.snippet_model.specs.declared.snippet.Snippet.{Snippet}
use Rattle.snippet_parts.specs.Kept.{kept_lines}
use Rattle.snippet_parts.specs.Numbered.{numbered_source}
use Rattle.snippet_parts.specs.Annotated.{made_parts}
use Rattle.snippet_shown.specs.Context.{context_marks, context_spans, lines_around}
use Rattle.snippet_shown.specs.Remade.{IsElementMade, IsGroupMade, Stays}

-- ---- which reports are shown

-- a part of a source: it starts and ends between characters, and doesn't end before it starts
pub record HoldsSpan (source : List ℕ) (span : Range ℕ) : Type 0 where
  pub ordered : span.start ≤ span.end
  pub from : IsCharBoundary source span.start
  pub to : IsCharBoundary source span.end

-- the second snippet is the first with the lines around those that it keeps: after its annotations stand those that keep them, whose
-- spans are parts of the source, so that none is refused; and all else is the same
pub record IsSnippetWithContext (before after : ℕ) (a b : Snippet Annotation) : Type 0 where
  pub path : b.path ≡ a.path
  pub line_start : b.line_start ≡ a.line_start
  pub source : b.source ≡ a.source
  pub line_numbering : b.line_numbering ≡ a.line_numbering
  pub fold : b.fold ≡ a.fold
  pub markers : b.markers.items ≡ a.markers.items ++ context_marks before after a
  pub spans : All (HoldsSpan (cow_str_bytes a.source.text)) (context_spans before after a)

-- the second element is the first with such lines; only an annotated snippet has any
abbrev pub IsElementWithContext : ℕ → ℕ → Element → Element → Type 0
IsElementWithContext before after = IsElementMade Stays (IsSnippetWithContext before after) Stays Stays

-- groups of one level and title, with as many elements, each of the second the one in its place with such lines
abbrev pub IsGroupWithContext : ℕ → ℕ → Group → Group → Type 0
IsGroupWithContext before after = IsGroupMade Stays (IsElementWithContext before after)

-- ---- what follows

-- the second snippet keeps just the lines near one that the first keeps, each once and in order; and what stands on a line is what stood
-- there: the same entries, in the same order
pub record KeepsLinesAround (before after : ℕ) (a b : Snippet Annotation) : Type 0 where
  pub lines : kept_lines b.fold (cow_str_bytes b.source.text) b.markers.items
      ≡ lines_around before after (length (source_lines (cow_str_bytes a.source.text))) (kept_lines a.fold (cow_str_bytes a.source.text) a.markers.items)
  pub entries : made_parts (numbered_source b) b.markers.items ≡ made_parts (numbered_source a) a.markers.items
