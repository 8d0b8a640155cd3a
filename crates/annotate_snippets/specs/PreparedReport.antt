-- What is known of a report before any row is drawn.
use Rattle.std.specs.Prelude.{◌≡◌, ◌+◌, All, length, map}
use Rattle.std.specs.Cow.{cow_str_bytes}
use Rattle.std.specs.Str.{IsUtf8}
use Rattle.snippet_model.specs.declared.snippet.Annotation.{Annotation}
use Rattle.snippet_model.specs.declared.snippet.Snippet.{Snippet}
use Rattle.snippet_model.specs.declared.snippet.Group.{Group}
use Rattle.snippet_model.specs.declared.snippet.Element.{Element}
use Rattle.snippet_model.specs.declared.snippet.Element.TheVariants as element
use Rattle.snippet_model.specs.Fits.{AnnotationFits, GroupFits, MessageFits}
use Rattle.snippet_lines.specs.Lines.{source_lines}
use Rattle.snippet_lines.specs.IsSpan.{IsSpan}
use Rattle.snippet_parts.specs.Annotated.{annotated_lines, deepest}
use Rattle.snippet_parts.specs.OnLine.{seen_kept}
use Rattle.snippet_suggest.specs.PreparedSuggestion.{IsPrepared, IsSuggestible}
use Rattle.annotate_snippets.specs.declared.renderer.preprocess.PreparedCause.{PreparedCause}
use Rattle.annotate_snippets.specs.declared.renderer.preprocess.PreparedElement.{PreparedElement}
use Rattle.annotate_snippets.specs.declared.renderer.preprocess.PreparedElement.TheVariants.{Message, Cause, Suggestion, Origin, Padding}
use Rattle.annotate_snippets.specs.declared.renderer.preprocess.PreparedGroup.{PreparedGroup}
use Rattle.annotate_snippets.specs.ElementContext.{drawn_elements}
use Rattle.annotate_snippets.specs.Gutter.{numbered_source}
use Rattle.snippet_text.specs.TextBounds.{TextFits}
use Rattle.snippet_style.specs.Bounds.{IsCount, IsUsize}

-- what drawing a snippet asks of it: that its texts and its line numbers fit, and that each of its spans is one
pub record IsDrawable (s : Snippet Annotation) : Type 0 where
  pub source : TextFits (cow_str_bytes s.source.text)
  pub numbers : IsUsize (s.line_start + length (source_lines (cow_str_bytes s.source.text)))
  pub spans : All (λ a. IsSpan (cow_str_bytes s.source.text) a.span.start a.span.end) s.markers.items
  pub labels : All AnnotationFits s.markers.items

-- what drawing an element asks of it
abbrev pub IsElementDrawable : Element → Type 0
IsElementDrawable (element.Message message) = MessageFits message
IsElementDrawable (element.Cause snippet) = IsDrawable snippet
IsElementDrawable (element.Suggestion snippet) = IsSuggestible snippet
IsElementDrawable (element.Origin origin) = Unit {0}
IsElementDrawable (element.Padding padding) = Unit {0}

-- what drawing a group asks of it
abbrev pub IsGroupDrawable : Group → Type 0
IsGroupDrawable g = GroupFits g × All IsElementDrawable g.elements.items

-- the element that was prepared
abbrev pub element_of : PreparedElement → Element
element_of (Message message) = element.Message message.now
element_of (Cause cause) = element.Cause cause.snippet.now
element_of (Suggestion suggestion) = element.Suggestion suggestion.snippet.now
element_of (Origin origin) = element.Origin origin.now
element_of (Padding padding) = element.Padding padding.now

-- what was prepared of an annotated snippet is its own: the lines of its source, those that are kept, and the depth of its spans. Its
-- source is UTF-8, as each `str` is
pub record IsCausePrepared (c : PreparedCause) : Type 0 where
  pub drawable : IsDrawable c.snippet.now
  pub utf8 : IsUtf8 (cow_str_bytes c.snippet.now.source.text)
  pub few : IsCount (length c.snippet.now.markers.items)
  pub map_is : c.map ≡ numbered_source c.snippet.now
  pub kept_are : map seen_kept c.kept.items ≡ annotated_lines c.snippet.now.fold (numbered_source c.snippet.now) c.snippet.now.markers.items
  pub depth_is : c.depth ≡ deepest (numbered_source c.snippet.now) c.snippet.now.markers.items

-- and of an element
abbrev pub IsElementPrepared : PreparedElement → Type 0
IsElementPrepared (Message message) = MessageFits message.now
IsElementPrepared (Cause cause) = IsCausePrepared cause
IsElementPrepared (Suggestion suggestion) = IsPrepared suggestion
IsElementPrepared (Origin origin) = Unit {0}
IsElementPrepared (Padding padding) = Unit {0}

-- and of a group: its elements that are drawn, in order
pub record IsGroupPrepared (p : PreparedGroup) : Type 0 where
  pub fits : GroupFits p.group.now
  pub elements_are : map element_of p.elements.items ≡ drawn_elements p.group.now
  pub prepared : All IsElementPrepared p.elements.items
