-- The groups that a value of JSON describes: what each part of them is, by the fields of the value. A field that is named by no rule
-- here, and one of another type, makes a value that describes none.
use Rattle.std.specs.Prelude.{◌≡◌, ℕ, ◌<◌, ◌⊎◌, true, false, not, List, [], Option, Some, None, codes, is_some, length, option_and_then, option_map}
use Rattle.std.specs.Prelude.{slice_index_or}
use Rattle.std.specs.Cow.{cow_str_bytes}
use Rattle.snippet_model.specs.declared.level.LevelName.{LevelName}
use Rattle.snippet_model.specs.declared.level.LevelName.TheVariants.{Standard, Hidden, Own}
use Rattle.snippet_model.specs.declared.level.Level.{Level}
use Rattle.snippet_style.specs.declared.role.LevelInner.{LevelInner}
use Rattle.snippet_model.specs.declared.snippet.Annotation.{Annotation}
use Rattle.snippet_model.specs.declared.snippet.Element.{Element}
use Rattle.snippet_model.specs.declared.snippet.Element.TheVariants as element
use Rattle.snippet_model.specs.declared.snippet.Group.{Group}
use Rattle.snippet_model.specs.declared.snippet.Message.{Message}
use Rattle.snippet_model.specs.declared.snippet.Origin.{Origin}
use Rattle.snippet_model.specs.declared.snippet.Padding.{Padding}
use Rattle.snippet_model.specs.declared.snippet.Patch.{Patch}
use Rattle.snippet_model.specs.declared.snippet.Snippet.{Snippet}
use Rattle.snippet_model.specs.declared.snippet.Title.{Title}
use Rattle.serde_json.specs.Data.{Data}
use Rattle.serde_json.specs.Find.{as_bool, as_null, as_str, get}
use Rattle.json_lines.specs.Field.{SaysAt, MaySayAt, OnlySays, OrNull, ListSays, as_whole, flag_field, given_or, optional_at, text_field}
use Rattle.replay_read.specs.Kinds.{kind_name, mark_name}
use Rattle.replay_read.specs.Shape.{HasShape}
use Rattle.replay_read.specs.MarkerSpan.{IsSpanOf, IsUnit}
use Rattle.replay_read.specs.declared.shape.Shape.{Shape}
use Rattle.replay_read.specs.declared.span.SpanUnit.{SpanUnit}
use Rattle.replay_read.specs.declared.shape.Shape.TheVariants as shape

-- the name of a level: that of its kind where none is given, hidden where it is `null`, else an own one
abbrev pub IsGivenName : Data → LevelName → Type 0
IsGivenName d Standard = ⊥
IsGivenName d Hidden = is_some (as_null d) ≡ true
IsGivenName d (Own name) = as_str d ≡ Some (cow_str_bytes name)

-- the same of a name that may be missing: then it is the standard one
abbrev pub IsNameOf : Option Data → LevelName → Type 0
IsNameOf None name = name ≡ Standard
IsNameOf (Some d) name = IsGivenName d name

-- a level: its kind, and its name
pub record IsLevelOf (d : Data) (level : Level) : Type 0 where
  pub only : HasShape shape.Level d
  pub kind : text_field (codes "kind") d ≡ Some (kind_name level.kind)
  pub name : IsNameOf (get (codes "name") d) level.name

-- a title: `primary` tells that its text isn't trusted; its identifier and address may be missing
pub record IsTitleOf (d : Data) (title : Title) : Type 0 where
  pub only : HasShape shape.Title d
  pub level : SaysAt IsLevelOf (codes "level") d title.level
  pub text : text_field (codes "text") d ≡ Some (cow_str_bytes title.text)
  pub primary : flag_field (codes "primary") d ≡ Some (not title.allows_styling)
  pub id : optional_at as_str (codes "id") d ≡ Some (option_map cow_str_bytes (option_and_then (λ id. id.id) title.id))
  pub url : optional_at as_str (codes "url") d ≡ Some (option_map cow_str_bytes (option_and_then (λ id. id.url) title.id))

-- a message: its level, and its text
pub record IsMessageOf (d : Data) (message : Message) : Type 0 where
  pub only : HasShape shape.Message d
  pub level : SaysAt IsLevelOf (codes "level") d message.level
  pub text : text_field (codes "text") d ≡ Some (cow_str_bytes message.text)

-- the markers of a snippet of this source, which stand under this name and say what Says tells of the source, in the unit that is said
pub record AreMarkersOf {T : Type 0} (Says : List ℕ → Option SpanUnit → Data → T → Type 0) (source name : List ℕ) (d : Data) (markers : List T) : Type 0 where
  pub unit : Option SpanUnit
  pub unit_is : MaySayAt IsUnit (codes "unit") d unit
  pub marked : SaysAt (ListSays (Says source unit)) name d markers

-- the sources that a case names: none, or a list of texts
abbrev pub AreSourcesOf : Option Data → List (List ℕ) → Type 0
AreSourcesOf None sources = sources ≡ []
AreSourcesOf (Some d) sources = ListSays (λ e source. as_str e ≡ Some source) d sources

-- a source: a text, or the number of one of these, from 0
abbrev pub IsSourceOf : List (List ℕ) → Data → List ℕ → Type 0
IsSourceOf sources d source =
    (as_str d ≡ Some source) ⊎ ((n : ℕ) × (as_whole d ≡ Some n) × (n < length sources) × (source ≡ slice_index_or sources n []))

-- a snippet of this shape, whose source is a text or one of these, and whose markers stand under this name and say what Says tells
pub record IsSnippetOf {T : Type 0} (Says : List ℕ → Option SpanUnit → Data → T → Type 0) (its : Shape) (markers : List ℕ)
    (sources : List (List ℕ)) (d : Data) (snippet : Snippet T) : Type 0 where
  pub only : HasShape its d
  pub source : SaysAt (IsSourceOf sources) (codes "source") d (cow_str_bytes snippet.source.text)
  pub path : optional_at as_str (codes "path") d ≡ Some (option_map cow_str_bytes snippet.path)
  pub line_start : given_or as_whole 1 (codes "line_start") d ≡ Some snippet.line_start
  pub line_numbering : given_or as_bool true (codes "line_numbering") d ≡ Some snippet.line_numbering
  pub fold : given_or as_bool true (codes "fold") d ≡ Some snippet.fold
  pub marked : AreMarkersOf Says (cow_str_bytes snippet.source.text) markers d snippet.markers.items

-- an annotation: its kind, its span, its label, and whether it colours the source
pub record IsAnnotationOf (source : List ℕ) (unit : Option SpanUnit) (d : Data) (annotation : Annotation) : Type 0 where
  pub only : HasShape shape.Annotation d
  pub kind : text_field (codes "kind") d ≡ Some (mark_name annotation.kind)
  pub span : IsSpanOf source unit d annotation.span
  pub label : optional_at as_str (codes "label") d ≡ Some (option_map cow_str_bytes annotation.label)
  pub highlight_source : given_or as_bool false (codes "highlight_source") d ≡ Some annotation.highlight_source

-- a patch: its span, and the text that it puts there
pub record IsPatchOf (source : List ℕ) (unit : Option SpanUnit) (d : Data) (patch : Patch) : Type 0 where
  pub only : HasShape shape.Patch d
  pub span : IsSpanOf source unit d patch.span
  pub text : text_field (codes "text") d ≡ Some (cow_str_bytes patch.replacement)

-- an origin: its path, and its line and column where they are given
pub record IsOriginOf (d : Data) (origin : Origin) : Type 0 where
  pub only : HasShape shape.Origin d
  pub path : text_field (codes "path") d ≡ Some (cow_str_bytes origin.path)
  pub line : optional_at as_whole (codes "line") d ≡ Some origin.line
  pub column : optional_at as_whole (codes "column") d ≡ Some origin.char_column

-- a padding: an object without fields
abbrev pub IsPaddingOf : Data → Padding → Type 0
IsPaddingOf d padding = HasShape shape.Padding d

-- an element: an object with one field, whose name tells which; snippets may be of these sources
abbrev pub IsElementOf : List (List ℕ) → Data → Element → Type 0
IsElementOf sources d (element.Message message) = OnlySays IsMessageOf (codes "message") d message
IsElementOf sources d (element.Cause snippet) =
    OnlySays (IsSnippetOf IsAnnotationOf shape.Cause (codes "annotations") sources) (codes "cause") d snippet
IsElementOf sources d (element.Suggestion snippet) =
    OnlySays (IsSnippetOf IsPatchOf shape.Suggestion (codes "patches") sources) (codes "suggestion") d snippet
IsElementOf sources d (element.Origin origin) = OnlySays IsOriginOf (codes "origin") d origin
IsElementOf sources d (element.Padding padding) = OnlySays IsPaddingOf (codes "padding") d padding

-- the kind of a group's level: that of its title, or where it has none of its own level
abbrev pub IsKindOf : Data → Option Title → LevelInner → Type 0
IsKindOf d None kind = (level : Level) × SaysAt IsLevelOf (codes "level") d level × (kind ≡ level.kind)
IsKindOf d (Some title) kind = kind ≡ title.level.kind

-- a group: its title, its level, and its elements; snippets may be of these sources
pub record IsGroupOf (sources : List (List ℕ)) (d : Data) (group : Group) : Type 0 where
  pub only : HasShape shape.Group d
  pub title : SaysAt (OrNull IsTitleOf) (codes "title") d group.title
  pub level : IsKindOf d group.title group.level
  pub elements : SaysAt (ListSays (IsElementOf sources)) (codes "elements") d group.elements.items
