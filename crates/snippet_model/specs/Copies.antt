-- When a copy of a part of a report is the same as what it is of: all that can be read of the two agrees.
use Rattle.std.specs.Prelude.{◌≡◌, ⊤}
use Rattle.std.specs.List.{AllZip}
use Rattle.snippet_model.specs.Source.{SameSource}
use Rattle.snippet_model.specs.declared.level.Level.{Level}
use Rattle.snippet_model.specs.declared.level.LevelName.{LevelName}
use Rattle.snippet_model.specs.declared.level.LevelName.TheVariants.{Own}
use Rattle.snippet_model.specs.declared.snippet.Id.{Id}
use Rattle.snippet_model.specs.declared.snippet.Title.{Title}
use Rattle.snippet_model.specs.declared.snippet.Message.{Message}
use Rattle.snippet_model.specs.declared.snippet.Origin.{Origin}
use Rattle.snippet_model.specs.declared.snippet.Annotation.{Annotation}
use Rattle.snippet_model.specs.declared.snippet.Snippet.{Snippet}
use Rattle.snippet_model.specs.declared.snippet.Group.{Group}
use Rattle.snippet_model.specs.declared.snippet.Element.{Element}
use Rattle.snippet_model.specs.declared.snippet.Element.TheVariants as element
use Rattle.snippet_model.specs.Same.{SameText, SameOption, SamePatch}

-- the names of two levels: own ones of the same text, or both standard, or both hidden
abbrev pub SameName : LevelName → LevelName → Type 0
SameName (Own a) (Own b) = SameText a b
SameName a b = b ≡ a

-- levels of the same name and kind
abbrev pub SameLevel : Level → Level → Type 0
SameLevel a b = SameName a.name b.name × (b.kind ≡ a.kind)

-- identifiers of the same text and address
abbrev pub SameId : Id → Id → Type 0
SameId a b = SameOption SameText a.id b.id × SameOption SameText a.url b.url

-- titles of the same level, identifier and text, both trusted or neither
abbrev pub SameTitle : Title → Title → Type 0
SameTitle a b =
    SameLevel a.level b.level × SameOption SameId a.id b.id × SameText a.text b.text
    × (b.allows_styling ≡ a.allows_styling)

-- messages of the same level and text
abbrev pub SameMessage : Message → Message → Type 0
SameMessage a b = SameLevel a.level b.level × SameText a.text b.text

-- origins of the same path, line and column
abbrev pub SameOrigin : Origin → Origin → Type 0
SameOrigin a b = SameText a.path b.path × (b.line ≡ a.line) × (b.char_column ≡ a.char_column)

-- annotations of the same bytes, label and kind, both with a highlight or neither
abbrev pub SameAnnotation : Annotation → Annotation → Type 0
SameAnnotation a b =
    (b.span ≡ a.span) × SameOption SameText a.label b.label × (b.kind ≡ a.kind)
    × (b.highlight_source ≡ a.highlight_source)

-- snippets of the same source, path and settings, with as many markers, each the same as the one in its place, as Same says
abbrev pub SameSnippet : {T : Type 0} → (T → T → Type 0) → Snippet T → Snippet T → Type 0
SameSnippet Same a b =
    SameOption SameText a.path b.path × (b.line_start ≡ a.line_start) × SameSource a.source b.source
    × AllZip Same a.markers.items b.markers.items × (b.line_numbering ≡ a.line_numbering) × (b.fold ≡ a.fold)

-- elements of one kind that are the same; two of different kinds never are
abbrev pub SameElement : Element → Element → Type 0
SameElement (element.Message a) (element.Message b) = SameMessage a b
SameElement (element.Cause a) (element.Cause b) = SameSnippet SameAnnotation a b
SameElement (element.Suggestion a) (element.Suggestion b) = SameSnippet SamePatch a b
SameElement (element.Origin a) (element.Origin b) = SameOrigin a b
SameElement (element.Padding a) (element.Padding b) = ⊤
SameElement a b = ⊥

-- groups of the same level and title, with as many elements, each the same as the one in its place
abbrev pub SameGroup : Group → Group → Type 0
SameGroup a b =
    (b.level ≡ a.level) × SameOption SameTitle a.title b.title × AllZip SameElement a.elements.items b.elements.items
