-- When a report is another as it is set: what of the two differs, part by part.
use Rattle.std.specs.Prelude.{◌≡◌, Bool}
use Rattle.std.specs.List.{AllZip}
use Rattle.snippet_model.specs.Source.{SameSource}
use Rattle.snippet_model.specs.declared.level.Level.{Level}
use Rattle.snippet_model.specs.declared.level.LevelName.{LevelName}
use Rattle.snippet_model.specs.declared.level.LevelName.TheVariants.{Own}
use Rattle.snippet_model.specs.declared.snippet.Id.{Id}
use Rattle.snippet_model.specs.declared.snippet.Title.{Title}
use Rattle.snippet_model.specs.declared.snippet.Message.{Message}
use Rattle.snippet_model.specs.declared.snippet.Origin.{Origin}
use Rattle.snippet_model.specs.declared.snippet.Annotation.{Annotation}
use Rattle.snippet_model.specs.declared.snippet.Snippet.{Snippet}
use Rattle.snippet_model.specs.declared.snippet.Group.{Group}
use Rattle.snippet_model.specs.declared.snippet.Element.{Element}
use Rattle.snippet_model.specs.Same.{SameOption, SamePatch, SameText}
use Rattle.snippet_shown.specs.LineFeeds.{IsOptionAsSet, IsTextAsSet}
use Rattle.snippet_shown.specs.Remade.{IsElementMade, IsGroupMade}

-- the names of two levels: own ones, the second as it is set, or both standard, or both hidden
abbrev pub IsNameAsSet : Bool → LevelName → LevelName → Type 0
IsNameAsSet feeds (Own a) (Own b) = IsTextAsSet feeds a b
IsNameAsSet feeds a b = b ≡ a

-- levels of one kind, the name of the second as it is set
abbrev pub IsLevelAsSet : Bool → Level → Level → Type 0
IsLevelAsSet feeds a b = IsNameAsSet feeds a.name b.name × (b.kind ≡ a.kind)

-- identifiers of one address, the text of the second as it is set
abbrev pub IsIdAsSet : Bool → Id → Id → Type 0
IsIdAsSet feeds a b = IsOptionAsSet feeds a.id b.id × SameOption SameText a.url b.url

-- titles of the same text, both trusted or neither, the level and the identifier of the second as they are set
abbrev pub IsTitleAsSet : Bool → Title → Title → Type 0
IsTitleAsSet feeds a b =
    IsLevelAsSet feeds a.level b.level × SameOption (IsIdAsSet feeds) a.id b.id × SameText a.text b.text
    × (b.allows_styling ≡ a.allows_styling)

-- messages of the same text, the level of the second as it is set
abbrev pub IsMessageAsSet : Bool → Message → Message → Type 0
IsMessageAsSet feeds a b = IsLevelAsSet feeds a.level b.level × SameText a.text b.text

-- origins of one line and column, the path of the second as it is set
abbrev pub IsOriginAsSet : Bool → Origin → Origin → Type 0
IsOriginAsSet feeds a b = IsTextAsSet feeds a.path b.path × (b.line ≡ a.line) × (b.char_column ≡ a.char_column)

-- annotations of the same bytes and kind, both with a highlight or neither, the label of the second as it is set
abbrev pub IsAnnotationAsSet : Bool → Annotation → Annotation → Type 0
IsAnnotationAsSet feeds a b =
    (b.span ≡ a.span) × IsOptionAsSet feeds a.label b.label × (b.kind ≡ a.kind)
    × (b.highlight_source ≡ a.highlight_source)

-- snippets of the same source and settings, with as many markers, each of the second what Marker makes of the one in its place, and the path
-- of the second as it is set
abbrev pub IsSnippetAsSet : {T : Type 0} → Bool → (T → T → Type 0) → Snippet T → Snippet T → Type 0
IsSnippetAsSet feeds Marker a b =
    IsOptionAsSet feeds a.path b.path × (b.line_start ≡ a.line_start) × SameSource a.source b.source
    × AllZip Marker a.markers.items b.markers.items × (b.line_numbering ≡ a.line_numbering) × (b.fold ≡ a.fold)

-- elements of one kind, the second as it is set
abbrev pub IsElementAsSet : Bool → Element → Element → Type 0
IsElementAsSet feeds =
    IsElementMade (IsMessageAsSet feeds) (IsSnippetAsSet feeds (IsAnnotationAsSet feeds)) (IsSnippetAsSet feeds SamePatch) (IsOriginAsSet feeds)

-- groups of one level, with as many elements, each of the second and its title as they are set
abbrev pub IsGroupAsSet : Bool → Group → Group → Type 0
IsGroupAsSet feeds = IsGroupMade (IsTitleAsSet feeds) (IsElementAsSet feeds)
