-- When a report is another with the controls of its texts masked: what of the two differs, part by part. Addresses stay.
use Rattle.std.specs.Prelude.{◌≡◌, true, false}
use Rattle.std.specs.List.{AllZip}
use Rattle.snippet_model.specs.Same.{SameOption}
use Rattle.snippet_model.specs.declared.level.Level.{Level}
use Rattle.snippet_model.specs.declared.level.LevelName.{LevelName}
use Rattle.snippet_model.specs.declared.level.LevelName.TheVariants.{Own}
use Rattle.snippet_model.specs.declared.snippet.Id.{Id}
use Rattle.snippet_model.specs.declared.snippet.Title.{Title}
use Rattle.snippet_model.specs.declared.snippet.Message.{Message}
use Rattle.snippet_model.specs.declared.snippet.Origin.{Origin}
use Rattle.snippet_model.specs.declared.snippet.Annotation.{Annotation}
use Rattle.snippet_model.specs.declared.snippet.Patch.{Patch}
use Rattle.snippet_model.specs.declared.snippet.Snippet.{Snippet}
use Rattle.snippet_model.specs.declared.snippet.Group.{Group}
use Rattle.snippet_model.specs.declared.snippet.Element.{Element}
use Rattle.snippet_shown.specs.Masked.{IsMaskedInPlace, IsTextMasked}
use Rattle.snippet_shown.specs.Remade.{IsElementMade, IsGroupMade}

-- the names of two levels: own ones, the second masked, or both standard, or both hidden
abbrev pub IsNameMasked : LevelName → LevelName → Type 0
IsNameMasked (Own a) (Own b) = IsTextMasked false a b
IsNameMasked a b = b ≡ a

-- levels of one kind, the name of the second masked
abbrev pub IsLevelMasked : Level → Level → Type 0
IsLevelMasked a b = IsNameMasked a.name b.name × (b.kind ≡ a.kind)

-- identifiers of one address, the text of the second masked
abbrev pub IsIdMasked : Id → Id → Type 0
IsIdMasked a b = SameOption (IsTextMasked false) a.id b.id × (b.url ≡ a.url)

-- titles, both trusted or neither, the level, the identifier and the text of the second masked
abbrev pub IsTitleMasked : Title → Title → Type 0
IsTitleMasked a b =
    IsLevelMasked a.level b.level × SameOption IsIdMasked a.id b.id × IsTextMasked a.allows_styling a.text b.text
    × (b.allows_styling ≡ a.allows_styling)

-- messages, the level and the trusted text of the second masked
abbrev pub IsMessageMasked : Message → Message → Type 0
IsMessageMasked a b = IsLevelMasked a.level b.level × IsTextMasked true a.text b.text

-- origins of one line and column, the path of the second masked
abbrev pub IsOriginMasked : Origin → Origin → Type 0
IsOriginMasked a b = IsTextMasked false a.path b.path × (b.line ≡ a.line) × (b.char_column ≡ a.char_column)

-- annotations of the same bytes and kind, both with a highlight or neither, the label of the second masked
abbrev pub IsAnnotationMasked : Annotation → Annotation → Type 0
IsAnnotationMasked a b =
    (b.span ≡ a.span) × SameOption (IsTextMasked false) a.label b.label × (b.kind ≡ a.kind) × (b.highlight_source ≡ a.highlight_source)

-- patches of the same bytes, what the second puts in masked
abbrev pub IsPatchMasked : Patch → Patch → Type 0
IsPatchMasked a b = (b.span ≡ a.span) × IsMaskedInPlace a.replacement b.replacement

-- snippets of the same settings, with as many markers, each of the second what Marker makes of the one in its place, and the path and the
-- source of the second masked
abbrev pub IsSnippetMasked : {T : Type 0} → (T → T → Type 0) → Snippet T → Snippet T → Type 0
IsSnippetMasked Marker a b =
    SameOption (IsTextMasked false) a.path b.path × (b.line_start ≡ a.line_start) × IsMaskedInPlace a.source.text b.source.text
    × AllZip Marker a.markers.items b.markers.items × (b.line_numbering ≡ a.line_numbering) × (b.fold ≡ a.fold)

-- elements of one kind, the texts of the second masked
abbrev pub IsElementMasked : Element → Element → Type 0
IsElementMasked =
    IsElementMade IsMessageMasked (IsSnippetMasked IsAnnotationMasked) (IsSnippetMasked IsPatchMasked) IsOriginMasked

-- groups of one level, with as many elements, the texts of each of the second and of its title masked
abbrev pub IsGroupMasked : Group → Group → Type 0
IsGroupMasked = IsGroupMade IsTitleMasked IsElementMasked
