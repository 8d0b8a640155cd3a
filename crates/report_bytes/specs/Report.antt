-- What has bytes: the reports whose texts are texts within the library's limit, and whose lists can be counted.
use Rattle.std.specs.Prelude.{◌<◌, ◌^◌, List, IfSome, length}
use Rattle.std.specs.Cow.{cow_str_bytes}
use Rattle.std.specs.List.{AllByRecursion}
use Rattle.std.specs.Str.{IsUtf8}
use Rattle.std.specs.declared.borrow.CowStr.{CowStr}
use Rattle.std.specs.declared.alloc.Global.{Global}
use Rattle.snippet_model.specs.declared.level.LevelName.{LevelName}
use Rattle.snippet_model.specs.declared.level.LevelName.TheVariants.{Standard, Hidden, Own}
use Rattle.snippet_model.specs.declared.snippet.Annotation.{Annotation}
use Rattle.snippet_model.specs.declared.snippet.Element.{Element}
use Rattle.snippet_model.specs.declared.snippet.Element.TheVariants as element
use Rattle.snippet_model.specs.declared.snippet.Group.{Group}
use Rattle.snippet_model.specs.declared.snippet.Id.{Id}
use Rattle.snippet_model.specs.declared.snippet.Patch.{Patch}
use Rattle.snippet_model.specs.declared.snippet.Snippet.{Snippet}
use Rattle.snippet_model.specs.declared.snippet.Title.{Title}
use Rattle.snippet_text.specs.TextBounds.{TextFits}

-- a text: UTF-8, and fewer than 2^56 bytes
abbrev pub IsText : CowStr Global → Type 0
IsText text = IsUtf8 (cow_str_bytes text) × (TextFits (cow_str_bytes text))

-- a list of fewer than 2^64 members, of each of which P holds
abbrev pub IsListOf : {X : Type 0} → (X → Type 0) → List X → Type 0
IsListOf P xs = (length xs < 2 ^ 64) × AllByRecursion P xs

abbrev pub IsName : LevelName → Type 0
IsName Standard = Unit {0}
IsName Hidden = Unit {0}
IsName (Own name) = IsText name

abbrev pub IsId : Id → Type 0
IsId id = IfSome id.id IsText × IfSome id.url IsText

abbrev pub IsTitle : Title → Type 0
IsTitle title = IsName title.level.name × IfSome title.id IsId × IsText title.text

abbrev pub IsAnnotation : Annotation → Type 0
IsAnnotation annotation = IfSome annotation.label IsText

abbrev pub IsPatch : Patch → Type 0
IsPatch patch = IsText patch.replacement

abbrev pub IsSnippet : {T : Type 0} → (T → Type 0) → Snippet T → Type 0
IsSnippet P snippet = IfSome snippet.path IsText × IsText snippet.source.text × IsListOf P snippet.markers.items

abbrev pub IsElement : Element → Type 0
IsElement (element.Message message) = IsName message.level.name × IsText message.text
IsElement (element.Cause snippet) = IsSnippet IsAnnotation snippet
IsElement (element.Suggestion snippet) = IsSnippet IsPatch snippet
IsElement (element.Origin origin) = IsText origin.path
IsElement (element.Padding padding) = Unit {0}

abbrev pub IsGroup : Group → Type 0
IsGroup group = IfSome group.title IsTitle × IsListOf IsElement group.elements.items
