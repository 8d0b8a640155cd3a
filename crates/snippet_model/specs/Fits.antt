-- The library's one limit: each text of a report has fewer than 2^56 bytes.
use Rattle.std.specs.Prelude.{ℕ, ◌^◌, ◌<◌, List, All, IfSome}
use Rattle.std.specs.Cow.{cow_str_bytes}
use Rattle.snippet_model.specs.declared.level.Level.{Level}
use Rattle.snippet_model.specs.declared.snippet.Id.{Id}
use Rattle.snippet_model.specs.declared.snippet.Title.{Title}
use Rattle.snippet_model.specs.declared.snippet.Message.{Message}
use Rattle.snippet_model.specs.declared.snippet.Annotation.{Annotation}
use Rattle.snippet_model.specs.declared.snippet.Patch.{Patch}
use Rattle.snippet_model.specs.declared.snippet.Snippet.{Snippet}
use Rattle.snippet_model.specs.declared.snippet.Group.{Group}
use Rattle.snippet_model.specs.declared.snippet.Element.{Element}
use Rattle.snippet_model.specs.declared.snippet.Element.TheVariants as element
use Rattle.snippet_model.specs.Level.{name_of}
pub use Rattle.snippet_text.specs.TextBounds.{TextFits}

-- a level, where its name fits
abbrev pub LevelFits : Level → Type 0
LevelFits level = TextFits (name_of level)

-- an id, where its text and its address fit
abbrev pub IdFits : Id → Type 0
IdFits id = IfSome id.id (λ t. TextFits (cow_str_bytes t)) × IfSome id.url (λ t. TextFits (cow_str_bytes t))

-- a title, where its level, its text and its id fit
abbrev pub TitleFits : Title → Type 0
TitleFits title = LevelFits title.level × TextFits (cow_str_bytes title.text) × IfSome title.id IdFits

-- a message, where its level and its text fit
abbrev pub MessageFits : Message → Type 0
MessageFits message = LevelFits message.level × TextFits (cow_str_bytes message.text)

-- an annotation, where its label fits
abbrev pub AnnotationFits : Annotation → Type 0
AnnotationFits a = IfSome a.label (λ t. TextFits (cow_str_bytes t))

-- a patch, where what it puts in fits
abbrev pub PatchFits : Patch → Type 0
PatchFits p = TextFits (cow_str_bytes p.replacement)

-- a snippet, where each of its markers has texts that fit as F says
abbrev pub SnippetFits : {T : Type 0} → (T → Type 0) → Snippet T → Type 0
SnippetFits F s =
    TextFits (cow_str_bytes s.source.text) × IfSome s.path (λ t. TextFits (cow_str_bytes t)) × All F s.markers.items

-- an element, where each of its texts fits
abbrev pub ElementFits : Element → Type 0
ElementFits (element.Message message) = MessageFits message
ElementFits (element.Cause snippet) = SnippetFits AnnotationFits snippet
ElementFits (element.Suggestion snippet) = SnippetFits PatchFits snippet
ElementFits (element.Origin origin) = TextFits (cow_str_bytes origin.path)
ElementFits (element.Padding padding) = Unit {0}

-- a group, where its title and its elements fit
abbrev pub GroupFits : Group → Type 0
GroupFits group = IfSome group.title TitleFits × All ElementFits group.elements.items

-- each text of the report fits
abbrev pub ReportFits : List Group → Type 0
ReportFits groups = All GroupFits groups
