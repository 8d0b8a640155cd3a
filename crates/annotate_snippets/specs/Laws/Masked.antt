-- Reports no text of which holds a character that is masked.
use Rattle.std.specs.Prelude.{◌≡◌, ℕ, false, List, All, IfSome, chars}
use Rattle.std.specs.Cow.{cow_str_bytes}
use Rattle.snippet_model.specs.Level.{name_of}
use Rattle.snippet_model.specs.declared.snippet.Element.{Element}
use Rattle.snippet_model.specs.declared.snippet.Element.TheVariants as element
use Rattle.snippet_model.specs.declared.snippet.Group.{Group}
use Rattle.snippet_model.specs.declared.snippet.Id.{Id}
use Rattle.snippet_model.specs.declared.snippet.Title.{Title}
use Rattle.snippet_lines.specs.Controls.{is_masked}
use Rattle.snippet_shown.specs.Remade.{IsGroupTaken}

-- a text that holds none
abbrev pub IsClean : List ℕ → Type 0
IsClean text = All (λ c. is_masked c ≡ false) (chars text)

-- a title whose level's name, id and text hold none. Its address isn't drawn
abbrev pub IsCleanTitle : Title → Type 0
IsCleanTitle title =
    IsClean (name_of title.level) × IfSome title.id (λ (id : Id). IfSome id.id (λ t. IsClean (cow_str_bytes t))) × IsClean (cow_str_bytes title.text)

-- an element no text of which holds one
abbrev pub IsCleanElement : Element → Type 0
IsCleanElement (element.Message message) = IsClean (name_of message.level) × IsClean (cow_str_bytes message.text)
IsCleanElement (element.Cause snippet) =
    IsClean (cow_str_bytes snippet.source.text) × IfSome snippet.path (λ t. IsClean (cow_str_bytes t))
    × All (λ a. IfSome a.label (λ t. IsClean (cow_str_bytes t))) snippet.markers.items
IsCleanElement (element.Suggestion snippet) =
    IsClean (cow_str_bytes snippet.source.text) × IfSome snippet.path (λ t. IsClean (cow_str_bytes t))
    × All (λ p. IsClean (cow_str_bytes p.replacement)) snippet.markers.items
IsCleanElement (element.Origin origin) = IsClean (cow_str_bytes origin.path)
IsCleanElement (element.Padding padding) = Unit {0}

-- groups no text of which holds one
abbrev pub HasNoControls : List Group → Type 0
HasNoControls groups = All (IsGroupTaken IsCleanTitle IsCleanElement) groups
