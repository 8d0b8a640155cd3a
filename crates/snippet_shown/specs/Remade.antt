-- When a report is made of another part by part: its titles and its elements as two relations say, and all else stays.
use Rattle.std.specs.Prelude.{◌≡◌, All, IfSome, ⊤}
use Rattle.std.specs.List.{AllZip}
use Rattle.snippet_model.specs.Same.{SameOption}
use Rattle.snippet_model.specs.declared.snippet.Annotation.{Annotation}
use Rattle.snippet_model.specs.declared.snippet.Element.{Element}
use Rattle.snippet_model.specs.declared.snippet.Element.TheVariants as element
use Rattle.snippet_model.specs.declared.snippet.Group.{Group}
use Rattle.snippet_model.specs.declared.snippet.Message.{Message}
use Rattle.snippet_model.specs.declared.snippet.Origin.{Origin}
use Rattle.snippet_model.specs.declared.snippet.Patch.{Patch}
use Rattle.snippet_model.specs.declared.snippet.Snippet.{Snippet}
use Rattle.snippet_model.specs.declared.snippet.Title.{Title}

-- a part that stays
abbrev pub Stays : {T : Type 0} → T → T → Type 0
Stays a b = b ≡ a

-- elements of one kind, the second what the relation of that kind makes of the first
abbrev pub IsElementMade : (Message → Message → Type 0) → (Snippet Annotation → Snippet Annotation → Type 0)
    → (Snippet Patch → Snippet Patch → Type 0) → (Origin → Origin → Type 0) → Element → Element → Type 0
IsElementMade M C S O (element.Message a) (element.Message b) = M a b
IsElementMade M C S O (element.Cause a) (element.Cause b) = C a b
IsElementMade M C S O (element.Suggestion a) (element.Suggestion b) = S a b
IsElementMade M C S O (element.Origin a) (element.Origin b) = O a b
IsElementMade M C S O (element.Padding a) (element.Padding b) = ⊤
IsElementMade M C S O a b = ⊥

-- groups of one level, with as many elements, each of the second and its title what a relation makes of the one in its place
abbrev pub IsGroupMade : (Title → Title → Type 0) → (Element → Element → Type 0) → Group → Group → Type 0
IsGroupMade T E a b = (b.level ≡ a.level) × SameOption T a.title b.title × AllZip E a.elements.items b.elements.items

-- a group whose title, if it has one, and whose elements are such as these
abbrev pub IsGroupTaken : (Title → Type 0) → (Element → Type 0) → Group → Type 0
IsGroupTaken T E g = IfSome g.title T × All E g.elements.items
