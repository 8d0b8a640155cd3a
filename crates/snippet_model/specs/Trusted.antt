-- Which texts of a report are trusted.
use Rattle.std.specs.Prelude.{ℕ, List, [], ◌∷◌, ◌++◌, if◌then◌else◌}
use Rattle.std.specs.List.{flat_map}
use Rattle.std.specs.Option.{option_to_list}
use Rattle.std.specs.Cow.{cow_str_bytes}
use Rattle.snippet_model.specs.declared.snippet.Title.{Title}
use Rattle.snippet_model.specs.declared.snippet.Group.{Group}
use Rattle.snippet_model.specs.declared.snippet.Element.{Element}
use Rattle.snippet_model.specs.declared.snippet.Element.TheVariants as element

-- the trusted text of a title: its text, if it is a secondary one
abbrev pub trusted_of_title : Title → List (List ℕ)
trusted_of_title title = if title.allows_styling then cow_str_bytes title.text ∷ [] else []

-- the trusted text of an element: that of a message
abbrev pub trusted_of_element : Element → List (List ℕ)
trusted_of_element (element.Message message) = cow_str_bytes message.text ∷ []
trusted_of_element (element.Cause snippet) = []
trusted_of_element (element.Suggestion snippet) = []
trusted_of_element (element.Origin origin) = []
trusted_of_element (element.Padding padding) = []

-- the trusted texts of a report: secondary titles and messages
abbrev pub trusted_texts : List Group → List (List ℕ)
trusted_texts groups =
    flat_map (λ g. flat_map trusted_of_title (option_to_list g.title) ++ flat_map trusted_of_element g.elements.items) groups
