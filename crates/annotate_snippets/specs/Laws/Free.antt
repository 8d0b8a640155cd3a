-- Which listed characters a text or a row may hold.
use Rattle.std.specs.Prelude.{◌≡◌, ℕ, true, List, All, Contains, chars}
use Rattle.std.specs.List.{flat_map}
use Rattle.snippet_text.specs.Normalized.{is_listed}
use Rattle.snippet_model.specs.Heading.{heading_of_message}
use Rattle.snippet_model.specs.declared.snippet.Element.{Element}
use Rattle.snippet_model.specs.FreeRows.{IsFree}
use Rattle.snippet_titles.specs.ShownHeading.{IsFreeButText}
use Rattle.annotate_snippets.specs.Page.{NamedRow}
use Rattle.snippet_model.specs.declared.snippet.Element.TheVariants as element

-- a row of an element that isn't a message holds no listed character, and no link; for a message see ShowsHeading
abbrev pub IsFreeElement : Element → List NamedRow → Type 0
IsFreeElement (element.Message message) rows = All (λ row. IsFreeButText (heading_of_message message) row.cells) rows
IsFreeElement e rows = All (λ row. IsFree row.cells) rows

-- each listed character is one of a trusted text
abbrev pub IsFreeBut : List (List ℕ) → List ℕ → Type 0
IsFreeBut trusted text = All (λ c. is_listed c ≡ true → Contains (flat_map chars trusted) c) text
