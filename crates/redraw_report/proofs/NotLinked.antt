-- A report that leads where a terminal would take codes from.
use Rattle.std.proofs.Common.{◌≡◌, ℕ, List, [], ◌∷◌, ◌++◌, map, subst, rules}
use Rattle.std.specs.Prelude.{Option, Some, IfSome, IsTrue, codes}
use Rattle.std.specs.List.{All}
use Rattle.std.proofs.lemmas.List.Elements.{All-head}
use Rattle.snippet_model.specs.declared.snippet.Group.{Group}
use Rattle.snippet_text.specs.LinkAddress.{is_link_address}
use Rattle.redraw_report.specs.Links.{HasSafeLinks, LeadsSafely, title_address}
use Rattle.redraw_report.specs.View.{Section, section_view}

-- `http://x/` and U+001B, with which a code begins
abbrev escaping : List ℕ
escaping = codes "http://x/" ++ 27 ∷ []

-- a report whose first title leads to that address doesn't lead safely
pub escape_linked : (groups : List Group) (s : Section) (rest : List Section) → map section_view groups ≡ s ∷ rest
    → title_address s ≡ Some escaping → HasSafeLinks groups → ⊥
escape_linked groups s rest are leads safe =
    let all : All LeadsSafely (s ∷ rest) = subst (λ (ss : List Section). All LeadsSafely ss) are safe in
    let P : Option (List ℕ) → Type 0 = λ o. IfSome o (λ a. IsTrue (is_link_address a)) in
    let no : IsTrue (is_link_address escaping) = subst P leads (All-head LeadsSafely s rest all) in
    absurd (search rules)
