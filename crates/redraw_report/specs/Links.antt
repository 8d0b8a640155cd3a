-- Where a report leads that is made of what a tool tells.
use Rattle.std.specs.Prelude.{ℕ, List, Option, None, Some, IfSome, IsTrue, map, option_and_then, if◌then◌else◌}
use Rattle.std.specs.List.{All}
use Rattle.snippet_model.specs.declared.snippet.Group.{Group}
use Rattle.snippet_text.specs.LinkAddress.{is_link_address}
use Rattle.redraw_report.specs.View.{Headed, Named, Section, section_view}

-- of an address that a tool gave, what a report links to: the address, if it may be a link, else nothing
abbrev pub safe_address : Option (List ℕ) → Option (List ℕ)
safe_address None = None
safe_address (Some address) = if is_link_address address then Some address else None

-- where the title of a group leads: to the address of its name, where it has one
abbrev pub title_address : Section → Option (List ℕ)
title_address s = option_and_then (λ (named : Named). named.url) (option_and_then (λ (headed : Headed). headed.name) s.title)

-- a group leads nowhere but to an address that may be a link: only its title leads anywhere
abbrev pub LeadsSafely : Section → Type 0
LeadsSafely s = IfSome (title_address s) (λ address. IsTrue (is_link_address address))

-- so does each of these groups
abbrev pub HasSafeLinks : List Group → Type 0
HasSafeLinks groups = All LeadsSafely (map section_view groups)
