-- A report leads nowhere but to addresses that may be links.
use Rattle.std.proofs.Common.{◌≡◌, ℕ, Bool, true, false, List, [], ◌∷◌, map, if◌then◌else◌, subst, sym, rules}
use Rattle.std.specs.Prelude.{◌&&◌, Option, None, Some, IfSome, IsTrue, option_and_then, option_map, string_bytes}
use Rattle.std.specs.Borrow.{Bor}
use Rattle.std.specs.List.{All}
use Rattle.std.proofs.lemmas.List.Elements.{All-cons, All-nil}
use Rattle.snippet_model.specs.declared.snippet.Group.{Group}
use Rattle.snippet_text.specs.LinkAddress.{is_link_address}
use Rattle.redraw_report.specs.declared.diagnostic.Code.{Code}
use Rattle.redraw_report.specs.declared.finding.Finding.{Finding}
use Rattle.redraw_report.specs.declared.finding.Remark.{Remark}
use Rattle.redraw_report.specs.Links.{HasSafeLinks, LeadsSafely, safe_address}
use Rattle.redraw_report.specs.Report.{headed_of, is_bare, marked_parts, named_of, remark_headed, remark_section, report_of, section_of}
use Rattle.redraw_report.specs.Report.{sections_from, with_message}
use Rattle.redraw_report.specs.View.{Headed, Named, Section, section_view}

-- an address that is kept only where it may be a link
kept : (b : Bool) (address : List ℕ) → (b ≡ true → IsTrue (is_link_address address))
    → IfSome (if b then Some address else None) (λ a. IsTrue (is_link_address a))
kept true address may = may (search rules)
kept false address may = tt

-- what is left of any address may be a link
pub safe-address : (address : Option (List ℕ)) → IfSome (safe_address address) (λ a. IsTrue (is_link_address a))
safe-address None = tt
safe-address (Some address) = kept (is_link_address address) address (λ is. search rules)

-- so where the name of a rule leads may be a link
safe-code : (code : Option (Bor Code))
    → IfSome (option_and_then (λ (n : Named). n.url) (option_map (λ (c : Bor Code). named_of c.now) code)) (λ a. IsTrue (is_link_address a))
safe-code None = tt
safe-code (Some code) = safe-address (option_map string_bytes code.now.url)

-- the group of a remark leads nowhere
safe-remark : (gone : Bool) (r : Remark) → LeadsSafely (remark_section gone r)
safe-remark gone r =
    elim (r.goes_on)
    as (λ b. IfSome (option_and_then (λ (named : Named). named.url) (option_and_then (λ (headed : Headed). headed.name)
    (if b then None else Some (remark_headed r)))) (λ address. IsTrue (is_link_address address))) [
      | true ↦ tt
      | false ↦ tt
    ]

-- the groups of remarks lead nowhere
safe-sections : (gone : Bool) (s : Section) → LeadsSafely s → (rs : List Remark) → All LeadsSafely (sections_from gone s rs)
safe-sections gone s safe [] = All-cons LeadsSafely s [] safe (All-nil LeadsSafely)
safe-sections gone s safe (r ∷ rs) =
    let own = remark_section gone r in
    elim (is_bare r)
    as (λ b. All LeadsSafely (if b then sections_from gone (with_message s r) rs else s ∷ sections_from gone own rs)) [
      | true ↦ safe-sections gone (with_message s r) safe rs
      | false ↦ All-cons LeadsSafely s (sections_from gone own rs) safe (safe-sections gone own (safe-remark gone r) rs)
    ]

-- the groups of a finding
safe-report : (has_room : Bool) (f : Finding) → All LeadsSafely (report_of has_room f)
safe-report has_room f =
    safe-sections (has_room && f.shows_gone) (section_of (headed_of f) (marked_parts f.marks.items)) (safe-code f.code) f.remarks.items

-- the report of a finding
pub safe-groups : (groups : List Group) (has_room : Bool) (f : Finding) → map section_view groups ≡ report_of has_room f → HasSafeLinks groups
safe-groups groups has_room f told = subst (λ (ss : List Section). All LeadsSafely ss) (sym told) (safe-report has_room f)
