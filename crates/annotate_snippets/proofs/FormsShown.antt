-- The texts of a report show it in its form, and have the laws of that.
use Rattle.std.proofs.lemmas.Grind.{common_steps}
use Rattle.annotate_snippets.proofs.Common.{◌≡◌, ◌<◌, ◌≤◌, ℕ, arith, get_or, Option, None, Some, refl, sym, List, [], ◌∷◌, subst}
use Rattle.annotate_snippets.proofs.Common.{length, nil_from_length, All-nil, AllZip, trusted_texts, Group, Title, IsWoven, plain_woven, Stylesheet, Renderer}
use Rattle.annotate_snippets.proofs.Common.{Form, Graphic, Short, Text, missing_title, FormLaws, LawsIn, IsTextUnder, AreFree, ShortShown, ShowsForm, links_in}
use Rattle.annotate_snippets.proofs.Common.{plain_in, graphic_form, PrintsPage, page_text, PageLaws, IsFreeBut, report_links, AllZip-weaker}
use Rattle.annotate_snippets.proofs.PageWords.{Page}
use Rattle.annotate_snippets.proofs.FaultLemmas.{first-there, title-there}
use Rattle.annotate_snippets.proofs.ReportLemmas.{page_woven}
use Rattle.annotate_snippets.proofs.ShortShown.{page_is}

-- the short form under no sheets
titled-none : (r : Renderer) (g : Group) (groups : List Group) (title : Option Title) → missing_title Short (g ∷ groups) ≡ None → g.title ≡ title
    → ShortShown r (g ∷ groups) [] []
titled-none r g groups None given titled = absurd (title-there (g ∷ groups) g given refl titled)
titled-none r g groups (Some title) given titled = record { group = g; title = title; first = refl; titled = titled; printed = tt }

short-none : (r : Renderer) (groups : List Group) → missing_title Short groups ≡ None → ShortShown r groups [] []
short-none r [] given = absurd (first-there [] given refl)
short-none r (g ∷ groups) given = titled-none r g groups g.title given refl

module _ (r : Renderer) (groups : List Group) where
  -- a text that prints the report's page has its laws
  pub page-law : PageLaws r groups (graphic_form r groups) → (sheet : Stylesheet) (text : List ℕ)
      → PrintsPage sheet (graphic_form r groups) text
      → LawsIn Graphic r groups sheet text
  page-law laws sheet text prints =
      let page : Page = graphic_form r groups in
      let links : List (List ℕ) = report_links r groups in
      let woven : IsWoven sheet text (page_text page) links = page_woven sheet page links text laws.links prints in
      record { form_laws = laws; woven = woven; plain = λ none plain. plain_woven sheet text (page_text page) links plain none woven }

  -- where no title is missing, no texts show a report under no sheets
  pub none-in : (form : Form) → missing_title form groups ≡ None → ShowsForm form r groups [] []
  none-in Graphic given = record { printed = tt }
  none-in Short given = short-none r groups given
  none-in Text given = record { are = tt }

-- texts that show a report's graphic form, each under its sheet, show it under all of them
pub page-shown : (r : Renderer) (groups : List Group) (sheets : List Stylesheet) (texts : List (List ℕ)) → AllZip (IsTextUnder Graphic r groups) sheets texts
    → ShowsForm Graphic r groups sheets texts
page-shown r groups sheets texts are =
    record { printed = AllZip-weaker _ (λ sheet text. PrintsPage sheet (graphic_form r groups) text) (λ sheet text is. is.shows.printed.0) sheets texts are }

-- each form's laws say that its plain text is free
pub free-in : (r : Renderer) (groups : List Group) (form : Form) → FormLaws form r groups → IsFreeBut (trusted_texts groups) (plain_in form r groups)
free-in r groups Graphic laws = laws.free
free-in r groups Short laws = grind (arith, page_is, laws.group, laws.title, laws.first, laws.titled, laws.free)
free-in r groups Text laws = laws.free

-- texts that have the laws of a form differ in their codes alone, and each listed character is one of a trusted text
pub are-free : (r : Renderer) (groups : List Group) (form : Form) (sheets : List Stylesheet) (texts : List (List ℕ))
    → AllZip (LawsIn form r groups) sheets texts
    → AreFree (trusted_texts groups) (links_in form r groups) sheets texts
are-free r groups form [] [] laws = grind (arith, All-nil)
are-free r groups form [] (text ∷ texts) laws = absurd laws
are-free r groups form (sheet ∷ sheets) [] laws = absurd laws
are-free r groups form (sheet ∷ sheets) (text ∷ texts) laws = grind (arith, common_steps, AllZip-weaker, free-in)

-- under no sheets no texts show a report that isn't refused
pub none-shown : (form : Form) (r : Renderer) (groups : List Group) (sheets : List Stylesheet) → length sheets ≡ 0 → missing_title form groups ≡ None
    → ShowsForm form r groups sheets []
none-shown form r groups sheets none given = subst (λ ss. ShowsForm form r groups ss []) (sym (nil_from_length sheets none)) (none-in r groups form given)

-- and have its laws
pub none-laws : (form : Form) (r : Renderer) (groups : List Group) (sheets : List Stylesheet) → length sheets ≡ 0 → AllZip (LawsIn form r groups) sheets []
none-laws form r groups sheets none = subst (λ ss. AllZip (LawsIn form r groups) ss []) (sym (nil_from_length sheets none)) tt

-- a sheet that is alone
pub one_sheet : (sheets : List Stylesheet) (d : Stylesheet) → 1 ≤ length sheets → length sheets < 2 → get_or sheets 0 d ∷ [] ≡ sheets
one_sheet [] d some few = absurd (omega (arith, some))
one_sheet (sheet ∷ []) d some few = refl
one_sheet (sheet ∷ other ∷ sheets) d some few = absurd (omega (arith, few))

-- the text under it shows the report
pub one_shown : (form : Form) (r : Renderer) (groups : List Group) (sheets : List Stylesheet) (texts : List (List ℕ)) → 1 ≤ length sheets
    → length sheets < 2 → AllZip (IsTextUnder form r groups) sheets texts → ShowsForm form r groups sheets texts
one_shown form r groups [] texts some few are = absurd (omega (arith, some))
one_shown form r groups (sheet ∷ []) [] some few are = absurd are
one_shown form r groups (sheet ∷ []) (text ∷ []) some few are = are.0.shows
one_shown form r groups (sheet ∷ []) (text ∷ more ∷ texts) some few are = absurd are.1
one_shown form r groups (sheet ∷ other ∷ sheets) texts some few are = absurd (omega (arith, few))
