-- The page that the graphic form has for a report has its laws.
use Rattle.annotate_snippets.proofs.Common.{◌≡◌, ℕ, zero, suc, ◌+◌, ◌<◌, ◌||◌, get_or, arith, true, List, [], ◌∷◌, ◌++◌, All, Option, Some}
use Rattle.annotate_snippets.proofs.Common.{None, Result, Ok, Err, map, length, refl, sym, ap, subst, ◌∙◌, encode_utf8_all, Contains, enumerate_from}
use Rattle.annotate_snippets.proofs.Common.{flat_map, slice_get, option_or, IfOk, MatchResult, IsErrAnd, zero-add, All-nil, All-cons, All-append, All-get_or}
use Rattle.annotate_snippets.proofs.Common.{All-head, All-tail, get_or_from_slice_get, slice_get_within, plain_text, is_plain_sheet, IsWoven, Stylesheet}
use Rattle.annotate_snippets.proofs.Common.{some_same, plain_woven, is_listed, trusted_texts, Group, Renderer, drawn_elements, file_of_group, next_of}
use Rattle.annotate_snippets.proofs.Common.{position_of_group, IsWithinBounds, first_fault, form_of, missing_title, graphic_form, layout_of_group, GroupPage}
use Rattle.annotate_snippets.proofs.Common.{PrintsPage, group_rows, page_text, PageLaws, IsGroupDrawable, AreGroupsShown, ShowsGroup, IsFreeBut, RenderError}
use Rattle.std.proofs.Common.{chars}
use Rattle.annotate_snippets.proofs.PageWords.{Page, page_at}
use Rattle.annotate_snippets.proofs.OneLineTexts.{HasOneLineRows, IsOneLineGroup, one_line_groups}
use Rattle.annotate_snippets.proofs.AreTexts.{AreTexts, IsTextGroup}
use Rattle.annotate_snippets.proofs.FaultLemmas.{groups-drawable}
use Rattle.annotate_snippets.proofs.GroupLemmas.{group_shown}
use Rattle.annotate_snippets.proofs.GroupShown.{GroupShown}
use Rattle.annotate_snippets.proofs.NumberLaws.{group_numbered}
use Rattle.annotate_snippets.proofs.ReportTexts.{free_first, free_rest, links_of_titles, title_links}
use Rattle.annotate_snippets.proofs.RoomLemmas.{room_in_report}
use Rattle.annotate_snippets.proofs.TextLineLaws.{lines_of_page}
use Rattle.annotate_snippets.proofs.TitleNumbers.{group_title_unnumbered}
use Rattle.annotate_snippets.proofs.WovenLemmas.{IsWoven-from_page, page_links}

-- two free texts with a line feed between them, which isn't listed
free_joined : (trusted : List (List ℕ)) (a b : List ℕ) → IsFreeBut trusted a → IsFreeBut trusted b → IsFreeBut trusted (a ++ 10 ∷ b)
free_joined trusted a b first second =
    All-append (λ c. is_listed c ≡ true → Contains (flat_map chars trusted) c) a (10 ∷ b) first
    (All-cons (λ c. is_listed c ≡ true → Contains (flat_map chars trusted) c) 10 b (λ listed. cc) second)

-- places that are counted on
none_more : (n : ℕ) → n + 0 ≡ n
none_more n = omega arith

one_more : (n i : ℕ) → suc n + i ≡ n + suc i
one_more n i = omega arith

module _ (r : Renderer) (groups : List Group) where
  -- the page of a group of the report, which stands at this place in it, shows it
  abbrev IsShownAt : ℕ → Group → Type 0
  IsShownAt i g = GroupShown r (layout_of_group r groups g) (position_of_group (length groups) i) (file_of_group groups g) g

  -- the page of some groups, of which the first is the report's n-th
  abbrev pages_from : ℕ → List Group → Page
  pages_from n gs = map (λ (pair : ℕ × Group). page_at r groups pair.0 pair.1) (enumerate_from n gs)

  -- a group whose texts bring no line feed into its rows
  abbrev IsPlainGroup : Group → Type 0
  IsPlainGroup = IsOneLineGroup (r.label_lines || r.wrap)

  -- it shows them
  record ArePagesShown (n : ℕ) (gs : List Group) : Type 0 where
    count : length (pages_from n gs) ≡ length gs
    each : (i : ℕ) (g : Group) (part : GroupPage) → slice_get gs i ≡ Some g → slice_get (pages_from n gs) i ≡ Some part
        → ShowsGroup r (layout_of_group r groups g) (position_of_group (length groups) (n + i)) (file_of_group groups g) g part
    links : page_links (pages_from n gs) ≡ flat_map (title_links r.hyperlink) gs
    free : IsFreeBut (trusted_texts gs) (page_text (pages_from n gs))
    one_line : All IsPlainGroup gs → All HasOneLineRows (pages_from n gs)

  -- one more group above
  free_above : (g : Group) (gs : List Group) (part : GroupPage) (page : Page) → IsFreeBut (trusted_texts (g ∷ [])) (plain_text (group_rows part))
      → IsFreeBut (trusted_texts gs) (page_text page) → IsFreeBut (trusted_texts (g ∷ gs)) (page_text (part ∷ page))
  free_above g gs part [] first rest = free_first g gs (plain_text (group_rows part)) first
  free_above g gs part (other ∷ page) first rest =
      free_joined _ _ _ (free_first g gs (plain_text (group_rows part)) first) (free_rest g gs (page_text (other ∷ page)) rest)

  pages_shown : (n : ℕ) (gs : List Group) → ((i : ℕ) (g : Group) → slice_get gs i ≡ Some g → IsShownAt (n + i) g) → ArePagesShown n gs
  pages_shown n [] shown =
      record {
        count = refl;
        each = λ i g part at there. cc;
        links = refl;
        free = All-nil (λ c. is_listed c ≡ true → Contains (flat_map chars (trusted_texts [])) c);
        one_line = λ plain. All-nil HasOneLineRows;
      }
  pages_shown n (g ∷ gs) shown =
      let here : IsShownAt n g = subst (λ k. IsShownAt k g) (none_more n) (shown 0 g refl) in
      let rest : ArePagesShown (n + 1) gs = pages_shown (n + 1) gs (λ i h at. subst (λ k. IsShownAt k h) (next i) (shown (suc i) h at)) in
      let page : GroupPage = page_at r groups n g in
      record {
        count = ap suc rest.count;
        each = each rest;
        links = ap (λ urls. urls ++ page_links (pages_from (n + 1) gs)) here.links ∙ ap (λ urls. title_links r.hyperlink g ++ urls) rest.links;
        free = free_above g gs page (pages_from (n + 1) gs) here.free rest.free;
        one_line = λ plain. All-cons HasOneLineRows page (pages_from (n + 1) gs) (here.one_line (All-head IsPlainGroup g gs plain))
            (rest.one_line (All-tail IsPlainGroup g gs plain));
      }
    where
      next : (i : ℕ) → n + suc i ≡ n + 1 + i
      next i = omega arith

      each : ArePagesShown (n + 1) gs → (i : ℕ) (h : Group) (part : GroupPage) → slice_get (g ∷ gs) i ≡ Some h → slice_get (pages_from n (g ∷ gs)) i ≡ Some part
          → ShowsGroup r (layout_of_group r groups h) (position_of_group (length groups) (n + i)) (file_of_group groups h) h part
      each rest zero h part at there =
          let first : IsShownAt n h = subst (λ k. IsShownAt k h) (none_more n) (shown 0 h at) in
          let same : page_at r groups n h ≡ part = ap (λ (x : Group). page_at r groups n x) (sym (some_same at)) ∙ some_same there in
          subst (λ k. ShowsGroup r (layout_of_group r groups h) (position_of_group (length groups) k) (file_of_group groups h) h part) (sym (none_more n))
          (subst (ShowsGroup r (layout_of_group r groups h) (position_of_group (length groups) n) (file_of_group groups h) h) same first.shows)
      each rest (suc i) h part at there =
          subst (λ k. ShowsGroup r (layout_of_group r groups h) (position_of_group (length groups) k) (file_of_group groups h) h part) (sym (next i))
          (rest.each i h part at there)

module _ (r : Renderer) (groups : List Group) (drawable : All IsGroupDrawable groups) (texts : AreTexts groups) where
  -- the page that the graphic form has for a group of the report shows it
  page_shown : (i : ℕ) (g : Group) → slice_get groups i ≡ Some g → IsShownAt r groups i g
  page_shown i g at =
      let within : i < length groups = slice_get_within groups i g at in
      let same : get_or groups i g ≡ g = get_or_from_slice_get groups i g g at in
      group_shown r _ _ _ g (subst IsGroupDrawable same (All-get_or IsGroupDrawable groups i g within drawable)) (room_in_report r groups drawable i g at)
      (subst IsTextGroup same (All-get_or IsTextGroup groups i g within texts))

  report_page : ArePagesShown r groups 0 groups
  report_page = pages_shown r groups 0 groups (λ i g at. subst (λ k. IsShownAt r groups k g) (sym (zero-add i)) (page_shown i g at))

  -- it shows each group
  page_shows : AreGroupsShown r groups (graphic_form r groups)
  page_shows =
      record {
        count = report_page.count;
        each = λ i g part at there. subst (λ k. ShowsGroup r (layout_of_group r groups g) (position_of_group (length groups) k) (file_of_group groups g) g part)
            (zero-add i) (report_page.each i g part at there);
      }

  -- the page that the graphic form has for a report has the laws of a report's page
  pub page_laws : PageLaws r groups (graphic_form r groups)
  page_laws =
      record {
        shows = page_shows;
        free = report_page.free;
        links = report_page.links ∙ links_of_titles r groups;
        one_line = λ plain. report_page.one_line (one_line_groups (r.label_lines || r.wrap) groups plain);
        lines = λ plain. lines_of_page (graphic_form r groups) (report_page.one_line (one_line_groups (r.label_lines || r.wrap) groups plain));
        numbers = λ i g part at there. group_numbered r _ _ _ _ part (page_shows.each i g part at there).elements;
        titles = λ i g part title at there titled words. group_title_unnumbered r (layout_of_group r groups g) (position_of_group (length groups) i)
            (next_of (drawn_elements g)) g.title title part.title (page_shows.each i g part at there).title titled words;
      }

-- so has that of each report within bounds whose texts are UTF-8
pub within_laws : (r : Renderer) (groups : List Group) → IsWithinBounds r groups → AreTexts groups → PageLaws r groups (graphic_form r groups)
within_laws r groups within texts =
    page_laws r groups (groups-drawable groups within.fits (unrefused (missing_title (form_of r) groups) (first_fault groups) within.faultless)) texts
  where
    unrefused : (missing fault : Option RenderError) → option_or missing fault ≡ None → fault ≡ None
    unrefused None fault none = none
    unrefused (Some e) fault none = cc

-- a text that prints a page is woven of its characters, with what it links to
pub page_woven : (sheet : Stylesheet) (page : Page) (links : List (List ℕ)) (text : List ℕ) → page_links page ≡ links
    → PrintsPage sheet page text → IsWoven sheet text (page_text page) links
page_woven sheet page links text linked prints = subst (IsWoven sheet text (page_text page)) linked (IsWoven-from_page sheet page text prints)

-- so under a plain sheet, where nothing links, it is these characters and nothing else
pub plain_printed : (sheet : Stylesheet) (page : Page) (text : List ℕ) → page_links page ≡ []
    → is_plain_sheet sheet ≡ true → PrintsPage sheet page text → text ≡ encode_utf8_all (page_text page)
plain_printed sheet page text none plain prints = plain_woven sheet text (page_text page) [] plain refl (page_woven sheet page [] text none prints)

-- what holds of an answer holds of it where another error stands for the first
pub IfOk-map_err : {T E D : Type 0} (P : T → Type 0) (R : E → D → Type 0) (r : Result T E) (q : Result T D) → IfOk r P
    → MatchResult r (λ x. q ≡ Ok x) (λ e. IsErrAnd q (R e)) → IfOk q P
IfOk-map_err P R (Ok x) q holds same = subst (λ z. IfOk z P) (sym same) holds
IfOk-map_err P R (Err e) (Ok y) holds same = absurd same
IfOk-map_err P R (Err e) (Err d) holds same = tt

-- two things that hold of an answer
pub IfOk-both : {T E : Type 0} (P Q : T → Type 0) (r : Result T E) → IfOk r P → IfOk r Q → IfOk r (λ x. P x × Q x)
IfOk-both P Q (Ok x) p q = (p, q)
IfOk-both P Q (Err e) p q = tt
