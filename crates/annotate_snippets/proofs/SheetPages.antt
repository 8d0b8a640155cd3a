-- The pages of a report under several sheets, a group at a time.
use Rattle.std.proofs.lemmas.Grind.{common_steps}
use Rattle.annotate_snippets.proofs.Common.{◌≡◌, ℕ, zero, suc, ◌+◌, ◌≤◌, ◌<◌, ◌==◌, Bool, true, List, [], ◌∷◌, ◌++◌, arith}
use Rattle.annotate_snippets.proofs.Common.{drop, get_or, length, map, set, subst, string_bytes, take, AllZip, Group, AllZip-weaker, Cell}
use Rattle.annotate_snippets.proofs.Common.{LevelInner, Stylesheet, graphic_form, IsTextUnder, PageLaws, GroupPage, PrintsPage, group_rows, Takes}
use Rattle.annotate_snippets.proofs.Common.{AddsToPage, IsEmptyPage, Renderer, Graphic, SheetPage, SheetPages}
use Rattle.annotate_snippets.proofs.SinkLemmas.{holds_after}
use Rattle.annotate_snippets.proofs.WriteLemmas.{group_more, page_text_is}

-- ---- one group

module _ (first : Bool) (level : LevelInner) (rows : List (List Cell)) where
  -- the first n pages grew by some rows, and those from there on are as they were
  pub record GrewSoFar (n : ℕ) (old new : List SheetPage) : Type 0 where
    pub grew : AllZip (AddsToPage first level rows) (take n old) (take n new)
    pub rest : drop n new ≡ drop n old

  -- one more
  grew_next : (n : ℕ) (old now : List SheetPage) (d page : SheetPage) → n < length now → AddsToPage first level rows (get_or now n d) page
      → GrewSoFar n old now → GrewSoFar (suc n) old (set now n page)
  grew_next n old [] d page within adds before = absurd (omega (arith, within))
  grew_next zero [] (y ∷ now) d page within adds before = grind (arith, before.rest)
  grew_next (suc n) [] (y ∷ now) d page within adds before = absurd before.grew
  grew_next zero (x ∷ old) (y ∷ now) d page within adds before = grind (arith, common_steps)
  grew_next (suc n) (x ∷ old) (y ∷ now) d page within adds before =
      let next = grew_next n old now d page (omega (arith, within)) adds (record { grew = before.grew.1; rest = before.rest }) in
      record { grew = (before.grew.0, next.grew); rest = next.rest }

  pub grew_more : (n : ℕ) (old now : List SheetPage) (d page : SheetPage) → n < length now → AddsToPage first level rows (get_or now n d) page
      → GrewSoFar n old now → GrewSoFar (n + 1) old (set now n page)
  grew_more n old now d page within adds before =
      let on : suc n ≡ n + 1 = omega arith in subst (λ k. GrewSoFar k old (set now n page)) on (grew_next n old now d page within adds before)

  -- all of them
  pub grew_all : (n : ℕ) (old new : List SheetPage) → length new ≤ n → GrewSoFar n old new → AllZip (AddsToPage first level rows) old new
  grew_all n [] [] all grew = tt
  grew_all zero [] (y ∷ new) all grew = absurd (omega (arith, all))
  grew_all (suc n) [] (y ∷ new) all grew = absurd grew.grew
  grew_all zero (x ∷ old) [] all grew = grind (arith, grew.rest)
  grew_all (suc n) (x ∷ old) [] all grew = absurd grew.grew
  grew_all zero (x ∷ old) (y ∷ new) all grew = absurd (omega (arith, all))
  grew_all (suc n) (x ∷ old) (y ∷ new) all grew = (grew.grew.0, grew_all n old new (omega (arith, all)) (record { grew = grew.grew.1; rest = grew.rest }))

-- ---- all groups

-- a page grew by a group, and each of several did
abbrev pub AddsGroupToPage : Bool → GroupPage → SheetPage → SheetPage → Type 0
AddsGroupToPage first g old new = AddsToPage first g.level (group_rows g) old new

abbrev pub AddsGroupToPages : Bool → GroupPage → SheetPages → SheetPages → Type 0
AddsGroupToPages first g old new = AllZip (AddsGroupToPage first g) old.pages.items new.pages.items

-- a page under a sheet, on which these groups are printed
pub record IsPageSoFar (before : List GroupPage) (sheet : Stylesheet) (page : SheetPage) : Type 0 where
  pub under : page.codes ≡ sheet
  pub printed : PrintsPage sheet before (string_bytes page.text)

-- before the first group
pub page_none : (sheet : Stylesheet) (page : SheetPage) → IsEmptyPage sheet page → IsPageSoFar [] sheet page
page_none sheet page empty = record { under = empty.under; printed = record { parts = []; printed = tt; joined = empty.empty } }

-- after one more
page_more : (sheet : Stylesheet) (before : List GroupPage) (g : GroupPage) (old new : SheetPage) → IsPageSoFar before sheet old
    → AddsGroupToPage (length before == 0) g old new → IsPageSoFar (before ++ g ∷ []) sheet new
page_more sheet before g old new printed adds = grind (arith, common_steps, group_more)

pages_more : (sheets : List Stylesheet) (before : List GroupPage) (g : GroupPage) (old new : List SheetPage) → AllZip (IsPageSoFar before) sheets old
    → AllZip (AddsGroupToPage (length before == 0) g) old new → AllZip (IsPageSoFar (before ++ g ∷ [])) sheets new
pages_more [] before g [] [] printed adds = tt
pages_more [] before g [] (page ∷ new) printed adds = absurd adds
pages_more [] before g (page ∷ old) new printed adds = absurd printed
pages_more (sheet ∷ sheets) before g [] new printed adds = absurd printed
pages_more (sheet ∷ sheets) before g (page ∷ old) [] printed adds = absurd adds
pages_more (sheet ∷ sheets) before g (page ∷ old) (next ∷ new) printed adds =
    (page_more sheet before g page next printed.0 adds.0, pages_more sheets before g old new printed.1 adds.1)

-- after all
pub page_after : (sheet : Stylesheet) (page : List GroupPage) (old new : SheetPage) → IsEmptyPage sheet old
    → Takes AddsGroupToPage true page old new → PrintsPage sheet page (string_bytes new.text)
page_after sheet page old new empty taken =
    (holds_after AddsGroupToPage (λ before p. IsPageSoFar before sheet p) (page_more sheet) page old new (page_none sheet old empty) taken).printed

pub pages_after : (r : Renderer) (groups : List Group) (sheets : List Stylesheet) (old new : SheetPages) → AllZip IsEmptyPage sheets old.pages.items
    → PageLaws r groups (graphic_form r groups) → Takes AddsGroupToPages true (graphic_form r groups) old new
    → AllZip (IsTextUnder Graphic r groups) sheets (map string_bytes (map (λ (page : SheetPage). page.text) new.pages.items))
pages_after r groups sheets old new empty laws taken =
    texts sheets new.pages.items (holds_after AddsGroupToPages (λ before (ps : SheetPages). AllZip (IsPageSoFar before) sheets ps.pages.items)
    (λ before g was is. pages_more sheets before g was.pages.items is.pages.items) (graphic_form r groups) old new
    (AllZip-weaker IsEmptyPage (IsPageSoFar []) page_none sheets old.pages.items empty) taken)
  where
    texts : (sheets : List Stylesheet) (pages : List SheetPage) → AllZip (IsPageSoFar (graphic_form r groups)) sheets pages
        → AllZip (IsTextUnder Graphic r groups) sheets (map string_bytes (map (λ (page : SheetPage). page.text) pages))
    texts [] [] printed = tt
    texts [] (page ∷ pages) printed = absurd printed
    texts (sheet ∷ sheets) [] printed = absurd printed
    texts (sheet ∷ sheets) (page ∷ pages) printed = (page_text_is r groups sheet (string_bytes page.text) laws printed.0.printed, texts sheets pages printed.1)
