-- The texts that print a report's short form show it.
use Rattle.annotate_snippets.proofs.Common.{◌≡◌, ◌∙◌, ℕ, ◌<◌, ◌==◌, Bool, true, false, None, Option, Some, IfSome, List, [], ◌∷◌}
use Rattle.annotate_snippets.proofs.Common.{◌++◌, All, arith, codes, length, not, refl, sym, ap, subst, is_whitespace, cow_str_bytes, AllZip, Contains}
use Rattle.annotate_snippets.proofs.Common.{cons_option, filter_map, flat_map, list_all, list_any, slice_get, slice_index_or, option_map, Global, CowStr}
use Rattle.annotate_snippets.proofs.Common.{append-nil, append_assoc, All-append, All-cons, All-filter, All-get_or, All-head, All-nil, All-tail, All-weaker}
use Rattle.annotate_snippets.proofs.Common.{Contains-append_left, length-slice_split, get_or_from_slice_get, slice_get_within, Heading, heading_of_title}
use Rattle.annotate_snippets.proofs.Common.{trusted_of_element, trusted_texts, Annotation, Group, Snippet, Title, KeptLine, annotated_lines, is_long}
use Rattle.annotate_snippets.proofs.Common.{is_marking, IsLocation, primary_place, primary_place-location, row_at, Cell, plain_text, row_text, IsWoven, Prints}
use Rattle.annotate_snippets.proofs.Common.{links_of, some_same, LevelInner, Stylesheet, IsWoven-from_prints, plain_woven, is_listed, norm, short-free}
use Rattle.annotate_snippets.proofs.Common.{links_of-short_rows, row_text-short_rows, heading_lines, indent_cells, heading_label_text, label_width}
use Rattle.annotate_snippets.proofs.Common.{origin_text, with_end, IsFreeButText, texts_below, id_links, OriginLocation, place-each, digit_unlisted, path_bytes}
use Rattle.annotate_snippets.proofs.Common.{BeginsWithPlace, LawsIn, ShortLaws, ShowsShort, IsTextUnder, IsShortForm, ShortShown, short_links, numbered_source}
use Rattle.annotate_snippets.proofs.Common.{IsDrawable, IsGroupDrawable, place_found, place_named, before_title, after_title, first_cause, joined_labels}
use Rattle.annotate_snippets.proofs.Common.{short_label, labels_of_cause, place_of_cause, place_of_path, primary_labels, short_form, short_page, is_primary}
use Rattle.annotate_snippets.proofs.Common.{Renderer, Short, ShortForm, AllZip-weaker, IsUnlisted, norm-free}
use Rattle.std.proofs.Common.{chars, filter}
use Rattle.snippet_titles.specs.HeadingRows.{shown_text}
use Rattle.snippet_titles.specs.declared.style.TitleStyle.TheVariants as style
use Rattle.annotate_snippets.proofs.CauseShown.{place_known}
use Rattle.annotate_snippets.proofs.ShortLemmas.{first_cause-drawable}
use Rattle.annotate_snippets.proofs.TrustedLemmas.{IsFreeRow, free_text, own_row}
use Rattle.annotate_snippets.proofs.ReportTexts.{no_links}

-- ---- no character before the title or after it is listed

-- what leads to a label, or stands after a path
sep-free : (c : ℕ) → is_listed c ≡ false → All IsUnlisted (c ∷ 32 ∷ [])
sep-free c free = All-cons IsUnlisted c (32 ∷ []) free (All-cons IsUnlisted 32 [] refl (All-nil IsUnlisted))

label-free : (a : Annotation) (rest : List (List ℕ)) → All (All IsUnlisted) rest → All (All IsUnlisted) (cons_option (short_label a) rest)
label-free a rest others = by a.label
  where
    by : (label : Option (CowStr Global)) → All (All IsUnlisted) (cons_option (option_map (λ t. norm (chars (cow_str_bytes t))) label) rest)
    by None = others
    by (Some t) = All-cons (All IsUnlisted) (norm (chars (cow_str_bytes t))) rest (norm-free (chars (cow_str_bytes t))) others

labels-free : (marks : List Annotation) → All (All IsUnlisted) (filter_map short_label marks)
labels-free [] = All-nil (All IsUnlisted)
labels-free (a ∷ marks) = label-free a (filter_map short_label marks) (labels-free marks)

primary-free : (marks : List Annotation) → All (All IsUnlisted) (primary_labels marks)
primary-free marks =
    All-filter (λ label. not (list_all is_whitespace label)) (All IsUnlisted) (filter_map short_label (filter (λ (a : Annotation). is_primary a.kind) marks))
    (labels-free (filter (λ (a : Annotation). is_primary a.kind) marks))

further_free : (labels : List (List ℕ)) → All (All IsUnlisted) labels → All IsUnlisted (flat_map (λ l. codes ", " ++ l) labels)
further_free [] free = All-nil IsUnlisted
further_free (label ∷ labels) free =
    All-append IsUnlisted (codes ", " ++ label) (flat_map (λ l. codes ", " ++ l) labels)
    (All-append IsUnlisted (codes ", ") label (sep-free 44 refl) (All-head (All IsUnlisted) label labels free))
    (further_free labels (All-tail (All IsUnlisted) label labels free))

joined-free : (labels : List (List ℕ)) → All (All IsUnlisted) labels → All IsUnlisted (joined_labels labels)
joined-free [] free = All-nil IsUnlisted
joined-free (label ∷ labels) free =
    All-append IsUnlisted (codes ": ") (label ++ flat_map (λ l. codes ", " ++ l) labels) (sep-free 58 refl)
    (All-append IsUnlisted label (flat_map (λ l. codes ", " ++ l) labels) (All-head (All IsUnlisted) label labels free)
    (further_free labels (All-tail (All IsUnlisted) label labels free)))

after-free : (cause : Option (Snippet Annotation)) → All IsUnlisted (labels_of_cause cause)
after-free None = All-nil IsUnlisted
after-free (Some s) = joined-free (primary_labels s.markers.items) (primary-free s.markers.items)

origin-free : (anonymized : Bool) (path : List ℕ) (place : OriginLocation) → All IsUnlisted (origin_text anonymized path place)
unfolding origin_text
origin-free anonymized path place = All-append IsUnlisted _ _ (norm-free (chars path)) (place-each IsUnlisted digit_unlisted refl refl anonymized place)

path-free : (r : Renderer) (s : Snippet Annotation) (path : Option (List ℕ)) → All IsUnlisted (place_of_path r s path)
path-free r s None = All-nil IsUnlisted
path-free r s (Some path) =
    let place = place_named true (annotated_lines s.fold (numbered_source s) s.markers.items) in
    All-append IsUnlisted _ _ (origin-free r.anonymized_origin_line_numbers path place) (sep-free 58 refl)

before-free : (r : Renderer) (cause : Option (Snippet Annotation)) → All IsUnlisted (place_of_cause r cause)
before-free r None = All-nil IsUnlisted
before-free r (Some s) = path-free r s (path_bytes s.path)

-- ---- the first text begins with the text before the title

first_text : (before label further after : List ℕ) (lines : List (List ℕ)) → 0 < length lines
    → (rest : List ℕ) × (slice_index_or (with_end after (texts_below (before ++ label) further lines)) 0 [] ≡ before ++ rest)
first_text before label further after [] some = absurd (omega (arith, some))
first_text before label further after (line ∷ lines) some = (
  label ++ (line ++ after),
  ap (λ t. t ++ after) (append_assoc before label line) ∙ append_assoc before (label ++ line) after ∙ ap (λ t. before ++ t) (append_assoc label line after),
)

-- ---- what a title links to

first-links : (r : Renderer) (groups : List Group) (g : Group) (title : Title) → slice_get groups 0 ≡ Some g → g.title ≡ Some title
    → id_links r.hyperlink title.id ≡ short_links r groups
first-links r [] g title first titled = cc
first-links r (h ∷ groups) g title first titled = by r.hyperlink refl
  where
    same : h ≡ g
    same = cc

    own : h.title ≡ Some title
    own = ap (λ (k : Group). k.title) same ∙ titled

    by : (hyperlink : Bool) → r.hyperlink ≡ hyperlink → id_links r.hyperlink title.id ≡ short_links r (h ∷ groups)
    by true is = rw (is, own) (sym (append-nil (id_links true title.id ++ []) ∙ append-nil (id_links true title.id)))
    by false is = rw is (no_links title.id)

-- a trusted title's text is one of the report's trusted texts
title-trusted : (groups : List Group) (g : Group) (title : Title) → slice_get groups 0 ≡ Some g → g.title ≡ Some title → title.allows_styling ≡ true → (c : ℕ)
    → Contains (chars (cow_str_bytes title.text)) c → Contains (flat_map chars (trusted_texts groups)) c
title-trusted [] g title first titled styled c is = cc
title-trusted (h ∷ groups) g title first titled styled c is =
    subst (λ (ts : List (List ℕ)). Contains (flat_map chars ts) c) (sym all) (Contains-append_left (chars text) (flat_map chars more) c is)
  where
    text : List ℕ
    text = cow_str_bytes title.text

    more : List (List ℕ)
    more = flat_map trusted_of_element h.elements.items ++ trusted_texts groups

    same : h ≡ g
    same = cc

    own : h.title ≡ Some title
    own = ap (λ (k : Group). k.title) same ∙ titled

    all : trusted_texts (h ∷ groups) ≡ text ∷ more
    all = rw (own, styled) refl

-- the first row begins with the first place of the snippet's spans
begins : (r : Renderer) (g : Group) (title : Title) (rows : List (List Cell)) → rows ≡ short_form r g title → IsGroupDrawable g
    → (s : Snippet Annotation) → first_cause g.elements.items ≡ Some s → (path : List ℕ) → path_bytes s.path ≡ Some path
    → list_any (λ a. is_marking a.kind) s.markers.items ≡ true → All (λ a. is_long (cow_str_bytes s.source.text) a ≡ false) s.markers.items
    → BeginsWithPlace r s path (row_at rows 0)
begins r g title rows are drawable s first path has some none =
    let lines : List KeptLine = annotated_lines s.fold (numbered_source s) s.markers.items in
    let can : IsDrawable s = subst (λ cause. IfSome cause IsDrawable) first (first_cause-drawable g drawable) in
    let found = place_known (primary_place lines) (IsLocation (numbered_source s) s.markers.items)
    (primary_place-location s.fold (numbered_source s) s.markers.items lines can.spans refl some none) in
    let heading : Heading = heading_of_title title in
    let before : List ℕ = before_title r g in
    let text = first_text before (heading_label_text heading) (row_text (indent_cells style.Short (label_width heading))) (after_title g)
    (heading_lines heading) (omega (arith, length-slice_split (λ c. c == 10) (shown_text heading))) in
    let named : before ≡ origin_text r.anonymized_origin_line_numbers path (place_found (Some found.0)) ++ codes ": " = cc (first, has, found.1) in
    record {
      place = found.0;
      is = found.2;
      rest = text.0;
      text = ap (λ (rs : List (List Cell)). row_text (row_at rs 0)) are ∙ row_text-short_rows r.hyperlink before (after_title g) heading 0 ∙ text.1
          ∙ ap (λ cs. cs ++ text.0) named ∙ append_assoc (origin_text r.anonymized_origin_line_numbers path (place_found (Some found.0))) (codes ": ") text.0;
    }

-- the rows show the first group
rows_shown : (r : Renderer) (g : Group) (title : Title) (rows : List (List Cell)) → rows ≡ short_form r g title → IsGroupDrawable g → ShowsShort r g title rows
rows_shown r g title rows are drawable =
    grind (arith, row_at, row_text-short_rows, after_title, begins, short-free, before-free, after-free, r.hyperlink, g.elements.items)

-- the text of a report's short form prints its rows
prints-form : (r : Renderer) (groups : List Group) (form : ShortForm) (is : IsShortForm r groups form) (sheet : Stylesheet) (text : List ℕ)
    → Prints sheet form.level form.rows text → Prints sheet is.group.level (short_form r is.group is.title) text
prints-form r groups form is sheet text given =
    subst (λ rows. Prints sheet is.group.level rows text) is.rows (subst (λ level. Prints sheet level form.rows text) is.level given)

-- the texts of a report's short form show it
pub short-shown : (r : Renderer) (groups : List Group) (form : ShortForm) (sheets : List Stylesheet) (texts : List (List ℕ))
    → IsShortForm r groups form → AllZip (λ sheet text. Prints sheet form.level form.rows text) sheets texts → ShortShown r groups sheets texts
short-shown r groups form sheets texts is prints =
    let g : Group = is.group in
    let rows : List (List Cell) = short_form r g is.title in
    record {
      group = g;
      title = is.title;
      first = is.first;
      titled = is.titled;
      printed = AllZip-weaker (λ sheet text. Prints sheet form.level form.rows text) (λ sheet text.
          Prints sheet g.level rows text) (prints-form r groups form is) sheets texts prints;
    }

-- a report's short form has its laws
pub short-laws : (r : Renderer) (groups : List Group) (form : ShortForm) → All IsGroupDrawable groups → IsShortForm r groups form → ShortLaws r groups
short-laws r groups form drawable is =
    let g : Group = is.group in
    let title : Title = is.title in
    let heading : Heading = heading_of_title title in
    let rows : List (List Cell) = short_form r g title in
    let can : IsGroupDrawable g = subst IsGroupDrawable (get_or_from_slice_get groups 0 g g is.first)
    (All-get_or IsGroupDrawable groups 0 g (slice_get_within groups 0 g is.first) drawable) in
    let shows : ShowsShort r g title rows = rows_shown r g title rows refl can in
    record {
      group = g;
      title = title;
      first = is.first;
      titled = is.titled;
      shows = shows;
      free = free_text (trusted_texts groups) rows (All-weaker (IsFreeButText heading) (IsFreeRow (trusted_texts groups))
          (own_row (trusted_texts groups) heading (title-trusted groups g title is.first is.titled)) rows shows.free);
      links = links_of-short_rows r.hyperlink (before_title r g) (after_title g) heading ∙ first-links r groups g title is.first is.titled;
    }

-- the rows of the first group that has a title are all of the short form
pub page_is : (r : Renderer) (groups : List Group) (g : Group) (title : Title) → slice_get groups 0 ≡ Some g → g.title ≡ Some title
    → short_page r groups ≡ short_form r g title
page_is r [] g title first titled = cc
page_is r (h ∷ groups) g title first titled = grind (arith, some_same)

-- a text that prints it has the laws of a text
pub short-law : (r : Renderer) (groups : List Group) (laws : ShortLaws r groups) (sheet : Stylesheet) (level : LevelInner) (g : Group) (title : Title)
    (text : List ℕ) → slice_get groups 0 ≡ Some g → g.title ≡ Some title → Prints sheet level (short_form r g title) text → LawsIn Short r groups sheet text
short-law r groups laws sheet level g title text first titled prints =
    let page : short_page r groups ≡ short_form r g title = page_is r groups g title first titled in
    let own : short_page r groups ≡ short_form r laws.group laws.title = page_is r groups laws.group laws.title laws.first laws.titled in
    let links : links_of (short_page r groups) ≡ short_links r groups = ap links_of own ∙ laws.links in
    let printed : Prints sheet level (short_page r groups) text = subst (λ rows. Prints sheet level rows text) (sym page) prints in
    let woven : IsWoven sheet text (plain_text (short_page r groups)) (short_links r groups) = subst
    (IsWoven sheet text (plain_text (short_page r groups))) links (IsWoven-from_prints sheet level (short_page r groups) text printed) in
    record {
      form_laws = laws;
      woven = woven;
      plain = λ none plain. plain_woven sheet text (plain_text (short_page r groups)) (short_links r groups) plain none woven;
    }

-- a text prints this short form
abbrev pub IsOfShort : ShortForm → Stylesheet → List ℕ → Type 0
IsOfShort form sheet text = Prints sheet form.level form.rows text

-- so have texts that print it
pub short-hold : (r : Renderer) (groups : List Group) (sheets : List Stylesheet) (texts : List (List ℕ)) (form : ShortForm) → All IsGroupDrawable groups
    → IsShortForm r groups form → AllZip (IsOfShort form) sheets texts → AllZip (LawsIn Short r groups) sheets texts
short-hold r groups sheets texts form drawable is printed =
    let laws : ShortLaws r groups = short-laws r groups form drawable is in
    let shown : ShortShown r groups sheets texts = short-shown r groups form sheets texts is printed in
    AllZip-weaker _ (LawsIn Short r groups)
    (λ sheet text. short-law r groups laws sheet shown.group.level shown.group shown.title text shown.first shown.titled) sheets texts shown.printed

-- a text that prints it shows the report and has its laws
pub short-under : (r : Renderer) (groups : List Group) (sheet : Stylesheet) (text : List ℕ) (form : ShortForm) → All IsGroupDrawable groups
    → IsShortForm r groups form → IsOfShort form sheet text → IsTextUnder Short r groups sheet text
short-under r groups sheet text form drawable is printed =
    record {
      shows = short-shown r groups form (sheet ∷ []) (text ∷ []) is (printed, tt);
      laws = (short-hold r groups (sheet ∷ []) (text ∷ []) form drawable is (printed, tt)).0;
    }
