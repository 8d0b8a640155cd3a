-- Texts on one line, one by one: what HasOneLineTexts says of all texts of a report, by groups, titles and elements.
use Rattle.annotate_snippets.proofs.Common.{◌≡◌, ℕ, ◌==◌, Bool, true, false, List, [], ◌∷◌, ◌++◌, All, Option, None, Some, IfSome, cow_str_bytes, cons_option}
use Rattle.annotate_snippets.proofs.Common.{filter_map, flat_map, option_map, option_to_list, All-append, All-cons, All-head, All-nil, All-tail, if◌then◌else◌}
use Rattle.annotate_snippets.proofs.Common.{All-weaker, Cell, name_of, Level, Annotation, Element, Group, Id, Title, path_bytes, HasNoFeed, HasOneLineTexts}
use Rattle.annotate_snippets.proofs.Common.{row_texts_of_element, row_texts_of_title, GroupPage, group_rows}
use Rattle.std.proofs.Common.{chars}
use Rattle.snippet_model.specs.declared.snippet.Element.TheVariants as element

-- ---- rows

-- a character is no line feed, U+000A
abbrev pub IsNoFeed : ℕ → Type 0
IsNoFeed ch = (ch == 10) ≡ false

-- a cell whose character is no line feed
abbrev pub HoldsNoFeed : Cell → Type 0
HoldsNoFeed cell = IsNoFeed cell.ch

-- a group in each row of which no cell is one
abbrev pub HasOneLineRows : GroupPage → Type 0
HasOneLineRows g = All HasNoFeed (group_rows g)

-- ---- texts

-- the bytes of a text, if there is one, spell no line feed: the text is on one line
abbrev pub IsOneLineText : Option (List ℕ) → Type 0
IsOneLineText None = Unit {0}
IsOneLineText (Some text) = All IsNoFeed (chars text)

-- so is the name that is shown for a level
abbrev pub IsOneLineName : Level → Type 0
IsOneLineName level = IsOneLineText (Some (name_of level))

-- so is the text of an id, if there is one
abbrev pub IsOneLineId : Option Id → Type 0
IsOneLineId None = Unit {0}
IsOneLineId (Some id) = IsOneLineText (option_map cow_str_bytes id.id)

-- so are a title's level and its id.
abbrev pub IsOneLineTitle : Title → Type 0
IsOneLineTitle title = IsOneLineName title.level × IsOneLineId title.id

-- so is the label of a span, if it has one
abbrev pub IsOneLineLabel : Annotation → Type 0
IsOneLineLabel a = IsOneLineText (option_map cow_str_bytes a.label)

-- so are the labels of spans, unless they are cut at their line feeds
abbrev pub AreOneLineLabels : Bool → List Annotation → Type 0
AreOneLineLabels true marks = Unit {0}
AreOneLineLabels false marks = All IsOneLineLabel marks

-- so are a message's level, a path, and the labels of a snippet's spans
abbrev pub IsOneLineElement : Bool → Element → Type 0
IsOneLineElement cut (element.Message message) = IsOneLineName message.level
IsOneLineElement cut (element.Cause snippet) =
    IsOneLineText (path_bytes snippet.path) × AreOneLineLabels cut snippet.markers.items
IsOneLineElement cut (element.Suggestion snippet) = IsOneLineText (path_bytes snippet.path)
IsOneLineElement cut (element.Origin origin) = IsOneLineText (Some (cow_str_bytes origin.path))
IsOneLineElement cut (element.Padding padding) = Unit {0}

-- so are those of a group
abbrev pub IsOneLineGroup : Bool → Group → Type 0
IsOneLineGroup cut g = IfSome g.title IsOneLineTitle × All (IsOneLineElement cut) g.elements.items

-- ---- the same of all texts

-- a text holds no line feed
abbrev IsPlain : List ℕ → Type 0
IsPlain text = All IsNoFeed (chars text)

All-before : (xs ys : List (List ℕ)) → All IsPlain (xs ++ ys) → All IsPlain xs
All-before [] ys all = All-nil IsPlain
All-before (x ∷ xs) ys all = All-cons IsPlain x xs (All-head IsPlain x (xs ++ ys) all) (All-before xs ys (All-tail IsPlain x (xs ++ ys) all))

All-after : (xs ys : List (List ℕ)) → All IsPlain (xs ++ ys) → All IsPlain ys
All-after [] ys all = all
All-after (x ∷ xs) ys all = All-after xs ys (All-tail IsPlain x (xs ++ ys) all)

-- some texts of each of some things are plain, and back
module _ {X : Type 0} (P : X → Type 0) (f : X → List (List ℕ)) (read : (x : X) → All IsPlain (f x) → P x)
    (written : (x : X) → P x → All IsPlain (f x)) where
  each_read : (xs : List X) → All IsPlain (flat_map f xs) → All P xs
  each_read [] all = All-nil P
  each_read (x ∷ xs) all = All-cons P x xs (read x (All-before (f x) (flat_map f xs) all)) (each_read xs (All-after (f x) (flat_map f xs) all))

  each_written : (xs : List X) → All P xs → All IsPlain (flat_map f xs)
  each_written [] all = All-nil IsPlain
  each_written (x ∷ xs) all = All-append IsPlain (f x) (flat_map f xs) (written x (All-head P x xs all)) (each_written xs (All-tail P x xs all))

-- a text that may be there
text_read : (text : Option (List ℕ)) → All IsPlain (option_to_list text) → IsOneLineText text
text_read None all = tt
text_read (Some text) all = All-head IsPlain text [] all

text_written : (text : Option (List ℕ)) → IsOneLineText text → All IsPlain (option_to_list text)
text_written None plain = All-nil IsPlain
text_written (Some text) plain = All-cons IsPlain text [] plain (All-nil IsPlain)

-- an id, and a title
abbrev id_texts : Option Id → List (List ℕ)
id_texts id = flat_map (λ (x : Id). option_to_list (option_map cow_str_bytes x.id)) (option_to_list id)

id_read : (id : Option Id) → All IsPlain (id_texts id) → IsOneLineId id
id_read None all = tt
id_read (Some id) all = text_read (option_map cow_str_bytes id.id) (All-before (option_to_list (option_map cow_str_bytes id.id)) [] all)

id_written : (id : Option Id) → IsOneLineId id → All IsPlain (id_texts id)
id_written None plain = All-nil IsPlain
id_written (Some id) plain =
    All-append IsPlain (option_to_list (option_map cow_str_bytes id.id)) [] (text_written (option_map cow_str_bytes id.id) plain) (All-nil IsPlain)

title_read : (title : Title) → All IsPlain (row_texts_of_title title) → IsOneLineTitle title
title_read title all =
    (All-head IsPlain (name_of title.level) (id_texts title.id) all, id_read title.id (All-tail IsPlain (name_of title.level) (id_texts title.id) all))

title_written : (title : Title) → IsOneLineTitle title → All IsPlain (row_texts_of_title title)
title_written title plain = All-cons IsPlain (name_of title.level) (id_texts title.id) plain.0 (id_written title.id plain.1)

titles_read : (title : Option Title) → All IsPlain (flat_map row_texts_of_title (option_to_list title)) → IfSome title IsOneLineTitle
titles_read None all = tt
titles_read (Some title) all = title_read title (All-before (row_texts_of_title title) [] all)

titles_written : (title : Option Title) → IfSome title IsOneLineTitle → All IsPlain (flat_map row_texts_of_title (option_to_list title))
titles_written None plain = All-nil IsPlain
titles_written (Some title) plain = All-append IsPlain (row_texts_of_title title) [] (title_written title plain) (All-nil IsPlain)

-- the labels of spans
abbrev label_texts : List Annotation → List (List ℕ)
label_texts marks = filter_map (λ (a : Annotation). option_map cow_str_bytes a.label) marks

labels_read : (marks : List Annotation) → All IsPlain (label_texts marks) → All IsOneLineLabel marks
labels_read [] all = All-nil IsOneLineLabel
labels_read (a ∷ marks) all =
    let split : IsOneLineText (option_map cow_str_bytes a.label) × All IsPlain (label_texts marks) = by_label (option_map cow_str_bytes a.label) all in
    All-cons IsOneLineLabel a marks split.0 (labels_read marks split.1)
  where
    by_label : (label : Option (List ℕ)) → All IsPlain (cons_option label (label_texts marks)) → IsOneLineText label × All IsPlain (label_texts marks)
    by_label None all = (tt, all)
    by_label (Some text) all = (All-head IsPlain text (label_texts marks) all, All-tail IsPlain text (label_texts marks) all)

labels_written : (marks : List Annotation) → All IsOneLineLabel marks → All IsPlain (label_texts marks)
labels_written [] plain = All-nil IsPlain
labels_written (a ∷ marks) plain =
    by_label (option_map cow_str_bytes a.label) (All-head IsOneLineLabel a marks plain) (labels_written marks (All-tail IsOneLineLabel a marks plain))
  where
    by_label : (label : Option (List ℕ)) → IsOneLineText label → All IsPlain (label_texts marks) → All IsPlain (cons_option label (label_texts marks))
    by_label None plain rest = rest
    by_label (Some text) plain rest = All-cons IsPlain text (label_texts marks) plain rest

-- where labels aren't cut, each is on one line
pub whole_labels : (cut : Bool) (marks : List Annotation) → AreOneLineLabels cut marks → cut ≡ false → All IsOneLineLabel marks
whole_labels true marks plain whole = cc
whole_labels false marks plain whole = plain

module _ (cut : Bool) where
  -- the labels of spans, unless they are cut
  abbrev whole_texts : List Annotation → List (List ℕ)
  whole_texts marks = if cut then [] else label_texts marks

  whole_read : (marks : List Annotation) → All IsPlain (whole_texts marks) → AreOneLineLabels cut marks
  whole_read marks all = by cut all
    where
      by : (b : Bool) → All IsPlain (if b then [] else label_texts marks) → AreOneLineLabels b marks
      by true all = tt
      by false all = labels_read marks all

  whole_written : (marks : List Annotation) → AreOneLineLabels cut marks → All IsPlain (whole_texts marks)
  whole_written marks plain = by cut plain
    where
      by : (b : Bool) → AreOneLineLabels b marks → All IsPlain (if b then [] else label_texts marks)
      by true plain = All-nil IsPlain
      by false plain = labels_written marks plain

  -- an element
  element_read : (e : Element) → All IsPlain (row_texts_of_element cut e) → IsOneLineElement cut e
  element_read (element.Message message) all = All-head IsPlain (name_of message.level) [] all
  element_read (element.Cause snippet) all =
      let path : List (List ℕ) = option_to_list (path_bytes snippet.path) in
      let labels : List (List ℕ) = whole_texts snippet.markers.items in
      (text_read (path_bytes snippet.path) (All-before path labels all), whole_read snippet.markers.items (All-after path labels all))
  element_read (element.Suggestion snippet) all = text_read (path_bytes snippet.path) all
  element_read (element.Origin origin) all = All-head IsPlain (cow_str_bytes origin.path) [] all
  element_read (element.Padding padding) all = tt

  element_written : (e : Element) → IsOneLineElement cut e → All IsPlain (row_texts_of_element cut e)
  element_written (element.Message message) plain = All-cons IsPlain (name_of message.level) [] plain (All-nil IsPlain)
  element_written (element.Cause snippet) plain =
      All-append IsPlain _ _ (text_written (path_bytes snippet.path) plain.0) (whole_written snippet.markers.items plain.1)
  element_written (element.Suggestion snippet) plain = text_written (path_bytes snippet.path) plain
  element_written (element.Origin origin) plain = All-cons IsPlain (cow_str_bytes origin.path) [] plain (All-nil IsPlain)
  element_written (element.Padding padding) plain = All-nil IsPlain

  -- a group
  abbrev group_texts : Group → List (List ℕ)
  group_texts g = flat_map row_texts_of_title (option_to_list g.title) ++ flat_map (row_texts_of_element cut) g.elements.items

  group_read : (g : Group) → All IsPlain (group_texts g) → IsOneLineGroup cut g
  group_read g all =
      let titles : List (List ℕ) = flat_map row_texts_of_title (option_to_list g.title) in
      let elements : List (List ℕ) = flat_map (row_texts_of_element cut) g.elements.items in (
        titles_read g.title (All-before titles elements all),
        each_read (IsOneLineElement cut) (row_texts_of_element cut) element_read element_written g.elements.items (All-after titles elements all),
      )

  group_written : (g : Group) → IsOneLineGroup cut g → All IsPlain (group_texts g)
  group_written g plain =
      All-append IsPlain _ _ (titles_written g.title plain.0)
      (each_written (IsOneLineElement cut) (row_texts_of_element cut) element_read element_written g.elements.items plain.1)

  -- the texts of all groups are on one line where those of each are
  pub one_line_groups : (groups : List Group) → HasOneLineTexts cut groups → All (IsOneLineGroup cut) groups
  one_line_groups groups all = each_read (IsOneLineGroup cut) group_texts group_read group_written groups all

  pub one_line_texts : (groups : List Group) → All (IsOneLineGroup cut) groups → HasOneLineTexts cut groups
  one_line_texts groups plain = each_written (IsOneLineGroup cut) group_texts group_read group_written groups plain

-- ---- labels that are cut or not

-- an element
cut_element : (cut : Bool) (e : Element) → IsOneLineElement false e → IsOneLineElement cut e
cut_element cut (element.Message message) plain = plain
cut_element true (element.Cause snippet) plain = (plain.0, tt)
cut_element false (element.Cause snippet) plain = plain
cut_element cut (element.Suggestion snippet) plain = plain
cut_element cut (element.Origin origin) plain = plain
cut_element cut (element.Padding padding) plain = plain

-- texts that are on one line, labels among them, are so where labels are cut
pub cut_or_whole : (cut : Bool) (groups : List Group) → HasOneLineTexts false groups → HasOneLineTexts cut groups
cut_or_whole cut groups plain =
    one_line_texts cut groups (All-weaker (IsOneLineGroup false) (IsOneLineGroup cut) (λ (g : Group) own. (
      own.0,
      All-weaker (IsOneLineElement false) (IsOneLineElement cut) (cut_element cut) g.elements.items own.1,
    )) groups (one_line_groups false groups plain))
