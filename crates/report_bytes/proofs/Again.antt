-- What has bytes is read from them again.
use Rattle.std.proofs.Common.{◌≡◌, ℕ, ◌^◌, ◌<◌, ◌-◌, Bool, true, false, cond, ltb, List, [], ◌∷◌, ◌++◌, length, take, drop, Option, Some, None, Result, Ok}
use Rattle.std.proofs.Common.{Err, refl}
use Rattle.std.proofs.Common.{ap, ◌∙◌, arith}
use Rattle.std.specs.Prelude.{◌==◌, ◌&&◌, nat_lt, if◌then◌else◌, IfSome}
use Rattle.std.proofs.lemmas.Bool.Decides.{nat_tests}
use Rattle.std.specs.Int.{w64, from_le_bytes, to_le_bytes}
use Rattle.std.specs.Cow.{cow_str_bytes}
use Rattle.std.specs.List.{AllByRecursion}
use Rattle.std.proofs.lemmas.Bool.{le-ltb, lt-ltb}
use Rattle.std.proofs.lemmas.List.{take_at, drop_at, length-append}
use Rattle.std.proofs.lemmas.Nat.{from_le_bytes-to_le_bytes_8}
use Rattle.snippet_style.specs.declared.glyphs.DecorStyle.{DecorStyle}
use Rattle.snippet_style.specs.declared.glyphs.DecorStyle.TheVariants as decor
use Rattle.snippet_style.specs.declared.role.LevelInner.{LevelInner}
use Rattle.snippet_style.specs.declared.role.LevelInner.TheVariants as severity
use Rattle.snippet_style.specs.declared.style.AnsiColor.{AnsiColor}
use Rattle.snippet_style.specs.declared.style.AnsiColor.TheVariants as ansi
use Rattle.snippet_style.specs.declared.style.Color.TheVariants.{Ansi, Ansi256, Rgb}
use Rattle.report_bytes.specs.Bytes.{number_then, flag_then, text_then, option_then, members_then, list_then, severity_number, mark_number, decor_number}
use Rattle.report_bytes.specs.Bytes.{ansi_number, later_then, settings_then, color_then, effects_then, style_then, sheet_then, name_then, level_then, id_then}
use Rattle.report_bytes.specs.Bytes.{title_then, message_then, span_then, annotation_then, patch_then, origin_then}
use Rattle.report_bytes.specs.Bytes.{AreMembersThen, IsElementThen, IsGroupThen, IsListThen, IsNumberOf, IsSnippetThen, source_then}
use Rattle.report_bytes.specs.Reading.{◌>>=◌, fault_at, read_number, after_number, after_flag, after_kind, after_text, after_option, after_members, after_list}
use Rattle.report_bytes.specs.Reading.{after_later, after_switch}
use Rattle.report_bytes.specs.Reading.{after_settings, after_color, after_effects, after_style, after_levels, after_parts, after_sheet, after_name}
use Rattle.report_bytes.specs.Reading.{after_level, after_id, after_title, after_message, after_span, after_annotation, after_patch, after_snippet}
use Rattle.report_bytes.specs.Reading.{after_origin, after_element, after_group, after_kept, after_source}
use Rattle.snippet_model.specs.declared.snippet.Snippet.{Snippet}
use Rattle.std.specs.declared.alloc.Global.{Global}
use Rattle.std.specs.declared.borrow.CowStr.{CowStr}
use Rattle.report_bytes.specs.Report.{IsText, IsListOf, IsName, IsId, IsTitle, IsAnnotation, IsPatch, IsSnippet, IsElement, IsGroup}
use Rattle.report_bytes.specs.declared.fault.ByteFault.{ByteFault}
use Rattle.report_bytes.specs.declared.fault.Wrong.TheVariants.{Flag, Short}
use Rattle.snippet_model.specs.declared.level.LevelName.TheVariants.{Standard, Hidden, Own}
use Rattle.snippet_model.specs.declared.snippet.AnnotationKind.{AnnotationKind}
use Rattle.snippet_model.specs.declared.snippet.AnnotationKind.TheVariants as mark
use Rattle.snippet_model.specs.declared.snippet.Element.TheVariants as element
use Rattle.report_bytes.proofs.Texts.{a_text}

-- a thing's bytes are read as such a thing, and what follows is left
abbrev pub Again : {X : Type 0} → (X → List ℕ → List ℕ) → (List ℕ → Result (List ℕ) ByteFault) → (X → Type 0) → Type 0
Again {X} f after P = (x : X) (rest : List ℕ) → P x → after (f x rest) ≡ Ok rest

abbrev ok : List ℕ → Result (List ℕ) ByteFault
ok x = Ok x

pub clash : {x : List ℕ} {f : ByteFault} → ok x ≡ Err f → ⊥
clash e = cc

abbrev pub Any : {X : Type 0} → X → Type 0
Any x = Unit {0}

abbrev pair : ℕ → List ℕ → Result (ℕ × List ℕ) ByteFault
pair n rest = Ok (n, rest)

pub number_read : (n : ℕ) (rest : List ℕ) → n < 2 ^ 64 → read_number (number_then n rest) ≡ Ok (n, rest)
number_read n rest lt =
    let bytes = to_le_bytes w64 n ++ rest in
    let long : ltb (length bytes) 8 ≡ false = le-ltb _ _ (omega (arith, length-append (to_le_bytes w64 n) rest)) in
    let value : from_le_bytes w64 (take 8 bytes) ≡ n = ap (from_le_bytes w64) (take_at (to_le_bytes w64 n) rest 8 refl) ∙ from_le_bytes-to_le_bytes_8 n lt in
    let left : drop 8 bytes ≡ rest = drop_at (to_le_bytes w64 n) rest 8 refl in
    let first = pair (from_le_bytes w64 (take 8 bytes)) (drop 8 bytes) in
    let whole : cond (ltb (length bytes) 8) (Err (fault_at Short bytes)) first ≡ first = ap (λ b. cond b (Err (fault_at Short bytes)) first) long in
    whole ∙ ap (λ k. pair k (drop 8 bytes)) value ∙ ap (pair n) left

pub number_again : Again number_then after_number Any
number_again n rest _ =
    let long : ltb (length (to_le_bytes w64 n ++ rest)) 8 ≡ false = le-ltb _ _ (omega (arith, length-append (to_le_bytes w64 n) rest)) in
    rw (long, drop_at (to_le_bytes w64 n) rest 8 refl) refl

pub flag_again : Again flag_then after_flag Any
flag_again true rest _ = refl
flag_again false rest _ = refl

pub text_again : Again text_then after_text IsText
unfolding after_text
text_again text rest is =
    let bytes = cow_str_bytes text in
    let long : ltb (length (bytes ++ rest)) (length bytes) ≡ false = le-ltb _ _ (omega (arith, length-append bytes rest)) in
    let sized = number_read (length bytes) (bytes ++ rest) (omega (arith, is.1)) in
    rw (sized, long, take_at bytes rest (length bytes) refl, drop_at bytes rest (length bytes) refl, a_text bytes is.0, lt-ltb _ _ is.1) refl

pub option_again : {X : Type 0} (f : X → List ℕ → List ℕ) (after : List ℕ → Result (List ℕ) ByteFault) (P : X → Type 0)
    → Again f after P → Again (option_then f) (after_option after) (λ o. IfSome o P)
unfolding after_option
option_again f after P again None rest _ = refl
option_again f after P again (Some x) rest is = again x rest is

pub members_again : {X : Type 0} (f : X → List ℕ → List ℕ) (after : List ℕ → Result (List ℕ) ByteFault) (P : X → Type 0)
    → Again f after P → (xs : List X) (rest : List ℕ) → AllByRecursion P xs → after_members after (length xs) (members_then f xs rest) ≡ Ok rest
unfolding after_members
members_again f after P again [] rest _ = refl
members_again f after P again (x ∷ xs) rest is = rw (again x (members_then f xs rest) is.0) (members_again f after P again xs rest is.1)

pub list_again : {X : Type 0} (f : X → List ℕ → List ℕ) (after : List ℕ → Result (List ℕ) ByteFault) (P : X → Type 0)
    → Again f after P → Again (list_then f) (after_list after) (IsListOf P)
unfolding after_list
list_again f after P again xs rest is = rw (number_read (length xs) (members_then f xs rest) is.0) (members_again f after P again xs rest is.1)

-- ---- one thing after another

-- a thing is read, and then the others are
pub seq : {r : Result (List ℕ) ByteFault} (next : List ℕ → Result (List ℕ) ByteFault) {mid rest : List ℕ} → r ≡ Ok mid
    → next mid ≡ Ok rest → (r >>= next) ≡ Ok rest
seq {r} next {mid} {rest} first others = ap (λ x. x >>= next) first ∙ others

-- the same where a number is read
pub seq_number : (n : ℕ) (mid : List ℕ) (next : List ℕ → Result (List ℕ) ByteFault) {rest : List ℕ}
    → next mid ≡ Ok rest → (after_number (number_then n mid) >>= next) ≡ Ok rest
seq_number n mid next {rest} others = seq next (number_again n mid tt) others

-- ---- settings and sheets

ansi_again : (c : AnsiColor) (rest : List ℕ) → after_kind 16 (ansi_number c ∷ rest) ≡ Ok rest
ansi_again ansi.Black rest = refl
ansi_again ansi.Red rest = refl
ansi_again ansi.Green rest = refl
ansi_again ansi.Yellow rest = refl
ansi_again ansi.Blue rest = refl
ansi_again ansi.Magenta rest = refl
ansi_again ansi.Cyan rest = refl
ansi_again ansi.White rest = refl
ansi_again ansi.BrightBlack rest = refl
ansi_again ansi.BrightRed rest = refl
ansi_again ansi.BrightGreen rest = refl
ansi_again ansi.BrightYellow rest = refl
ansi_again ansi.BrightBlue rest = refl
ansi_again ansi.BrightMagenta rest = refl
ansi_again ansi.BrightCyan rest = refl
ansi_again ansi.BrightWhite rest = refl

pub color_again : Again color_then after_color Any
unfolding after_color
color_again (Ansi color) rest _ = ansi_again color rest
color_again (Ansi256 index) rest _ = refl
color_again (Rgb red green blue) rest _ = refl

pub effects_again : Again effects_then after_effects Any
unfolding after_effects
effects_again e rest _ =
    seq _ (flag_again e.bold _ tt) (seq _ (flag_again e.dimmed _ tt) (seq _ (flag_again e.italic _ tt) (seq _ (flag_again e.underline _ tt)
    (seq _ (flag_again e.blink _ tt) (seq _ (flag_again e.invert _ tt) (seq _ (flag_again e.hidden _ tt) (flag_again e.strikethrough rest tt)))))))

option_color : Again (option_then color_then) (after_option after_color) (λ o. IfSome o Any)
option_color = option_again color_then after_color Any color_again

any_option : {X : Type 0} (o : Option X) → IfSome o Any
any_option None = tt
any_option (Some x) = tt

pub style_again : Again style_then after_style Any
unfolding after_style
style_again s rest _ =
    seq _ (option_color s.fg _ (any_option s.fg)) (seq _ (option_color s.bg _ (any_option s.bg)) (effects_again s.effects rest tt))

pub sheet_again : Again sheet_then after_sheet Any
unfolding after_sheet after_levels after_parts
sheet_again s rest _ =
    seq _ (seq _ (style_again s.error _ tt) (seq _ (style_again s.warning _ tt) (seq _ (style_again s.info _ tt)
    (seq _ (style_again s.note _ tt) (style_again s.help _ tt)))))
    (seq _ (style_again s.line_num _ tt) (seq _ (style_again s.emphasis _ tt) (seq _ (style_again s.none _ tt)
    (seq _ (style_again s.context _ tt) (seq _ (style_again s.addition _ tt) (style_again s.removal rest tt))))))

decor_again : (d : DecorStyle) (rest : List ℕ) → after_kind 2 (decor_number d ∷ rest) ≡ Ok rest
decor_again decor.Ascii rest = refl
decor_again decor.Unicode rest = refl

-- a switch that is on is read, and of none none
switch_on : (kind count : ℕ) (rest : List ℕ) → 0 < count → after_switch kind count (kind ∷ number_then 1 rest) ≡ Ok (count - 1, rest)
switch_on kind count rest some =
    rw (both (nat_lt 0 count) (kind == kind) (above count some) (same kind), number_read 1 rest (omega arith)) refl
  where
    above : (n : ℕ) → 0 < n → nat_lt 0 n ≡ true
    above n some = grind (arith, nat_tests, some)

    same : (n : ℕ) → (n == n) ≡ true
    same n = grind (arith, nat_tests)

    both : (a b : Bool) → a ≡ true → b ≡ true → (a && b) ≡ true
    both a b first second = rw (first, second) refl

switch_none : (kind : ℕ) (rest : List ℕ) → after_switch kind 0 rest ≡ Ok (0, rest)
switch_none kind [] = refl
switch_none kind (byte ∷ rest) = refl

later_again : (masks lines : Bool) (rest : List ℕ) → after_later (later_then masks lines rest) ≡ Ok rest
unfolding after_later
later_again false false rest = rw (number_read 0 rest (omega arith), switch_none 0 rest, switch_none 1 rest) refl
later_again true false rest =
    rw (number_read 1 (0 ∷ number_then 1 rest) (omega arith), switch_on 0 1 rest (omega arith), switch_none 1 rest) refl
later_again false true rest = rw (number_read 1 (1 ∷ number_then 1 rest) (omega arith), switch_on 1 1 rest (omega arith)) refl
later_again true true rest =
    rw (
      number_read 2 (0 ∷ number_then 1 (1 ∷ number_then 1 rest)) (omega arith),
      switch_on 0 2 (1 ∷ number_then 1 rest) (omega arith),
      switch_on 1 1 rest (omega arith),
    ) refl

pub settings_again : Again settings_then after_settings Any
unfolding after_settings
settings_again s rest _ =
    let last = flag_then s.wrap (later_then s.mask_controls s.label_lines rest) in
    let around = number_then s.context_before (number_then s.context_after last) in
    seq _ (flag_again s.anonymized_origin_line_numbers _ tt) (seq _ (flag_again s.anonymized_snippet_line_numbers _ tt)
    (seq_number s.term_width (decor_number s.decor_style ∷ flag_then s.hyperlink (flag_then s.short_message
    (flag_then s.no_graphics (flag_then s.show_line_feeds around)))) _
    (seq _ (decor_again s.decor_style _) (seq _ (flag_again s.hyperlink _ tt)
    (seq _ (flag_again s.short_message _ tt) (seq _ (flag_again s.no_graphics _ tt) (seq _ (flag_again s.show_line_feeds _ tt)
    (seq_number s.context_before (number_then s.context_after last) _
    (seq_number s.context_after last _ (seq _ (flag_again s.wrap _ tt) (later_again s.mask_controls s.label_lines rest)))))))))))

-- ---- groups

severity_again : (l : LevelInner) (rest : List ℕ) → after_kind 5 (severity_number l ∷ rest) ≡ Ok rest
severity_again severity.Error rest = refl
severity_again severity.Warning rest = refl
severity_again severity.Info rest = refl
severity_again severity.Note rest = refl
severity_again severity.Help rest = refl

mark_again : (k : AnnotationKind) (rest : List ℕ) → after_kind 3 (mark_number k ∷ rest) ≡ Ok rest
mark_again mark.Primary rest = refl
mark_again mark.Context rest = refl
mark_again mark.Visible rest = refl

name_again : Again name_then after_name IsName
unfolding after_name
name_again Standard rest _ = refl
name_again Hidden rest _ = refl
name_again (Own name) rest is = text_again name rest is

level_again : Again level_then after_level (λ l. IsName l.name)
unfolding after_level
level_again l rest is = seq _ (name_again l.name _ is) (severity_again l.kind rest)

option_text : Again (option_then text_then) (after_option after_text) (λ o. IfSome o IsText)
option_text = option_again text_then after_text IsText text_again

id_again : Again id_then after_id IsId
unfolding after_id
id_again i rest is = seq _ (option_text i.id _ is.0) (option_text i.url rest is.1)

title_again : Again title_then after_title IsTitle
unfolding after_title
title_again t rest is =
    seq _ (level_again t.level _ is.0) (seq _ (option_again id_then after_id IsId id_again t.id _ is.1)
    (seq _ (text_again t.text _ is.2) (flag_again t.allows_styling rest tt)))

message_again : Again message_then after_message (λ m. IsName m.level.name × IsText m.text)
unfolding after_message
message_again m rest is = seq _ (level_again m.level _ is.0) (text_again m.text rest is.1)

span_again : Again span_then after_span Any
unfolding after_span
span_again span rest _ = seq_number span.start (number_then span.end rest) _ (number_again span.end rest tt)

annotation_again : Again annotation_then after_annotation IsAnnotation
unfolding after_annotation
annotation_again a rest is =
    seq _ (span_again a.span _ tt) (seq _ (option_text a.label _ is) (seq _ (mark_again a.kind _) (flag_again a.highlight_source rest tt)))

patch_again : Again patch_then after_patch IsPatch
unfolding after_patch
patch_again p rest is = seq _ (span_again p.span _ tt) (text_again p.replacement rest is)

kept_again : (texts : List (List ℕ)) (text : List ℕ) (n : ℕ) (rest : List ℕ) → length texts < 2 ^ 64 → IsNumberOf texts text (Some n)
    → after_kept (length texts) (number_then n rest) ≡ Ok rest
kept_again texts text n rest few is = rw (number_read n rest (omega (arith, few, is.0)), lt-ltb n (length texts) is.0) refl

source_again : (texts : List (List ℕ)) (text : CowStr Global) (n : Option ℕ) (rest : List ℕ) → length texts < 2 ^ 64 → IsText text
    → IsNumberOf texts (cow_str_bytes text) n → after_source (length texts) (source_then n text rest) ≡ Ok rest
unfolding after_source
source_again texts text None rest few is of = text_again text rest is
source_again texts text (Some n) rest few is of = kept_again texts (cow_str_bytes text) n rest few of

snippet_again : {T : Type 0} (f : T → List ℕ → List ℕ) (after : List ℕ → Result (List ℕ) ByteFault) (P : T → Type 0)
    → Again f after P → (texts : List (List ℕ)) → length texts < 2 ^ 64 → (s : Snippet T) (bytes rest : List ℕ) → IsSnippet P s
    → IsSnippetThen texts f s bytes rest → after_snippet after (length texts) bytes ≡ Ok rest
unfolding after_snippet
snippet_again f after P again texts few s bytes rest is has =
    let n = has.0 in
    ap (after_snippet after (length texts)) has.2 ∙ seq _ (option_text s.path _ is.0)
    (seq_number s.line_start (source_then n s.source.text (list_then f s.markers.items (flag_then s.line_numbering (flag_then s.fold rest)))) _
    (seq _ (source_again texts s.source.text n _ few is.1 has.1)
    (seq _ (list_again f after P again s.markers.items _ is.2) (seq _ (flag_again s.line_numbering _ tt) (flag_again s.fold rest tt)))))

option_number : Again (option_then number_then) (after_option after_number) (λ o. IfSome o Any)
option_number = option_again number_then after_number Any number_again

origin_again : Again origin_then after_origin (λ o. IsText o.path)
unfolding after_origin
origin_again o rest is =
    seq _ (text_again o.path _ is) (seq _ (option_number o.line _ (any_option o.line)) (option_number o.char_column rest (any_option o.char_column)))

-- bytes that are those of a thing are read as such a thing, and what follows is left
abbrev pub AgainOver : {X : Type 0} → (X → List ℕ → List ℕ → Type 0) → (List ℕ → Result (List ℕ) ByteFault) → (X → Type 0) → Type 0
AgainOver {X} Then after P = (x : X) (bytes rest : List ℕ) → P x → Then x bytes rest → after bytes ≡ Ok rest

members_over_again : {X : Type 0} (Then : X → List ℕ → List ℕ → Type 0) (after : List ℕ → Result (List ℕ) ByteFault) (P : X → Type 0)
    → AgainOver Then after P → (xs : List X) (bytes rest : List ℕ) → AllByRecursion P xs → AreMembersThen Then xs bytes rest
    → after_members after (length xs) bytes ≡ Ok rest
unfolding after_members AreMembersThen
members_over_again Then after P again [] bytes rest is has = ap ok has
members_over_again Then after P again (x ∷ xs) bytes rest is has =
    rw (again x bytes has.0 is.0 has.1) (members_over_again Then after P again xs has.0 rest is.1 has.2)

pub list_over_again : {X : Type 0} (Then : X → List ℕ → List ℕ → Type 0) (after : List ℕ → Result (List ℕ) ByteFault) (P : X → Type 0)
    → AgainOver Then after P → AgainOver (IsListThen Then) (after_list after) (IsListOf P)
unfolding after_list IsListThen
list_over_again Then after P again xs bytes rest is has =
    ap (after_list after) has.1 ∙ rw (number_read (length xs) has.0 is.0) (members_over_again Then after P again xs has.0 rest is.1 has.2)

element_again : (texts : List (List ℕ)) → length texts < 2 ^ 64 → AgainOver (IsElementThen texts) (after_element (length texts)) IsElement
unfolding after_element IsElementThen
element_again texts few (element.Message message) bytes rest is has = ap (after_element (length texts)) has ∙ message_again message rest is
element_again texts few (element.Cause snippet) bytes rest is has =
    ap (after_element (length texts)) has.1 ∙ snippet_again annotation_then after_annotation IsAnnotation annotation_again texts few snippet has.0 rest is has.2
element_again texts few (element.Suggestion snippet) bytes rest is has =
    ap (after_element (length texts)) has.1 ∙ snippet_again patch_then after_patch IsPatch patch_again texts few snippet has.0 rest is has.2
element_again texts few (element.Origin origin) bytes rest is has = ap (after_element (length texts)) has ∙ origin_again origin rest is
element_again texts few (element.Padding padding) bytes rest is has = ap (after_element (length texts)) has

pub group_again : (texts : List (List ℕ)) → length texts < 2 ^ 64 → AgainOver (IsGroupThen texts) (after_group (length texts)) IsGroup
unfolding after_group IsGroupThen
group_again texts few g bytes rest is has =
    ap (after_group (length texts)) has.1 ∙ seq _ (severity_again g.level _) (seq _ (option_again title_then after_title IsTitle title_again g.title _ is.0)
    (list_over_again (IsElementThen texts) (after_element (length texts)) IsElement (element_again texts few) g.elements.items has.0 rest is.1 has.2))
