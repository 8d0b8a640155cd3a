-- The form of a report as bytes. Each definition gives the bytes of a thing, and then the bytes that follow it, which are its last
-- argument.
use Rattle.std.specs.Prelude.{◌≡◌, ℕ, ◌+◌, ◌<◌, Bool, true, false, List, [], ◌∷◌, ◌++◌, Option, Some, None, get_or, length, if◌then◌else◌}
use Rattle.std.specs.Int.{w64, to_le_bytes}
use Rattle.std.specs.Cow.{cow_str_bytes}
use Rattle.std.specs.declared.borrow.CowStr.{CowStr}
use Rattle.std.specs.declared.alloc.Global.{Global}
use Rattle.std.specs.declared.ops.Range.{Range}
use Rattle.snippet_style.specs.declared.glyphs.DecorStyle.{DecorStyle}
use Rattle.snippet_style.specs.declared.glyphs.DecorStyle.TheVariants as decor
use Rattle.snippet_style.specs.declared.role.LevelInner.{LevelInner}
use Rattle.snippet_style.specs.declared.role.LevelInner.TheVariants as severity
use Rattle.snippet_style.specs.declared.style.AnsiColor.{AnsiColor}
use Rattle.snippet_style.specs.declared.style.AnsiColor.TheVariants as ansi
use Rattle.snippet_style.specs.declared.style.Color.{Color}
use Rattle.snippet_style.specs.declared.style.Color.TheVariants.{Ansi, Ansi256, Rgb}
use Rattle.snippet_style.specs.declared.style.Effects.{Effects}
use Rattle.snippet_style.specs.declared.style.Style.{Style}
use Rattle.snippet_style.specs.declared.stylesheet.Stylesheet.{Stylesheet}
use Rattle.snippet_model.specs.declared.level.Level.{Level}
use Rattle.snippet_model.specs.declared.level.LevelName.{LevelName}
use Rattle.snippet_model.specs.declared.level.LevelName.TheVariants.{Standard, Hidden, Own}
use Rattle.snippet_model.specs.declared.snippet.Annotation.{Annotation}
use Rattle.snippet_model.specs.declared.snippet.AnnotationKind.{AnnotationKind}
use Rattle.snippet_model.specs.declared.snippet.AnnotationKind.TheVariants as mark
use Rattle.snippet_model.specs.declared.snippet.Element.{Element}
use Rattle.snippet_model.specs.declared.snippet.Element.TheVariants as element
use Rattle.snippet_model.specs.declared.snippet.Group.{Group}
use Rattle.snippet_model.specs.declared.snippet.Id.{Id}
use Rattle.snippet_model.specs.declared.snippet.Message.{Message}
use Rattle.snippet_model.specs.declared.snippet.Origin.{Origin}
use Rattle.snippet_model.specs.declared.snippet.Patch.{Patch}
use Rattle.snippet_model.specs.declared.snippet.Snippet.{Snippet}
use Rattle.snippet_model.specs.declared.snippet.Title.{Title}
use Rattle.report_bytes.specs.declared.settings.Settings.{Settings}

-- ---- numbers, texts, what may be missing, lists

-- a number: eight bytes, the little end first
abbrev pub number_then : ℕ → List ℕ → List ℕ
number_then n rest = to_le_bytes w64 n ++ rest

-- yes is 1, and no is 0
abbrev pub flag_then : Bool → List ℕ → List ℕ
flag_then set rest = (if set then 1 else 0) ∷ rest

-- a text: how many bytes it has, and its bytes in UTF-8
abbrev pub text_then : CowStr Global → List ℕ → List ℕ
text_then text rest = number_then (length (cow_str_bytes text)) (cow_str_bytes text ++ rest)

-- what may be missing: 0 where it is, else 1 and what is there
abbrev pub option_then : {X : Type 0} → (X → List ℕ → List ℕ) → Option X → List ℕ → List ℕ
option_then f None rest = 0 ∷ rest
option_then f (Some x) rest = 1 ∷ f x rest

-- the members of a list, one after the other
abbrev pub members_then : {X : Type 0} → (X → List ℕ → List ℕ) → List X → List ℕ → List ℕ
members_then f [] rest = rest
members_then f (x ∷ xs) rest = f x (members_then f xs rest)

-- a list: how many members it has, and its members
abbrev pub list_then : {X : Type 0} → (X → List ℕ → List ℕ) → List X → List ℕ → List ℕ
list_then f xs rest = number_then (length xs) (members_then f xs rest)

-- ---- kinds: one byte each, counted from 0 as they are listed in the model

abbrev pub severity_number : LevelInner → ℕ
severity_number severity.Error = 0
severity_number severity.Warning = 1
severity_number severity.Info = 2
severity_number severity.Note = 3
severity_number severity.Help = 4

abbrev pub mark_number : AnnotationKind → ℕ
mark_number mark.Primary = 0
mark_number mark.Context = 1
mark_number mark.Visible = 2

abbrev pub decor_number : DecorStyle → ℕ
decor_number decor.Ascii = 0
decor_number decor.Unicode = 1

abbrev pub ansi_number : AnsiColor → ℕ
ansi_number ansi.Black = 0
ansi_number ansi.Red = 1
ansi_number ansi.Green = 2
ansi_number ansi.Yellow = 3
ansi_number ansi.Blue = 4
ansi_number ansi.Magenta = 5
ansi_number ansi.Cyan = 6
ansi_number ansi.White = 7
ansi_number ansi.BrightBlack = 8
ansi_number ansi.BrightRed = 9
ansi_number ansi.BrightGreen = 10
ansi_number ansi.BrightYellow = 11
ansi_number ansi.BrightBlue = 12
ansi_number ansi.BrightMagenta = 13
ansi_number ansi.BrightCyan = 14
ansi_number ansi.BrightWhite = 15

-- ---- settings and sheets

-- a switch that came after the other settings, where it is on: its kind, one byte, and the number 1
abbrev pub switch_then : ℕ → Bool → List ℕ → List ℕ
switch_then kind false rest = rest
switch_then kind true rest = kind ∷ number_then 1 rest

-- the switches that came after the other settings: how many are on, and these, in the order of their kinds. That controls are masked has the
-- kind 0, and that labels are cut at their line feeds has 1
abbrev pub later_then : Bool → Bool → List ℕ → List ℕ
later_then masks lines rest =
    number_then ((if masks then 1 else 0) + (if lines then 1 else 0)) (switch_then 0 masks (switch_then 1 lines rest))

abbrev pub settings_then : Settings → List ℕ → List ℕ
settings_then s rest =
    flag_then s.anonymized_origin_line_numbers (flag_then s.anonymized_snippet_line_numbers (number_then s.term_width
    (decor_number s.decor_style ∷ flag_then s.hyperlink (flag_then s.short_message (flag_then s.no_graphics (flag_then s.show_line_feeds
    (number_then s.context_before (number_then s.context_after (flag_then s.wrap (later_then s.mask_controls s.label_lines rest))))))))))

abbrev pub color_then : Color → List ℕ → List ℕ
color_then (Ansi color) rest = 0 ∷ ansi_number color ∷ rest
color_then (Ansi256 index) rest = 1 ∷ index ∷ rest
color_then (Rgb red green blue) rest = 2 ∷ red ∷ green ∷ blue ∷ rest

abbrev pub effects_then : Effects → List ℕ → List ℕ
effects_then e rest =
    flag_then e.bold (flag_then e.dimmed (flag_then e.italic (flag_then e.underline
    (flag_then e.blink (flag_then e.invert (flag_then e.hidden (flag_then e.strikethrough rest)))))))

abbrev pub style_then : Style → List ℕ → List ℕ
style_then s rest = option_then color_then s.fg (option_then color_then s.bg (effects_then s.effects rest))

abbrev pub sheet_then : Stylesheet → List ℕ → List ℕ
sheet_then s rest =
    style_then s.error (style_then s.warning (style_then s.info (style_then s.note (style_then s.help
    (style_then s.line_num (style_then s.emphasis (style_then s.none (style_then s.context
    (style_then s.addition (style_then s.removal rest))))))))))

-- ---- groups

abbrev pub name_then : LevelName → List ℕ → List ℕ
name_then Standard rest = 0 ∷ rest
name_then Hidden rest = 1 ∷ rest
name_then (Own name) rest = 2 ∷ text_then name rest

abbrev pub level_then : Level → List ℕ → List ℕ
level_then l rest = name_then l.name (severity_number l.kind ∷ rest)

abbrev pub id_then : Id → List ℕ → List ℕ
id_then i rest = option_then text_then i.id (option_then text_then i.url rest)

abbrev pub title_then : Title → List ℕ → List ℕ
title_then t rest = level_then t.level (option_then id_then t.id (text_then t.text (flag_then t.allows_styling rest)))

abbrev pub message_then : Message → List ℕ → List ℕ
message_then m rest = level_then m.level (text_then m.text rest)

abbrev pub span_then : Range ℕ → List ℕ → List ℕ
span_then span rest = number_then span.start (number_then span.end rest)

abbrev pub annotation_then : Annotation → List ℕ → List ℕ
annotation_then a rest =
    span_then a.span (option_then text_then a.label (mark_number a.kind ∷ flag_then a.highlight_source rest))

abbrev pub patch_then : Patch → List ℕ → List ℕ
patch_then p rest = span_then p.span (text_then p.replacement rest)

-- a source: 0 and its text, or 1 and the number that its text has among the sources that are kept
abbrev pub source_then : Option ℕ → CowStr Global → List ℕ → List ℕ
source_then None text rest = 0 ∷ text_then text rest
source_then (Some n) text rest = 1 ∷ number_then n rest

-- a snippet, whose source has this number or none
abbrev pub snippet_then : {T : Type 0} → (T → List ℕ → List ℕ) → Option ℕ → Snippet T → List ℕ → List ℕ
snippet_then f n s rest =
    option_then text_then s.path (number_then s.line_start (source_then n s.source.text
    (list_then f s.markers.items (flag_then s.line_numbering (flag_then s.fold rest)))))

abbrev pub origin_then : Origin → List ℕ → List ℕ
origin_then o rest = text_then o.path (option_then number_then o.line (option_then number_then o.char_column rest))

-- ---- what stands over sources that are kept: whether bytes are those of a thing, and then the others

-- a number among these texts is that of this text; where there is none, any text will do
abbrev pub IsNumberOf : List (List ℕ) → List ℕ → Option ℕ → Type 0
IsNumberOf texts text None = Unit {0}
IsNumberOf texts text (Some n) = (n < length texts) × (text ≡ get_or texts n [])

-- a snippet after its kind, by its text or by a number of its text
abbrev pub IsSnippetThen : {T : Type 0} → List (List ℕ) → (T → List ℕ → List ℕ) → Snippet T → List ℕ → List ℕ → Type 0
IsSnippetThen texts f s bytes rest = (n : Option ℕ) × IsNumberOf texts (cow_str_bytes s.source.text) n × (bytes ≡ snippet_then f n s rest)

-- a byte for the kind of an element, and what stands after it
abbrev pub IsKindThen : ℕ → (List ℕ → Type 0) → List ℕ → Type 0
IsKindThen kind P bytes = (mid : List ℕ) × (bytes ≡ kind ∷ mid) × P mid

unfoldable pub IsElementThen : List (List ℕ) → Element → List ℕ → List ℕ → Type 0
IsElementThen texts (element.Message message) bytes rest = bytes ≡ 0 ∷ message_then message rest
IsElementThen texts (element.Cause snippet) bytes rest = IsKindThen 1 (λ mid. IsSnippetThen texts annotation_then snippet mid rest) bytes
IsElementThen texts (element.Suggestion snippet) bytes rest = IsKindThen 2 (λ mid. IsSnippetThen texts patch_then snippet mid rest) bytes
IsElementThen texts (element.Origin origin) bytes rest = bytes ≡ 3 ∷ origin_then origin rest
IsElementThen texts (element.Padding padding) bytes rest = bytes ≡ 4 ∷ rest

-- the members of a list, one after the other
unfoldable pub AreMembersThen : {X : Type 0} → (X → List ℕ → List ℕ → Type 0) → List X → List ℕ → List ℕ → Type 0
AreMembersThen P [] bytes rest = bytes ≡ rest
AreMembersThen P (x ∷ xs) bytes rest = (mid : List ℕ) × P x bytes mid × AreMembersThen P xs mid rest

-- a list: how many members it has, and its members
unfoldable pub IsListThen : {X : Type 0} → (X → List ℕ → List ℕ → Type 0) → List X → List ℕ → List ℕ → Type 0
IsListThen P xs bytes rest = (mid : List ℕ) × (bytes ≡ number_then (length xs) mid) × AreMembersThen P xs mid rest

unfoldable pub IsGroupThen : List (List ℕ) → Group → List ℕ → List ℕ → Type 0
IsGroupThen texts g bytes rest =
    (mid : List ℕ) × (bytes ≡ severity_number g.level ∷ option_then title_then g.title mid) × IsListThen (IsElementThen texts) g.elements.items mid rest
