-- The report that a finding becomes: which title, which place with which label, which edit.
use Rattle.std.specs.Prelude.{string_bytes, ℕ, ◌-◌, Bool, true, false, nat_lt, ◌==◌, ◌&&◌, List, [], ◌∷◌, ◌++◌, Option, Some, None, chars, codes, length, map}
use Rattle.std.specs.Prelude.{take, not, if◌then◌else◌}
use Rattle.std.specs.List.{filter, flat_map, list_any, repeat}
use Rattle.std.specs.Fmt.{decimal}
use Rattle.std.specs.Option.{option_map, option_map_or}
use Rattle.std.specs.Borrow.{Bor}
use Rattle.snippet_style.specs.declared.role.LevelInner.TheVariants as kind
use Rattle.snippet_text.specs.Normalized.{norm}
use Rattle.snippet_model.specs.declared.level.Level.{Level}
use Rattle.snippet_model.specs.declared.level.LevelName.TheVariants.{Standard, Hidden}
use Rattle.snippet_model.specs.declared.snippet.AnnotationKind.TheVariants.{Primary, Context}
use Rattle.redraw_report.specs.declared.diagnostic.Code.{Code}
use Rattle.redraw_report.specs.declared.diagnostic.Severity.{Severity}
use Rattle.redraw_report.specs.declared.diagnostic.Severity.TheVariants.{Error, Warning, Info, Note, Help, Plain}
use Rattle.redraw_report.specs.declared.finding.Replacement.{Replacement}
use Rattle.redraw_report.specs.declared.finding.Content.{Content}
use Rattle.redraw_report.specs.declared.finding.Content.TheVariants as content
use Rattle.redraw_report.specs.declared.finding.Finding.{Finding}
use Rattle.redraw_report.specs.declared.finding.MarkedSpan.{MarkedSpan}
use Rattle.redraw_report.specs.declared.finding.Offer.{Offer}
use Rattle.redraw_report.specs.declared.finding.Remark.{Remark}
use Rattle.redraw_report.specs.declared.finding.Shown.{Shown}
use Rattle.redraw_report.specs.declared.shown_text.ShownText.{ShownText}
use Rattle.redraw_report.specs.Gone.{gone_lines}
use Rattle.redraw_report.specs.Links.{safe_address}
use Rattle.redraw_report.specs.SameSource.{same_source}
use Rattle.redraw_report.specs.ShownText.{shown_text}
use Rattle.redraw_report.specs.View.{Edited, Edits, Gap, Headed, Lines, Marked, Marks, Named, Names, Part, Says, Section}

-- the level of a severity: the standard one, and that of a note, but without its name, for a plain text
abbrev pub level_of : Severity → Level
level_of Error = record { name = Standard; kind = kind.Error }
level_of Warning = record { name = Standard; kind = kind.Warning }
level_of Info = record { name = Standard; kind = kind.Info }
level_of Note = record { name = Standard; kind = kind.Note }
level_of Help = record { name = Standard; kind = kind.Help }
level_of Plain = record { name = Hidden; kind = kind.Note }

-- a message of a severity; its text isn't trusted, and is normalised
abbrev pub said : Severity → List ℕ → Part
said severity text = Says (level_of severity) (norm (chars text))

-- the text that a reference leads to, where there is one
abbrev pub lent : Option (Bor (List ℕ)) → Option (List ℕ)
lent text = option_map (λ (t : Bor (List ℕ)). t.now) text

-- the mark of a place: a primary one where the place is the point of the report, else one of context; with what is said of the place
abbrev pub marked_of : MarkedSpan → Marked
marked_of m =
    record {
      start = m.start;
      end = m.end;
      label = lent m.label;
      kind = if m.is_primary then Primary else Context;
      highlighted = false;
    }

-- those of some places that are in this source
abbrev pub marks_in : Shown → List MarkedSpan → List MarkedSpan
marks_in source marks = filter (λ (m : MarkedSpan). same_source m.source source) marks

-- what is said of a place, if something is: below an empty row
abbrev pub label_rows : Option (Bor (List ℕ)) → List Part
label_rows None = []
label_rows (Some label) = Gap ∷ said Note label.now ∷ []

-- the same of a place
abbrev pub said_of_mark : MarkedSpan → List Part
said_of_mark m = label_rows m.label

-- lines of a file as they are shown
abbrev pub file_lines : List ℕ → List ℕ → ℕ → Bool → Lines
file_lines path text first_line folded =
    record { path = Some path; text = text; first_line = first_line; numbered = true; folded = folded }

-- as many blanks as stand before a column, counted from 1
abbrev pub spaces_before : ℕ → List ℕ
spaces_before column = repeat (column - 1) (codes " ")

-- a source with places that are in it: its lines with a mark for each, or where it has none its place and what is said, or a line of
-- blanks with the marks
abbrev pub content_parts : List MarkedSpan → Shown → Content → List Part
content_parts within source (content.Lines text first_line) =
    Marks (file_lines source.path.now (shown_text text) first_line true) (map marked_of within) ∷ []
content_parts within source (content.Blank line column) =
    Marks (file_lines source.path.now (spaces_before column) line true) (map marked_of within) ∷ []
content_parts within source (content.Nothing line column) = Names source.path.now line column ∷ flat_map said_of_mark within

-- a source as it is shown, with those of some places that are in it
abbrev pub source_parts : List MarkedSpan → Shown → List Part
source_parts marks source = content_parts (marks_in source marks) source source.content

-- some sources, and one more if it isn't among them
abbrev pub with_shown : List Shown → Shown → List Shown
with_shown order source = if list_any (λ known. same_source known source) order then order else order ++ source ∷ []

-- some sources, and that of a place, but of a place that isn't primary only where all are taken
abbrev pub with_source : Bool → List Shown → MarkedSpan → List Shown
with_source primary order m = if primary && not m.is_primary then order else with_shown order m.source

-- the same of some places, one after another
abbrev pub with_sources : Bool → List Shown → List MarkedSpan → List Shown
with_sources primary order [] = order
with_sources primary order (m ∷ ms) = with_sources primary (with_source primary order m) ms

-- the sources of some places, each once: those of primary places first, then the others as they come
abbrev pub sources_of : List MarkedSpan → List Shown
sources_of marks = with_sources false (with_sources true [] marks) marks

-- what is shown of some places: each source with those that are in it
abbrev pub marked_parts : List MarkedSpan → List Part
marked_parts marks = flat_map (source_parts marks) (sources_of marks)

-- an edit
abbrev pub edited_of : Replacement → Edited
edited_of c = record { start = c.start; end = c.end; text = c.text.now }

-- the lines of an offer's source, as they are shown
abbrev pub offered_lines : Offer → ShownText → ℕ → Lines
offered_lines offer text first_line = file_lines offer.source.path.now (shown_text text) first_line offer.is_folded

-- the lines that the only one of these edits takes out, if those that it puts in don't tell: as an edit that takes them out
abbrev pub gone_edits : List ℕ → List Replacement → List Edited
gone_edits text [] = []
gone_edits text (c ∷ []) = option_map_or (λ at. record { start = at.0; end = at.1; text = [] } ∷ []) (gone_lines text c) []
gone_edits text (c ∷ d ∷ cs) = []

-- the same, shown by themselves
abbrev pub gone_parts : Lines → List Replacement → List Part
gone_parts lines changes =
    let gone = gone_edits lines.text changes in
    if length gone == 0 then [] else Edits lines gone ∷ []

-- an offer: the lines of its source with all of its edits; nothing where the source has no lines. Above them stand the lines that go,
-- if they are to be shown too
abbrev pub edits_on : Bool → Offer → Content → List Part
edits_on shows_gone offer (content.Lines text first_line) =
    let lines = offered_lines offer text first_line in
    (if shows_gone then gone_parts lines offer.changes.items else []) ++ Edits lines (map edited_of offer.changes.items) ∷ []
edits_on shows_gone offer (content.Nothing line column) = []
edits_on shows_gone offer (content.Blank line column) = []

-- the same of the source as it is shown
abbrev pub offered : Bool → Offer → List Part
offered shows_gone offer = edits_on shows_gone offer offer.source.content

-- how many offers there are beside those that are shown
abbrev pub more_text : ℕ → List ℕ
more_text more =
    codes "and " ++ decimal more ++ (if more == 1 then codes " other candidate" else codes " other candidates")

-- what is said of them, if there are any
abbrev pub more_parts : ℕ → List Part
more_parts more = if nat_lt 0 more then Says (level_of Plain) (chars (more_text more)) ∷ [] else []

-- the first four of some offers, and how many more there are. The lines that an edit takes out are shown too, if they are to be and there
-- is no other offer that they could be taken for
abbrev pub offers_parts : Bool → List Offer → List Part
offers_parts shows_gone offers = flat_map (offered (shows_gone && length offers == 1)) (take 4 offers) ++ more_parts (length offers - 4)

-- the name of a rule, and its address, where that may be a link
abbrev pub named_of : Code → Named
named_of c = record { id = Some (string_bytes c.id); url = safe_address (option_map string_bytes c.url) }

-- the title of a finding: its message isn't trusted, and is normalised where it is drawn
abbrev pub headed_of : Finding → Headed
headed_of f =
    record {
      level = level_of f.severity;
      name = option_map (λ (c : Bor Code). named_of c.now) f.code;
      text = chars f.message.now;
      trusted = false;
    }

-- the title of a remark that has a group of its own: its message is normalised
abbrev pub remark_headed : Remark → Headed
remark_headed r =
    record { level = level_of r.severity; name = None; text = norm (chars r.message.now); trusted = true }

-- a group of a title and parts
abbrev pub section_of : Headed → List Part → Section
section_of headed parts = record { kind = headed.level.kind; title = Some headed; parts = parts }

-- the same, but none of a remark that only goes on with the places of what is before it
abbrev pub remark_title : Remark → Option Headed
remark_title r = if r.goes_on then None else Some (remark_headed r)

-- the group of a remark: what is shown of its places, and the edits that it offers
abbrev pub remark_section : Bool → Remark → Section
remark_section shows_gone r =
    record {
      kind = (level_of r.severity).kind;
      title = remark_title r;
      parts = marked_parts r.marks.items ++ offers_parts shows_gone r.offers.items;
    }

-- whether a remark has neither places nor edits
abbrev pub is_bare : Remark → Bool
is_bare r = (length r.marks.items == 0) && (length r.offers.items == 0)

-- a group, and a remark as a message below what stands there
abbrev pub with_message : Section → Remark → Section
with_message section r =
    record section { parts = section.parts ++ said r.severity r.message.now ∷ [] }

-- a group, and the groups of some remarks: one without places and edits is a message of the group before it
abbrev pub sections_from : Bool → Section → List Remark → List Section
sections_from shows_gone section [] = section ∷ []
sections_from shows_gone section (r ∷ rs) =
    if is_bare r then sections_from shows_gone (with_message section r) rs
    else section ∷ sections_from shows_gone (remark_section shows_gone r) rs

-- the report of a finding: the group of its message and places, then those of what else is said. The lines that edits take out are shown
-- too where a form has room for them, unless the finding isn't to show them
abbrev pub report_of : Bool → Finding → List Section
report_of has_room f =
    sections_from (has_room && f.shows_gone) (section_of (headed_of f) (marked_parts f.marks.items)) f.remarks.items
