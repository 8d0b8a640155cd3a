-- The labels that suggestions are shown as: what each says, and at which place it stands.
use Rattle.std.specs.Prelude.{ℕ, eqb, ◌++◌, ◌&&◌, Bool, true, false, not, List, [], ◌∷◌, Option, Some, None, codes, is_some, string_bytes, if◌then◌else◌}
use Rattle.std.specs.Global.{Vec}
use Rattle.std.specs.List.{filter, last_or, starts_with}
use Rattle.std.specs.Option.{option_and_then, option_map, option_map_or, option_to_list, unwrap_or}
use Rattle.std.specs.Str.{bytes_eq, trim}
use Rattle.redraw_report.specs.contracts.diagnostic.RegionPartialEq.TheImpl as equality
use Rattle.redraw_report.specs.declared.diagnostic.FileSpan.{FileSpan}
use Rattle.redraw_report.specs.declared.diagnostic.Region.{Region}
use Rattle.redraw_report.specs.declared.diagnostic.SuggestedEdit.{SuggestedEdit}
use Rattle.redraw_read.specs.Rendered.{after, after_first, before}
use Rattle.redraw_read.specs.declared.labels.EditLabel.{EditLabel}

-- ---- what it says

-- what comes after a notice in brackets, if one stands first
abbrev pub after_notice : List ℕ → List ℕ
after_notice rest = unwrap_or (option_and_then (after_first (codes ")")) (after (codes " (notice ") rest)) rest

-- what comes after this text in backquotes, if it stands first
abbrev pub after_quoted : List ℕ → List ℕ → Option (List ℕ)
after_quoted text rest =
    option_and_then (after (codes "`")) (option_and_then (after text) (after (codes ": `") rest))

-- what comes after the replacement in backquotes; nothing, if another text stands in these
abbrev pub after_replacement : List ℕ → List ℕ → List ℕ
after_replacement text rest = unwrap_or (after_quoted text rest) (if starts_with eqb rest (codes ": `") then [] else rest)

-- a row without this at its end, if it begins with a blank: carets that stand right of a label
abbrev pub without_carets : List ℕ → List ℕ → List ℕ
without_carets rest row = if starts_with eqb rest (codes " ") then unwrap_or (before rest row) row else row

-- what a row has, from the message of a suggestion on, of its label: the message, what is to be noticed, and what is to stand there
abbrev pub label_text : (row message replacement : List ℕ) → List ℕ
label_text row message replacement =
    option_map_or (λ rest. without_carets (after_replacement (trim replacement) (after_notice rest)) row) (after message row) row

-- a label: the edit that it tells of, and its text
pub record LabelSeen : Type 0 where
  pub edit : SuggestedEdit
  pub text : List ℕ

abbrev pub label_seen : EditLabel → LabelSeen
label_seen l = record { edit = l.edit; text = string_bytes l.label }

-- the last edit of the last of some alternatives
abbrev pub last_edit : List (Vec SuggestedEdit) → Option SuggestedEdit
last_edit alternatives = option_and_then (λ (edits : Vec SuggestedEdit). last_or None edits.items) (last_or None alternatives)

-- the label that stands in a row for a suggestion with this message, of this edit
abbrev pub label_of : (row message : List ℕ) → SuggestedEdit → LabelSeen
label_of row message e = record { edit = e; text = codes "help: " ++ label_text row message (string_bytes e.replacement) }

-- the label of a suggestion with these alternatives
abbrev pub label_for : (row message : List ℕ) → List (Vec SuggestedEdit) → List LabelSeen
label_for row message alternatives = option_to_list (option_map (label_of row message) (last_edit alternatives))

-- ---- where it stands

-- the place of an edit, with its label: it isn't the point of the report
abbrev pub own_place : EditLabel → FileSpan
own_place l =
    record { file = l.edit.file; region = l.edit.region; label = Some l.label; is_primary = false; carried = l.edit.carried }

-- a place with this label
abbrev pub labelled : EditLabel → FileSpan → FileSpan
labelled l s = record s { label = Some l.label }

-- whether a place is primary, and nothing is said of it
abbrev pub is_bare : FileSpan → Bool
is_bare s = s.is_primary && not (is_some s.label)

-- whether a place is bare, and is this part of this file
abbrev pub is_bare_at : Region → List ℕ → FileSpan → Bool
is_bare_at region file s = is_bare s && ((equality.ghosts).eq s.region region && bytes_eq (string_bytes s.file) file)

-- whether a label goes to a place: one that is bare, and is what its edit changes
abbrev pub takes : EditLabel → FileSpan → Bool
takes l s = is_bare_at l.edit.region (string_bytes l.edit.file) s

-- some places with a label: at the first that takes it, else as a place of its own, after them
abbrev pub with_label : EditLabel → List FileSpan → List FileSpan
with_label l [] = own_place l ∷ []
with_label l (s ∷ spans) = if takes l s then labelled l s ∷ spans else s ∷ with_label l spans

-- some places with labels, which are put one after another
abbrev pub with_each : List EditLabel → List FileSpan → List FileSpan
with_each [] spans = spans
with_each (l ∷ labels) spans = with_each labels (with_label l spans)

-- some places, those last that are bare
abbrev pub bare_last : List FileSpan → List FileSpan
bare_last spans = filter (λ s. not (is_bare s)) spans ++ filter is_bare spans

-- some places with labels, where there are some; they may be put before those that are bare
abbrev pub with_labels : Bool → List EditLabel → List FileSpan → List FileSpan
with_labels are_first [] spans = spans
with_labels true (l ∷ labels) spans = bare_last (with_each (l ∷ labels) spans)
with_labels false (l ∷ labels) spans = with_each (l ∷ labels) spans
