-- Which places rustc's JSON has of a diagnostic or a child: those of its list, as each is shown, and the calls of macros beside them.
use Rattle.std.specs.Prelude.{◌≡◌, ◌⊎◌, ℕ, zero, suc, eqb, ◌++◌, ◌==◌, ◌&&◌, ◌||◌, Bool, true, false, not, nat_le, List, [], ◌∷◌, Option, Some, None, codes}
use Rattle.std.specs.Prelude.{is_some, length, string_bytes, if◌then◌else◌}
use Rattle.std.specs.BTreeSet.{contains_text}
use Rattle.std.specs.List.{All, AllAdjacentBelow, AllZip, Contains, ends_with, filter, flat_map, starts_with}
use Rattle.std.specs.List.Sorted.{IsPermutation}
use Rattle.std.specs.Option.{option_and_then, option_map, option_map_or, unwrap_or}
use Rattle.std.specs.Str.{bytes_eq}
use Rattle.json_lines.specs.Field.{flag_field, given, given_or, optional_at, text_field}
use Rattle.serde_json.specs.Data.{Data, no_items}
use Rattle.serde_json.specs.Find.{as_array, as_object, as_str, at, get}
use Rattle.serde_json.specs.View.{items_of}
use Rattle.redraw_report.specs.declared.diagnostic.Carried.{Carried}
use Rattle.redraw_report.specs.declared.diagnostic.FileSpan.{FileSpan}
use Rattle.redraw_report.specs.declared.diagnostic.LineRegion.{LineRegion}
use Rattle.redraw_report.specs.declared.diagnostic.Region.{Region}
use Rattle.redraw_report.specs.declared.diagnostic.Region.TheVariants as region
use Rattle.redraw_read.specs.AsShown.{settled}
use Rattle.redraw_read.specs.Order.{has_to_follow, seats_of}
use Rattle.redraw_read.specs.Spans.{SaysPlace}
use Rattle.redraw_read.specs.Told.{said_label}
use Rattle.redraw_read.specs.declared.named_files.NamedFiles.{NamedFiles}

-- ---- macros

-- whether the source of a place is at hand: lines of it come with the place
abbrev pub is_at_hand : Data → Bool
is_at_hand d = is_some (option_and_then (at 0) (get (codes "text") d))

-- whether an expansion says where its macro was called
abbrev pub is_called : Data → Bool
is_called e = option_map_or (λ call. is_some (as_object call)) (get (codes "span") e) false

abbrev pub if_called : Data → Option Data
if_called e = if is_called e then Some e else None

-- the expansion that a place is in, if it is in one
abbrev pub expansion_of : Data → Option Data
expansion_of d = option_and_then if_called (get (codes "expansion") d)

-- where the macro around a place was called
abbrev pub call_around : Data → Option Data
call_around d = option_and_then (get (codes "span")) (expansion_of d)

-- the outermost of the expansions that a place is in, of at most so many
unfoldable pub outermost : ℕ → Data → Option Data
outermost zero d = None
outermost (suc n) d =
    option_and_then (λ e. option_map (λ call. unwrap_or (outermost n call) e) (get (codes "span") e)) (expansion_of d)

-- whether the call of a macro is at hand, and a place in the macro isn't
abbrev pub is_call_shown : Data → Data → Bool
is_call_shown d e = not (is_at_hand d) && option_map_or is_at_hand (get (codes "span") e) false

-- the place that is shown for one in this outermost expansion: the call, where that is at hand and the place isn't
abbrev pub shown_in : Data → Option Data → Data
shown_in d None = d
shown_in d (Some e) = if is_call_shown d e then unwrap_or (get (codes "span") e) d else d

-- whether a place is in one of the files that a text names
abbrev pub is_named : NamedFiles → Data → Bool
is_named files d = option_map_or (contains_text files.names) (option_and_then as_str (get (codes "file_name") d)) false

-- the first of a place and the calls around it, of at most so many, that is in one of these files
unfoldable pub named_from : NamedFiles → ℕ → Data → Option Data
named_from files zero d = None
named_from files (suc n) d = if is_named files d then Some d else option_and_then (named_from files n) (call_around d)

-- the place that is shown for a place: where the macro around it was called, if that is at hand and the place isn't; or, by the files that a
-- text names, the first in one of these
abbrev pub shown_place : Option NamedFiles → Data → Data
shown_place None d = shown_in d (outermost 128 d)
shown_place (Some files) d = unwrap_or (named_from files 128 d) d

-- ---- lines that come with a place

-- lines with line feeds between them
abbrev pub joined : List (List ℕ) → List ℕ
joined [] = []
joined (line ∷ lines) = line ++ flat_map (λ l. 10 ∷ l) lines

-- what these lines are, as the place has them: from the first line of its region on, and whole; a line feed may end the last
pub record AreLinesOf (r : LineRegion) (lines : List (List ℕ)) (c : Carried) : Type 0 where
  pub first : c.first_line ≡ r.start_line
  pub text : (string_bytes c.text ≡ joined lines) ⊎ (string_bytes c.text ≡ joined lines ++ 10 ∷ [])
  pub whole : c.is_whole ≡ true

-- a value says a line
abbrev pub SaysLine : Data → List ℕ → Type 0
SaysLine d line = text_field (codes "text") d ≡ Some line

-- the lines that a place in this region has with it, as these values say them; none of none
abbrev pub CarriesItems : LineRegion → List Data → Option Carried → Type 0
CarriesItems r [] c = c ≡ None
CarriesItems r (d ∷ ds) c =
    (lines : List (List ℕ)) × AllZip SaysLine (d ∷ ds) lines × ((carried : Carried) × (c ≡ Some carried) × AreLinesOf r lines carried)

abbrev pub CarriesIn : LineRegion → Option Data → Option Carried → Type 0
CarriesIn r None c = c ≡ None
CarriesIn r (Some d) c = (items : List Data) × (as_array d ≡ Some (items_of items)) × CarriesItems r items c

-- the lines that a place in this region has with it, by its field `text`
abbrev pub Carries : LineRegion → Data → Option Carried → Type 0
Carries r d c = CarriesIn r (given (codes "text") d) c

-- ---- the places of a list

-- a place, which has these lines with it
abbrev pub HasLines : Region → Data → Option Carried → Type 0
HasLines (region.Lines r) d c = Carries r d c
HasLines (region.Bytes start end) d c = ⊥
HasLines (region.Chars start end unit) d c = ⊥

-- the place that a value of a list is: file, region and lines are those of the place that is shown for it, and label and kind its own
pub record IsPlaceOf (named : Option NamedFiles) (d : Data) (s : FileSpan) : Type 0 where
  pub place : SaysPlace (shown_place named d) s
  pub lines : HasLines s.region (shown_place named d) s.carried
  pub said : Option (List ℕ)
  pub says : optional_at as_str (codes "label") d ≡ Some said
  pub label : option_map string_bytes s.label ≡ said_label said
  pub primary : flag_field (codes "is_primary") d ≡ Some s.is_primary

-- whether a column is the first
abbrev pub is_first : Option ℕ → Bool
is_first None = false
is_first (Some column) = column == 1

-- whether a region is the very start of a file, and has no length
abbrev pub is_start : Region → Bool
is_start (region.Lines r) = (r.start_line == r.end_line) && nat_le r.start_line 1 && is_first r.start_column && is_first r.end_column
is_start (region.Bytes start end) = false
is_start (region.Chars start end unit) = false

-- whether a place counts: one without lines at the very start of a file is none, unless those with a label count and it has one
abbrev pub is_place : Bool → FileSpan → Bool
is_place keeps s = (keeps && is_some s.label) || is_some s.carried || not (is_start s.region)

-- the places that the values of a list are, in its order
abbrev pub ArePlacesIn : Option NamedFiles → Bool → List Data → List FileSpan → Type 0
ArePlacesIn named keeps items spans = (all : List FileSpan) × AllZip (IsPlaceOf named) items all × (spans ≡ filter (is_place keeps) all)

-- the values of the list in the field of a name, which may be left out
abbrev pub AreListed : List ℕ → Data → List Data → Type 0
AreListed name d items = given_or as_array no_items name d ≡ Some (items_of items)

-- what is said of the call of a macro, by the name that it is declared with
abbrev pub call_label : List ℕ → Option (List ℕ)
call_label name =
    if ends_with eqb name (codes "!") then Some (codes "in this macro invocation")
    else (if starts_with eqb name (codes "#[derive(") then Some (codes "in this derive macro expansion")
    else (if starts_with eqb name (codes "#[") then Some (codes "in this attribute macro expansion") else None))

-- what is said of the call in an expansion
abbrev pub label_in : Data → Option (List ℕ)
label_in e = option_and_then call_label (option_and_then as_str (get (codes "macro_decl_name") e))

-- a place is where a value says that a macro was called, of which this is said, and isn't the point
pub record IsTold (call : Data) (said : List ℕ) (s : FileSpan) : Type 0 where
  pub place : SaysPlace call s
  pub lines : HasLines s.region call s.carried
  pub label : option_map string_bytes s.label ≡ said_label (Some said)
  pub context : s.is_primary ≡ false

-- a place is the call of the outermost macro around a primary one of these values
pub record IsCallBeside (items : List Data) (s : FileSpan) : Type 0 where
  pub inner : Data
  pub among : Contains items inner
  pub primary : flag_field (codes "is_primary") inner ≡ Some true
  pub expansion : Data
  pub around : outermost 128 inner ≡ Some expansion
  pub call : Data
  pub called : get (codes "span") expansion ≡ Some call
  pub said : List ℕ
  pub says : label_in expansion ≡ Some said
  pub told : IsTold call said s

-- ---- those that are shown

-- whether a place without lines of which nothing is said comes after one of its file that has no lines either: that shows it too
abbrev pub is_shown_by : FileSpan → FileSpan → Bool
is_shown_by last s = not (is_some s.carried) && not (is_some s.label) && not (is_some last.carried) && bytes_eq (string_bytes last.file) (string_bytes s.file)

-- a place, and those after it, but for those that are shown by the one before: that is primary then if they are
abbrev pub shown_after : FileSpan → List FileSpan → List FileSpan
shown_after last [] = last ∷ []
shown_after last (s ∷ spans) =
    if is_shown_by last s then shown_after (record last { is_primary = last.is_primary || s.is_primary }) spans
    else last ∷ shown_after s spans

abbrev pub shown_of : List FileSpan → List FileSpan
shown_of [] = []
shown_of (s ∷ spans) = shown_after s spans

-- the same from the place on that was the last so far, if there was one
abbrev pub shown_from : Option FileSpan → List FileSpan → List FileSpan
shown_from None spans = shown_of spans
shown_from (Some last) spans = shown_after last spans

-- some places are others in the order in which they are shown: those without lines that stand together, of one file, by their lines
pub record AreOrdered (spans ordered : List FileSpan) : Type 0 where
  pub same : IsPermutation spans ordered
  pub seats : seats_of ordered ≡ seats_of spans
  pub settled : AllAdjacentBelow (λ a b. has_to_follow a b ≡ false) ordered (length ordered)

-- the places of a diagnostic or a child: those of its list, and the calls of macros, each primary where a primary one lies, in order
pub record ArePlacesOf (named : Option NamedFiles) (keeps : Bool) (d : Data) (spans : List FileSpan) : Type 0 where
  pub items : List Data
  pub listed : AreListed (codes "spans") d items
  pub own : List FileSpan
  pub are : ArePlacesIn named keeps items own
  pub calls : List FileSpan
  pub beside : All (IsCallBeside items) calls
  pub ordered : List FileSpan
  pub in_order : AreOrdered (settled (own ++ calls)) ordered
  pub shown : spans ≡ shown_of ordered
