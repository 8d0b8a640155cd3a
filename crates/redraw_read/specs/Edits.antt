-- Which edits rustc's JSON has of a child: those of its places that have a text to stand there.
use Rattle.std.specs.Prelude.{◌≡◌, ℕ, ◌+◌, ◌-◌, ◌++◌, ◌&&◌, true, nat_le, List, [], ◌∷◌, Option, Some, None, codes, length, string_bytes}
use Rattle.std.specs.Prelude.{if◌then◌else◌}
use Rattle.std.specs.List.{AllZip, filter_map}
use Rattle.std.specs.Option.{option_and_then}
use Rattle.std.specs.Str.{chars, trim}
use Rattle.json_lines.specs.Field.{optional_at, text_field}
use Rattle.serde_json.specs.Data.{Data}
use Rattle.serde_json.specs.Find.{as_str, at, get}
use Rattle.redraw_report.specs.declared.diagnostic.LineRegion.{LineRegion}
use Rattle.redraw_report.specs.declared.diagnostic.Region.TheVariants as region
use Rattle.redraw_report.specs.declared.diagnostic.SuggestedEdit.{SuggestedEdit}
use Rattle.redraw_read.specs.Placed.{is_attribute}
use Rattle.redraw_read.specs.Places.{AreListed, Carries, is_first}
use Rattle.redraw_read.specs.Spans.{IsRegionOf}

-- the line with this index, from 0, of those that come with a place
abbrev pub line_with : ℕ → Data → Option (List ℕ)
line_with n d = option_and_then (text_field (codes "text")) (option_and_then (at n) (get (codes "text") d))

-- lines that go whole, to before the end of the last of them, where that line came with the place
abbrev pub to_line_end : LineRegion → Option (List ℕ) → LineRegion
to_line_end r None = r
to_line_end r (Some line) =
    if nat_le r.start_line (r.end_line - 1) then record r { end_line = r.end_line - 1; end_column = Some (length (chars line) + 1) } else r

-- the part that an edit of this region takes away: of lines that go whole, from the first column of one to that of another, the last line's
-- end stays
abbrev pub taken_away : Data → LineRegion → LineRegion
taken_away d r =
    if is_first r.start_column && is_first r.end_column then to_line_end r (line_with ((r.end_line - 1) - r.start_line) d) else r

-- the part of a file that an edit changes, which puts this text there
abbrev pub part_for : Data → LineRegion → List ℕ → LineRegion
part_for d r [] = taken_away d r
part_for d r (b ∷ bs) = r

-- the part after these blanks, at its line's start; the part itself where there are none
abbrev pub moved_back : LineRegion → List ℕ → LineRegion
moved_back r [] = r
moved_back r (b ∷ bs) = record r { start_column = Some 1; end_column = Some 1 }

-- these are blanks before an attribute that is put in at a part, where nothing goes; or there are none
pub record AreBlanks (r : LineRegion) (text blanks : List ℕ) : Type 0 where
  pub attribute : is_attribute text ≡ true
  pub nothing_goes : (r.start_line ≡ r.end_line) × (r.start_column ≡ r.end_column)
  pub blank : trim blanks ≡ []

abbrev pub AreBlanksBefore : LineRegion → List ℕ → List ℕ → Type 0
AreBlanksBefore r text [] = Unit {0}
AreBlanksBefore r text (b ∷ bs) = AreBlanks r text (b ∷ bs)

-- the edit that a value says which has this text to stand there: of which file, which part, and the text, after blanks if it is an attribute
pub record IsEditOf (d : Data) (text : List ℕ) (e : SuggestedEdit) : Type 0 where
  pub file : text_field (codes "file_name") d ≡ Some (string_bytes e.file)
  pub whole : LineRegion
  pub says : IsRegionOf d whole
  pub lines : Carries whole d e.carried
  pub blanks : List ℕ
  pub stand : AreBlanksBefore (part_for d whole text) text blanks
  pub changes : e.region ≡ region.Lines (moved_back (part_for d whole text) blanks)
  pub puts : string_bytes e.replacement ≡ blanks ++ text

-- the edit of a value of which this is said to be put in; none where nothing is
abbrev pub IsSaid : Data → Option (List ℕ) → Option SuggestedEdit → Type 0
IsSaid d None found = found ≡ None
IsSaid d (Some text) found = (e : SuggestedEdit) × (found ≡ Some e) × IsEditOf d text e

-- the edit of a value, if it has a text to stand there
abbrev pub MayEdit : Data → Option SuggestedEdit → Type 0
MayEdit d found =
    (said : Option (List ℕ)) × (optional_at as_str (codes "suggested_replacement") d ≡ Some said) × IsSaid d said found

-- the edits of some values, in their order
abbrev pub AreEditsIn : List Data → List SuggestedEdit → Type 0
AreEditsIn items edits = (each : List (Option SuggestedEdit)) × AllZip MayEdit items each × (edits ≡ filter_map (λ e. e) each)

-- the edits of a child
abbrev pub AreEditsOf : Data → List SuggestedEdit → Type 0
AreEditsOf d edits = (items : List Data) × AreListed (codes "spans") d items × AreEditsIn items edits
