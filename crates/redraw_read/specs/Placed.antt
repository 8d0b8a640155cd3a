-- The finding that a diagnostic reports: in which source each place and each edit is, and where there.
use Rattle.std.specs.Prelude.{◌≡◌, ◌≢◌, ℕ, ◌⊎◌, ◌+◌, ◌-◌, ◌≤◌, codes, eqb, ◌&&◌, Bool, true, false, nat_le, List, [], ◌∷◌, ◌++◌, Option, Some, None}
use Rattle.std.specs.Prelude.{String, drop, length, map, string_bytes, take, if◌then◌else◌}
use Rattle.std.specs.Borrow.{Bor}
use Rattle.std.specs.Global.{Global, Vec}
use Rattle.std.specs.List.{All, AllZip, ends_with, filter_map, list_all, slice_range, starts_with}
use Rattle.std.specs.Option.{option_map}
use Rattle.std.specs.Str.{IsCharBoundary, trim}
use Rattle.redraw_report.specs.declared.diagnostic.Carried.{Carried}
use Rattle.redraw_report.specs.declared.diagnostic.Child.{Child}
use Rattle.redraw_report.specs.declared.diagnostic.Code.{Code}
use Rattle.redraw_report.specs.declared.diagnostic.Diagnostic.{Diagnostic}
use Rattle.redraw_report.specs.declared.diagnostic.SuggestedEdit.{SuggestedEdit}
use Rattle.redraw_report.specs.declared.diagnostic.FileSpan.{FileSpan}
use Rattle.redraw_report.specs.declared.diagnostic.Region.{Region}
use Rattle.redraw_report.specs.declared.diagnostic.Region.TheVariants as region
use Rattle.redraw_report.specs.declared.finding.Content.{Content}
use Rattle.redraw_report.specs.declared.finding.Content.TheVariants as content
use Rattle.redraw_report.specs.declared.finding.Finding.{Finding}
use Rattle.redraw_report.specs.declared.finding.MarkedSpan.{MarkedSpan}
use Rattle.redraw_report.specs.declared.finding.Offer.{Offer}
use Rattle.redraw_report.specs.declared.finding.Remark.{Remark}
use Rattle.redraw_report.specs.declared.finding.Shown.{Shown}
use Rattle.redraw_report.specs.Region.{IsSpanBetween, end_place, is_settled, start_bytes, start_place}
use Rattle.snippet_lines.specs.declared.clamp.SpanAt.{SpanAt}
use Rattle.redraw_report.specs.Report.{edited_of, lent}
pub use Rattle.redraw_report.specs.Sight.{Sight, Lines, Nothing, Blank, sight_of}
use Rattle.redraw_report.specs.SameSource.{same_source}
use Rattle.redraw_report.specs.ShownText.{shown_text}
use Rattle.redraw_report.specs.View.{Edited}
use Rattle.redraw_read.specs.Extract.{Extract, lines_for, held_by_file}
use Rattle.redraw_read.specs.declared.hand.Hand.{Hand}
use Rattle.redraw_read.specs.declared.sources.File.{File}
use Rattle.redraw_read.specs.declared.spot.Spot.{Spot}

-- what is at hand: the files that were read, a file of the project that is spoken of, and whether each finding is drawn on one line
pub record AtHand : Type 0 where
  pub files : List File
  pub home : List ℕ
  pub is_short : Bool

abbrev pub at_hand : Hand → AtHand
at_hand h = record { files = h.files.now; home = h.home.now; is_short = h.is_short }

-- the file of a project that its files are looked for by: the first of some; none of none
abbrev pub home_of : List (String Global) → List ℕ
home_of [] = []
home_of (home ∷ homes) = string_bytes home

-- what is at hand for the finding that a diagnostic reports
abbrev pub hand_for : List File → Bool → Diagnostic → AtHand
hand_for files is_short d = record { files = files; home = home_of d.homes.items; is_short = is_short }

-- the line on which a region starts, and the column, where it has them
abbrev pub start_line_of : Region → Option ℕ
start_line_of (region.Lines r) = Some r.start_line
start_line_of (region.Bytes start end) = None
start_line_of (region.Chars start end unit) = None

abbrev pub column_of : Region → Option ℕ
column_of (region.Lines r) = r.start_column
column_of (region.Bytes start end) = None
column_of (region.Chars start end unit) = None

-- what is shown of a part of which nothing is at hand. The short form tells places by marks alone, so it has blanks, up to a bound
abbrev pub unseen : Bool → Option ℕ → Option ℕ → Sight
unseen true (Some line) (Some column) =
    if nat_le 1 column && nat_le column 65536 then Blank line column else Nothing (Some line) (Some column)
unseen true (Some line) None = Nothing (Some line) None
unseen true None column = Nothing None column
unseen false line column = Nothing line column

-- what is shown of a region, by the lines that there are for it
abbrev pub sight_by : Bool → Region → Option Extract → Sight
sight_by short r (Some lines) = Lines lines.text lines.first_line
sight_by short r None = unseen short (start_line_of r) (column_of r)

-- what is shown of a region of a file, by what is at hand and what the input has of it
abbrev pub sight_in : AtHand → List ℕ → Region → Option Carried → Sight
sight_in hand file r c = sight_by hand.is_short r (lines_for (held_by_file hand.files file hand.home) c)

-- how many blanks are shown before a place of which nothing is at hand
abbrev pub blanks_in : Sight → ℕ
blanks_in (Lines text first) = 0
blanks_in (Nothing line column) = 0
blanks_in (Blank line column) = column - 1

-- the part of what is shown that a region is: in lines where it is located; else an empty part after all that is there
abbrev pub IsPartOfSight : Sight → Region → ℕ → ℕ → Type 0
IsPartOfSight (Lines text first) r start end =
    (at : SpanAt) × IsSpanBetween text (start_place text (start_bytes text) first r) (end_place text (start_bytes text) first r) at
    × (start ≡ at.span.start) × (end ≡ at.span.end)
IsPartOfSight (Nothing line column) r start end = (start ≡ 0) × (end ≡ 0)
IsPartOfSight (Blank line column) r start end = (start ≡ column - 1) × (end ≡ column - 1)

-- where a region of a file is, of which this is to be shown: in a source that is of the file and shows that, and there the part that
-- the region is
pub record IsAt (file : List ℕ) (sight : Sight) (r : Region) (source : Shown) (start end : ℕ) : Type 0 where
  pub path : source.path.now ≡ file
  pub shows : sight_of source.content ≡ sight
  pub part : IsPartOfSight sight r start end

-- the same of a spot
abbrev pub IsSpot : List ℕ → Sight → Region → Spot → Type 0
IsSpot file sight r spot = IsAt file sight r spot.source spot.start spot.end

-- the mark of a place: where the place is, what is said of it, and whether it is the point of the report
pub record IsMarkOf (hand : AtHand) (span : FileSpan) (m : MarkedSpan) : Type 0 where
  pub place : IsAt (string_bytes span.file) (sight_in hand (string_bytes span.file) span.region span.carried) span.region
      m.source m.start m.end
  pub label : lent m.label ≡ option_map string_bytes span.label
  pub primary : m.is_primary ≡ span.is_primary

-- whether it is settled which part of what is shown a region is
abbrev pub settled_in : Sight → Region → Bool
settled_in (Lines text first) r = is_settled text (start_bytes text) first r
settled_in (Nothing line column) r = true
settled_in (Blank line column) r = true

-- what is shown of the part that an edit changes: nothing where it isn't settled which part of its lines that is
abbrev pub settled_sight : Bool → Region → Sight → Sight
settled_sight short r sight = if settled_in sight r then sight else unseen short (start_line_of r) (column_of r)

abbrev pub sight_of_edit : AtHand → SuggestedEdit → Sight
sight_of_edit hand e = settled_sight hand.is_short e.region (sight_in hand (string_bytes e.file) e.region e.carried)

-- where an edit is
abbrev pub IsSpotOf : AtHand → SuggestedEdit → Spot → Type 0
IsSpotOf hand e spot = IsSpot (string_bytes e.file) (sight_of_edit hand e) e.region spot

-- whether a source has lines of a file
abbrev pub has_text : Content → Bool
has_text (content.Lines text first) = true
has_text (content.Nothing line column) = false
has_text (content.Blank line column) = false

-- whether all of some spots are in this source
abbrev pub are_in : Shown → List Spot → Bool
are_in source spots = list_all (λ (s : Spot). same_source s.source source) spots

-- the source that all of some spots are in, if there is one and it has lines of a file
abbrev pub one_source : List Spot → Option Shown
one_source [] = None
one_source (s ∷ spots) = if has_text s.source.content && are_in s.source spots then Some s.source else None

-- an edit at this spot, if there is one, with the text that is to stand there
abbrev pub edit_at : Option Spot → SuggestedEdit → List Edited
edit_at None e = []
edit_at (Some s) e = record { start = s.start; end = s.end; text = string_bytes e.replacement } ∷ []

-- edits at these spots, one after another
abbrev pub edits_at : List Spot → List SuggestedEdit → List Edited
edits_at spots [] = []
edits_at [] (e ∷ es) = []
edits_at (s ∷ spots) (e ∷ es) = edit_at (Some s) e ++ edits_at spots es

-- what can be seen of an offer: its source, its edits, and whether only the lines around these are shown
pub record Offered : Type 0 where
  pub source : Shown
  pub edits : List Edited
  pub folded : Bool

abbrev pub offered_view : Offer → Offered
offered_view o = record { source = o.source; edits = map edited_of o.changes.items; folded = o.is_folded }

-- the offer of edits at these spots: all of them, where they are in one source; else none
abbrev pub offer_at : List Spot → List SuggestedEdit → Option Offered
offer_at spots edits = option_map (λ source. record { source = source; edits = edits_at spots edits; folded = true }) (one_source spots)

-- whether a text is an attribute of Rust and a line's end, which is shown with the line below it
abbrev pub is_attribute : List ℕ → Bool
is_attribute text = starts_with eqb (trim text) (codes "#[") && ends_with eqb (trim text) (codes "]") && ends_with eqb text (10 ∷ [])

-- whether the text before a line is nothing, or ends with a line feed
abbrev pub IsBeforeLine : List ℕ → Type 0
IsBeforeLine text = (text ≡ []) ⊎ ((front : List ℕ) × (text ≡ front ++ (10 ∷ [])))

-- whether a text has no line feed
abbrev pub HasNoFeed : List ℕ → Type 0
HasNoFeed text = All (λ b. b ≢ 10) text

-- a line of a text, what stands before it, and what comes after it, which is nothing or begins with a line feed
pub record IsLineIn (text line before : List ℕ) : Type 0 where
  pub after : List ℕ
  pub is : text ≡ before ++ (line ++ after)
  pub no_feed : HasNoFeed line
  pub starts : IsBeforeLine before
  pub ends : (after ≡ []) ⊎ ((rest : List ℕ) × (after ≡ 10 ∷ rest))

-- the byte of a text at which its last line starts
pub record IsLastStart (text : List ℕ) (start : ℕ) : Type 0 where
  pub within : start ≤ length text
  pub starts : IsBeforeLine (take start text)
  pub last : HasNoFeed (drop start text)

-- nothing but blanks stands before this byte of a text in its line, and a character begins there, or the text ends
pub record IsAlone (text : List ℕ) (at : ℕ) : Type 0 where
  pub border : IsCharBoundary text at
  pub start : ℕ
  pub begins : IsLastStart (take at text) start
  pub blank : trim (slice_range text start at) ≡ []

-- the offer of an attribute at this spot: all of the line around it is shown, of this text and with this number, and the attribute is
-- put in where the spot is in that, before which nothing but blanks stands there
pub record IsAttributeIn (text : List ℕ) (number : ℕ) (s : Spot) (e : SuggestedEdit) (o : Offer) : Type 0 where
  pub line : List ℕ
  pub before : List ℕ
  pub is_line : IsLineIn text line before
  pub from : length before ≤ s.start
  pub to : s.start ≤ length before + length line
  pub alone : trim (slice_range text (length before) s.start) ≡ []
  pub path : o.source.path.now ≡ s.source.path.now
  pub shows : sight_of o.source.content ≡ Lines line number
  pub edited : map edited_of o.changes.items
      ≡ record { start = s.start - length before; end = s.start - length before; text = string_bytes e.replacement } ∷ []
  pub unfolded : o.is_folded ≡ false

-- the same in what is shown there of a region
abbrev pub IsAttributeAt : Content → Region → Spot → SuggestedEdit → Offer → Type 0
IsAttributeAt (content.Lines text first) (region.Lines r) s e o =
    (is_attribute (string_bytes e.replacement) ≡ true) × IsAttributeIn (shown_text text) r.start_line s e o
IsAttributeAt (content.Lines text first) (region.Bytes start end) s e o = ⊥
IsAttributeAt (content.Lines text first) (region.Chars start end unit) s e o = ⊥
IsAttributeAt (content.Nothing line column) r s e o = ⊥
IsAttributeAt (content.Blank line column) r s e o = ⊥

-- the offer of an attribute alone
abbrev pub IsAttributeOffer : List Spot → List SuggestedEdit → Offer → Type 0
IsAttributeOffer (s ∷ []) (e ∷ []) o = IsAttributeAt s.source.content e.region s e o
IsAttributeOffer [] edits o = ⊥
IsAttributeOffer (s ∷ []) [] o = ⊥
IsAttributeOffer (s ∷ []) (e ∷ f ∷ es) o = ⊥
IsAttributeOffer (s ∷ t ∷ ss) edits o = ⊥

-- an edit of this text is an attribute that is to stand above a line of what is shown there of a region: nothing but blanks stands
-- before it in that line
abbrev pub IsAboveLine : Content → Region → ℕ → List ℕ → Type 0
IsAboveLine (content.Lines text first) (region.Lines r) at replacement = (is_attribute replacement ≡ true) × IsAlone (shown_text text) at
IsAboveLine (content.Lines text first) (region.Bytes start end) at replacement = ⊥
IsAboveLine (content.Lines text first) (region.Chars start end unit) at replacement = ⊥
IsAboveLine (content.Nothing line column) r at replacement = ⊥
IsAboveLine (content.Blank line column) r at replacement = ⊥

-- edits are one that puts an attribute above a line
abbrev pub AreAboveLine : List Spot → List SuggestedEdit → Type 0
AreAboveLine (s ∷ []) (e ∷ []) = IsAboveLine s.source.content e.region s.start (string_bytes e.replacement)
AreAboveLine [] edits = ⊥
AreAboveLine (s ∷ []) [] = ⊥
AreAboveLine (s ∷ []) (e ∷ f ∷ es) = ⊥
AreAboveLine (s ∷ t ∷ ss) edits = ⊥

-- the offer of edits at these spots, if there is one: of an attribute above a line that line with it; of any other edits all of them
abbrev pub IsOfferAt : List Spot → List SuggestedEdit → Option Offer → Type 0
IsOfferAt spots edits offer =
    ((AreAboveLine spots edits → ⊥) × (option_map offered_view offer ≡ offer_at spots edits))
    ⊎ ((o : Offer) × (offer ≡ Some o) × IsAttributeOffer spots edits o)

-- the offer of an alternative, if there is one: never of a part of its edits
abbrev pub IsOfferOf : AtHand → List SuggestedEdit → Option Offer → Type 0
IsOfferOf hand edits offer = (spots : List Spot) × AllZip (IsSpotOf hand) edits spots × IsOfferAt spots edits offer

-- the offers of some alternatives, in their order: of each the one that there is, if there is one
abbrev pub AreOffersOf : AtHand → List (Vec SuggestedEdit) → List Offer → Type 0
AreOffersOf hand alternatives offers =
    (each : List (Option Offer)) × AllZip (λ (edits : Vec SuggestedEdit). IsOfferOf hand edits.items) alternatives each
    × (offers ≡ filter_map (λ offer. offer) each)

-- the remark that a child makes: its severity, its message, its places, the edits that it offers, and whether it only goes on
pub record IsRemarkOf (hand : AtHand) (child : Child) (r : Remark) : Type 0 where
  pub severity : r.severity ≡ child.severity
  pub message : r.message.now ≡ string_bytes child.message
  pub marks : AllZip (IsMarkOf hand) child.spans.items r.marks.items
  pub offers : AreOffersOf hand child.alternatives.items r.offers.items
  pub goes_on : r.goes_on ≡ child.goes_on

-- the finding that a diagnostic reports: its severity, its message, its code, a mark for each of its places, and a remark for each of
-- its children, all in their order
pub record IsFindingOf (hand : AtHand) (d : Diagnostic) (f : Finding) : Type 0 where
  pub severity : f.severity ≡ d.severity
  pub message : f.message.now ≡ string_bytes d.message
  pub code : option_map (λ (c : Bor Code). c.now) f.code ≡ d.code
  pub marks : AllZip (IsMarkOf hand) d.spans.items f.marks.items
  pub remarks : AllZip (IsRemarkOf hand) d.children.items f.remarks.items
  pub gone : f.shows_gone ≡ d.shows_gone
