-- How many places of a diagnostic aren't in their sources as they were given, and how many of its alternatives aren't drawn.
use Rattle.std.specs.Prelude.{ℕ, zero, suc, ◌+◌, ◌-◌, ◌^◌, ◌==◌, ◌&&◌, Bool, true, false, not, cond, min, nat_le, List, [], ◌∷◌, string_bytes}
use Rattle.std.specs.Global.{Vec}
use Rattle.std.specs.List.{count_by, list_all, sum_by}
use Rattle.std.specs.Str.{bytes_eq}
use Rattle.redraw_report.specs.Region.{end_place, start_bytes, start_place}
use Rattle.snippet_lines.specs.Places.{is_border}
use Rattle.snippet_lines.specs.declared.clamp.Place.{Place}
use Rattle.redraw_report.specs.declared.diagnostic.Child.{Child}
use Rattle.redraw_report.specs.declared.diagnostic.Diagnostic.{Diagnostic}
use Rattle.redraw_report.specs.declared.diagnostic.SuggestedEdit.{SuggestedEdit}
use Rattle.redraw_report.specs.declared.diagnostic.FileSpan.{FileSpan}
use Rattle.redraw_report.specs.declared.diagnostic.Region.{Region}
use Rattle.redraw_read.specs.Placed.{AtHand, Sight, Lines, Nothing, Blank, sight_in}
pub use Rattle.redraw_read.specs.Placed.{sight_of_edit}
use Rattle.redraw_read.specs.declared.spot.Placing.{Placing}

-- one if there is one
abbrev pub ones : Bool → ℕ
ones is_one = cond is_one 1 0

-- so many, as far as they can be counted
abbrev pub capped : ℕ → ℕ
capped n = min n (2 ^ 64 - 1)

-- a count with so many more, each as far as it can be counted
abbrev pub more : ℕ → ℕ → ℕ
more n zero = n
more n (suc k) = more (capped (n + 1)) k

-- what was counted on the way, with so many more places that aren't in their sources, and so many more alternatives that aren't drawn
abbrev pub adds : Placing → (clamped undrawn : ℕ) → Placing
adds p clamped undrawn = record p { clamped = more p.clamped clamped; undrawn = more p.undrawn undrawn }

-- whether a text holds what goes from one place to another: both were found in it as they were asked for, between characters, and the
-- other isn't before the one
abbrev pub holds : List ℕ → (from to : Place) → Bool
holds text from to =
    from.exact && is_border text from.byte && (to.exact && is_border text to.byte) && nat_le from.byte to.byte

-- whether the lines in which a region is shown don't hold it as it was given. Where no lines are shown, none is missed
abbrev pub is_clamped : Sight → Region → Bool
is_clamped (Lines text first) r =
    not (holds text (start_place text (start_bytes text) first r) (end_place text (start_bytes text) first r))
is_clamped (Nothing line column) r = false
is_clamped (Blank line column) r = false

-- what is shown of a place
abbrev pub sight_of_span : AtHand → FileSpan → Sight
sight_of_span hand s = sight_in hand (string_bytes s.file) s.region s.carried

-- how many of some places aren't in their sources as they were given
abbrev pub clamped_spans : AtHand → List FileSpan → ℕ
clamped_spans hand spans = count_by (λ (s : FileSpan). is_clamped (sight_of_span hand s) s.region) spans

-- how many of some edits aren't in their sources as they were given
abbrev pub clamped_edits : AtHand → List SuggestedEdit → ℕ
clamped_edits hand edits = count_by (λ (e : SuggestedEdit). is_clamped (sight_of_edit hand e) e.region) edits

-- whether lines are shown
abbrev pub shows_text : Sight → Bool
shows_text (Lines text first) = true
shows_text (Nothing line column) = false
shows_text (Blank line column) = false

-- whether what is shown are these lines
abbrev pub shows_lines : List ℕ → ℕ → Sight → Bool
shows_lines text first (Lines other_text other_first) = other_first == first && bytes_eq other_text text
shows_lines text first (Nothing line column) = false
shows_lines text first (Blank line column) = false

-- whether a sight shows the lines that another one shows
abbrev pub shows_same : Sight → Sight → Bool
shows_same (Lines text first) other = shows_lines text first other
shows_same (Nothing line column) other = false
shows_same (Blank line column) other = false

-- whether an edit is in the lines in which another one is: those of the same file
abbrev pub is_beside : AtHand → SuggestedEdit → SuggestedEdit → Bool
is_beside hand e f = bytes_eq (string_bytes f.file) (string_bytes e.file) && shows_same (sight_of_edit hand e) (sight_of_edit hand f)

-- whether the edits of an alternative are drawn: there are some, lines are at hand of what the first changes, and all others are in these
abbrev pub is_drawn : AtHand → List SuggestedEdit → Bool
is_drawn hand [] = false
is_drawn hand (e ∷ es) = shows_text (sight_of_edit hand e) && list_all (is_beside hand e) es

-- how many places of some alternatives aren't in their sources as they were given
abbrev pub clamped_alternatives : AtHand → List (Vec SuggestedEdit) → ℕ
clamped_alternatives hand alternatives = sum_by (λ (edits : Vec SuggestedEdit). clamped_edits hand edits.items) alternatives

-- how many of some alternatives aren't drawn
abbrev pub undrawn_alternatives : AtHand → List (Vec SuggestedEdit) → ℕ
undrawn_alternatives hand alternatives = count_by (λ (edits : Vec SuggestedEdit). not (is_drawn hand edits.items)) alternatives

-- the same of a child: of its places and of its edits
abbrev pub clamped_child : AtHand → Child → ℕ
clamped_child hand child = clamped_spans hand child.spans.items + clamped_alternatives hand child.alternatives.items

abbrev pub undrawn_child : AtHand → Child → ℕ
undrawn_child hand child = undrawn_alternatives hand child.alternatives.items

-- how many places of a diagnostic and of its children aren't in their sources
abbrev pub clamped_in : AtHand → Diagnostic → ℕ
clamped_in hand d = clamped_spans hand d.spans.items + sum_by (clamped_child hand) d.children.items

-- how many alternatives of a diagnostic's children aren't drawn
abbrev pub undrawn_in : AtHand → Diagnostic → ℕ
undrawn_in hand d = sum_by (undrawn_child hand) d.children.items
