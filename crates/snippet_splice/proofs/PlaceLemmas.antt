-- Where edits stand in their lines of the source, one after the other.
use Rattle.snippet_splice.proofs.Common.{subst, ◌≡◌, ◌∙◌, ℕ, ◌+◌, ◌≤◌, Bool, List, [], ◌∷◌, ◌++◌, length, map, refl, sym, ap, arith, append_assoc}
use Rattle.snippet_splice.proofs.Common.{slice_range, IsUtf8, length-drop, length-take, map-append, IsUtf8-append, IsUtf8-nil, PatchExtent, in_text, Edit}
use Rattle.snippet_splice.proofs.Common.{in_order, trimmed_edits, first_start, shown_start, Extent, after_last_lf, characters_before, extents_from}
use Rattle.snippet_splice.proofs.Common.{new_stretches, replaced_on, extent_of, replaced_stretches, start_character, stretches_on, IsUsize, rules}
use Rattle.std.specs.Str.{chars}
use Rattle.snippet_splice.proofs.EditLemmas.{slice_split}
use Rattle.snippet_splice.proofs.StretchLemmas.{after_few}
use Rattle.snippet_splice.proofs.WriteLemmas.{in_text-mono}

-- a source from one byte of its text to another
abbrev pub between : List ℕ → ℕ → ℕ → List ℕ
between source from to = slice_range source (in_text source from) (in_text source to)

-- nothing stands from a byte on to one that isn't after it
pub between_none : (source : List ℕ) (from to : ℕ) → in_text source to ≤ in_text source from → between source from to ≡ []
between_none source from to low = search rules

-- what stands between a place and itself is UTF-8
pub empty_part_utf8 : (source : List ℕ) (from : ℕ) → IsUtf8 (between source from from)
empty_part_utf8 source from = subst IsUtf8 (sym (between_none source from from (omega arith))) IsUtf8-nil

nothing : length (chars (after_last_lf [])) ≡ 0
unfolding chars
nothing = refl

-- no character stands between a place and itself
pub none_before : (source : List ℕ) (from : ℕ) → 0 ≡ characters_before source from from
none_before source from = grind (arith, between_none, nothing)

-- what stands between two bytes is a part of the source
pub between_few : (source : List ℕ) (from to : ℕ) → length (between source from to) ≤ length source
between_few source from to = grind (arith, length-take, length-drop)

-- so no more characters stand before a byte than the source has bytes
pub characters_few : (source : List ℕ) (from b : ℕ) → characters_before source from b ≤ length source
characters_few source from b = omega (arith, after_few (between source from b), between_few source from b)

-- and where a span starts, or ends, at most one more
pub start_few : (source : List ℕ) (from b : ℕ) → start_character source from b ≤ length source + 1
start_few source from b = grind (arith, characters_few)

-- up to a later byte
between_more : (source : List ℕ) (from at to : ℕ) → from ≤ at → at ≤ to → between source from to ≡ between source from at ++ between source at to
between_more source from at to low high =
    slice_split source (in_text source from) (in_text source at) (in_text source to) (in_text-mono source from at low) (in_text-mono source at to high)

-- UTF-8 up to a place and UTF-8 from there on are UTF-8 together
pub utf8_more : (source part : List ℕ) (from at to : ℕ) → from ≤ at → at ≤ to → part ≡ between source at to → IsUtf8 (between source from at) → IsUtf8 part
    → IsUtf8 (between source from to)
utf8_more source part from at to low high is front utf8 =
    subst IsUtf8 (ap (λ t. between source from at ++ t) is ∙ sym (between_more source from at to low high))
    (IsUtf8-append (between source from at) part front utf8)

-- counting goes on over a part: from the characters of a text's last line to those of the last line of both
abbrev pub CountsOn : List ℕ → ℕ → ℕ → Type 0
CountsOn part before after =
    (front : List ℕ) → IsUtf8 front → before ≡ length (chars (after_last_lf front)) → IsUsize (length (front ++ part))
    → after ≡ length (chars (after_last_lf (front ++ part)))

-- what counts on from the characters before a byte gives those before a later one
pub counted_more : (source part : List ℕ) (from at to before after : ℕ) → from ≤ at → at ≤ to → part ≡ between source at to → IsUtf8 (between source from at)
    → before ≡ characters_before source from at → CountsOn part before after → IsUsize (length source) → after ≡ characters_before source from to
counted_more source part from at to before after low high is front counted counts fits = grind (arith, between_more, between_few)

-- where an edit stands
pub extent_is : (x : Extent) (feeds before start end : ℕ) (under : List ℕ) → feeds ≡ x.feeds → before ≡ x.before → start ≡ x.start → end ≡ x.end
    → under ≡ x.under → record { feeds = feeds; before = before; start = start; end = end; under = under; text = x.text } ≡ x
extent_is x feeds before start end under f b s e u = search rules

-- one more place, and those that are left
pub places_more : (x : Extent) (left : List Extent) (places now : List PatchExtent) (place : PatchExtent) (all : List Extent) → now ≡ places ++ place ∷ []
    → extent_of place ≡ x → map extent_of places ++ (x ∷ left) ≡ all → map extent_of now ++ left ≡ all
places_more x left places now place all pushed is whole = grind (arith, map-append, append_assoc)

-- so the stretches are those of the edits
pub stretches_are : (fold : Bool) (source : List ℕ) (es ts : List Edit) (from k : ℕ) (xs : List Extent)
    → from ≡ shown_start fold source (first_start (in_order es)) → ts ≡ trimmed_edits source es → xs ≡ extents_from source from from ts
    → stretches_on k 0 0 0 xs ≡ new_stretches fold source es k
unfolding new_stretches
stretches_are fold source es ts from k xs starts edits is = search rules

-- the stretches that are replaced on a line are those of the edits' extents
pub replaced_are : (fold : Bool) (source : List ℕ) (es ts : List Edit) (from k : ℕ) (xs : List Extent)
    → from ≡ shown_start fold source (first_start (in_order es)) → ts ≡ trimmed_edits source es → xs ≡ extents_from source from from ts
    → replaced_on k 0 xs ≡ replaced_stretches fold source es k
unfolding replaced_stretches
replaced_are fold source es ts from k xs starts edits is = search rules
