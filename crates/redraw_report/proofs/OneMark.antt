-- What is drawn of one place: its source is the only one, and the place is in it.
use Rattle.std.proofs.Common.{◌≡◌, ℕ, ◌==◌, ◌&&◌, ◌||◌, ◌<◌, ◌≤◌, Bool, true, false, not, nat_eq, List, [], ◌∷◌, Option, Some, None, get_or, length}
use Rattle.std.proofs.Common.{ap, arith, refl, append-nil, ◌∙◌, if◌then◌else◌}
use Rattle.std.specs.List.{flat_map}
use Rattle.std.specs.Option.{option_eq}
use Rattle.std.specs.Str.{bytes_eq}
use Rattle.std.proofs.lemmas.Bool.Decides.{Decides-eqb}
use Rattle.std.proofs.lemmas.Slice.Eq.{bytes_eq-Decides}
use Rattle.redraw_report.specs.declared.finding.Content.{Content}
use Rattle.redraw_report.specs.declared.finding.Content.TheVariants.{Lines, Nothing, Blank}
use Rattle.redraw_report.specs.declared.finding.MarkedSpan.{MarkedSpan}
use Rattle.redraw_report.specs.declared.finding.Shown.{Shown}
use Rattle.redraw_report.specs.Report.{content_parts, marked_parts, marks_in, source_parts, sources_of, with_shown}
use Rattle.redraw_report.specs.SameSource.{same_content, same_source}
use Rattle.redraw_report.specs.ShownText.{shown_text}

both : (a b : Bool) → a ≡ true → b ≡ true → (a && b) ≡ true
both true b p q = q
both false b p q = absurd (cc p)

same_number : (n : ℕ) → (n == n) ≡ true
same_number n = (Decides-eqb n n).1 refl

same_option : (o : Option ℕ) → option_eq nat_eq o o ≡ true
same_option None = refl
same_option (Some n) = same_number n

same_text : (text : List ℕ) → bytes_eq text text ≡ true
same_text text = (bytes_eq-Decides text text).1 refl

itself_shown : (c : Content) → same_content c c ≡ true
itself_shown (Lines text first) = both (first == first) (bytes_eq (shown_text text) (shown_text text)) (same_number first) (same_text (shown_text text))
itself_shown (Nothing line column) = both (option_eq nat_eq line line) (option_eq nat_eq column column) (same_option line) (same_option column)
itself_shown (Blank line column) = both (line == line) (column == column) (same_number line) (same_number column)

-- a source is the same as itself
pub itself : (s : Shown) → same_source s s ≡ true
itself s = both (bytes_eq s.path.now s.path.now) (same_content s.content s.content) (same_text s.path.now) (itself_shown s.content)

-- a source that is the only one, where it was added before or not
only_source : (primary : Bool) (s : Shown) → with_shown (if true && not primary then [] else s ∷ []) s ≡ s ∷ []
only_source true s = ap (λ (b : Bool). if b || false then s ∷ [] else s ∷ s ∷ []) (itself s)
only_source false s = refl

only_mark : (m : MarkedSpan) → marks_in m.source (m ∷ []) ≡ m ∷ []
only_mark m = ap (λ (b : Bool). if b then m ∷ [] else []) (itself m.source)

one_mark : (m : MarkedSpan) → marked_parts (m ∷ []) ≡ content_parts (m ∷ []) m.source m.source.content
one_mark m =
    let source : sources_of (m ∷ []) ≡ m.source ∷ [] = only_source m.is_primary m.source in
    ap (flat_map (source_parts (m ∷ []))) source ∙ append-nil (source_parts (m ∷ []) m.source)
    ∙ ap (λ (ms : List MarkedSpan). content_parts ms m.source m.source.content) (only_mark m)

-- what is drawn of places of which there is one
pub one_place : (ms : List MarkedSpan) (d : MarkedSpan) → 1 ≤ length ms → length ms < 2
    → marked_parts ms ≡ content_parts ms (get_or ms 0 d).source (get_or ms 0 d).source.content
one_place [] d some few = absurd (omega (arith, some))
one_place (m ∷ []) d some few = one_mark m
one_place (m ∷ n ∷ ms) d some few = absurd (omega (arith, few))
