-- Spans with their places: what is known of the annotations that they are.
use Rattle.snippet_parts.proofs.Common.{◌+◌, ◌≡◌, ℕ, ◌<◌, ◌≤◌, ◌^◌, Bool, true, List, [], ◌∷◌, map, refl, sym, ap, ◌∙◌, subst, arith, max, All, filter}
use Rattle.snippet_parts.proofs.Common.{option_map, cow_str_bytes, ne_eqb, All-head, All-tail, Source, line_of-mono, line_of-within, ordered_by, Loc}
use Rattle.snippet_parts.proofs.Common.{Annotation, LineAnnotation, Singleline, single_part, long_entry, is_long, long_spans, is_marking, first_line}
use Rattle.snippet_parts.proofs.Common.{last_line, LocatedSpan, LongSpan, AreBars, IsLocated, annotations_of, is_short_span, is_long_span, span_entry}
use Rattle.snippet_parts.proofs.Common.{short_part, seen_long, HasFit}
use Rattle.snippet_parts.proofs.LongLemmas.{fit-long}
use Rattle.snippet_parts.proofs.PartWords.{is_short, stands_before}

-- ---- one span

short-is : (s : Source) (l : LocatedSpan) → IsLocated s l → is_short_span l ≡ is_short s.text l.annotation.now
short-is s l at = grind (arith)

long-is : (s : Source) (l : LocatedSpan) → IsLocated s l → is_long_span l ≡ is_long s.text l.annotation.now
long-is s l at = grind (arith)

-- a marked span whose lines differ is one of several lines
pub long_span-by : (l : LocatedSpan) → is_marking l.annotation.now.kind ≡ true → (l.last ≡ l.first → ⊥) → is_long_span l ≡ true
long_span-by l marked apart = grind (arith, ne_eqb)

-- its lines are in order, and lines of the source
pub located-ordered : (s : Source) (l : LocatedSpan) → IsLocated s l → l.first ≤ l.last
located-ordered s l at = grind (arith, line_of-within, line_of-mono)

-- an annotation as it is seen at two locations
abbrev seen_at : Annotation → Loc × Loc → LineAnnotation
seen_at a at = record {
  start = at.0;
  end = at.1;
  kind = a.kind;
  label = option_map cow_str_bytes a.label;
  annotation_type = Singleline;
  highlight_source = a.highlight_source;
}

abbrev part_at : Annotation → Loc × Loc → LineAnnotation
part_at a at = record (seen_at a at) { end = record at.1 { display = max at.1.display (at.0.display + 1) } }

entry_is : (s : Source) (l : LocatedSpan) → IsLocated s l → span_entry l ≡ long_entry s l.annotation.now
entry_is s l at = ap (seen_at l.annotation.now) at.locations

part-is : (s : Source) (l : LocatedSpan) → IsLocated s l → short_part l ≡ single_part s l.annotation.now
part-is s l at = ap (part_at l.annotation.now) at.locations

-- ---- all spans

-- two tests and two functions that agree on elements and what they are
chosen : {A B C : Type 0} (P : A → Type 0) (g : A → B) (p : A → Bool) (q : B → Bool) (f : A → C) (h : B → C) → ((x : A) → P x → p x ≡ q (g x))
    → ((x : A) → P x → f x ≡ h (g x)) → (xs : List A) → All P xs → map f (filter p xs) ≡ map h (filter q (map g xs))
chosen P g p q f h same is [] all = refl
chosen P g p q f h same is (x ∷ xs) all = grind (arith, All-head, All-tail, chosen P g p q f h same is xs (All-tail P x xs all))

-- the entries of spans on one line
pub short-parts : (s : Source) (ls : List LocatedSpan) → All (IsLocated s) ls
    → map short_part (filter is_short_span ls) ≡ map (single_part s) (filter (is_short s.text) (annotations_of ls))
short-parts s ls all = chosen (IsLocated s) (λ (l : LocatedSpan). l.annotation.now) is_short_span (is_short s.text) short_part (single_part s) (short-is s)
    (part-is s) ls all

-- spans of several lines, in their order
pub long-are : (s : Source) (ls : List LocatedSpan) → All (IsLocated s) ls
    → ordered_by stands_before (map span_entry (filter is_long_span ls)) ≡ long_spans s (annotations_of ls)
long-are s ls all = ap (ordered_by stands_before) (chosen (IsLocated s) (λ (l : LocatedSpan). l.annotation.now) is_long_span (is_long s.text) span_entry
    (long_entry s) (long-is s) (entry_is s) ls all)

-- a span of several lines has room, and has the bars that it has where it was located
pub located-fit : (s : Source) (x : LocatedSpan) (l : LongSpan) → seen_long l ≡ span_entry x → l.bars ≡ x.bars → IsLocated s x → is_long_span x ≡ true
    → HasFit s l
located-fit s x l seen bars at long =
    fit-long s x.annotation.now l at.span.ordered (seen ∙ entry_is s x at)
    (subst (λ (n : ℕ). n < 2 ^ 58) (sym (ap (λ (e : LineAnnotation). e.start.display) seen)) at.start_display)
    (omega (arith, ap (λ (e : LineAnnotation). e.end.display) seen, at.end_display))
    (omega (arith, ap (λ (e : LineAnnotation). e.start.char) seen, at.start_char)) (sym (long-is s x at) ∙ long)
    (subst (λ b. AreBars s.text (first_line s.text x.annotation.now) (last_line s.text x.annotation.now) b) (sym bars)
    (subst (λ n. AreBars s.text (first_line s.text x.annotation.now) n x.bars) at.last
    (subst (λ n. AreBars s.text n x.last x.bars) at.first (at.bars long))))
