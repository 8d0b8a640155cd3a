-- The starts and the ends of spans of several lines, which make their bars.
use Rattle.std.proofs.lemmas.Grind.{common_steps}
use Rattle.std.proofs.Common.{arith, append_assoc}
use Rattle.annotate_snippets.proofs.Common.{◌≡◌, ℕ, ◌+◌, ◌-◌, Bool, true, false, ◌||◌, ◌&&◌, Option, Some, None, List, [], ◌∷◌}
use Rattle.annotate_snippets.proofs.Common.{◌++◌, ◌⊎◌, map, inl, inr, refl, sym, ap, subst, ◌∙◌, list_any, cases_Bool, cond-false, cond-true}
use Rattle.annotate_snippets.proofs.Common.{cond_both, or_parts, list_any-append, is_primary, Primary, Source, LineAnnotation, LongExtent, Singleline}
use Rattle.annotate_snippets.proofs.Common.{MultilineEnd, MultilineStart, bar_part, end_part, long_parts, long_place, promoted, span_parts, bar_lines}
use Rattle.annotate_snippets.proofs.Common.{start_part, depth_among, same_place, Among, among_left, among_right, any_cases, append_cases, map_cases}
use Rattle.annotate_snippets.proofs.Common.{promoted-end, promoted-start, same-refl, same-true, Bar, bar_at, is_promoted, stands_among}

-- whether one of some spans of this place is primary
abbrev pub is_primary_at : List LineAnnotation → LongExtent → Bool
is_primary_at es place = list_any (λ (d : LineAnnotation). is_primary d.kind && same_place place (long_place d)) es

-- ---- the kind of the last span of a place

-- a span that is promoted is primary
promoted-kind : (before : List LineAnnotation) (e : LineAnnotation) → is_primary (promoted before e).kind ≡ is_promoted before e
promoted-kind before e = grind (arith, cases_Bool, cond-true, cond-false, or_parts, e.kind)

-- it keeps its place
promoted_place : (before : List LineAnnotation) (e : LineAnnotation) → long_place (promoted before e) ≡ long_place e
promoted_place before e =
    cond_both (is_promoted before e) (record e { kind = Primary }) e (λ (d : LineAnnotation). long_place d ≡ long_place e) (λ _. refl) (λ _. refl)

-- where no later span has a place none is primary there
none_later : (e : LineAnnotation) (later : List LineAnnotation) → stands_among e later ≡ false → is_primary_at later (long_place e) ≡ false
none_later e [] none = refl
none_later e (d ∷ later) none =
    let parts = or_parts (same_place (long_place e) (long_place d)) (stands_among e later) none in
    cc (parts.0, neither (is_primary d.kind) (is_primary_at later (long_place e)) (none_later e later parts.1))
  where
    neither : (a b : Bool) → b ≡ false → ((a && false) || b) ≡ false
    neither true b is = is
    neither false b is = is

-- so the last span of a place is drawn as primary where any span of that place is
kind_drawn : (before : List LineAnnotation) (e : LineAnnotation) (later : List LineAnnotation) → stands_among e later ≡ false
    → is_primary (promoted before e).kind ≡ is_primary_at (before ++ e ∷ later) (long_place e)
kind_drawn before e later last =
    let place = long_place e in
    let test : LineAnnotation → Bool = λ d. is_primary d.kind && same_place place (long_place d) in
    let earlier : Bool = is_primary_at before place in
    let after : earlier || ((is_primary e.kind && true) || false) ≡ earlier
    || ((is_primary e.kind && true) || is_primary_at later place) = ap (λ b. earlier || ((is_primary e.kind && true) || b)) (sym (none_later e later last)) in
    let itself = ap (λ b. earlier || ((is_primary e.kind && b) || is_primary_at later place)) (sym (same-refl place)) in
    promoted-kind before e ∙ either (is_primary e.kind) earlier ∙ after ∙ itself ∙ sym (list_any-append test before (e ∷ later))
  where
    either : (a b : Bool) → (a || b) ≡ (b || ((a && true) || false))
    either true true = refl
    either true false = refl
    either false true = refl
    either false false = refl

-- ---- each place has a start and an end

-- the entries of some spans have a start and an end of this place, with its bar
pub record HasEnds (places : List LongExtent) (all : List LineAnnotation) (parts : List LineAnnotation) (place : LongExtent) : Type 0 where
  pub span : LineAnnotation
  pub place_is : long_place span ≡ place
  pub primary : is_primary span.kind ≡ is_primary_at all place
  pub start : Among parts (start_part span (depth_among places place))
  pub end : Among parts (end_part span (MultilineEnd (depth_among places place)))

further : (places : List LongExtent) (all : List LineAnnotation) (own parts : List LineAnnotation) (place : LongExtent) → HasEnds places all parts place
    → HasEnds places all (own ++ parts) place
further places all own parts place ends =
    record {
      span = ends.span;
      place_is = ends.place_is;
      primary = ends.primary;
      start = among_right own parts (start_part ends.span (depth_among places place)) ends.start;
      end = among_right own parts (end_part ends.span (MultilineEnd (depth_among places place))) ends.end;
    }

last_ends : (s : Source) (places : List LongExtent) (before : List LineAnnotation) (e : LineAnnotation) (later : List LineAnnotation)
    (others : List LineAnnotation)
    → stands_among e later ≡ false
    → HasEnds places (before ++ e ∷ later) (span_parts s (depth_among places (long_place e)) (stands_among e later) (promoted before e) ++ others)
    (long_place e)
last_ends s places before e later others last =
    let depth : ℕ = depth_among places (long_place e) in
    let drawn : LineAnnotation = promoted before e in
    let bars : List LineAnnotation = map (λ k. bar_part drawn depth (s.first + k)) (bar_lines s.text (drawn.start.line - s.first) (drawn.end.line - s.first)) in
    let start : LineAnnotation = start_part drawn depth in
    let end : LineAnnotation = end_part drawn (MultilineEnd depth) in
    record {
      span = drawn;
      place_is = promoted_place before e;
      primary = kind_drawn before e later last;
      start = grind (arith, common_steps, among_left, depth, drawn, start);
      end = grind (arith, common_steps, among_left, depth, drawn, end, among_right, bars);
    }

-- a span's place has them
pub ends_of : (s : Source) (places : List LongExtent) (before later all : List LineAnnotation) → all ≡ before ++ later
    → (place : LongExtent) (e : LineAnnotation) → Among later e
    → long_place e ≡ place → HasEnds places all (long_parts s places before later) place
ends_of s places before [] all is place e here at = absurd here
ends_of s places before (f ∷ later) all is place e (inr among) at =
    further places all (span_parts s (depth_among places (long_place f)) (stands_among f later) (promoted before f))
    (long_parts s places (before ++ f ∷ []) later) place (ends_of s places (before ++ f ∷ []) later all
    (is ∙ sym (append_assoc before (f ∷ []) later)) place e among at)
ends_of s places before (f ∷ later) all is place e (inl same) at =
    elim (cases_Bool (stands_among f later)) [
      | inl again ↦
          let g = any_cases (λ (d : LineAnnotation). same_place (long_place f) (long_place d)) later again in
          let next = ends_of s places (before ++ f ∷ []) later all (is ∙ sym (append_assoc before (f ∷ []) later)) place g.0 g.1
          (sym (same-true (long_place f) (long_place g.0) g.2) ∙ here) in
          further places all (span_parts s (depth_among places (long_place f)) (stands_among f later) (promoted before f))
          (long_parts s places (before ++ f ∷ []) later) place next
      | inr last ↦
          let parts : List LineAnnotation = long_parts s places before (f ∷ later) in
          subst (λ p. HasEnds places all parts p) here (subst (λ es. HasEnds places es parts (long_place f)) (sym is)
          (last_ends s places before f later (long_parts s places (before ++ f ∷ []) later) last))
    ]
  where
    here : long_place f ≡ place
    here = ap long_place same ∙ at

-- ---- and no other entry has a bar

-- the bar of an entry is that of one of some spans, of which it is the start, on the first line, or the end, on the last
pub record IsEndOf (places : List LongExtent) (all later : List LineAnnotation) (p : LineAnnotation) (bar : Bar) : Type 0 where
  pub span : LineAnnotation
  pub among : Among later span
  pub bar_is : bar ≡ record { depth = depth_among places (long_place span); primary = is_primary_at all (long_place span) }
  pub line : ((p.annotation_type ≡ MultilineStart bar.depth) × (p.start.line ≡ span.start.line))
      ⊎ ((p.annotation_type ≡ MultilineEnd bar.depth) × (p.start.line ≡ span.end.line))

some_same : {X : Type 0} (x y : X) → Some x ≡ Some y → x ≡ y
some_same x y same = cc

module _ (s : Source) (places : List LongExtent) (before : List LineAnnotation) (e : LineAnnotation) (later : List LineAnnotation)
    (all : List LineAnnotation) (all_is : all ≡ before ++ e ∷ later)
    (p : LineAnnotation) (bar : Bar) (bar_is : bar_at p.annotation_type (is_primary p.kind) ≡ Some bar) where
  abbrev depth : ℕ
  depth = depth_among places (long_place e)

  abbrev drawn : LineAnnotation
  drawn = promoted before e

  -- the bar that an entry has
  has : LineAnnotation → Option Bar
  has q = bar_at q.annotation_type (is_primary q.kind)

  own_bar : (q : LineAnnotation) → q ≡ p → has q ≡ Some bar
  unfolding has
  own_bar q same = ap has same ∙ bar_is

  -- where it is the span's own
  is_own : stands_among e later ≡ false → Some (record { depth = depth; primary = is_primary drawn.kind }) ≡ Some bar
      → ((p.annotation_type ≡ MultilineStart depth) × (p.start.line ≡ e.start.line)) ⊎ ((p.annotation_type ≡ MultilineEnd depth) × (p.start.line ≡ e.end.line))
      → IsEndOf places all (e ∷ later) p bar
  is_own last same line =
      let own : record { depth = depth; primary = is_primary drawn.kind }
      ≡ bar = some_same (record { depth = depth; primary = is_primary drawn.kind }) bar same in
      let deep : depth ≡ bar.depth = ap (λ (b : Bar). b.depth) own in
      record {
        span = e;
        among = inl refl;
        bar_is = sym own ∙ ap (λ b. record { depth = depth; primary = b })
            (kind_drawn before e later last ∙ ap (λ es. is_primary_at es (long_place e)) (sym all_is));
        line = elim line [
          | inl start ↦ inl (start.0 ∙ ap MultilineStart deep, start.1)
          | inr end ↦ inr (end.0 ∙ ap MultilineEnd deep, end.1)
        ];
      }

  none_again : Among (end_part drawn Singleline ∷ []) p → IsEndOf places all (e ∷ later) p bar
  unfolding has
  none_again (inl same) = absurd (no_bar (own_bar (end_part drawn Singleline) same))
    where
      no_bar : None ≡ Some bar → ⊥
      no_bar wrong = cc wrong
  none_again (inr none) = absurd none

  one_part : stands_among e later ≡ false → Among (span_parts s depth false drawn) p → IsEndOf places all (e ∷ later) p bar
  unfolding has
  one_part last (inl same) = grind (arith, is_own, own_bar, promoted-start)
  one_part last (inr rest) =
      let bars : List LineAnnotation = map (λ k. bar_part drawn depth (s.first + k))
      (bar_lines s.text (drawn.start.line - s.first) (drawn.end.line - s.first)) in
      let end : LineAnnotation = end_part drawn (MultilineEnd depth) in
      elim (append_cases bars (end ∷ []) p rest) [
        | inl beside ↦
            let made = map_cases (λ k. bar_part drawn depth (s.first + k))
            (bar_lines s.text (drawn.start.line - s.first) (drawn.end.line - s.first)) p beside in
            absurd (no_bar (own_bar (bar_part drawn depth (s.first + made.0)) made.2))
        | inr (inl same) ↦ is_own last (own_bar end same) (inr (
          sym (ap (λ (q : LineAnnotation). q.annotation_type) same),
          sym (ap (λ (q : LineAnnotation). q.start.line) same) ∙ ap (λ l. l.line) (promoted-end before e),
        ))
        | inr (inr none) ↦ absurd none
      ]
    where
      no_bar : None ≡ Some bar → ⊥
      no_bar wrong = cc wrong

  own_part : Among (span_parts s depth (stands_among e later) drawn) p → IsEndOf places all (e ∷ later) p bar
  own_part among = grind (arith, cases_Bool, none_again, one_part)

-- an entry that has a bar is the start or the end of a span
pub end_of : (s : Source) (places : List LongExtent) (before later all : List LineAnnotation) → all ≡ before ++ later → (p : LineAnnotation) (bar : Bar)
    → Among (long_parts s places before later) p → bar_at p.annotation_type (is_primary p.kind) ≡ Some bar → IsEndOf places all later p bar
end_of s places before [] all is p bar here bar_is = absurd here
end_of s places before (e ∷ later) all is p bar here bar_is =
    elim (append_cases (span_parts s (depth_among places (long_place e)) (stands_among e later) (promoted before e))
    (long_parts s places (before ++ e ∷ []) later) p here) [
      | inl own ↦ own_part s places before e later all is p bar bar_is own
      | inr more ↦
          let found : IsEndOf places all later p bar = end_of s places (before ++ e ∷ []) later all
          (is ∙ sym (append_assoc before (e ∷ []) later)) p bar more bar_is in
          record { span = found.span; among = inr found.among; bar_is = found.bar_is; line = found.line }
    ]
