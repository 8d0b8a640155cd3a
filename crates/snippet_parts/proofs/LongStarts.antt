-- The entries of spans of several lines: one stands where each of them starts, and none before.
use Rattle.snippet_parts.proofs.Common.{◌≡◌, ℕ, ◌+◌, ◌-◌, ◌<◌, ◌≤◌, Bool, true, false, List, [], ◌∷◌, ◌++◌, ◌⊎◌, inl, inr, refl, sym, ap, subst, ◌∙◌, arith}
use Rattle.snippet_parts.proofs.Common.{All, cases_Bool, cond-false, cond_both, and_from, and_parts, or_right, both_ways, All-nil, All-append, All-weaker}
use Rattle.snippet_parts.proofs.Common.{is_primary, AnnotationKind, Primary, Loc, Source, start_location, LineAnnotation, LongExtent, Singleline}
use Rattle.snippet_parts.proofs.Common.{MultilineEnd, long_place, long_parts, promoted, span_parts, start_part, bar_part, end_part, bar_lines, depth_among}
use Rattle.snippet_parts.proofs.Common.{same_place}
use Rattle.snippet_parts.proofs.AmongLemmas.{Among, among_left, among_right, any_among, any_cases, append_cases}
use Rattle.snippet_parts.proofs.PartLemmas.{HoldsOfSpan, IsBarLine, bar_lines-stand, span-all}
use Rattle.snippet_parts.proofs.RawDepthLemmas.{same-refl, same-true}
use Rattle.snippet_parts.proofs.PartWords.{is_promoted, stands_among}

-- ---- places

-- a place is at another one or before it
abbrev pub IsBy : Loc → Loc → Type 0
IsBy at q = (at.line ≤ q.line) × (at.line ≡ q.line → at.char ≤ q.char)

-- a place isn't after one that is the same
pub by-same : (at q : Loc) → at ≡ q → IsBy at q
by-same at q is = (omega (arith, ap (λ (l : Loc). l.line) is), λ _. omega (arith, ap (λ (l : Loc). l.char) is))

by-above : (at q : Loc) → at.line < q.line → IsBy at q
by-above at q above = (omega arith, λ same. absurd (omega arith))

-- a test of kinds that primary ones pass, and all others or none
pub record IsChoice (t : AnnotationKind → Bool) : Type 0 where
  pub primary : t Primary ≡ true
  pub others : (k : AnnotationKind) → t k ≡ true → (is_primary k ≡ true) ⊎ ((j : AnnotationKind) → t j ≡ true)

primary-passes : (t : AnnotationKind → Bool) → IsChoice t → (k : AnnotationKind) → is_primary k ≡ true → t k ≡ true
primary-passes x y z u = grind (arith)

-- what is known of a span of several lines as it is seen
pub record IsSeen (s : Source) (e : LineAnnotation) : Type 0 where
  pub start : e.start ≡ start_location s e.start.byte
  pub later : e.start.line < e.end.line

-- spans at the same place start at the same location
pub same_start : (s : Source) (d e : LineAnnotation) → IsSeen s d → IsSeen s e → long_place d ≡ long_place e → d.start ≡ e.start
same_start s d e seen other same = seen.start ∙ ap (λ (p : LongExtent). start_location s p.from) same ∙ sym other.start

-- ---- a span as it is drawn

-- a primary one of some spans has this place
pub record HasPrimary (es : List LineAnnotation) (place : LongExtent) : Type 0 where
  pub span : LineAnnotation
  pub among : Among es span
  pub primary : is_primary span.kind ≡ true
  pub same : long_place span ≡ place

more-primary : (es : List LineAnnotation) (e : LineAnnotation) (place : LongExtent) → HasPrimary es place → HasPrimary (es ++ e ∷ []) place
more-primary es e place has = record { span = has.span; among = among_left es (e ∷ []) has.span has.among; primary = has.primary; same = has.same }

promoted-primary : (before : List LineAnnotation) (e : LineAnnotation) (place : LongExtent) → HasPrimary before place → long_place e ≡ place
    → is_promoted before e ≡ true
promoted-primary before e place has at = grind (arith, same-refl, or_right, any_among, and_from)

promoted-kind : (t : AnnotationKind → Bool) → IsChoice t → (before : List LineAnnotation) (e : LineAnnotation) (place : LongExtent)
    → (t e.kind ≡ true) ⊎ HasPrimary before place
    → long_place e ≡ place → t (promoted before e).kind ≡ true
promoted-kind t choice before e place why at = grind (arith, cond_both, both_ways, promoted-primary)

-- a span that is promoted starts where it did
pub promoted-start : (before : List LineAnnotation) (e : LineAnnotation) → (promoted before e).start ≡ e.start
promoted-start before e = cond_both (is_promoted before e) (record e { kind = Primary }) e (λ (d : LineAnnotation). d.start ≡ e.start) (λ _. refl) (λ _. refl)

-- a span that is promoted ends where it did
pub promoted-end : (before : List LineAnnotation) (e : LineAnnotation) → (promoted before e).end ≡ e.end
promoted-end before e = cond_both (is_promoted before e) (record e { kind = Primary }) e (λ (d : LineAnnotation). d.end ≡ e.end) (λ _. refl) (λ _. refl)

-- ---- where a span starts an entry stands

-- an entry of a chosen kind stands at a place
pub record StandsAt (t : AnnotationKind → Bool) (parts : List LineAnnotation) (at : Loc) : Type 0 where
  pub part : LineAnnotation
  pub among : Among parts part
  pub passes : t part.kind ≡ true
  pub at_is : part.start ≡ at

-- one stands where a span of this place starts, one of those to come
pub record IsStarted (t : AnnotationKind → Bool) (parts : List LineAnnotation) (later : List LineAnnotation) (place : LongExtent) : Type 0 where
  pub span : LineAnnotation
  pub among : Among later span
  pub same : long_place span ≡ place
  pub stands : StandsAt t parts span.start

later-started : (t : AnnotationKind → Bool) (first parts : List LineAnnotation) (e : LineAnnotation) (later : List LineAnnotation)
    (place : LongExtent) → IsStarted t parts later place
    → IsStarted t (first ++ parts) (e ∷ later) place
later-started t first parts e later place rest = grind (arith, among_right)

-- the last span of its place has an entry where it starts
last-started : (t : AnnotationKind → Bool) → IsChoice t
    → (s : Source) (depth : ℕ) (before : List LineAnnotation) (e : LineAnnotation) (later : List LineAnnotation) (others : List LineAnnotation)
    (place : LongExtent)
    → stands_among e later ≡ false → (t e.kind ≡ true) ⊎ HasPrimary before place → long_place e ≡ place
    → IsStarted t (span_parts s depth (stands_among e later) (promoted before e) ++ others) (e ∷ later) place
last-started t choice s depth before e later others place last why at =
    let drawn : LineAnnotation = promoted before e in
    record {
      span = e;
      among = inl refl;
      same = at;
      stands = record {
        part = start_part drawn depth;
        among = among_left (span_parts s depth (stands_among e later) drawn) others (start_part drawn depth)
            (subst (λ b. Among (span_parts s depth b drawn) (start_part drawn depth)) (sym last) (inl refl));
        passes = promoted-kind t choice before e place why at;
        at_is = promoted-start before e;
      };
    }

-- where a span of the chosen kind stands at a place, a part that starts it does
pub started : (t : AnnotationKind → Bool) → IsChoice t
    → (s : Source) (places : List LongExtent) (before later : List LineAnnotation) (place : LongExtent) (e : LineAnnotation) → Among later e
    → long_place e ≡ place
    → (t e.kind ≡ true) ⊎ HasPrimary before place → IsStarted t (long_parts s places before later) later place
started t choice s places before [] place e here at why = absurd here
started t choice s places before (f ∷ later) place e (inr among) at why =
    later-started t (span_parts s (depth_among places (long_place f)) (stands_among f later) (promoted before f))
    (long_parts s places (before ++ f ∷ []) later) f later place (started t choice s places (before ++ f ∷ []) later place e among at (elim why [
      | inl own ↦ inl own
      | inr other ↦ inr (more-primary before f place other)
    ]))
started t choice s places before (f ∷ later) place e (inl same) at why =
    elim (cases_Bool (stands_among f later)) [
      | inl again ↦
          let g = any_cases (λ (d : LineAnnotation). same_place (long_place f) (long_place d)) later again in
          later-started t (span_parts s (depth_among places (long_place f)) (stands_among f later) (promoted before f))
          (long_parts s places (before ++ f ∷ []) later)
          f later place (started t choice s places (before ++ f ∷ [])
          later place g.0 g.1 (sym (same-true (long_place f) (long_place g.0) g.2) ∙ here) (next g.0))
      | inr last ↦ last-started t choice s (depth_among places (long_place f)) before f later (long_parts s places (before ++ f ∷ []) later) place last own here
    ]
  where
    here : long_place f ≡ place
    here = ap long_place same ∙ at

    own : (t f.kind ≡ true) ⊎ HasPrimary before place
    own = elim why [ inl passes ↦ inl (ap (λ (d : LineAnnotation). t d.kind) same ∙ passes) | inr other ↦ inr other ]

    next : (g : LineAnnotation) → (t g.kind ≡ true) ⊎ HasPrimary (before ++ f ∷ []) place
    next g =
        elim own [
          | inl passes ↦ elim (choice.others f.kind passes) [
            | inl primary ↦ inr (record { span = f; among = among_right before (f ∷ []) f (inl refl); primary = primary; same = here })
            | inr all ↦ inl (all g.kind)
          ]
          | inr other ↦ inr (more-primary before f place other)
        ]

-- ---- and none before

-- an entry stands at the start of a span of a chosen kind or after it
pub record IsReached (t : AnnotationKind → Bool) (before later : List LineAnnotation) (part : LineAnnotation) : Type 0 where
  pub span : LineAnnotation
  pub among : Among before span ⊎ Among later span
  pub passes : t span.kind ≡ true
  pub by : IsBy span.start part.start

-- a span that is drawn in a chosen kind has it, or another one of its place
record IsDrawnAs (t : AnnotationKind → Bool) (before later : List LineAnnotation) (e : LineAnnotation) : Type 0 where
  pub span : LineAnnotation
  pub among : Among before span ⊎ Among later span
  pub passes : t span.kind ≡ true
  pub start : span.start ≡ e.start

drawn-as : (t : AnnotationKind → Bool) → IsChoice t → (s : Source) (before : List LineAnnotation) (e : LineAnnotation) (later : List LineAnnotation)
    → ((d : LineAnnotation) → Among before d → IsSeen s d) → IsSeen s e → t (promoted before e).kind ≡ true → IsDrawnAs t before (e ∷ later) e
drawn-as t choice s before e later seen here passes = grind (arith, primary-passes, any_cases, and_parts, same_start, same-true, cond-false)

span-reached : (t : AnnotationKind → Bool) → IsChoice t
    → (s : Source) (depth : ℕ) (before : List LineAnnotation) (e : LineAnnotation) (later : List LineAnnotation)
    → ((d : LineAnnotation) → Among before d → IsSeen s d) → IsSeen s e
    → HoldsOfSpan (λ p. t p.kind ≡ true → IsReached t before (e ∷ later) p) s depth (promoted before e)
span-reached t choice s depth before e later seen here =
    record {
      start = λ passes. reach passes (start_part (promoted before e) depth) (λ from.
          by-same from.span.start (promoted before e).start (from.start ∙ sym (promoted-start before e)));
      bars = All-weaker (IsBarLine s.text ((promoted before e).start.line - s.first) ((promoted before e).end.line - s.first))
          (λ k. t (promoted before e).kind ≡ true → IsReached t before (e ∷ later) (bar_part (promoted before e) depth (s.first + k)))
          (λ k bar passes. reach passes (bar_part (promoted before e) depth (s.first + k))
          (λ from. by-above from.span.start (bar_part (promoted before e) depth (s.first + k)).start (omega (arith, bar.from, line from))))
          (bar_lines s.text ((promoted before e).start.line - s.first) ((promoted before e).end.line - s.first))
          (bar_lines-stand s.text ((promoted before e).start.line - s.first) ((promoted before e).end.line - s.first));
      end = λ passes. reach passes (end_part (promoted before e) (MultilineEnd depth)) (λ from.
          by-above from.span.start (end_part (promoted before e) (MultilineEnd depth)).start (omega (arith, line from, below)));
      again = λ passes. reach passes (end_part (promoted before e) Singleline) (λ from.
          by-above from.span.start (end_part (promoted before e) Singleline).start (omega (arith, line from, below)));
    }
  where
    below : (promoted before e).start.line < (promoted before e).end.line
    below = omega (arith, here.later, ap (λ (l : Loc). l.line) (promoted-start before e), ap (λ (l : Loc). l.line) (promoted-end before e))

    line : (from : IsDrawnAs t before (e ∷ later) e) → from.span.start.line ≡ (promoted before e).start.line
    line from = ap (λ (l : Loc). l.line) (from.start ∙ sym (promoted-start before e))

    reach : t (promoted before e).kind ≡ true → (p : LineAnnotation) → ((from : IsDrawnAs t before (e ∷ later) e) → IsBy from.span.start p.start)
        → IsReached t before (e ∷ later) p
    reach passes p by =
        let from = drawn-as t choice s before e later seen here passes in
        record { span = from.span; among = from.among; passes = from.passes; by = by from }

-- a part of the chosen kind is reached from a span of that kind
pub reached : (t : AnnotationKind → Bool) → IsChoice t → (s : Source) (places : List LongExtent) (before later : List LineAnnotation)
    → ((d : LineAnnotation) → Among before d → IsSeen s d) → ((d : LineAnnotation) → Among later d → IsSeen s d)
    → All (λ p. t p.kind ≡ true → IsReached t before later p) (long_parts s places before later)
reached t choice s places before [] seen to-come = All-nil (λ p. t p.kind ≡ true → IsReached t before [] p)
reached t choice s places before (e ∷ later) seen to-come =
    let P = λ (p : LineAnnotation). t p.kind ≡ true → IsReached t before (e ∷ later) p in
    let first : List LineAnnotation = span_parts s (depth_among places (long_place e)) (stands_among e later) (promoted before e) in
    let others : List LineAnnotation = long_parts s places (before ++ e ∷ []) later in
    All-append P first others
    (span-all P s (depth_among places (long_place e)) (stands_among e later) (promoted before e)
    (span-reached t choice s (depth_among places (long_place e)) before e later seen (to-come e (inl refl))))
    (All-weaker (λ p. t p.kind ≡ true → IsReached t (before ++ e ∷ []) later p) P (λ p given passes.
    moved p (given passes)) others (reached t choice s places (before ++ e ∷ []) later seen-more (λ d among. to-come d (inr among))))
  where
    seen-more : (d : LineAnnotation) → Among (before ++ e ∷ []) d → IsSeen s d
    seen-more d among =
        elim (append_cases before (e ∷ []) d among) [
          | inl early ↦ seen d early
          | inr (inl same) ↦ subst (IsSeen s) same (to-come e (inl refl))
          | inr (inr none) ↦ absurd none
        ]

    where-now : (d : LineAnnotation) → Among (before ++ e ∷ []) d ⊎ Among later d → Among before d ⊎ Among (e ∷ later) d
    where-now d (inl early) =
        elim (append_cases before (e ∷ []) d early) [
          | inl there ↦ inl there
          | inr (inl same) ↦ inr (inl same)
          | inr (inr none) ↦ absurd none
        ]
    where-now d (inr late) = inr (inr late)

    moved : (p : LineAnnotation) → IsReached t (before ++ e ∷ []) later p → IsReached t before (e ∷ later) p
    moved p rest = record { span = rest.span; among = where-now rest.span rest.among; passes = rest.passes; by = rest.by }
