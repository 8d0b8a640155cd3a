-- What stands on a line that is kept: of each span that begins or ends there an entry.
use Rattle.snippet_parts.proofs.Common.{common_steps, ◌≡◌, ℕ, ◌+◌, ◌-◌, ◌⊎◌, Bool, true, false, ◌||◌, not, eqb, leb, List, [], ◌∷◌, ◌++◌, map, length, get_or}
use Rattle.snippet_parts.proofs.Common.{inl, inr, refl, sym, ap, subst, ◌∙◌, arith, All, Contains, filter, list_any, and_parts, cases_Bool, cond_both, eqb-true}
use Rattle.snippet_parts.proofs.Common.{eq-eqb, leb-true, get_or-map, length-map, map-map, All-head, All-tail, All-map, All-contains, Contains-append_left}
use Rattle.snippet_parts.proofs.Common.{Contains-append_right, filter-append, Annotation, LineAnnotation, LongExtent, AnnotatedLineInfo, Singleline}
use Rattle.snippet_parts.proofs.Common.{MultilineStart, MultilineEnd, Loc, KeptLine, kept_line, annotated_lines, is_long, long_entry, long_place, long_spans}
use Rattle.snippet_parts.proofs.Common.{long_parts, depth_of, single_part, start_part, end_part, span_parts, parts_on, promoted, put_in, ordered_by}
use Rattle.snippet_parts.proofs.Common.{depth_among, same_place, Ascends, kept_lines, Source, is_marking, touches, first_line, last_line, numbers_of_lines}
use Rattle.snippet_parts.proofs.Common.{AreEntriesOn, seen_kept, locations_of, start_location, end_location, location_of, IsSpan, is_seen, line_of-within}
use Rattle.snippet_parts.proofs.RawDepthLemmas.{same-true, same-refl}
use Rattle.snippet_parts.proofs.EntryFacts.{each-line, entries-parts_on, longs-off, singles-on}
use Rattle.snippet_parts.proofs.KeptPartLemmas.{any-member, keeps-unmarked}
use Rattle.snippet_parts.proofs.MarkLemmas.{start-line, end-line}
use Rattle.snippet_parts.proofs.PartLemmas.{All-order}
use Rattle.snippet_parts.proofs.ShownFacts.{contains-cases, contains-filter, contains-here, contains-there, first_kept, last_kept, span-kept, kept-ascends}
use Rattle.snippet_parts.proofs.StartByte.{start_byte as start-byte}
use Rattle.snippet_parts.proofs.LongStarts.{promoted-start, promoted-end}
use Rattle.snippet_parts.proofs.PartWords.{is_short, long_places, stands_among, stands_before}

-- ---- elements

contains-map : {X Y : Type 0} (f : X → Y) (x : X) (xs : List X) → Contains xs x → Contains (map f xs) (f x)
contains-map f x [] among = absurd (omega (arith, among.1))
contains-map f x (y ∷ xs) among = grind (arith, common_steps, contains-cases, contains-there)

contains-put-new : {X : Type 0} (before : X → X → Bool) (x : X) (ys : List X) → Contains (put_in before x ys) x
contains-put-new before x [] = contains-here x x [] refl
contains-put-new before x (y ∷ ys) =
    cond_both (before y x) (y ∷ put_in before x ys) (x ∷ y ∷ ys) (λ zs. Contains zs x) (λ _.
    contains-there x y (put_in before x ys) (contains-put-new before x ys)) (λ _. contains-here x x (y ∷ ys) refl)

contains-put-old : {X : Type 0} (before : X → X → Bool) (x z : X) (ys : List X) → Contains ys z → Contains (put_in before x ys) z
contains-put-old before x z [] among = absurd (omega (arith, among.1))
contains-put-old before x z (y ∷ ys) among =
    cond_both (before y x) (y ∷ put_in before x ys) (x ∷ y ∷ ys) (λ zs. Contains zs z)
    (λ _. elim (contains-cases z y ys among) [
      | inl same ↦ contains-here z y (put_in before x ys) same
      | inr later ↦ contains-there z y (put_in before x ys) (contains-put-old before x z ys later)
    ])
    (λ _. contains-there z x (y ∷ ys) among)

contains-order : {X : Type 0} (before : X → X → Bool) (z : X) (xs : List X) → Contains xs z → Contains (ordered_by before xs) z
contains-order before z [] among = among
contains-order before z (x ∷ xs) among =
    elim (contains-cases z x xs among) [
      | inl same ↦ subst (Contains (put_in before x (ordered_by before xs))) same (contains-put-new before x (ordered_by before xs))
      | inr later ↦ contains-put-old before x z (ordered_by before xs) (contains-order before z xs later)
    ]

-- each span of several lines stands in their order
long_among : (s : Source) (marks : List Annotation) (a : Annotation) → Contains marks a → is_long s.text a ≡ true
    → Contains (long_spans s marks) (long_entry s a)
long_among s marks a among long =
    contains-order stands_before (long_entry s a) (map (long_entry s) (filter (is_long s.text) marks))
    (contains-map (long_entry s) a (filter (is_long s.text) marks) (contains-filter (is_long s.text) a marks long among))

-- ---- places

-- an entry stands where the span of its bytes does
record IsPlaced (s : Source) (e : LineAnnotation) : Type 0 where
  pub start : e.start ≡ (locations_of s e.start.byte e.end.byte).0
  pub end : e.end ≡ (locations_of s e.start.byte e.end.byte).1

end-byte : (s : Source) (a : Annotation) → (long_entry s a).end.byte ≡ a.span.end
unfolding locations_of start_location end_location location_of
end-byte s a = grind (arith, cond_both, eqb-true)

long-placed : (s : Source) (a : Annotation) → IsPlaced s (long_entry s a)
long-placed s a = record {
  start = ap (λ b. (locations_of s b a.span.end).0) (sym (start-byte s a)) ∙ ap (λ b. (locations_of s (long_entry s a).start.byte b).0) (sym (end-byte s a));
  end = ap (λ b. (locations_of s b a.span.end).1) (sym (start-byte s a)) ∙ ap (λ b. (locations_of s (long_entry s a).start.byte b).1) (sym (end-byte s a));
}

-- spans of one place start and end at the same locations
same_start : (s : Source) (d e : LineAnnotation) → IsPlaced s d → IsPlaced s e → long_place d ≡ long_place e → d.start ≡ e.start
same_start s d e dp ep same = dp.start ∙ ap (λ (p : LongExtent). (locations_of s p.from p.to).0) same ∙ sym ep.start

same_end : (s : Source) (d e : LineAnnotation) → IsPlaced s d → IsPlaced s e → long_place d ≡ long_place e → d.end ≡ e.end
same_end s d e dp ep same = dp.end ∙ ap (λ (p : LongExtent). (locations_of s p.from p.to).1) same ∙ sym ep.end

-- ---- the entries of one span

drawn-label : (before : List LineAnnotation) (e : LineAnnotation) → (promoted before e).label ≡ e.label
drawn-label before e = grind (arith, cond_both)

-- an entry starts, on its line, where a span does, at a depth
record StartsAt (start : Loc) (depth : ℕ) (p : LineAnnotation) : Type 0 where
  pub start_is : p.start ≡ start
  pub part : p.annotation_type ≡ MultilineStart depth

-- an entry stands on the last line of a span, ends where it ends, and closes it at a depth
record EndsAt (end : Loc) (depth : ℕ) (p : LineAnnotation) : Type 0 where
  pub line : p.start.line ≡ end.line
  pub end_is : p.end ≡ end
  pub part : p.annotation_type ≡ MultilineEnd depth

-- an entry stands on the last line of a span, ends where it ends, and has its label
record SaysOf (e : LineAnnotation) (depth : ℕ) (p : LineAnnotation) : Type 0 where
  pub line : p.start.line ≡ e.end.line
  pub end_is : p.end ≡ e.end
  pub label : p.label ≡ e.label
  pub part : (p.annotation_type ≡ MultilineEnd depth) ⊎ (p.annotation_type ≡ Singleline)

-- some entries have one that starts at a place, and one that closes there
record HasBounds (start end : Loc) (depth : ℕ) (parts : List LineAnnotation) : Type 0 where
  pub begun : (p : LineAnnotation) × Contains parts p × StartsAt start depth p
  pub closed : (p : LineAnnotation) × Contains parts p × EndsAt end depth p

span-bounds : (s : Source) (depth : ℕ) (again : Bool) (e : LineAnnotation) → again ≡ false → HasBounds e.start e.end depth (span_parts s depth again e)
span-bounds s depth true e last = cc
span-bounds s depth false e last = record {
  begun = (start_part e depth, contains-here (start_part e depth) (start_part e depth) _ refl, record { start_is = refl; part = refl });
  closed = (
    end_part e (MultilineEnd depth),
    contains-there (end_part e (MultilineEnd depth)) (start_part e depth)
        _ (Contains-append_right _ (end_part e (MultilineEnd depth) ∷ []) (end_part e (MultilineEnd depth))
        (contains-here (end_part e (MultilineEnd depth)) (end_part e (MultilineEnd depth)) [] refl)),
    record { line = refl; end_is = refl; part = refl },
  );
}

span-says : (s : Source) (depth : ℕ) (again : Bool) (e : LineAnnotation) → (p : LineAnnotation) × Contains (span_parts s depth again e) p × SaysOf e depth p
span-says s depth true e = (
  end_part e Singleline,
  contains-here (end_part e Singleline) (end_part e Singleline) [] refl,
  record
      { line = refl; end_is = refl; label = refl; part = inr refl },
)
span-says s depth false e = (
  end_part e (MultilineEnd depth),
  contains-there (end_part e (MultilineEnd depth)) (start_part e depth)
      _ (Contains-append_right _ (end_part e (MultilineEnd depth) ∷ []) (end_part e (MultilineEnd depth))
      (contains-here (end_part e (MultilineEnd depth)) (end_part e (MultilineEnd depth)) [] refl)),
  record { line = refl; end_is = refl; label = refl; part = inl refl },
)

-- ---- the entries of all spans of several lines

-- the last span of a place begins it and closes it
bounds-among : (s : Source) (places : List LongExtent) (before es : List LineAnnotation) (e : LineAnnotation) → All (IsPlaced s) es → IsPlaced s e
    → list_any (λ d. same_place (long_place e) (long_place d)) es ≡ true
    → HasBounds e.start e.end (depth_among places (long_place e)) (long_parts s places before es)
bounds-among s places before [] e all placed among = cc
bounds-among s places before (d ∷ later) e all placed among =
    let depth : ℕ = depth_among places (long_place d) in
    let again : Bool = stands_among d later in
    let own : List LineAnnotation = span_parts s depth again (promoted before d) in
    let rest : List LineAnnotation = long_parts s places (before ++ d ∷ []) later in
    elim (cases_Bool (stands_among e later)) [
      | inl t ↦
          let bounds : HasBounds e.start e.end (depth_among places (long_place e)) rest = bounds-among s places (before ++ d ∷ []) later e
          (All-tail (IsPlaced s) d later all) placed t in
          record {
            begun = (bounds.begun.0, Contains-append_right own rest bounds.begun.0 bounds.begun.1, bounds.begun.2);
            closed = (bounds.closed.0, Contains-append_right own rest bounds.closed.0 bounds.closed.1, bounds.closed.2);
          }
      | inr f ↦
          let same : long_place e ≡ long_place d = same-true (long_place e) (long_place d)
          (or_not (same_place (long_place e) (long_place d)) (stands_among e later) among f) in
          let last : again ≡ false = ap (λ p. list_any (λ c. same_place p (long_place c)) later) (sym same) ∙ f in
          let here : HasBounds (promoted before d).start (promoted before d).end depth own = span-bounds s depth again (promoted before d) last in
          let d-placed : IsPlaced s d = All-head (IsPlaced s) d later all in
          let start : (promoted before d).start ≡ e.start = promoted-start before d ∙ same_start s d e d-placed placed (sym same) in
          let end : (promoted before d).end ≡ e.end = promoted-end before d ∙ same_end s d e d-placed placed (sym same) in
          let deep : depth ≡ depth_among places (long_place e) = ap (depth_among places) (sym same) in
          record {
            begun = (
              here.begun.0,
              Contains-append_left own rest here.begun.0 here.begun.1,
              record
                  { start_is = here.begun.2.start_is ∙ start; part = here.begun.2.part ∙ ap MultilineStart deep },
            );
            closed = (
              here.closed.0,
              Contains-append_left own rest here.closed.0 here.closed.1,
              record {
                line = here.closed.2.line ∙ ap (λ (l : Loc). l.line) end;
                end_is = here.closed.2.end_is ∙ end;
                part = here.closed.2.part
                    ∙ ap MultilineEnd deep;
              },
            );
          }
    ]
  where
    or_not : (a b : Bool) → (a || b) ≡ true → b ≡ false → a ≡ true
    or_not true b t f = refl
    or_not false b t f = cc

-- each span has an entry with its label
says-among : (s : Source) (places : List LongExtent) (before es : List LineAnnotation) (e : LineAnnotation) → Contains es e
    → (p : LineAnnotation) × Contains (long_parts s places before es) p × SaysOf e (depth_among places (long_place e)) p
says-among s places before [] e among = absurd (omega (arith, among.1))
says-among s places before (d ∷ later) e among =
    let own : List LineAnnotation = span_parts s (depth_among places (long_place d)) (stands_among d later) (promoted before d) in
    let rest : List LineAnnotation = long_parts s places (before ++ d ∷ []) later in
    elim (contains-cases e d later among) [
      | inl same ↦
          let here : (p : LineAnnotation) × Contains own p × SaysOf (promoted before d) (depth_among places (long_place d)) p = span-says s
          (depth_among places (long_place d)) (stands_among d later) (promoted before d) in
          let says : SaysOf d (depth_among places (long_place d)) here.0 = record {
            line = here.2.line ∙ ap (λ (l : Loc). l.line) (promoted-end before d);
            end_is = here.2.end_is ∙ promoted-end before d;
            label = here.2.label
                ∙ drawn-label before d;
            part = here.2.part;
          } in
          (here.0, Contains-append_left own rest here.0 here.1, subst (λ (c : LineAnnotation). SaysOf c (depth_among places (long_place c)) here.0) same says)
      | inr further ↦
          let found : (p : LineAnnotation) × Contains rest p × SaysOf e (depth_among places (long_place e)) p = says-among s places
          (before ++ d ∷ []) later e further in
          (found.0, Contains-append_right own rest found.0 found.1, found.2)
    ]

-- ---- the entries of a line

on_line : Source → ℕ → LineAnnotation → Bool
on_line s k p = eqb p.start.line (s.first + k)

all-longs : Source → List Annotation → List LineAnnotation
all-longs s marks = long_parts s (long_places s marks) [] (long_spans s marks)

-- an entry of these that stands on line k is among the line's others
others-among : (s : Source) (marks : List Annotation) (k n : ℕ) (p : LineAnnotation) → Contains (all-longs s marks) p → p.start.line ≡ s.first + n → n ≡ k
    → Contains (filter (on_line s k) (all-longs s marks)) p
unfolding on_line
others-among s marks k n p among line here = grind (arith, contains-filter, on_line, eq-eqb)

-- the entries that are made for line k
pub parts-on-line : (s : Source) (marks : List Annotation) (k : ℕ) → All (λ a. IsSpan s.text a.span.start a.span.end) marks
    → AreEntriesOn s marks k (parts_on s marks k)
unfolding all-longs on_line
parts-on-line s marks k spans = record {
  others = filter (on_line s k) (all-longs s marks);
  singles_first = filter-append (on_line s k) (map (single_part s) (filter (is_short s.text) marks)) (all-longs s marks)
      ∙ ap (λ ps. ps ++ filter (on_line s k) (all-longs s marks)) (singles-on s marks k);
  none_untouched = longs-off s marks k spans;
  begun = λ a among long here.
      let found : HasBounds (long_entry s a).start (long_entry s a).end (depth_of s marks a) (all-longs s marks) = bounds a among long in (
        found.begun.0,
        others-among s marks k (first_line s.text a) found.begun.0 found.begun.1
            (ap (λ (l : Loc). l.line) found.begun.2.start_is ∙ start-line s a.span.start a.span.end) here,
        record
            { start = found.begun.2.start_is; part = found.begun.2.part },
      );
  closed = λ a among long here.
      let found : HasBounds (long_entry s a).start (long_entry s a).end (depth_of s marks a) (all-longs s marks) = bounds a among long in (
        found.closed.0,
        others-among s marks k (last_line s.text a) found.closed.0 found.closed.1
            (found.closed.2.line ∙ end-line s a.span.start a.span.end) here,
        record { end = found.closed.2.end_is; part = found.closed.2.part },
      );
  labelled = λ a among long here.
      let found : (p : LineAnnotation) × Contains (all-longs s marks) p × SaysOf (long_entry s a) (depth_of s marks a) p = says-among s (long_places s marks) []
      (long_spans s marks) (long_entry s a) (long_among s marks a among long) in (
        found.0,
        others-among s marks k (last_line s.text a) found.0 found.1 (found.2.line ∙ end-line s a.span.start a.span.end) here,
        record
            { end = found.2.end_is; label = found.2.label; part = found.2.part },
      );
}
  where
    all-placed : All (IsPlaced s) (long_spans s marks)
    all-placed =
        All-order stands_before (IsPlaced s) (map (long_entry s) (filter (is_long s.text) marks))
        (All-map (IsPlaced s) (long_entry s) (filter (is_long s.text) marks) (λ i d within. long-placed s (get_or (filter (is_long s.text) marks) i d)))

    bounds : (a : Annotation) → Contains marks a → is_long s.text a ≡ true
        → HasBounds (long_entry s a).start (long_entry s a).end (depth_of s marks a) (all-longs s marks)
    bounds a among long =
        let e : LineAnnotation = long_entry s a in
        bounds-among s (long_places s marks) [] (long_spans s marks) e all-placed (long-placed s a)
        (any-member (λ d. same_place (long_place e) (long_place d)) (long_spans s marks) e (long_among s marks a among long) (same-refl (long_place e)))

-- ---- the lines by what is seen of them

ascends-from : (first : ℕ) (ks : List ℕ) → Ascends ks → Ascends (map (λ k. first + k) ks)
ascends-from first ks ascends i j d less within =
    let n : length (map (λ k. first + k) ks) ≡ length ks = length-map ks (λ k. first + k) in
    omega (arith, get_or-map (λ k. first + k) ks i d d (omega arith), get_or-map (λ k. first + k) ks j d d (omega arith), ascends i j d less (omega arith))

module _ (fold : Bool) (s : Source) (marks : List Annotation) (infos : List AnnotatedLineInfo)
    (lines : map seen_kept infos ≡ annotated_lines fold s marks) where
  -- the numbers are those of the lines that are kept
  numbers : numbers_of_lines infos ≡ map (λ k. s.first + k) (kept_lines fold s.text marks)
  numbers =
      sym (map-map (λ (l : KeptLine). l.number) seen_kept infos) ∙ ap (map (λ (l : KeptLine). l.number)) lines
      ∙ map-map (λ (l : KeptLine). l.number) (kept_line s marks) (kept_lines fold s.text marks)

  -- the numbers of the lines ascend
  pub lines-ascend : Ascends (numbers_of_lines infos)
  lines-ascend = subst Ascends (sym numbers) (ascends-from s.first (kept_lines fold s.text marks) (kept-ascends fold s.text marks))

  -- a line that is kept has its number among them
  number-among : (k : ℕ) → Contains (kept_lines fold s.text marks) k → Contains (numbers_of_lines infos) (s.first + k)
  number-among k among =
      subst (λ ns. Contains ns (s.first + k)) (sym numbers) (contains-map (λ n. s.first + n) k (kept_lines fold s.text marks) among)

  -- a line says that it is kept where a span that isn't marked touches it
  pub lines-kept : All (λ info. info.keep ≡ list_any (is_seen s.text (info.line_index - s.first)) marks) infos
  lines-kept =
      each-line (λ info. info.keep ≡ list_any (is_seen s.text (info.line_index - s.first)) marks) s marks (kept_lines fold s.text marks) infos lines
      (λ i d within info seen. let k : ℕ = get_or (kept_lines fold s.text marks) i d in
      ap (λ (l : KeptLine). l.keep) seen ∙ ap (λ n. list_any (is_seen s.text n) marks) (sym (index-of k info seen)))
    where
      index-of : (k : ℕ) (info : AnnotatedLineInfo) → seen_kept info ≡ kept_line s marks k → info.line_index - s.first ≡ k
      index-of k info seen = let at : info.line_index ≡ s.first + k = ap (λ (l : KeptLine). l.number) seen in omega arith

  module _ (spans : All (λ a. IsSpan s.text a.span.start a.span.end) marks) where
    -- the line on which a span begins is kept,
    pub first-line-among : (a : Annotation) → Contains marks a → Contains (numbers_of_lines infos) (s.first + first_line s.text a)
    first-line-among a among =
        number-among (first_line s.text a) (first_kept fold s.text marks a among
        (All-contains (λ a. IsSpan s.text a.span.start a.span.end) marks a spans among))

    -- the one on which it ends,
    pub last-line-among : (a : Annotation) → Contains marks a → Contains (numbers_of_lines infos) (s.first + last_line s.text a)
    last-line-among a among =
        number-among (last_line s.text a) (last_kept fold s.text marks a among (All-contains (λ a. IsSpan s.text a.span.start a.span.end) marks a spans among))

    -- and each that a span touches which isn't marked
    pub seen-line-among : (a : Annotation) → Contains marks a → (k : ℕ) → is_seen s.text k a ≡ true → Contains (numbers_of_lines infos) (s.first + k)
    seen-line-among a among k seen =
        let parts = and_parts (not (is_marking a.kind)) (touches s.text a k) seen in
        let there = and_parts (leb (first_line s.text a) k) (leb k (last_line s.text a)) parts.1 in
        number-among k (span-kept fold s.text marks a k among (omega (arith, leb-true k (last_line s.text a) there.1, line_of-within s.text a.span.end))
        (keeps-unmarked s.text a k parts.0 parts.1))

    -- the entries of each kept line are those of the spans on it
    pub lines-entries : All (λ info. AreEntriesOn s marks (info.line_index - s.first) info.annotations.items) infos
    lines-entries =
        each-line (λ info. AreEntriesOn s marks (info.line_index - s.first) info.annotations.items) s marks
        (kept_lines fold s.text marks) infos lines (λ i d within info seen. on (get_or (kept_lines fold s.text marks) i d) info seen)
      where
        on : (k : ℕ) (info : AnnotatedLineInfo) → seen_kept info ≡ kept_line s marks k
            → AreEntriesOn s marks (info.line_index - s.first) info.annotations.items
        on k info seen =
            let at : info.line_index ≡ s.first + k = ap (λ (l : KeptLine). l.number) seen in
            let is : k ≡ info.line_index - s.first = omega arith in
            subst (λ n. AreEntriesOn s marks n info.annotations.items) is
            (subst (AreEntriesOn s marks k) (sym (entries-parts_on s marks k info seen)) (parts-on-line s marks k spans))
