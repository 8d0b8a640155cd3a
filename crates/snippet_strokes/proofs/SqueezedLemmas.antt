-- What is known of a line from which the middles of wide spans are cut out before anything is placed.
use Rattle.snippet_strokes.proofs.Common.{◌≡◌, ◌∙◌, ℕ, zero, suc, ◌+◌, ◌-◌, ◌≤◌, ◌/◌, Bool, true, false, cond, List, [], ◌∷◌, All, Option, Some}
use Rattle.snippet_strokes.proofs.Common.{None, fold, length, map, max, refl, sym, ap, subst, inl, inr, arith, cases_Bool, cond-true, cond-false}
use Rattle.snippet_strokes.proofs.Common.{and_parts, or_parts, nat_tests, AllPass-from_list_all, All-map, list_any, sum_by-cons}
use Rattle.snippet_strokes.proofs.Common.{count_by, get_or, list_any-map, option_map_or, range_with_len, Layout, Cell, LineAnnotation, HasPlace}
use Rattle.snippet_strokes.proofs.Common.{AreDrawable, DecorStyle, Ascii, Unicode, if◌then◌else◌, placeholder_of, is_wide_entry, is_single_part, list_all}
use Rattle.std.specs.Prelude.{◌&&◌, ◌||◌, ◌==◌, ◌*◌, nat_le, nat_lt, Err, IfSome, Ok, OnOk, Result}
use Rattle.std.specs.List.{slice_get}
use native.Mathlib.Nat.{div-add-mod'}
use Rattle.snippet_text.specs.TextBounds.{TextFits}
use Rattle.snippet_labels.specs.Pieces.{breaks_labels}
use Rattle.snippet_strokes.specs.Cuts.{end_columns, middle_replaced}
use Rattle.snippet_strokes.specs.Drawable.{HasBarCell}
use Rattle.snippet_strokes.specs.Squeezed.{gives_way, is_clear_of, middles_replaced, past_middle, squeezed, without_middle}
use Rattle.snippet_strokes.proofs.CutLemmas.{IsCut-more, IsCut-none, IsCut-replaced, cells_replaced_here}
use Rattle.snippet_strokes.proofs.Common.{◌++◌, LineNumber, cells_replaced, code_cell, length_push, map-id, map-range_with_len_more, text_cells}
use Rattle.snippet_strokes.proofs.Common.{shifted}
use Rattle.snippet_strokes.proofs.SeenRows.{IsCut, wide_entries}

-- ---- columns

-- a column where what stood from one on stands from another on
abbrev moved : ℕ → ℕ → ℕ → ℕ
moved from to c = if nat_lt c to then c else c - to + from

moved_less : (from to c : ℕ) → from ≤ to → moved from to c ≤ c
moved_less from to c less = grind (arith, nat_tests)

-- the first column of an entry is outside a middle, and the last one
abbrev BeginsOut : ℕ → ℕ → ℕ → Type 0
BeginsOut start to c = (nat_lt c start || nat_le to c) ≡ true

abbrev EndsOut : ℕ → ℕ → ℕ → Type 0
EndsOut start to d = (nat_le d start || nat_lt to d) ≡ true

moved_ordered : (start from to c d : ℕ) → start ≤ from → BeginsOut start to c → c ≤ d → moved from to c ≤ moved from to d
moved_ordered start from to c d after out less = grind (arith, nat_tests)

width_less : (start from to c d : ℕ) → start ≤ from → from ≤ to → BeginsOut start to c → EndsOut start to d
    → moved from to d - moved from to c ≤ d - c
width_less start from to c d after less out out_d = grind (arith, nat_tests)

-- a width that is wide has room for the placeholder between its ends, and is wide no more without its middle
module _ (room plen s e : ℕ) (few : plen ≤ 3) where
  abbrev kept : ℕ
  kept = max 5 (room / 3)

  wide_room : nat_lt (2 * room) (e - s) ≡ true → nat_lt (10 + plen) (e - s) ≡ true → s + kept + plen + kept ≤ e
  wide_room wide more =
      let third = div-add-mod' room 3 in
      grind (arith, nat_tests, third)

  wide_once : s + kept + plen + kept ≤ e
      → (let width = moved (s + kept + plen) (e - kept) e - moved (s + kept + plen) (e - kept) s in
      nat_lt (2 * room) width && nat_lt (10 + plen) width) ≡ false
  wide_once wide =
      let third = div-add-mod' room 3 in
      grind (arith, nat_tests, third)

-- the placeholder is short
short_placeholder : (decor : DecorStyle) → length (placeholder_of decor) ≤ 3
short_placeholder Ascii = omega arith
short_placeholder Unicode = omega arith

-- ---- entries

module _ (decor : DecorStyle) (room : ℕ) (e : LineAnnotation) (wide : is_wide_entry room (length (placeholder_of decor)) e ≡ true) where
  abbrev plen : ℕ
  plen = length (placeholder_of decor)

  abbrev start : ℕ
  start = e.start.display + end_columns room

  abbrev to : ℕ
  to = e.end.display - end_columns room

  has_room : start + plen + end_columns room ≤ e.end.display
  has_room =
      let width : ℕ = e.end.display - e.start.display in
      let parts = and_parts (is_single_part e.annotation_type && nat_lt (2 * room) width) (nat_lt (10 + plen) width) wide in
      let first = and_parts (is_single_part e.annotation_type) (nat_lt (2 * room) width) parts.0 in
      wide_room room plen e.start.display e.end.display (short_placeholder decor) first.1 parts.1

  pub middle_room : start + plen ≤ to
  middle_room = omega (arith, has_room)

  -- an entry that is clear of its middle
  module _ (f : LineAnnotation) (clear : is_clear_of room e f ≡ true) where
    outs : BeginsOut start to f.start.display × EndsOut start to f.end.display
    outs = and_parts (nat_lt f.start.display start || nat_le to f.start.display) (nat_le f.end.display start || nat_lt to f.end.display) clear

    -- has its place past it
    pub past_place : HasPlace f → HasPlace (past_middle decor room e f)
    past_place place = record {
      ordered = moved_ordered start (start + plen) to f.start.display f.end.display (omega arith) outs.0 place.ordered;
      near = omega (arith, place.near, moved_less (start + plen) to f.end.display middle_room);
    }

    -- and is wide only if it was so
    pub past_wide : is_wide_entry room plen (past_middle decor room e f) ≡ true → is_wide_entry room plen f ≡ true
    past_wide is =
        let less = width_less start (start + plen) to f.start.display f.end.display (omega arith) middle_room outs.0 outs.1 in
        grind (arith, nat_tests, less)

  -- the entry itself is wide no more
  pub past_itself : is_wide_entry room plen (past_middle decor room e e) ≡ false
  past_itself =
      let once = wide_once room plen e.start.display e.end.display (short_placeholder decor) has_room in
      by_type (is_single_part e.annotation_type) _ _ once
    where
      by_type : (a b c : Bool) → (b && c) ≡ false → ((a && b) && c) ≡ false
      by_type true b c none = none
      by_type false b c none = refl

-- ---- how many are wide

-- one that passes, or none
abbrev unit : Bool → ℕ
unit b = cond b 1 0

unit_less : (a b : Bool) → (a ≡ true → b ≡ true) → unit a ≤ unit b
unit_less true b same = omega (arith, ap unit (same refl))
unit_less false b same = omega arith

module _ {X : Type 0} (p : X → Bool) (g : X → X) where
  no_more : (xs : List X) → All (λ y. p (g y) ≡ true → p y ≡ true) xs → count_by p (map g xs) ≤ count_by p xs
  no_more [] each = omega arith
  no_more (x ∷ xs) each =
      let one : X → ℕ = λ y. unit (p y) in
      let rest = no_more xs (λ k d within. each (suc k) d (omega (arith, within))) in
      omega (arith, sum_by-cons one (g x) (map g xs), sum_by-cons one x xs, rest, unit_less (p (g x)) (p x) (each 0 x (omega arith)))

  fewer : (xs : List X) (k : ℕ) (x : X) → All (λ y. p (g y) ≡ true → p y ≡ true) xs → slice_get xs k ≡ Some x → p x ≡ true → p (g x) ≡ false
      → count_by p (map g xs) + 1 ≤ count_by p xs
  fewer [] k x each there so none = cc
  fewer (y ∷ xs) zero x each there so none =
      let one : X → ℕ = λ z. unit (p z) in
      let same : y ≡ x = cc in
      let own : unit (p y) ≡ unit true = ap (λ z. unit (p z)) same ∙ ap unit so in
      let past : unit (p (g y)) ≡ unit false = ap (λ z. unit (p (g z))) same ∙ ap unit none in
      omega (arith, sum_by-cons one (g y) (map g xs), sum_by-cons one y xs, no_more xs (λ k d within. each (suc k) d (omega (arith, within))), own, past)
  fewer (y ∷ xs) (suc k) x each there so none =
      let one : X → ℕ = λ z. unit (p z) in
      let rest = fewer xs k x (λ k d within. each (suc k) d (omega (arith, within))) there so none in
      omega (arith, sum_by-cons one (g y) (map g xs), sum_by-cons one y xs, rest, unit_less (p (g y)) (p y) (each 0 y (omega arith)))

-- ---- lines

abbrev pub Line : Type 0
Line = List LineAnnotation × List LineAnnotation

module _ (layout : Layout) (room : ℕ) where
  abbrev wide : LineAnnotation → Bool
  wide = is_wide_entry room (length (placeholder_of layout.decor))

  -- whether an entry of a line gives way, and the line without its middle
  abbrev pub gives : List LineAnnotation → LineAnnotation → Bool
  gives es e = gives_way layout.decor room es e

  abbrev pub cut_out : Line → LineAnnotation → Line
  cut_out line e = (map (past_middle layout.decor room e) line.0, line.1 ++ e ∷ [])

  -- what an entry that gives way is
  gives_parts : (es : List LineAnnotation) (e : LineAnnotation) → gives es e ≡ true → (wide e ≡ true) × All (λ f. is_clear_of room e f ≡ true) es
  gives_parts es e so =
      let is_even = e.end.display - e.start.display == e.end.char - e.start.char in
      let parts = and_parts (wide e && is_even) (list_all (is_clear_of room e) es) so in
      ((and_parts (wide e) is_even parts.0).0, AllPass-from_list_all (is_clear_of room e) es parts.1)

  -- what holds of a line, and of one without a middle if of that with it, holds of each
  module _ (Q : Line → Type 0) (next : (line : Line) (k : ℕ) (e : LineAnnotation) → Q line → slice_get line.0 k ≡ Some e → gives line.0 e ≡ true
      → Q (cut_out line e)) where
    step_keeps : (line : Line) (k : ℕ) → Q line → Q (without_middle layout room line k)
    step_keeps line k now = by_entry (slice_get line.0 k) refl
      where
        by_entry : (found : Option LineAnnotation) → slice_get line.0 k ≡ found
            → Q (option_map_or (λ e. if gives line.0 e then cut_out line e else line) found line)
        by_entry None is = now
        by_entry (Some e) is =
            elim (cases_Bool (gives line.0 e)) [
              | inl so ↦ subst Q (sym (cond-true (gives line.0 e) (cut_out line e) line so)) (next line k e now is so)
              | inr other ↦ subst Q (sym (cond-false (gives line.0 e) (cut_out line e) line other)) now
            ]

    fold_keeps : (ks : List ℕ) (line : Line) → Q line → Q (fold (without_middle layout room) line ks)
    fold_keeps [] line now = now
    fold_keeps (k ∷ ks) line now = fold_keeps ks (without_middle layout room line k) (step_keeps line k now)

    squeezed_keeps : (es : List LineAnnotation) → Q (es, []) → Q (squeezed layout room es)
    squeezed_keeps es now =
        elim (breaks_labels layout) as (λ b. Q (cond b (fold (without_middle layout room) (es, []) (range_with_len 0 (length es))) (es, []))) [
          | true ↦ fold_keeps (range_with_len 0 (length es)) (es, []) now
          | false ↦ now
        ]

  -- what holds of each entry whatever its columns are
  pub each_squeezed : (P : LineAnnotation → Type 0) → ((e f : LineAnnotation) → P f → P (past_middle layout.decor room e f)) → (es : List LineAnnotation)
      → All P es → All P (squeezed layout room es).0
  each_squeezed P same es all =
      squeezed_keeps (λ now. All P now.0)
      (λ now k e each there so. All-map P (past_middle layout.decor room e) now.0 (λ i d within. same e _ (each i d within)))
      es all

  -- whether any passes a test that doesn't ask for columns
  pub any_squeezed : (p : LineAnnotation → Bool) → ((e f : LineAnnotation) → p (past_middle layout.decor room e f) ≡ p f) → (es : List LineAnnotation)
      → list_any p (squeezed layout room es).0 ≡ list_any p es
  any_squeezed p same es =
      squeezed_keeps (λ now. list_any p now.0 ≡ list_any p es)
      (λ now k e is there so. list_any-map p (past_middle layout.decor room e) now.0 ∙ alike e now.0 ∙ is) es refl
    where
      alike : (e : LineAnnotation) (fs : List LineAnnotation) → list_any (λ f. p (past_middle layout.decor room e f)) fs ≡ list_any p fs
      alike e [] = refl
      alike e (f ∷ fs) = ap (λ b. b || list_any (λ x. p (past_middle layout.decor room e x)) fs) (same e f) ∙ ap (λ b. p f || b) (alike e fs)

  -- its entries can be drawn
  pub drawable_past : (es : List LineAnnotation) (e : LineAnnotation) → gives es e ≡ true → AreDrawable layout es
      → AreDrawable layout (map (past_middle layout.decor room e) es)
  drawable_past es e so can =
      let past : LineAnnotation → LineAnnotation = past_middle layout.decor room e in
      let parts = gives_parts es e so in
      record {
        columns = All-map HasPlace past es (λ i d within. past_place layout.decor room e parts.0 (get_or es i d) (parts.1 i d within)
            (can.columns i d within));
        bar_cells = All-map (HasBarCell layout) past es can.bar_cells;
        labels = All-map (λ f. IfSome f.label TextFits) past es can.labels;
      }

  pub drawable_squeezed : (es : List LineAnnotation) → AreDrawable layout es → AreDrawable layout (squeezed layout room es).0
  drawable_squeezed es can = squeezed_keeps (λ now. AreDrawable layout now.0) (λ now k e is there so. drawable_past now.0 e so is) es can

  -- each entry that is cut is wide no more
  pub few_squeezed : (es : List LineAnnotation)
      → (let line = squeezed layout room es in length line.1 + wide_entries room layout.decor line.0 ≤ wide_entries room layout.decor es)
  few_squeezed es = squeezed_keeps (λ now. length now.1 + count_by wide now.0 ≤ count_by wide es) next es (omega arith)
    where
      next : (now : Line) (k : ℕ) (e : LineAnnotation) → length now.1 + count_by wide now.0 ≤ count_by wide es → slice_get now.0 k ≡ Some e
          → gives now.0 e ≡ true → length (now.1 ++ e ∷ []) + count_by wide (map (past_middle layout.decor room e) now.0) ≤ count_by wide es
      next now k e few there so =
          let parts = gives_parts now.0 e so in
          let past : LineAnnotation → LineAnnotation = past_middle layout.decor room e in
          let less = fewer wide past now.0 k e (λ i d within. past_wide layout.decor room e parts.0 (get_or now.0 i d) (parts.1 i d within)) there parts.0
          (past_itself layout.decor room e parts.0) in
          omega (arith, less, few, length_push now.1 e)

  -- a source row is cut once at most for each of them
  pub row_squeezed : (cut : List LineAnnotation) (source : List Cell) → IsCut layout (length cut) source (middles_replaced layout room cut source)
  row_squeezed [] source = IsCut-none layout 0 source
  row_squeezed (e ∷ cut) source =
      let now = middle_replaced layout room e source in
      let whole = middles_replaced layout room cut now in
      let count : 1 + length cut ≡ length (e ∷ cut) = omega arith in
      subst (λ n. IsCut layout n source whole) count
      (IsCut-more layout 1 (length cut) source now whole (IsCut-replaced layout _ _ source (omega arith)) (row_squeezed cut now))

  -- ---- one entry

  -- a line without the middle of the entry at a place: where it gives way, and where it doesn't
  pub without_gives : (line : Line) (k : ℕ) (e : LineAnnotation) → slice_get line.0 k ≡ Some e → gives line.0 e ≡ true
      → without_middle layout room line k ≡ cut_out line e
  without_gives line k e there so =
      ap (λ found. option_map_or (λ x. if gives line.0 x then cut_out line x else line) found line) there
      ∙ cond-true (gives line.0 e) (cut_out line e) line so

  -- ---- a line that isn't squeezed

  pub squeezed_same : (es : List LineAnnotation) → length (squeezed layout room es).1 ≡ 0 → squeezed layout room es ≡ (es, [])
  squeezed_same es none = squeezed_keeps (λ now. length now.1 ≡ 0 → now ≡ (es, [])) next es (λ empty. refl) none
    where
      next : (now : Line) (k : ℕ) (e : LineAnnotation) → (length now.1 ≡ 0 → now ≡ (es, [])) → slice_get now.0 k ≡ Some e → gives now.0 e ≡ true
          → length (now.1 ++ e ∷ []) ≡ 0 → cut_out now e ≡ (es, [])
      next now k e is there so empty = absurd (omega (arith, empty, length_push now.1 e))

  pub unbroken_same : (es : List LineAnnotation) → breaks_labels layout ≡ false → squeezed layout room es ≡ (es, [])
  unbroken_same es unbroken = cond-false (breaks_labels layout) _ _ unbroken

  -- without a wide entry none is
  pub narrow_same : (es : List LineAnnotation) → wide_entries room layout.decor es ≡ 0 → length (squeezed layout room es).1 ≡ 0
  narrow_same es narrow = omega (arith, few_squeezed es, narrow)

  -- nor one that has none where no column is dropped
  pub narrow_whole : (dropped : ℕ) (es : List LineAnnotation) → list_any wide es ≡ false → length (squeezed layout room (map (shifted dropped) es)).1 ≡ 0
  narrow_whole dropped es narrow = narrow_same (map (shifted dropped) es) (none es narrow)
    where
      wide_shifted : (e : LineAnnotation) → wide e ≡ false → wide (shifted dropped e) ≡ false
      wide_shifted e other =
          let less : e.end.display - dropped - (e.start.display - dropped) ≤ e.end.display - e.start.display = omega arith in
          grind (arith, nat_tests, less, other)

      none : (fs : List LineAnnotation) → list_any wide fs ≡ false → count_by wide (map (shifted dropped) fs) ≡ 0
      none [] all = refl
      none (f ∷ fs) all =
          let one : LineAnnotation → ℕ = λ x. unit (wide x) in
          let parts = or_parts (wide f) (list_any wide fs) all in
          omega (
            arith,
            sum_by-cons one (shifted dropped f) (map (shifted dropped) fs),
            ap unit (wide_shifted f parts.0),
            none fs parts.1,
          )

-- ---- the row

-- the last row, of which these cells give their place to the placeholder
pub row_without : (layout : Layout) (room : ℕ) (e : LineAnnotation) (above : List (List Cell)) (source : List Cell) (row start end : ℕ) (text : List ℕ)
    (old new : List (List Cell)) → length old ≡ row + 1 → old ≡ above ++ source ∷ [] → start ≡ code_cell layout e.start.display + end_columns room
    → end ≡ code_cell layout e.end.display - end_columns room → text ≡ placeholder_of layout.decor
    → new ≡ cells_replaced old row start end (text_cells LineNumber text) → new ≡ above ++ middle_replaced layout room e source ∷ []
row_without layout room e above source row start end text old new last old_is start_is end_is text_is new_is =
    let here : length above ≡ row = omega (arith, last, ap length old_is, length_push above source) in
    new_is ∙ ap (λ rows. cells_replaced rows row start end (text_cells LineNumber text)) old_is
    ∙ ap (λ n. cells_replaced (above ++ source ∷ []) row n end (text_cells LineNumber text)) start_is
    ∙ ap (λ n. cells_replaced (above ++ source ∷ []) row (code_cell layout e.start.display + end_columns room) n (text_cells LineNumber text)) end_is
    ∙ ap (λ cs. cells_replaced (above ++ source ∷ []) row (code_cell layout e.start.display + end_columns room)
    (code_cell layout e.end.display - end_columns room) (text_cells LineNumber cs)) text_is
    ∙ cells_replaced_here above [] source (text_cells LineNumber (placeholder_of layout.decor)) row _ _ here

-- what holds whatever a call gives
pub on_ok_from : {X Y : Type 0} {P : Type 0} (r : Result X Y) → P → OnOk r P
on_ok_from (Ok x) holds = holds
on_ok_from (Err e) holds = tt

-- so many numbers and one more
pub range_more : (a n : ℕ) → range_with_len a (n + 1) ≡ range_with_len a n ++ (a + n) ∷ []
range_more a n = sym (map-id _) ∙ map-range_with_len_more (λ k. k) a n (a + n) refl ∙ ap (λ ks. ks ++ (a + n) ∷ []) (map-id _)

-- no entry is shifted where no column is dropped
pub shifted_none : (es : List LineAnnotation) → map (shifted 0) es ≡ es
shifted_none [] = refl
shifted_none (e ∷ es) = ap (λ x. x ∷ map (shifted 0) es) (one e) ∙ ap (λ xs. e ∷ xs) (shifted_none es)
  where
    one : (f : LineAnnotation) → shifted 0 f ≡ f
    one f =
        let start : f.start.display - 0 ≡ f.start.display = omega arith in
        let end : f.end.display - 0 ≡ f.end.display = omega arith in
        ap (λ n. record f { start = record f.start { display = n }; end = record f.end { display = f.end.display - 0 } }) start
        ∙ ap (λ n. record f { end = record f.end { display = n } }) end
