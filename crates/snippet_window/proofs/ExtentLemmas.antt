-- Lemmas on how far lines reach, line by line and entry by entry.
use Rattle.snippet_window.proofs.Common.{common_steps, arith, ◌≡◌, ℕ, min, max, Bool, true, false, not, List, [], ◌∷◌, ◌++◌, Option, Some, None, All, sym, ap}
use Rattle.snippet_window.proofs.Common.{subst, cond, ◌∙◌, inl, inr, flat_map, option_map_or, option_to_list, map_push, append-nil, filter-append}
use Rattle.snippet_window.proofs.Common.{filter_map-append, All-nil, All-cons, All-head, All-tail, flat_map-append, cases_Bool, width_of, LineAnnotation}
use Rattle.snippet_window.proofs.Common.{AnnotatedLineInfo, Extent, least, greatest, is_bar, end_with, leading_whitespace, ReachesEntries, ReachesLines}
use Rattle.snippet_window.proofs.Common.{with_columns, entries_of, columns_of, ends_of, least-push, greatest-push, least-push_two, greatest-push_two}
use Rattle.std.proofs.Common.{chars}
use Rattle.snippet_window.proofs.MeasureWords.{whitespaces_of}

-- one more entry, by whether it is a bar
with_columns-push : (es : List LineAnnotation) (e : LineAnnotation) (bar : Bool) → is_bar e.annotation_type ≡ bar
    → with_columns (es ++ e ∷ []) ≡ with_columns es ++ cond (not bar) (e ∷ []) []
with_columns-push es e bar is =
    filter-append (λ (x : LineAnnotation). not (is_bar x.annotation_type)) es (e ∷ []) ∙ ap (λ b. with_columns es ++ cond (not b) (e ∷ []) []) is

columns_of-push : (es : List LineAnnotation) (e : LineAnnotation) → is_bar e.annotation_type ≡ false
    → columns_of (es ++ e ∷ []) ≡ columns_of es ++ e.start.display ∷ e.end.display ∷ []
columns_of-push es e not_bar = grind (arith, common_steps, with_columns-push, flat_map-append)

ends_of-push : (es : List LineAnnotation) (e : LineAnnotation) → is_bar e.annotation_type ≡ false
    → ends_of (es ++ e ∷ []) ≡ ends_of es ++ end_with e.end.display e.label ∷ []
ends_of-push es e not_bar = grind (arith, common_steps, with_columns-push)

-- a bar takes no part
with_columns-push_bar : (es : List LineAnnotation) (e : LineAnnotation) → is_bar e.annotation_type ≡ true → with_columns (es ++ e ∷ []) ≡ with_columns es
with_columns-push_bar es e bar = with_columns-push es e true bar ∙ append-nil (with_columns es)

-- a bar more doesn't change how far entries reach
pub bar_added : (es : List LineAnnotation) (e : LineAnnotation) (x : Extent) → is_bar e.annotation_type ≡ true → ReachesEntries es x
    → ReachesEntries (es ++ e ∷ []) x
bar_added es e x bar reaches = grind (arith, common_steps, with_columns-push_bar, reaches.first, reaches.last, reaches.label_end)

-- another entry is taken in
pub entry_added : (es : List LineAnnotation) (e : LineAnnotation) (x y : Extent) (once : Option ℕ) → is_bar e.annotation_type ≡ false
    → ReachesEntries es x → once ≡ Some (option_map_or (λ n. min n e.start.display) x.first e.start.display)
    → y.first ≡ Some (option_map_or (λ n. min n e.end.display) once e.end.display) → y.last ≡ max (max x.last e.start.display) e.end.display
    → y.label_end ≡ max x.label_end (end_with e.end.display e.label) → ReachesEntries (es ++ e ∷ []) y
entry_added es e x y once not_bar reaches first twice last end =
    let columns = columns_of-push es e not_bar in
    record {
      first = twice ∙ ap (λ (o : Option ℕ). Some (option_map_or (λ n. min n e.end.display) o e.end.display))
          (first ∙ ap (λ (o : Option ℕ). Some (option_map_or (λ n. min n e.start.display) o e.start.display)) reaches.first)
          ∙ sym (least-push_two (columns_of es) e.start.display e.end.display) ∙ ap least (sym columns);
      last = last ∙ ap (λ n. max (max n e.start.display) e.end.display) reaches.last ∙ sym (greatest-push_two (columns_of es) e.start.display e.end.display)
          ∙ ap greatest (sym columns);
      label_end = end ∙ ap (λ n. max n (end_with e.end.display e.label)) reaches.label_end
          ∙ sym (greatest-push (ends_of es) (end_with e.end.display e.label)) ∙ ap greatest (sym (ends_of-push es e not_bar));
    }

-- the entries of one more line
entries_of-push : (infos : List AnnotatedLineInfo) (info : AnnotatedLineInfo) → entries_of (infos ++ info ∷ []) ≡ entries_of infos ++ info.annotations.items
entries_of-push infos info =
    flat_map-append (λ (i : AnnotatedLineInfo). i.annotations.items) infos (info ∷ []) ∙ ap (λ es. entries_of infos ++ es) (append-nil info.annotations.items)

-- the least width of leading whitespace, with that of one more line
least-push_known : (ns : List ℕ) (o : Option ℕ)
    → least (ns ++ option_to_list o) ≡ option_map_or (λ n. Some (option_map_or (λ m. min m n) (least ns) n)) o (least ns)
least-push_known ns None = ap least (append-nil ns)
least-push_known ns (Some n) = least-push ns n

whitespaces_of-push : (ts : List (List ℕ)) (t : List ℕ) → whitespaces_of (ts ++ t ∷ []) ≡ whitespaces_of ts ++ option_to_list (leading_whitespace t)
whitespaces_of-push ts t = grind (arith, common_steps, filter_map-append)

-- one more line is taken in
pub line_added : (infos : List AnnotatedLineInfo) (info : AnnotatedLineInfo) (x y : Extent) → ReachesLines infos x
    → ReachesEntries (entries_of infos ++ info.annotations.items) y
    → y.whitespace ≡ option_map_or (λ n. Some (option_map_or (λ m. min m n) x.whitespace n)) (leading_whitespace (chars info.line.now)) x.whitespace
    → y.widest ≡ max x.widest (width_of (chars info.line.now)) → ReachesLines (infos ++ info ∷ []) y
line_added infos info x y reaches entries whitespace widest =
    grind (arith, common_steps, map_push, entries_of-push, reaches.whitespace, least-push_known, whitespaces_of-push, reaches.widest, greatest-push)

-- what holds of a list's parts
all_front : {X : Type 0} (P : X → Type 0) (xs ys : List X) → All P (xs ++ ys) → All P xs
all_front P [] ys all = All-nil P
all_front P (x ∷ xs) ys all = All-cons P x xs (All-head P x (xs ++ ys) all) (all_front P xs ys (All-tail P x (xs ++ ys) all))

all_back : {X : Type 0} (P : X → Type 0) (xs ys : List X) → All P (xs ++ ys) → All P ys
all_back P [] ys all = all
all_back P (x ∷ xs) ys all = all_back P xs ys (All-tail P x (xs ++ ys) all)

-- what holds of each column holds where each entry starts, bars left out
pub starts_all : (P : ℕ → Type 0) (es : List LineAnnotation) → All P (columns_of es) → All (λ e. is_bar e.annotation_type ≡ false → P e.start.display) es
starts_all P [] all = All-nil (λ (x : LineAnnotation). is_bar x.annotation_type ≡ false → P x.start.display)
starts_all P (e ∷ es) all =
    elim (cases_Bool (is_bar e.annotation_type)) [
      | inl bar ↦
          let same : columns_of (e ∷ es) ≡ columns_of es = ap (λ b. flat_map (λ (x : LineAnnotation). x.start.display ∷ x.end.display ∷ [])
          (cond (not b) (e ∷ with_columns es) (with_columns es))) bar in
          All-cons (λ (x : LineAnnotation). is_bar x.annotation_type ≡ false → P x.start.display) e es (λ not_bar.
          cc) (starts_all P es (subst (All P) same all))
      | inr not_bar ↦
          let same : columns_of (e ∷ es) ≡ e.start.display ∷ e.end.display ∷ columns_of es = ap (λ b.
          flat_map (λ (x : LineAnnotation). x.start.display ∷ x.end.display ∷ []) (cond (not b) (e ∷ with_columns es) (with_columns es))) not_bar in
          let each = subst (All P) same all in
          All-cons (λ (x : LineAnnotation). is_bar x.annotation_type ≡ false → P x.start.display) e es (λ _.
          All-head P e.start.display (e.end.display ∷ columns_of es) each)
          (starts_all P es (All-tail P e.end.display (columns_of es) (All-tail P e.start.display (e.end.display ∷ columns_of es) each)))
    ]

-- what holds of each entry holds of those of each line
pub lines_all : (Q : LineAnnotation → Type 0) (infos : List AnnotatedLineInfo) → All Q (entries_of infos) → All (λ info. All Q info.annotations.items) infos
lines_all Q [] all = All-nil (λ (x : AnnotatedLineInfo). All Q x.annotations.items)
lines_all Q (info ∷ infos) all =
    All-cons (λ (x : AnnotatedLineInfo). All Q x.annotations.items) info infos (all_front Q info.annotations.items (entries_of infos) all)
    (lines_all Q infos (all_back Q info.annotations.items (entries_of infos) all))
