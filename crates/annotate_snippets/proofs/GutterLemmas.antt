-- Why a line's number takes at most one cell more than the gutter has.
use Rattle.std.proofs.lemmas.Grind.{common_steps}
use Rattle.annotate_snippets.proofs.Common.{◌≡◌, ◌≢◌, ℕ, zero, suc, ◌+◌, ◌/◌, ◌<◌, ◌≤◌, ◌^◌, max, ◌==◌, nat_le, nat_lt, Bool, true, false, cond, List, [], ◌∷◌}
use Rattle.annotate_snippets.proofs.Common.{All, length, take, map, fold, count_by, get_or, refl, sym, ap, subst, ◌∙◌, arith, inl, inr, cow_str_bytes, decimal}
use Rattle.annotate_snippets.proofs.Common.{take-take, length-append, length-replicate, take-append_seam, sum_by-take-le, range_with_len}
use Rattle.annotate_snippets.proofs.Common.{and_parts, cases_Bool, cond-true, cond-false, eqb-true, get_or-range_with_len, length-range_with_len, All-nil}
use Rattle.annotate_snippets.proofs.Common.{All-cons, All-contains, All-filter, All-head, All-same, All-tail, All-weaker, filter_passes, nat_tests, Snippet}
use Rattle.annotate_snippets.proofs.Common.{Annotation, EndLine, Eof, Lf, Crlf, AnnotatedLineInfo, Line, joined, line_bytes, is_lf, newline_count, source_lines}
use Rattle.annotate_snippets.proofs.Common.{start_of, AreLines, line_of, counted_number, reached_source, KeptLine, kept_line, seen_kept, keeps, kept_lines}
use Rattle.annotate_snippets.proofs.Common.{shown_lines, with_between, last_line, joined-source_lines, AreLines-lines_of, split_at_line, length-source_lines}
use Rattle.annotate_snippets.proofs.Common.{newline_count-take, HoldsByte-source, line_of-within, number_width, shown_number, LineNumbers, Shown, Anonymized}
use Rattle.annotate_snippets.proofs.Common.{Hidden, length-decimal_monotone, length-decimal_more, length-decimal_last, HasRoomFor, IsDrawable, line_numbers}
use Rattle.annotate_snippets.proofs.Common.{numbered_source, Renderer, Layout, Cause, feeds-append}
use Rattle.annotate_snippets.proofs.PageWords.{gutter_of}
use Rattle.annotate_snippets.proofs.ListLemmas.{from_any}
use Rattle.annotate_snippets.proofs.PartsFacts.{snippet_shown-within}

-- how many line feeds some bytes hold
abbrev feeds : List ℕ → ℕ
feeds bytes = count_by is_lf bytes

-- a line that isn't the last holds one
feeds-line : (text : List ℕ) (ending : EndLine) → ending ≢ Eof → 1 ≤ feeds (line_bytes (text, ending))
feeds-line text Eof more_follows = absurd (more_follows refl)
feeds-line text Lf more_follows = let one : feeds (10 ∷ []) ≡ 1 = refl in omega (arith, feeds-append text (10 ∷ []))
feeds-line text Crlf more_follows = let one : feeds (13 ∷ 10 ∷ []) ≡ 1 = refl in omega (arith, feeds-append text (13 ∷ 10 ∷ []))

-- so k lines before another hold at least k
feeds-lines : (ls : List Line) (k : ℕ) → AreLines ls → k < length ls → k ≤ feeds (joined (take k ls))
feeds-lines ls zero are within = omega arith
feeds-lines [] (suc k) are within = absurd (omega arith)
feeds-lines (l ∷ ls) (suc k) are within =
    let more : k < length ls = omega arith in
    let rest : k ≤ feeds (joined (take k ls)) = feeds-lines ls k are.2 more in
    let closed : l.1 ≢ Eof = λ is. absurd (omega (arith, ap length (are.1 is).1)) in
    omega (arith, feeds-line l.0 l.1 closed, feeds-append (line_bytes l) (joined (take k ls)))

-- before the byte of a source that stands on line k, at least k line feeds stand
feeds-before : (source : List ℕ) (b e : ℕ) → b ≤ e → line_of (source_lines source) b ≤ feeds (take e source)
unfolding start_of
feeds-before [] b e within = let one : line_of (([], Eof) ∷ []) b < 1 = line_of-within [] b in omega arith
feeds-before (x ∷ xs) b e within =
    let source : List ℕ = x ∷ xs in
    let ls : List Line = source_lines source in
    let k : ℕ = line_of ls b in
    let start : ℕ = length (joined (take k ls)) in
    let inside = HoldsByte-source source b in
    let before : k ≤ feeds (joined (take k ls)) = feeds-lines ls k (AreLines-lines_of source) inside.within in
    let whole : joined ls ≡ source = joined-source_lines source in
    let front : take start source ≡ joined (take k ls) = ap (λ bytes. take start bytes) (sym whole ∙ split_at_line ls k ([], Eof) inside.within)
    ∙ take-append_seam (joined (take k ls)) _ in
    let early : start ≤ e = omega (arith, inside.from) in
    let cut : take start (take e source) ≡ take start source = take-take start e source early in
    let fewer : feeds (take start (take e source)) ≤ feeds (take e source) = sum_by-take-le (λ c. cond (is_lf c) 1 0) (take e source) start in
    omega (arith, ap feeds (cut ∙ front))

-- so its line's number from 0 is at most one more than the newlines counted up to there
pub first_line-counted : (source : List ℕ) (b e : ℕ) → b ≤ e → line_of (source_lines source) b ≤ newline_count (take e source) + 1
unfolding newline_count
first_line-counted source b e within = grind (arith, feeds-before)

-- the greatest end is that of no annotation less
fold-end-ge : (marks : List Annotation) (m : ℕ) → m ≤ fold (λ n k. max n k) m (map (λ (a : Annotation). a.span.end) marks)
fold-end-ge [] m = omega arith
fold-end-ge (a ∷ marks) m = omega (arith, fold-end-ge marks (max m a.span.end))

fold-ends : (marks : List Annotation) (m : ℕ)
    → All (λ (a : Annotation). a.span.end ≤ fold (λ n k. max n k) m (map (λ (b : Annotation). b.span.end) marks)) marks
fold-ends [] m = All-nil (λ (a : Annotation). a.span.end ≤ m)
fold-ends (a ∷ marks) m = grind (arith, fold-ends marks (max m a.span.end), All-cons, fold-end-ge, a.span.end)

-- each line that a span ends on has a number at most one more than the number counted for the gutter
lines_counted : (s : Snippet Annotation) → All (λ a. last_line (cow_str_bytes s.source.text) a ≤ newline_count (reached_source s) + 1) s.markers.items
lines_counted s = grind (arith, fold-ends, first_line-counted, line_of-within, length-source_lines, s.source.text, s.markers.items, s.fold)

-- a line that a span keeps is touched by it
kept_before : (source : List ℕ) (a : Annotation) (k : ℕ) → keeps source k a ≡ true → k ≤ last_line source a
kept_before source a k kept = grind (arith, and_parts, nat_le, nat_tests)

-- so each kept line's number is at most one more than that
kept-counted : (s : Snippet Annotation) → All (λ k. k ≤ newline_count (reached_source s) + 1) (kept_lines s.fold (cow_str_bytes s.source.text) s.markers.items)
kept-counted s = by_cases s.fold refl
  where
    source : List ℕ
    source = cow_str_bytes s.source.text

    all : List ℕ
    all = range_with_len 0 (length (source_lines source))

    by_cases : (fold : Bool) → s.fold ≡ fold → All (λ k. k ≤ newline_count (reached_source s) + 1) (kept_lines fold source s.markers.items)
    by_cases true is = grind (arith, common_steps, source, All-weaker, reached_source, from_any, All-contains, lines_counted, kept_before, all, filter_passes)
    by_cases false is =
        let same : newline_count (reached_source s) ≡ newline_count source = rw is refl in
        let bound : All (λ k. k ≤ newline_count (reached_source s) + 1) all =
        grind (arith, common_steps, get_or-range_with_len, source, length-range_with_len, length-source_lines, same) in
        All-filter (λ k. true) (λ k. k ≤ newline_count (reached_source s) + 1) all bound

-- and so is that of a line between two of them
between-counted : (n : ℕ) (ks : List ℕ) → All (λ k. k ≤ n) ks → All (λ k. k ≤ n) (with_between ks)
between-counted n [] low = low
between-counted n (j ∷ []) low = low
between-counted n (j ∷ k ∷ ks) low =
    let here : j ≤ n = All-head (λ i. i ≤ n) j (k ∷ ks) low in
    let rest : All (λ i. i ≤ n) (k ∷ ks) = All-tail (λ i. i ≤ n) j (k ∷ ks) low in
    let after : All (λ i. i ≤ n) (with_between (k ∷ ks)) = between-counted n (k ∷ ks) rest in
    elim (cases_Bool (k == j + 2)) [
      | inl one ↦ grind (arith, common_steps, All-head, rest, eqb-true, All-same, cond-true, All-cons, here, after)
      | inr other ↦ grind (arith, common_steps, All-same, cond-false, All-cons, here, after)
    ]

-- what holds of lines holds of what is seen of them
pub All-of_lines : (P : KeptLine → Type 0) (f : ℕ → KeptLine) (ks : List ℕ) (infos : List AnnotatedLineInfo) → map seen_kept infos ≡ map f ks
    → All (λ k. P (f k)) ks → All (λ info. P (seen_kept info)) infos
All-of_lines P f [] [] same each = All-nil (λ (info : AnnotatedLineInfo). P (seen_kept info))
All-of_lines P f [] (info ∷ infos) same each = cc
All-of_lines P f (k ∷ ks) [] same each = cc
All-of_lines P f (k ∷ ks) (info ∷ infos) same each =
    All-cons (λ (i : AnnotatedLineInfo). P (seen_kept i))
    info infos (subst P (sym (first_is (seen_kept info) (f k) (map seen_kept infos) (map f ks) same)) (All-head (λ j. P (f j)) k ks each))
    (All-of_lines P f ks infos (rest_is (seen_kept info) (f k) (map seen_kept infos) (map f ks) same) (All-tail (λ j. P (f j)) k ks each))
  where
    first_is : (x y : KeptLine) (xs ys : List KeptLine) → x ∷ xs ≡ y ∷ ys → x ≡ y
    first_is x y xs ys same = cc

    rest_is : (x y : KeptLine) (xs ys : List KeptLine) → x ∷ xs ≡ y ∷ ys → xs ≡ ys
    rest_is x y xs ys same = cc

-- a number one greater has at most one digit more
length-decimal-step : (m n : ℕ) → m ≤ n + 1 → m < 2 ^ 64 → n < 2 ^ 64 → length (decimal m) ≤ length (decimal n) + 1
length-decimal-step m n near small fits = by_cases (nat_lt m 10) refl
  where
    by_cases : (t : Bool) → nat_lt m 10 ≡ t → length (decimal m) ≤ length (decimal n) + 1
    by_cases true is = let low : m < 10 = grind (arith, nat_tests) in omega (arith, length-decimal_last m low small)
    by_cases false is =
        let high : 10 ≤ m = grind (arith, nat_tests) in
        let tenth : m / 10 ≤ n = omega arith in omega (arith, length-decimal_more m high small, length-decimal_monotone (m / 10) n tenth fits)

-- so what the gutter shows for it needs at most one cell more
number_width-step : (numbers : LineNumbers) (m n : ℕ) → m ≤ n + 1 → m < 2 ^ 64 → n < 2 ^ 64 → number_width numbers m ≤ number_width numbers n + 1
number_width-step Shown m n near small fits = length-decimal-step m n near small fits
number_width-step Anonymized m n near small fits = omega arith
number_width-step Hidden m n near small fits = omega arith

-- what it shows takes the cells that it has, or those that are needed
length-shown : (numbers : LineNumbers) (gutter number : ℕ) → number_width numbers number ≤ gutter + 1 → length (shown_number numbers gutter number) ≤ gutter + 1
length-shown Shown gutter number fits = grind (arith, length-append, length-replicate)
length-shown Anonymized gutter number fits = grind (arith, length-append, length-replicate)
length-shown Hidden gutter number fits = omega (arith, length-replicate {A = ℕ} gutter 32)

-- a layout with room for a snippet has it for the number counted
pub counted-width : (r : Renderer) (layout : Layout) (s : Snippet Annotation) → HasRoomFor r layout (Cause s)
    → number_width (line_numbers r s.line_numbering) (counted_number s) ≤ layout.gutter
counted-width r layout s room = by_cases s.line_numbering refl r.anonymized_snippet_line_numbers refl
  where
    by_cases : (numbered : Bool) → s.line_numbering ≡ numbered → (anonymized : Bool) → r.anonymized_snippet_line_numbers ≡ anonymized
        → number_width (cond numbered (cond anonymized Anonymized Shown) Hidden) (counted_number s) ≤ layout.gutter
    by_cases true on true hidden = room.anonymized hidden
    by_cases true on false seen =
        let wide : gutter_of s ≡ length (decimal (counted_number s)) = ap (λ b. cond b (length (decimal (counted_number s))) 0) on in
        omega (arith, wide, room.numbers seen)
    by_cases false off anonymized is = omega arith

-- the number counted for the gutter fits, where those of the lines do
pub counted-small : (s : Snippet Annotation) → s.line_start + length (source_lines (cow_str_bytes s.source.text)) < 2 ^ 64 → counted_number s < 2 ^ 64
counted-small s fits = grind (arith, newline_count-take, length-source_lines, s.source.text, s.markers.items, s.fold)

-- what the gutter shows beside the lines of a snippet takes at most one cell more than the gutter has
pub numbers_fit : (r : Renderer) (layout : Layout) (s : Snippet Annotation) (infos : List AnnotatedLineInfo) → HasRoomFor r layout (Cause s)
    → IsDrawable s → map seen_kept infos ≡ map (kept_line (numbered_source s) s.markers.items)
    (shown_lines s.fold (cow_str_bytes s.source.text) s.markers.items)
    → All (λ info. length (shown_number (line_numbers r s.line_numbering) layout.gutter info.line_index) ≤ layout.gutter + 1) infos
numbers_fit r layout s infos room drawable lines =
    let source : List ℕ = cow_str_bytes s.source.text in
    let numbers : LineNumbers = line_numbers r s.line_numbering in
    let Counted : KeptLine → Type 0 = λ l. l.number ≤ counted_number s + 1 in
    let Small : KeptLine → Type 0 = λ l. l.number < 2 ^ 64 in
    let ks : List ℕ = shown_lines s.fold source s.markers.items in
    let low = between-counted (newline_count (reached_source s) + 1) (kept_lines s.fold source s.markers.items) (kept-counted s) in
    let counted : All (λ info. Counted (seen_kept info)) infos = All-of_lines Counted (kept_line (numbered_source s) s.markers.items) ks infos lines
    (λ i d within. omega (arith, low i d within)) in
    let inside = snippet_shown-within (numbered_source s) s.markers.items drawable.spans s.fold in
    let small : All (λ info. Small (seen_kept info)) infos = All-of_lines Small (kept_line (numbered_source s) s.markers.items) ks infos lines (λ i d within.
    omega (arith, inside i d within, drawable.numbers)) in
    let fits : counted_number s < 2 ^ 64 = counted-small s drawable.numbers in
    let wide : number_width numbers (counted_number s) ≤ layout.gutter = counted-width r layout s room in
    λ i d within.
    let number : ℕ = (get_or infos i d).line_index in
    length-shown numbers layout.gutter number (omega (
      arith,
      wide,
      number_width-step numbers number (counted_number s) (counted i d within) (small i d within) fits,
    ))
