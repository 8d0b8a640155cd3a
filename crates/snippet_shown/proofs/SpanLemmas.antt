-- The spans around lines: they are spans of the source, and reach from one line to another.
use Rattle.snippet_shown.proofs.Common.{common_steps, ◌≡◌, ◌≢◌, ◌∙◌, ℕ, zero, suc, ◌+◌, ◌-◌, ◌<◌, ◌≤◌, min, List, [], ◌∷◌, ◌++◌, length, take, drop, get_or}
use Rattle.snippet_shown.proofs.Common.{inl, inr, arith, All, map, true, refl, sym, ap, ap₂, subst, append-nil, append_assoc, cases_lt, cond-true, cond-false}
use Rattle.snippet_shown.proofs.Common.{drop-map, drop_all, get_or-drop, get_or-map, get_or-take, All-cons, All-head, All-nil, All-tail}
use Rattle.snippet_shown.proofs.Common.{IsCharBoundary-before_ascii, IsCharBoundary-end, IsCharBoundary, IsUtf8, IsCharBoundary-start_of, line_bytes-slice}
use Rattle.snippet_shown.proofs.Common.{AreLinesOf-source_lines, joined-source_lines, last_byte-push, start_of-end, start_of-le, start_of-next}
use Rattle.snippet_shown.proofs.Common.{HoldsByte-source, line_of-is, line_of-start, start_of-inside, Line, Source, last_byte, line_bytes, source_lines}
use Rattle.snippet_shown.proofs.Common.{start_of, AreLines, AreLinesOf, EndLine, Eof, Lf, Crlf, HoldsByte, line_of, line_starts, Annotation, length-starts_from}
use Rattle.snippet_shown.proofs.Common.{starts_from-at, KeptLine, annotated_lines, kept_line, seen_kept, kept_lines, AnnotatedLineInfo, close_of, reach_after}
use Rattle.snippet_shown.proofs.Common.{span_around, spans_around, HoldsSpan}

-- ---- where a line closes

-- a line starts before the next one does
later-start : (source : List ℕ) (k : ℕ) → k + 1 < length (source_lines source)
    → start_of (source_lines source) k < start_of (source_lines source) (k + 1)
later-start source k more =
    let ls : List Line = source_lines source in
    let at : line_of ls (start_of ls k) ≡ k = line_of-start source k (omega arith) in
    let holds : HoldsByte ls (start_of ls k) k = subst (HoldsByte ls (start_of ls k)) at (HoldsByte-source source (start_of ls k)) in
    holds.to more

-- only the last line has no end
ended : (ls : List Line) (k : ℕ) → AreLines ls → k + 1 < length ls → (get_or ls k ([], Eof)).1 ≢ Eof
ended [] k are more = absurd (omega arith)
ended (l ∷ []) k are more = absurd (omega arith)
ended (l ∷ m ∷ ls) zero are more = λ eof. let none = (are.1 eof).1 in cc
ended (l ∷ m ∷ ls) (suc k) are more = ended (m ∷ ls) k are.2 (omega arith)

-- a line that has an end ends with a line feed
fed : (text : List ℕ) (ending : EndLine) → ending ≢ Eof → last_byte (line_bytes (text, ending)) ≡ 10
fed text Eof some = absurd (some refl)
fed text Lf some = last_byte-push text 10
fed text Crlf some = ap last_byte (sym (append_assoc text (13 ∷ []) (10 ∷ []))) ∙ last_byte-push (text ++ 13 ∷ []) 10

-- so the byte before the next line is one
feed-before : (source : List ℕ) (k : ℕ) → k + 1 < length (source_lines source)
    → get_or source (start_of (source_lines source) (k + 1) - 1) 0 ≡ 10
feed-before source k more =
    let ls : List Line = source_lines source in
    let l : Line = get_or ls k ([], Eof) in
    let n : ℕ = start_of ls (k + 1) - start_of ls k in
    let size : n ≡ length (line_bytes l) = omega (arith, start_of-next ls k ([], Eof) (omega arith)) in
    let some : 0 < n = omega (arith, later-start source k more) in
    let are : AreLinesOf source ls = AreLinesOf-source_lines source in
    let end : l.1 ≢ Eof = elim are.lines [ inl one ↦ absurd (omega (arith, ap length one)) | inr lines ↦ ended ls k lines.1 more ] in
    let slice : take n (drop (start_of ls k) source) ≡ line_bytes l = line_bytes-slice source k (omega arith) in
    let at : start_of ls (k + 1) - 1 ≡ start_of ls k + (n - 1) = omega arith in
    let last : length (line_bytes l) - 1 ≡ n - 1 = omega arith in
    ap (λ i. get_or source i 0) at ∙ sym (get_or-drop (start_of ls k) source (n - 1) 0)
    ∙ sym (get_or-take n (drop (start_of ls k) source) (n - 1) 0 (omega arith)) ∙ ap (λ bs. get_or bs (n - 1) 0) slice
    ∙ sym (ap (λ i. get_or (line_bytes l) i 0) last) ∙ fed l.0 l.1 end

-- where a line closes: it is the last, or another follows
close-inner : (source : List ℕ) (k : ℕ) → k + 1 < length (source_lines source) → close_of source k ≡ start_of (source_lines source) (k + 1) - 1
close-inner source k more = grind (arith, cond-true)

close-last : (source : List ℕ) (k : ℕ) → length (source_lines source) ≤ k + 1 → close_of source k ≡ length source
close-last source k last = grind (arith, cond-false)

-- no line starts after the source
start-inside : (source : List ℕ) (k : ℕ) → start_of (source_lines source) k ≤ length source
start-inside source k =
    let ls : List Line = source_lines source in
    omega (
      arith,
      start_of-le ls k (k + length ls) (omega arith),
      start_of-end ls (k + length ls)
          (omega arith),
      ap length (joined-source_lines source),
    )

-- a line holds the byte at which it closes
pub holds-close : (source : List ℕ) (k : ℕ) → k < length (source_lines source) → HoldsByte (source_lines source) (close_of source k) k
holds-close source k within =
    let ls : List Line = source_lines source in
    elim (cases_lt (k + 1) (length ls)) [
      | inl more ↦ record {
        within = within;
        from = omega (arith, close-inner source k more, later-start source k more);
        to = λ _. omega (arith, close-inner source k more, later-start source k more);
      }
      | inr last ↦ record {
        within = within;
        from = omega (arith, close-last source k last, start-inside source k);
        to = λ more. absurd (omega arith);
      }
    ]

pub line_of-close : (source : List ℕ) (k : ℕ) → k < length (source_lines source) → line_of (source_lines source) (close_of source k) ≡ k
line_of-close source k within = line_of-is (source_lines source) (close_of source k) k (holds-close source k within)

-- and a character ends there
close-border : (source : List ℕ) (k : ℕ) → IsCharBoundary source (close_of source k)
close-border source k =
    grind (arith, cases_lt, close-inner, feed-before, IsCharBoundary-before_ascii, start_of-inside, later-start, close-last, IsCharBoundary-end)

-- ---- the span around a line

-- it begins on the line so many before, and ends on that so many after
pub around-first : (before after : ℕ) (source : List ℕ) (j : ℕ) → j < length (source_lines source)
    → line_of (source_lines source) (span_around before after source j).start ≡ j - before
around-first before after source j within = line_of-start source (j - before) (omega arith)

pub around-last : (before after : ℕ) (source : List ℕ) (j : ℕ) → j < length (source_lines source)
    → line_of (source_lines source) (span_around before after source j).end ≡ min (j + after) (length (source_lines source) - 1)
around-last before after source j within = line_of-close source (min (j + after) (length (source_lines source) - 1)) (omega arith)

-- it is a part of the source
pub around-part : (before after : ℕ) (source : List ℕ) (j : ℕ) → IsUtf8 source → j < length (source_lines source)
    → HoldsSpan source (span_around before after source j)
around-part before after source j utf8 within =
    let ls : List Line = source_lines source in
    let last : ℕ = min (j + after) (length ls - 1) in
    let inside : last < length ls = omega arith in
    record {
      ordered = omega (arith, start_of-le ls (j - before) last (omega arith), (holds-close source last inside).from);
      from = IsCharBoundary-start_of source (j - before) utf8;
      to = close-border source last;
    }

-- and so is each of those around lines
pub around-parts : (before after : ℕ) (source : List ℕ) (last : ℕ) (js : List ℕ) → IsUtf8 source → All (λ j. j < length (source_lines source)) js
    → All (HoldsSpan source) (spans_around before after source last js)
around-parts before after source last [] utf8 within = All-nil (HoldsSpan source)
around-parts before after source last (j ∷ js) utf8 within =
    All-cons (HoldsSpan source) (span_around (min before (j - last)) (reach_after after j js) source j) (spans_around before after source j js)
    (around-part (min before (j - last)) (reach_after after j js) source j utf8 (All-head (λ k. k < length (source_lines source)) j js within))
    (around-parts before after source j js utf8 (All-tail (λ k. k < length (source_lines source)) j js within))

-- ---- what the code reads

-- as many starts as lines
pub starts-length : (source starts : List ℕ) → starts ≡ line_starts source → length starts ≡ length (source_lines source)
starts-length source starts is = ap length is ∙ length-starts_from 0 (source_lines source)

-- each where its line starts
pub line_starts-start_of : (source starts : List ℕ) (k : ℕ) → starts ≡ line_starts source → k < length starts
    → get_or starts k 0 ≡ start_of (source_lines source) k
line_starts-start_of source starts k is within = grind (arith, starts_from-at, starts-length)

-- the start of a line that isn't the first has a byte before it
pub start-some : (source starts : List ℕ) (k : ℕ) → starts ≡ line_starts source → k + 1 < length starts → 1 ≤ get_or starts (k + 1) 0
start-some source starts k is more =
    omega (arith, line_starts-start_of source starts (k + 1) is more, later-start source k (omega (arith, starts-length source starts is)))

-- so the line before it closes there, and the last where the source does
pub closes-inner : (source starts : List ℕ) (k : ℕ) → starts ≡ line_starts source → k + 1 < length starts → get_or starts (k + 1) 0 - 1 ≡ close_of source k
closes-inner source starts k is more =
    ap (λ (n : ℕ). n - 1) (line_starts-start_of source starts (k + 1) is more) ∙ sym (close-inner source k (omega (arith, starts-length source starts is)))

pub closes-last : (source starts : List ℕ) (k : ℕ) → starts ≡ line_starts source → length starts ≤ k + 1 → length source ≡ close_of source k
closes-last source starts k is last = sym (close-last source k (omega (arith, starts-length source starts is)))

-- the number of a line that is kept
pub kept-number : (s : Source) (marks : List Annotation) (infos : List AnnotatedLineInfo) (i : ℕ) (info : AnnotatedLineInfo)
    → map seen_kept infos ≡ annotated_lines true s marks → i < length infos → info ≡ get_or infos i info
    → (i < length (kept_lines true s.text marks)) × (info.line_index ≡ s.first + get_or (kept_lines true s.text marks) i 0)
kept-number s marks infos i info are within is =
    grind (arith, common_steps, s.text, are, is, get_or-map seen_kept infos i info (seen_kept info) within, within, get_or-map)

map-map : {X Y Z : Type 0} (f : X → Y) (g : Y → Z) (xs : List X) → map g (map f xs) ≡ map (λ x. g (f x)) xs
map-map f g [] = refl
map-map f g (x ∷ xs) = ap (λ ys. g (f x) ∷ ys) (map-map f g xs)

-- the numbers of those that are kept
pub kept-numbers : (s : Source) (marks : List Annotation) (infos : List AnnotatedLineInfo) → map seen_kept infos ≡ annotated_lines true s marks
    → map (λ (info : AnnotatedLineInfo). info.line_index) infos ≡ map (λ k. s.first + k) (kept_lines true s.text marks)
kept-numbers s marks infos are =
    sym (map-map seen_kept (λ (l : KeptLine). l.number) infos) ∙ ap (map (λ (l : KeptLine). l.number)) are
    ∙ map-map (kept_line s marks) (λ (l : KeptLine). l.number) (kept_lines true s.text marks)

-- how far a span reaches doesn't depend on the number of the first line
reach-shifted : (after first j : ℕ) (js : List ℕ) → reach_after after (first + j) (map (λ k. first + k) js) ≡ reach_after after j js
reach-shifted after first j [] = refl
reach-shifted after first j (k ∷ ks) = omega arith

-- so it is that of the line's place among those that are kept
pub reach-kept : (after : ℕ) (s : Source) (marks : List Annotation) (infos : List AnnotatedLineInfo) (i j number : ℕ)
    → map seen_kept infos ≡ annotated_lines true s marks → number ≡ s.first + j
    → reach_after after number (map (λ (info : AnnotatedLineInfo). info.line_index) (drop i infos))
    ≡ reach_after after j (drop i (kept_lines true s.text marks))
reach-kept after s marks infos i j number are at =
    ap₂ (reach_after after) at (sym (drop-map (λ (info : AnnotatedLineInfo). info.line_index) i infos) ∙ ap (drop i) (kept-numbers s marks infos are)
    ∙ drop-map (λ k. s.first + k) i (kept_lines true s.text marks))
    ∙ reach-shifted after s.first j (drop i (kept_lines true s.text marks))

-- where nothing is left of a list, what was made so far is what is made of all
pub after-all : {X : Type 0} (F : List ℕ → List X) → (ks : List ℕ) (i : ℕ) (made all : List X) → length ks ≤ i → F [] ≡ [] → made ++ F (drop i ks) ≡ all
    → made ≡ all
after-all F ks i made all end none is =
    sym (append-nil made) ∙ ap (λ rest. made ++ rest) (sym none ∙ sym (ap F (drop_all i ks end))) ∙ is
