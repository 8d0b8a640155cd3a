-- Laws of what is written for edits, and of the end of the text that is shown.
use Rattle.snippet_splice.proofs.Common.{◌≡◌, ◌≢◌, ℕ, suc, ◌+◌, ◌-◌, ◌<◌, ◌≤◌, false, cond, ◌&&◌, eqb, List, [], ◌∷◌, ◌++◌, length, map, take, get_or}
use Rattle.snippet_splice.proofs.Common.{count_by, refl, ap, subst, ◌∙◌, arith, append_assoc, zero-add, ◌==◌, if◌then◌else◌, length-append, take_at}
use Rattle.snippet_splice.proofs.Common.{take-take, drop_at, get_or_at, length_push, IsUtf8-take, IsUtf8-drop, IsCharBoundary-before_ascii}
use Rattle.snippet_splice.proofs.Common.{IsCharBoundary-after_ascii, IsUtf8, sum_by-append, sum_by-cons, cond-true, cond-false, and_parts, and_left, eqb-true}
use Rattle.snippet_splice.proofs.Common.{ne_eqb, is_lf, last_byte, IsSpanBorder, LineRange, TrimmedPatch, Edit, trimmed_edit_of, AreApart, in_text}
use Rattle.snippet_splice.proofs.Common.{with_line_feeds, copied, written_from, written_ranges, end_from, unless_lone_line_feed, without_final_line_feeds}
use Rattle.snippet_splice.proofs.Common.{closes_line, rules, common_steps}

-- ---- an LF in place of each CR LF

-- up to the first CR a text stays
pub with_line_feeds-split : (xs ys : List ℕ) → ((i : ℕ) → i < length xs → get_or xs i 0 ≢ 13)
    → with_line_feeds (xs ++ 13 ∷ ys) ≡ xs ++ cond (eqb (get_or ys 0 0) 10) (with_line_feeds ys) (13 ∷ with_line_feeds ys)
with_line_feeds-split [] ys none = refl
with_line_feeds-split (x ∷ xs) ys none =
    let other = and_left (eqb x 13) (eqb (get_or (xs ++ 13 ∷ ys) 0 0) 10) (ne_eqb x 13 (none 0 (omega arith))) in
    cond-false (eqb x 13 && eqb (get_or (xs ++ 13 ∷ ys) 0 0) 10) (with_line_feeds (xs ++ 13 ∷ ys)) (x ∷ with_line_feeds (xs ++ 13 ∷ ys)) other
    ∙ ap (λ l. x ∷ l) (with_line_feeds-split xs ys (λ i within. none (suc i) (omega arith)))

-- a text without carriage returns stays
pub with_line_feeds-none : (xs : List ℕ) → ((i : ℕ) → i < length xs → get_or xs i 0 ≢ 13) → with_line_feeds xs ≡ xs
with_line_feeds-none [] none = refl
with_line_feeds-none (x ∷ xs) none =
    let other : (eqb x 13 && eqb (get_or xs 0 0) 10) ≡ false = and_left (eqb x 13) (eqb (get_or xs 0 0) 10) (ne_eqb x 13 (none 0 (omega arith))) in
    cond-false (eqb x 13 && eqb (get_or xs 0 0) 10) (with_line_feeds xs) (x ∷ with_line_feeds xs) other
    ∙ ap (λ l. x ∷ l) (with_line_feeds-none xs (λ i within. none (suc i) (omega arith)))

-- a step of the loop that adds a text: the front up to a CR was added, and the CR where no LF follows
pub with_line_feeds-step : (old rest front after more : List ℕ) → rest ≡ front ++ 13 ∷ after → ((i : ℕ) → i < length front → get_or front i 0 ≢ 13)
    → more ≡ cond (eqb (get_or after 0 0) 10) [] (13 ∷ []) → ((old ++ front) ++ more) ++ with_line_feeds after ≡ old ++ with_line_feeds rest
with_line_feeds-step old rest front after more e none added = grind (arith, cond-true, cond-false, append_assoc, with_line_feeds-split)

-- what stands before and after an ASCII character is text
pub utf8-after : (rest front after : List ℕ) (b : ℕ) → IsUtf8 rest → b < 128 → rest ≡ front ++ b ∷ after → IsUtf8 after
utf8-after rest front after b utf8 ascii e =
    let within : length front < length rest = omega (arith, ap length e, length-append {A = ℕ}) in
    let at : get_or rest (length front) 0 ≡ b = rw e (get_or_at front b after 0 (length front) refl) in
    subst IsUtf8 (rw (e, ← append_assoc front (b ∷ []) after) (drop_at (front ++ b ∷ []) after (length front + 1) (length_push front b)))
    (IsUtf8-drop rest (length front + 1) utf8 (IsCharBoundary-after_ascii rest (length front) utf8 within (omega (arith, at))))

-- what stands before an ASCII byte in UTF-8 is UTF-8
pub utf8-front : (rest front after : List ℕ) (b : ℕ) → IsUtf8 rest → b < 128 → rest ≡ front ++ b ∷ after → IsUtf8 front
utf8-front rest front after b utf8 ascii e =
    let at : get_or rest (length front) 0 ≡ b = ap (λ l. get_or l (length front) 0) e ∙ get_or_at front b after 0 (length front) refl in
    let within : length front < length rest = omega (arith, ap length e, length-append front (b ∷ after)) in
    subst IsUtf8 (ap (take (length front)) e ∙ take_at front (b ∷ after) (length front) refl)
    (IsUtf8-take rest (length front) utf8 (IsCharBoundary-before_ascii rest (length front) within (omega (arith, at))))

-- it keeps the number of LF
pub count-with_line_feeds : (xs : List ℕ) → count_by is_lf (with_line_feeds xs) ≡ count_by is_lf xs
count-with_line_feeds [] = refl
count-with_line_feeds (x ∷ xs) =
    grind (arith, common_steps, eqb-true, and_parts, count_by, cond-true, sum_by-cons, zero-add, cond-false, count-with_line_feeds xs)

-- ---- places of a text

-- the end of a source, before an LF that ends it
abbrev pub text_end : List ℕ → ℕ
text_end source = if last_byte source == 10 then length source - 1 else length source

-- a later place is at least as far in the text
pub in_text-mono : (source : List ℕ) (a b : ℕ) → a ≤ b → in_text source a ≤ in_text source b
in_text-mono source a b low = search rules

-- ---- what is written

-- the edits so far are written: what is written and what is left make up all
pub record Writes (source : List ℕ) (from : ℕ) (es : List Edit) (out : List ℕ) (ranges : List LineRange) (feeds end : ℕ) (left : List Edit) : Type 0 where
  pub bytes : out ++ written_from source end left ≡ written_from source from es
  pub lines : ranges ++ written_ranges source feeds end left ≡ written_ranges source 0 from es
  pub counted : feeds ≡ count_by is_lf out
  pub apart : AreApart end left
  pub last : end_from end left ≡ end_from from es
  pub border : IsSpanBorder source end

-- with one more edit written the edits so far are written
pub Writes-more : (source : List ℕ) (from : ℕ) (es : List Edit) (out : List ℕ) (ranges : List LineRange) (feeds end : ℕ) (e : Edit) (left : List Edit)
    (out2 out3 : List ℕ) (between : ℕ) → Writes source from es out ranges feeds end (e ∷ left) → out2 ≡ out ++ copied source end e.start
    → between ≡ count_by is_lf (copied source end e.start) → out3 ≡ out2 ++ e.text → IsSpanBorder source e.end
    → Writes source from es out3 (ranges ++ record { first = feeds + between; last = feeds + between + count_by is_lf e.text } ∷ [])
    (feeds + between + count_by is_lf e.text) e.end left
Writes-more source from es out ranges feeds end e left out2 out3 between h one n two border = grind (arith, count_by, append_assoc, sum_by-append)

-- ---- the end of a text

-- the text of the last of some edits
abbrev pub last_text : List Edit → List ℕ
last_text [] = []
last_text (e ∷ []) = e.text
last_text (e ∷ d ∷ es) = last_text (d ∷ es)

-- the last edit closes its line if that text ends with LF
pub closes-last : (es : List Edit) → closes_line es ≡ (last_byte (last_text es) == 10)
closes-last [] = refl
closes-last (e ∷ []) = refl
closes-last (e ∷ d ∷ es) = closes-last (d ∷ es)

-- the last text of trimmed patches is that of the last one
pub last_text-at : (ps : List TrimmedPatch) (d : TrimmedPatch) → 0 < length ps
    → last_text (map trimmed_edit_of ps) ≡ (get_or ps (length ps - 1) d).replacement.now
last_text-at [] d some = absurd (omega arith)
last_text-at (p ∷ []) d some = refl
last_text-at (p ∷ q ∷ ps) d some = grind (arith, last_text-at (q ∷ ps) d (omega arith))

-- an LF after a text is none of it
pub without_final-push : (xs : List ℕ) → without_final_line_feeds (xs ++ 10 ∷ []) ≡ without_final_line_feeds xs
without_final-push [] = refl
without_final-push (x ∷ xs) = ap (unless_lone_line_feed x) (without_final-push xs)

-- a text that no LF ends stays
pub without_final-stays : (xs : List ℕ) → ((front : List ℕ) → xs ≢ front ++ 10 ∷ []) → without_final_line_feeds xs ≡ xs
without_final-stays [] unclosed = refl
without_final-stays (b ∷ []) unclosed =
    cond-false (is_lf b) [] (b ∷ []) (ne_eqb b 10 (λ e. unclosed [] (ap (λ c. c ∷ []) e)))
without_final-stays (b ∷ c ∷ cs) unclosed = grind (arith, without_final-stays (c ∷ cs) (λ front e. unclosed (b ∷ front) (ap (λ l. b ∷ l) e)))

-- nothing is taken from a text twice
without_lone-twice : (b : ℕ) (xs : List ℕ) → without_final_line_feeds xs ≡ xs
    → without_final_line_feeds (unless_lone_line_feed b xs) ≡ unless_lone_line_feed b xs
without_lone-twice x y z = search rules

-- final line feeds are gone once they are taken off
pub without_final-twice : (xs : List ℕ) → without_final_line_feeds (without_final_line_feeds xs) ≡ without_final_line_feeds xs
without_final-twice [] = refl
without_final-twice (b ∷ bs) = without_lone-twice b (without_final_line_feeds bs) (without_final-twice bs)

-- a front of a front is a front
pub front-shorter : (rest text front : List ℕ) → rest ≡ take (length rest) text → rest ≡ front ++ 10 ∷ [] → front ≡ take (length front) text
front-shorter rest text front is cut =
    let short : length front ≤ length rest = omega (arith, ap length cut, length-append front (10 ∷ [])) in
    cc (take_at front (10 ∷ []) (length front) refl, cut, is, take-take (length front) (length rest) text short)
