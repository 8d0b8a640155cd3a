-- On which lines of the patched source the texts of edits stand.
use Rattle.snippet_splice.proofs.Common.{◌≡◌, ◌≢◌, ℕ, zero, suc, ◌+◌, ◌<◌, Bool, cond, List, [], ◌∷◌, ◌++◌, All, length, map, take, drop, count_by, refl}
use Rattle.snippet_splice.proofs.Common.{sym, ap, ◌∙◌, ⊎_elim, arith, append_assoc, length-append, take_at, take-append-drop, sum_by-append, sum_by-cons}
use Rattle.snippet_splice.proofs.Common.{flat_map-append, All-head, All-tail, cond-false, ne_eqb, slice_range, Eof, Line, line_bytes, joined, source_lines}
use Rattle.snippet_splice.proofs.Common.{start_of, is_lf, IsLine, AreLines, AreLinesOf-source_lines, joined-source_lines, line_of-within, Edit, in_order}
use Rattle.snippet_splice.proofs.Common.{trimmed_edits, edited_from, patched, copied, written_ranges, first_start, shown_start, stands_from, stands, HasNoCr}
use Rattle.snippet_splice.proofs.Common.{IsBeforeFinalLf, shown_line, lines_of_stand, line_ranges, ranges_from, AreApart, common_steps}
use Rattle.snippet_splice.proofs.EditLemmas.{edited_from-earlier, edited_from-trimmed}
use Rattle.snippet_splice.proofs.ShownLemmas.{shown-apart}
use Rattle.snippet_splice.proofs.Common.{rules}
use Rattle.snippet_splice.proofs.SpliceLemmas.{AreBeforeFinalLf, copied-same, stands_from-earlier, front-size}

-- how many LF some bytes hold
abbrev pub feeds : List ℕ → ℕ
feeds bytes = count_by is_lf bytes

-- two texts together have as many line feeds as both
pub feeds-append : (xs ys : List ℕ) → feeds (xs ++ ys) ≡ feeds xs + feeds ys
feeds-append xs ys = sum_by-append (λ b. cond (is_lf b) 1 0) xs ys

-- a text without line feeds counts none
pub feeds-none : (xs : List ℕ) → All (λ b. b ≢ 10) xs → feeds xs ≡ 0
feeds-none [] none = refl
feeds-none (x ∷ xs) none = grind (arith, cond-false, ne_eqb, All-head, All-tail, sum_by-cons, feeds-none xs (All-tail (λ b. b ≢ 10) x xs none))

-- ---- the LF before a line of a source are as many as the lines before it

feeds-line : (l : Line) → IsLine l → l.1 ≢ Eof → feeds (line_bytes l) ≡ 1
feeds-line l is ended = grind (arith, feeds-append, feeds-none)

feeds-lines : (ls : List Line) (k : ℕ) → AreLines ls → k < length ls → feeds (joined (take k ls)) ≡ k
feeds-lines ls zero are within = refl
feeds-lines [] (suc k) are within = absurd (omega arith)
feeds-lines (l ∷ ls) (suc k) are within = grind (arith, common_steps, feeds-append, feeds-line, feeds-lines ls k are.2 (omega arith))

-- the front of a source before line k
pub front-lines : (source : List ℕ) (k : ℕ) → take (start_of (source_lines source) k) source ≡ joined (take k (source_lines source))
unfolding start_of
front-lines source k =
    let ls : List Line = source_lines source in
    let whole : source ≡ joined (take k ls) ++ joined (drop k ls) = sym (joined-source_lines source) ∙ ap joined (sym (take-append-drop k ls))
    ∙ flat_map-append line_bytes (take k ls) (drop k ls) in
    ap (take (length (joined (take k ls)))) whole ∙ take_at (joined (take k ls)) (joined (drop k ls)) (length (joined (take k ls))) refl

-- as many line feeds stand before a line as lines do
pub feeds-front : (source : List ℕ) (k : ℕ) → k < length (source_lines source) → feeds (take (start_of (source_lines source) k) source) ≡ k
feeds-front source k within =
    let ls : List Line = source_lines source in
    ap feeds (front-lines source k) ∙ ⊎_elim
    (λ one. let e : k ≡ 0 = omega (arith, ap length one) in ap (λ n. feeds (joined (take n ls))) e ∙ sym e)
    (λ (some, are). feeds-lines ls k are within) (AreLinesOf-source_lines source).lines

-- the LF before what is shown are as many as the lines before it
pub feeds-shown : (fold : Bool) (source : List ℕ) (es : List Edit)
    → feeds (slice_range source 0 (shown_start fold source (first_start (in_order es)))) ≡ shown_line fold source es
feeds-shown x y z = grind (arith, common_steps, feeds-front, line_of-within)

-- ---- the lines of the texts

-- the texts of the edits after a front of the patched source
pub ranges-stands : (source d front : List ℕ) (at now count : ℕ) (ts : List Edit) → HasNoCr source → AreBeforeFinalLf source ts → AreApart at ts
    → d ≡ front ++ edited_from source at ts → now ≡ length front → count ≡ feeds front
    → map (lines_of_stand d) (stands_from source at now ts) ≡ written_ranges source count at ts
ranges-stands source d front at now count [] none before apart whole size counted = refl
ranges-stands source d front at now count (t ∷ ts) none before apart whole size counted =
    let between : List ℕ = slice_range source at t.start in
    let here : copied source at t.start ≡ between = copied-same source at t.start none apart.0 (All-head (λ t. IsBeforeFinalLf source t.start) t ts before) in
    let rest : List ℕ = edited_from source t.end ts in
    let from : ℕ = now + length between in
    let to : ℕ = from + length t.text in
    let first : ℕ = count + feeds (copied source at t.start) in
    let last : ℕ = first + feeds t.text in
    let parts : d ≡ (front ++ between) ++ (t.text ++ rest) = whole ∙ sym (append_assoc front between (t.text ++ rest)) in
    let parts2 : d ≡ ((front ++ between) ++ t.text) ++ rest = parts ∙ sym (append_assoc (front ++ between) t.text rest) in
    let size1 : length (front ++ between) ≡ from = omega (arith, length-append front between, size) in
    let size2 : length ((front ++ between) ++ t.text) ≡ to = omega (arith, length-append (front ++ between) t.text, size1) in
    let begins : feeds (take from d) ≡ first = rw (parts, take_at (front ++ between) _ from size1) (omega (arith, feeds-append, ap feeds here)) in
    let ends : feeds (take to d) ≡ last = ap feeds (ap (take to) parts2 ∙ take_at ((front ++ between) ++ t.text) rest to size2)
    ∙ feeds-append (front ++ between) t.text ∙ omega (arith, feeds-append front between, counted, ap feeds here) in
    let counted2 : last ≡ feeds ((front ++ between) ++ t.text) = omega (arith, feeds-append, ap feeds here) in
    let more = ranges-stands source d ((front ++ between) ++ t.text) t.end to last ts none (All-tail (λ t. IsBeforeFinalLf source t.start) t ts before)
    apart.2 parts2 (sym size2) counted2 in
    cc (begins, ends, more)

-- ranges counted from a later line on
ranges-shift : (source : List ℕ) (base n at : ℕ) (ts : List Edit) → ranges_from base (written_ranges source n at ts) ≡ written_ranges source (base + n) at ts
ranges-shift source base n at [] = refl
ranges-shift source base n at (t ∷ ts) = search (rules, ranges-shift source base (n + (feeds (copied source at t.start)) + feeds t.text) t.end ts)

-- the ranges that are counted while the text is written are those of the texts in the patched source
pub ranges_from-written_ranges : (fold : Bool) (source : List ℕ) (es : List Edit) → HasNoCr source → AreBeforeFinalLf source (trimmed_edits source es)
    → AreApart 0 (in_order es) → ranges_from (shown_line fold source es)
    (written_ranges source 0 (shown_start fold source (first_start (in_order es))) (trimmed_edits source es)) ≡ line_ranges source es
ranges_from-written_ranges fold source es none before apart =
    let s : ℕ = shown_start fold source (first_start (in_order es)) in
    let ts : List Edit = trimmed_edits source es in
    let f : List ℕ = slice_range source 0 s in
    let after : AreApart s ts = shown-apart fold source es apart in
    let size : length f ≡ s = front-size fold source (first_start (in_order es)) in
    let whole = sym (edited_from-trimmed source 0 (in_order es) apart) ∙ edited_from-earlier source 0 s ts (omega arith) after in
    let e : shown_line fold source es + 0 ≡ shown_line fold source es = omega arith in
    ranges-shift source (shown_line fold source es) 0 s ts ∙ ap (λ n. written_ranges source n s ts) e
    ∙ sym (ranges-stands source (patched source es) f s s (shown_line fold source es) ts none before after whole (sym size)
    (sym (feeds-shown fold source es))) ∙ ap (map (lines_of_stand (patched source es))) (sym (stands-at ts after size))
  where
    stands-at : (ts : List Edit) → AreApart (shown_start fold source (first_start (in_order es))) ts
        → length (slice_range source 0 (shown_start fold source (first_start (in_order es)))) ≡ shown_start fold source (first_start (in_order es))
        → stands source ts ≡ stands_from source (shown_start fold source (first_start (in_order es)))
        (shown_start fold source (first_start (in_order es))) ts
    stands-at [] apart size = refl
    stands-at (t ∷ ts) apart size = grind (arith, common_steps, stands_from-earlier)
