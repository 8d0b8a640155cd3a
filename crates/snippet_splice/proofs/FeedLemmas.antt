-- How many LF, and so how many lines, the text that is shown has at most.
use Rattle.snippet_splice.proofs.Common.{◌≡◌, ℕ, zero, suc, ◌+◌, ◌-◌, ◌<◌, ◌≤◌, Bool, eqb, List, [], ◌∷◌, ◌++◌, length, map, take, drop, refl, sym, ap, ◌∙◌}
use Rattle.snippet_splice.proofs.Common.{arith, and_parts, cond_both, eqb-true, ltb-true, take-append-drop, sum_by-cons, sum_by_more, take-add, slice_range}
use Rattle.snippet_splice.proofs.Common.{sum_by, lines_of, source_lines, start_of, last_byte, newline_count, put_in, IsLine-at, length-lines_of}
use Rattle.snippet_splice.proofs.Common.{length-source_lines, start_of-zero, line_of-within, start_of-inside, end_from, in_text, written_from, Edit}
use Rattle.snippet_splice.proofs.Common.{in_order, precedes, trimmed_edit, trimmed_edits, closes_line, first_start, shown_rest, shown_start, shown_text}
use Rattle.snippet_splice.proofs.Common.{without_final_line_feeds, shown_line, AreApart, rules, common_steps}
use Rattle.snippet_splice.proofs.EditLemmas.{trimmed_edit-shrunk}
use Rattle.snippet_splice.proofs.LineLemmas.{Shortens, Shortens-final}
use Rattle.snippet_splice.proofs.RangeLemmas.{feeds, feeds-append, feeds-none, feeds-shown}
use Rattle.snippet_splice.proofs.ShownLemmas.{shown-apart}
use Rattle.snippet_splice.proofs.WriteLemmas.{count-with_line_feeds, in_text-mono, text_end}

-- a text has at most one line more than LF, and a source no more LF than lines
lines-feeds : (text : List ℕ) → length (lines_of text) ≤ feeds text + 1
lines-feeds [] = omega arith
lines-feeds (b ∷ bs) = omega (arith, length-lines_of b bs)

feeds-source : (source : List ℕ) → feeds source ≤ length (source_lines source)
unfolding newline_count
feeds-source source = grind (arith, length-source_lines)

-- ---- the LF before a byte

feeds-between : (text : List ℕ) (a b : ℕ) → a ≤ b → feeds (take b text) ≡ feeds (take a text) + feeds (slice_range text a b)
feeds-between text a b low = grind (arith, take-add a (b - a) text, feeds-append (take a text) (slice_range text a b))

feeds-after : (text : List ℕ) (b : ℕ) → feeds (take b text) + feeds (drop b text) ≡ feeds text
feeds-after text b = sym (feeds-append (take b text) (drop b text)) ∙ ap feeds (take-append-drop b text)

-- a byte is moved to the left, and over no LF from before the end of the source
in_text-le : (source : List ℕ) (b : ℕ) → in_text source b ≤ b
in_text-le source b = search rules

in_text-feeds : (source : List ℕ) (b : ℕ) → b ≤ text_end source → feeds (take b source) ≤ feeds (take (in_text source b) source)
in_text-feeds source b inside = grind (arith, cond_both, and_parts, ltb-true, eqb-true, sum_by_more)

-- the text that is shown begins before the end of the source
start-inside : (source : List ℕ) (k : ℕ) → k < length (source_lines source) → start_of (source_lines source) k ≤ text_end source
start-inside source zero within = omega (arith, start_of-zero (source_lines source))
start-inside source (suc k) within =
    let all = cond_both (eqb (last_byte source) 10) (length source - 1) (length source) (λ n. length source ≤ n + 1) (λ _. omega arith) (λ _. omega arith) in
    let next : k + 1 ≡ suc k = omega arith in
    omega (arith, ap (start_of (source_lines source)) next, start_of-inside source k (omega (arith, within)), all)

shown_start-inside : (fold : Bool) (source : List ℕ) (first : ℕ) → shown_start fold source first ≤ text_end source
shown_start-inside fold source first = grind (arith, cond_both, start-inside, line_of-within)

-- ---- the LF of the texts of edits
abbrev pub text_feeds : List Edit → ℕ
text_feeds es = sum_by (λ e. feeds e.text) es

-- trimmed they have no more
text_feeds-trimmed : (source : List ℕ) (at : ℕ) (es : List Edit) → AreApart at es → text_feeds (map (trimmed_edit source) es) ≤ text_feeds es
text_feeds-trimmed source at [] apart = omega arith
text_feeds-trimmed source at (e ∷ es) apart =
    grind (arith, common_steps, trimmed_edit-shrunk, feeds-append, sum_by-cons, text_feeds-trimmed source e.end es apart.2)

-- in order they have as many
text_feeds-put_in : (e : Edit) (ds : List Edit) → text_feeds (put_in precedes e ds) ≡ feeds e.text + text_feeds ds
text_feeds-put_in e [] = sum_by-cons (λ d. feeds d.text) e []
text_feeds-put_in e (d ∷ ds) = grind (arith, common_steps, cond_both, sum_by-cons, text_feeds-put_in e ds)

text_feeds-in_order : (es : List Edit) → text_feeds (in_order es) ≡ text_feeds es
text_feeds-in_order [] = refl
text_feeds-in_order (e ∷ es) = simp (text_feeds-put_in, sum_by-cons, text_feeds-in_order es)

-- ---- the LF of what is written

written-feeds : (source : List ℕ) (at : ℕ) (ts : List Edit) → AreApart at ts
    → feeds (take (in_text source at) source) + feeds (written_from source at ts) ≤ feeds (take (in_text source (end_from at ts)) source) + text_feeds ts
written-feeds source at [] apart = omega arith
written-feeds source at (t ∷ ts) apart =
    let rest : List ℕ = written_from source t.end ts in
    let between = count-with_line_feeds (slice_range source (in_text source at) (in_text source t.start)) in
    let before = feeds-between source (in_text source at) (in_text source t.start) (in_text-mono source at t.start apart.0) in
    let under = feeds-between source (in_text source t.start) (in_text source t.end) (in_text-mono source t.start t.end apart.1) in
    omega (arith, between, before, under, written-feeds source t.end ts apart.2, feeds-append, sum_by-cons)

-- what is shown of the rest has no more than the rest
rest-feeds : (fold closed : Bool) (rest : List ℕ) → feeds (shown_rest fold closed rest) ≤ feeds rest
rest-feeds x y z = grind (arith, feeds-none, IsLine-at, length-source_lines)

final-feeds : (text : List ℕ) → feeds (without_final_line_feeds text) ≤ feeds text
final-feeds text =
    let h : Shortens text (without_final_line_feeds text) = Shortens-final text in
    omega (arith, ap feeds h.whole, feeds-append (without_final_line_feeds text) h.tail)

-- the lines that are shown, and those of the source before them, are at most those of the source, one for each LF of the
-- edits' texts, and one more
pub shown-bound : (fold : Bool) (source : List ℕ) (es : List Edit) → AreApart 0 (in_order es)
    → shown_line fold source es + length (lines_of (shown_text fold source es)) ≤ length (source_lines source) + text_feeds es + 1
unfolding shown_text
shown-bound fold source es apart =
    let first : ℕ = first_start (in_order es) in
    let s : ℕ = shown_start fold source first in
    let ts : List Edit = trimmed_edits source es in
    let end : ℕ = end_from s ts in
    let w : List ℕ = written_from source s ts in
    let rest : List ℕ = shown_rest fold (closes_line ts) (drop end source) in
    let zero_less : s - 0 ≡ s = omega arith in
    let before : feeds (take s source) ≡ shown_line fold source es = ap (λ n. feeds (take n source)) (sym zero_less) ∙ feeds-shown fold source es in
    let to = feeds-between source (in_text source end) end (in_text-le source end) in
    let after : feeds (take end source) + feeds (drop end source) ≡ feeds source = feeds-after source end in
    let texts : text_feeds ts ≤ text_feeds es = omega (arith, text_feeds-trimmed source 0 (in_order es) apart, text_feeds-in_order es) in
    let all : length (lines_of (without_final_line_feeds (w ++ rest))) ≤ feeds w + feeds rest + 1 = omega
    (arith, lines-feeds (without_final_line_feeds (w ++ rest)), final-feeds (w ++ rest), feeds-append w rest) in
    let from : feeds (take s source) ≤ feeds (take (in_text source s) source) = in_text-feeds source s (shown_start-inside fold source first) in
    omega (arith, written-feeds source s ts (shown-apart fold source es apart), rest-feeds fold (closes_line ts) (drop end source), feeds-source source)
