-- Laws of the text that is shown, as it is written.
use Rattle.snippet_splice.proofs.Common.{◌≡◌, ◌≢◌, ℕ, ◌≤◌, Bool, min, Some, None, List, [], ◌∷◌, ◌++◌, length, map, drop, refl, sym, arith, cond_both}
use Rattle.snippet_splice.proofs.Common.{drop_min, IsCharBoundary-start, slice_get, IsUtf8, IsCharBoundary, Patch, HoldsByte-source, IsCharBoundary-start_of}
use Rattle.snippet_splice.proofs.Common.{TrimmedPatch, Edit, edit_of, trimmed_edit, trimmed_edits, in_order, trimmed_edit_of, edit_bounds, original_bounds_of}
use Rattle.snippet_splice.proofs.Common.{AreApart, put_in, first_start, closes_line, shown_start, shown_rest, without_final_line_feeds, shown_text}
use Rattle.snippet_splice.proofs.Common.{written_from, end_from, rules}
use Rattle.snippet_splice.proofs.EditLemmas.{AreApart-earlier, trimmed-apart}

put_in-some : {X : Type 0} (lt : X → X → Bool) (x : X) (ys : List X) → put_in lt x ys ≢ []
put_in-some lt x [] = λ e. cc
put_in-some lt x (y ∷ ys) = search rules

map-some : (source : List ℕ) (es : List Edit) → es ≢ [] → map (trimmed_edit source) es ≢ []
map-some source [] some = some
map-some source (d ∷ es) some = λ e. cc

-- where there are patches there are trimmed edits
pub some-edits : (source : List ℕ) (ps : List Patch) → ps ≢ [] → trimmed_edits source (map edit_of ps) ≢ []
some-edits source [] some = absurd (some refl)
some-edits source (p ∷ ps) some = grind (arith, map-some, put_in-some)

-- where nothing is left there was nothing
pub none_given : (source : List ℕ) (ps : List Patch) (ts : List TrimmedPatch) → map trimmed_edit_of ts ≡ trimmed_edits source (map edit_of ps)
    → slice_get ts 0 ≡ None → ps ≡ []
none_given source [] ts same none = refl
none_given source (p ∷ ps) [] same none = absurd (some-edits source (p ∷ ps) (λ e. cc) (sym same))
none_given source (p ∷ ps) (t ∷ ts) same none = absurd (cc)

-- the first trimmed patch was the first in order
pub first_start-trimmed : (ts : List TrimmedPatch) (os : List Edit) (t : TrimmedPatch) → map original_bounds_of ts ≡ map edit_bounds os
    → slice_get ts 0 ≡ Some t
    → t.original_span.start ≡ first_start os
first_start-trimmed [] os t same some = absurd (cc)
first_start-trimmed (s ∷ ts) [] t same some = absurd (cc)
first_start-trimmed (s ∷ ts) (o ∷ os) t same some = search rules

-- the text that is shown begins where a character does, and by the start of the first edit
pub shown_start-border : (fold : Bool) (source : List ℕ) (first : ℕ) → IsUtf8 source → IsCharBoundary source (shown_start fold source first)
shown_start-border fold source first utf8 = grind (arith, cond_both, IsCharBoundary-start_of, IsCharBoundary-start)

pub shown_start-le : (fold : Bool) (source : List ℕ) (first : ℕ) → shown_start fold source first ≤ first
shown_start-le fold source first = grind (arith, cond_both, HoldsByte-source)

apart-first : (es : List Edit) → AreApart 0 es → AreApart (first_start es) es
apart-first x y = search rules

-- trimmed edits stand apart from where the text that is shown begins
pub shown-apart : (fold : Bool) (source : List ℕ) (es : List Edit) → AreApart 0 (in_order es)
    → AreApart (shown_start fold source (first_start (in_order es))) (trimmed_edits source es)
shown-apart fold source es apart = grind (arith, AreApart-earlier, shown_start-le, trimmed-apart, apart-first)

-- what is written is the text that is shown
pub shown-value : (fold : Bool) (source : List ℕ) (es ts : List Edit) (first start end : ℕ) (closed : Bool) (text rest : List ℕ)
    → ts ≡ trimmed_edits source es → first ≡ first_start (in_order es) → start ≡ shown_start fold source first → text ≡ written_from source start ts
    → end ≡ end_from start ts → closed ≡ closes_line ts → rest ≡ shown_rest fold closed (drop (min end (length source)) source)
    → without_final_line_feeds (text ++ rest) ≡ shown_text fold source es
unfolding shown_text
shown-value fold source es ts first start end closed text rest of_ts of_first of_start of_text of_end of_closed of_rest = grind (arith, drop_min)

-- where a patch was given an edit is left
pub some-trimmed : (ts : List TrimmedPatch) (es : List Edit) (t : TrimmedPatch) → map trimmed_edit_of ts ≡ es → slice_get ts 0 ≡ Some t → es ≢ []
some-trimmed [] es t same some = absurd (cc)
some-trimmed (s ∷ ts) [] t same some = absurd (cc)
some-trimmed (s ∷ ts) (e ∷ es) t same some = λ e. cc
