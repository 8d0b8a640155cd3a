-- The last line that edits reach, and the lines that are removed up to it.
use Rattle.snippet_suggest.proofs.Common.{◌≡◌, ℕ, zero, suc, ◌+◌, ◌-◌, ◌<◌, ◌≤◌, max, min, List, [], ◌∷◌, fold, get_or, length, common_steps}
use Rattle.snippet_suggest.proofs.Common.{map, refl, ap, ◌∙◌, arith, get_or-map, length-map, get_or-range_with_len, length-range_with_len, range_with_len}
use Rattle.snippet_suggest.proofs.Common.{Source, source_lines, text_at, line_of, length-source_lines, line_of-mono, LineInfo, LineEntry, entry_at, table_entry}
use Rattle.snippet_suggest.proofs.Common.{touched_entries, TrimmedPatch, end_from, Edit, trimmed_edits, AreApart, trimmed_edit_of, first_start}
use Rattle.snippet_suggest.proofs.Common.{last_line_reached, lines_touched, last_removed, texts_at, numbered_at}

-- ---- the end of the last edit

-- the last of some patches ends where the edits end
pub last_end : (at : ℕ) (ps : List TrimmedPatch) (d : TrimmedPatch) → 0 < length ps
    → (get_or ps (length ps - 1) d).span.end ≡ end_from at (map trimmed_edit_of ps)
last_end at [] d some = absurd (omega (arith, some))
last_end at (p ∷ []) d some = refl
last_end at (p ∷ q ∷ ps) d some = grind (arith, last_end p.span.end (q ∷ ps) d (omega arith), p.span.end)

-- an only patch ends where the edits end
pub only_end : (at : ℕ) (ps : List TrimmedPatch) (d : TrimmedPatch) → 0 < length ps → length ps < 2
    → (get_or ps 0 d).span.end ≡ end_from at (map trimmed_edit_of ps)
only_end at [] d some one = absurd (omega (arith, some))
only_end at (p ∷ []) d some one = refl
only_end at (p ∷ q ∷ ps) d some one = absurd (omega (arith, one))

-- the start of the first edit
pub first_begin : (ps : List TrimmedPatch) (d : TrimmedPatch) → 0 < length ps → (get_or ps 0 d).span.start ≡ first_start (map trimmed_edit_of ps)
first_begin [] d some = absurd (omega (arith, some))
first_begin (p ∷ ps) d some = refl

-- of edits that stand apart it isn't after the end of the last
end_after : (at : ℕ) (es : List Edit) → AreApart at es → at ≤ end_from at es
end_after at [] apart = omega arith
end_after at (e ∷ es) apart = omega (arith, end_after e.end es apart.2, apart.0, apart.1)

begin_before : (es : List Edit) → AreApart 0 es → first_start es ≤ end_from 0 es
begin_before x y = grind (arith, end_after)

-- patches that stand apart begin at the first one's start
pub least_begin : (ps : List TrimmedPatch) (d : TrimmedPatch) → 0 < length ps → AreApart 0 (map trimmed_edit_of ps)
    → min (get_or ps 0 d).span.start (get_or ps (length ps - 1) d).span.end ≡ first_start (map trimmed_edit_of ps)
least_begin ps d some apart = grind (arith, first_begin, last_end, begin_before)

-- of edits that stand apart it is the greatest
greatest_end : (at : ℕ) (es : List Edit) → AreApart at es → fold max at (map (λ e. e.end) es) ≡ end_from at es
greatest_end at [] apart = refl
greatest_end at (e ∷ es) apart = grind (arith, greatest_end e.end es apart.2)

-- the last line that edits reach is the one where the last of them ends
pub reached : (source : List ℕ) (es : List Edit) → AreApart 0 (trimmed_edits source es)
    → last_line_reached source es ≡ line_of (source_lines source) (end_from 0 (trimmed_edits source es))
unfolding last_line_reached
reached source es apart = ap (line_of (source_lines source)) (greatest_end 0 (trimmed_edits source es) apart)

-- ---- the lines that a span touches

touched_count : (s : Source) (infos : List LineInfo) (start end : ℕ) → start ≤ end → map table_entry infos ≡ touched_entries s start end
    → length infos ≡ line_of (source_lines s.text) end + 1 - line_of (source_lines s.text) start
touched_count s infos start end ordered are = grind (arith, length-map, length-range_with_len)

lines_ordered : (s : Source) (start end : ℕ) → start ≤ end → line_of (source_lines s.text) start ≤ line_of (source_lines s.text) end
lines_ordered s start end ordered = line_of-mono (source_lines s.text) start end (omega (arith, length-source_lines s.text)) ordered

-- at least one line is touched
pub touched_some : (s : Source) (infos : List LineInfo) (start end : ℕ) → start ≤ end → map table_entry infos ≡ touched_entries s start end → 0 < length infos
touched_some s infos start end ordered are = grind (arith, touched_count, lines_ordered)

-- their texts
pub touched_texts : (s : Source) (infos : List LineInfo) (start end : ℕ) → map table_entry infos ≡ touched_entries s start end
    → texts_at infos ≡ map (text_at (source_lines s.text)) (lines_touched s.text start end)
touched_texts s infos start end are = grind (arith, common_steps, own, theirs)
  where
    own : (is : List LineInfo) → texts_at is ≡ map (λ (e : LineEntry). e.text) (map table_entry is)
    own [] = refl
    own (info ∷ is) = ap (λ ts. info.line.now ∷ ts) (own is)

    theirs : (ks : List ℕ) → map (λ (e : LineEntry). e.text) (map (entry_at s.first (source_lines s.text)) ks) ≡ map (text_at (source_lines s.text)) ks
    theirs [] = refl
    theirs (k ∷ ks) = ap (λ ts. text_at (source_lines s.text) k ∷ ts) (theirs ks)

-- their numbers and texts
pub touched_numbered : (s : Source) (infos : List LineInfo) (start end : ℕ) → map table_entry infos ≡ touched_entries s start end
    → numbered_at infos ≡ map {B = ℕ × List ℕ} (λ k. (s.first + k, text_at (source_lines s.text) k)) (lines_touched s.text start end)
touched_numbered s infos start end are = grind (arith, common_steps, own, theirs)
  where
    own : (is : List LineInfo) → numbered_at is ≡ map {B = ℕ × List ℕ} (λ (e : LineEntry). (e.number, e.text)) (map table_entry is)
    own [] = refl
    own (info ∷ is) = ap (λ ls. (info.line_index, info.line.now) ∷ ls) (own is)

    theirs : (ks : List ℕ)
        → map {B = ℕ × List ℕ} (λ (e : LineEntry). (e.number, e.text)) (map (entry_at s.first (source_lines s.text)) ks)
        ≡ map {B = ℕ × List ℕ} (λ k. (s.first + k, text_at (source_lines s.text) k)) ks
    theirs [] = refl
    theirs (k ∷ ks) = ap (λ ls. (s.first + k, text_at (source_lines s.text) k) ∷ ls) (theirs ks)

-- the last of them is the one on which the span ends
pub touched_last : (s : Source) (infos : List LineInfo) (start end : ℕ) → start ≤ end → map table_entry infos ≡ touched_entries s start end
    → last_removed infos ≡ text_at (source_lines s.text) (line_of (source_lines s.text) end)
touched_last s infos start end ordered are =
    let ls = source_lines s.text in
    let a : ℕ = line_of ls start in
    let b : ℕ = line_of ls end in
    let n : ℕ = b + 1 - a in
    let none : LineEntry = record { text = []; number = 0; start = 0; next = 0 } in
    let text : LineEntry → List ℕ = λ e. e.text in
    let count : length infos ≡ n = touched_count s infos start end ordered are in
    let low : a ≤ b = lines_ordered s start end ordered in
    let size : length (range_with_len a n) ≡ n = length-range_with_len a n in
    let at : a + (length infos - 1) ≡ b = omega arith in
    texts infos (length infos - 1) none (omega arith) ∙ ap (λ es. text (get_or es (length infos - 1) none)) are
    ∙ ap text (get_or-map (entry_at s.first ls) (range_with_len a n) (length infos - 1) 0 none (omega arith))
    ∙ ap (text_at ls) (get_or-range_with_len a n (length infos - 1) 0 (omega arith) ∙ at)
  where
    texts : (is : List LineInfo) (i : ℕ) (d : LineEntry) → i < length is → get_or (map (λ info. info.line.now) is) i [] ≡ (get_or (map table_entry is) i d).text
    texts [] i d within = absurd (omega (arith, within))
    texts (info ∷ is) zero d within = refl
    texts (info ∷ is) (suc i) d within = texts is i d (omega (arith, within))
