-- Which lines a suggestion that is prepared shows as removed, and their texts.
use Rattle.snippet_suggest.proofs.Common.{◌==◌, ◌≡◌, ℕ, zero, suc, ◌+◌, ◌-◌, ◌≤◌, Bool, true, if◌then◌else◌, List, [], ◌∷◌, length, map, take, refl, sym, ap}
use Rattle.snippet_suggest.proofs.Common.{◌∙◌, arith, cow_str_bytes, range_with_len, bytes_eq, length-map, take-map, length-range_with_len, source_lines}
use Rattle.snippet_suggest.proofs.Common.{text_at, line_of, LineInfo, table_entry, touched_entries, end_from, trimmed_edit_of, first_start, PreparedSuggestion}
use Rattle.snippet_suggest.proofs.Common.{Diff, emptied_lines, first_given, given_lines, last_reached, lines_touched, removed_lines, replaced_lines, trimmed_of}
use Rattle.snippet_suggest.proofs.Common.{Removes, SuggestionRow, texts_of_source, last_removed, texts_at, unless_stays, counted_from, numbered_at}
use Rattle.snippet_suggest.proofs.Common.{removed_from, IsPrepared, first_original, first_original_end, is_touched, capped_sum, common_steps, rules}
use Rattle.snippet_suggest.proofs.KnownLemmas.{known_first_end, known_first_start}
use Rattle.snippet_suggest.proofs.ReachLemmas.{touched_numbered, touched_texts}
use Rattle.snippet_suggest.proofs.OrderLaws.{removed_row}

-- the texts of the lines that a span touches are those of the source
touched_source : (p : PreparedSuggestion) → IsPrepared p → (infos : List LineInfo) (start end : ℕ) → map table_entry infos ≡ touched_entries p.map start end
    → texts_at infos ≡ texts_of_source p.snippet.now (lines_touched (cow_str_bytes p.snippet.now.source.text) start end)
touched_source p is infos start end are = grind (arith, touched_texts)

-- those of the first patch's span, or of the whole source
touched_either : (folds : Bool) (source : List ℕ) (start end size : ℕ)
    → lines_touched source (if folds then start else 0) (if folds then end else size)
    ≡ (if folds then lines_touched source start end else lines_touched source 0 size)
touched_either x y z u v = search rules

known_emptied : (p : PreparedSuggestion) → IsPrepared p → (start end : ℕ)
    → start ≡ (if p.snippet.now.fold then first_original p.splice.patches.items else 0)
    → end ≡ (if p.snippet.now.fold then first_original_end p.splice.patches.items else length p.map.text)
    → lines_touched (cow_str_bytes p.snippet.now.source.text) start end ≡ emptied_lines p.snippet.now
known_emptied p is start end starts ends = grind (arith, common_steps, known_first_start, known_first_end, touched_either)

-- the rows of lines that are removed, where these stand one after the other in the source
range_removed : (f : ℕ → ℕ × List ℕ) (a n : ℕ) → removed_from a (map f (range_with_len a n)) ≡ map (λ k. Removes k (f k).0 (f k).1) (range_with_len a n)
range_removed f a zero = refl
range_removed f a (suc n) = ap (λ rows. Removes a (f a).0 (f a).1 ∷ rows) (range_removed f (a + 1) n)

range_counted : (f : ℕ → List ℕ) (first a b j n : ℕ) → b ≡ a + j
    → counted_from first j (map f (range_with_len b n)) ≡ map {B = ℕ × List ℕ} (λ k. (capped_sum first (k - a), f k)) (range_with_len b n)
range_counted f first a b j zero at = refl
range_counted f first a b j (suc n) at =
    let here : j ≡ b - a = omega (arith, at) in
    let rest : counted_from first (j + 1) (map f (range_with_len (b + 1) n))
    ≡ map {B = ℕ × List ℕ} (λ k. (capped_sum first (k - a), f k)) (range_with_len (b + 1) n) = range_counted f first a (b + 1) (j + 1) n
    (omega (arith, at)) in
    ap (λ ls. (capped_sum first j, f b) ∷ ls) rest ∙ ap (λ (m : ℕ). (capped_sum first m, f b) ∷ map {B = ℕ × List ℕ} (λ k.
    (capped_sum first (k - a), f k)) (range_with_len (b + 1) n)) here

-- the rows of those that are removed where no line stands in their place
pub known_emptied_rows : (p : PreparedSuggestion) → IsPrepared p → (infos : List LineInfo) (start end : ℕ) → given_lines p.snippet.now ≡ []
    → start ≡ (if p.snippet.now.fold then first_original p.splice.patches.items else 0)
    → end ≡ (if p.snippet.now.fold then first_original_end p.splice.patches.items else length p.map.text)
    → map table_entry infos ≡ touched_entries p.map start end
    → removed_from (line_of (source_lines p.map.text) start) (numbered_at infos) ≡ map (removed_row p.snippet.now) (removed_lines p.snippet.now)
known_emptied_rows p is infos start end none starts ends are =
    let s = p.snippet.now in
    let source : List ℕ = cow_str_bytes s.source.text in
    let ls = source_lines p.map.text in
    let a : ℕ = line_of ls start in
    let n : ℕ = line_of ls end + 1 - a in
    let own : ℕ → ℕ × List ℕ = λ k. (p.map.first + k, text_at ls k) in
    let begin : ℕ = line_of (source_lines source) (first_start (trimmed_of s)) in
    let counted : ℕ → ℕ = λ k. capped_sum (s.line_start + first_given s) (k - begin) in
    let row : List (List ℕ) → ℕ → SuggestionRow = λ given k.
    Removes k (if length given == 0 then s.line_start + k else counted k) (text_at (source_lines source) k) in
    let ks : List ℕ = removed_lines s in
    let lines : lines_touched source start end ≡ ks = cc (known_emptied p is start end starts ends, none) in
    ap (removed_from a) (touched_numbered p.map infos start end are) ∙ range_removed own a n
    ∙ ap (λ m. map (λ k. Removes k (m.first + k) (text_at (source_lines m.text) k)) (lines_touched m.text start end)) is.lines
    ∙ ap (map (row [])) lines ∙ ap (λ (given : List (List ℕ)). map (row given) ks) (sym none)

-- the texts of some lines, without the last if that stays
unless_stays-map : (stays : Bool) (f : ℕ → List ℕ) (ks : List ℕ) → unless_stays stays (map f ks) ≡ map f (unless_stays stays ks)
unless_stays-map x y z = grind (arith, length-map, take-map)

-- so many numbers that follow on one another, without the last if that stays
take_range : (a n k : ℕ) → k ≤ n → take k (range_with_len a n) ≡ range_with_len a k
take_range a n zero fits = refl
take_range a zero (suc k) fits = absurd (omega (arith, fits))
take_range a (suc n) (suc k) fits = ap (λ ks. a ∷ ks) (take_range (a + 1) n k (omega (arith, fits)))

-- a range without its last where that stays is a shorter range
pub unless_range : (stays : Bool) (a n : ℕ) → unless_stays stays (range_with_len a n) ≡ range_with_len a (if stays then n - 1 else n)
unless_range x y z = grind (arith, length-range_with_len, take_range)

-- where one line is given and a patch touches it, those from the first trimmed patch's start to the last one's end are removed,
-- without the last if that stays
removes_replaced : (p : PreparedSuggestion) → IsPrepared p → (line : List ℕ) → p.kind ≡ Diff → given_lines p.snippet.now ≡ line ∷ []
    → removed_lines p.snippet.now ≡ replaced_lines p.snippet.now
removes_replaced p is line diff one = search rules

-- lines are replaced where the given one is touched: those from the first edit to the last, but one that stays
pub replaced_touched : (p : PreparedSuggestion) → IsPrepared p → (line : List ℕ) → given_lines p.snippet.now ≡ line ∷ []
    → true ≡ is_touched p.snippet.now.fold p.splice.ranges.items 0
    → replaced_lines p.snippet.now ≡ unless_stays (bytes_eq line (last_reached p.snippet.now))
    (lines_touched (cow_str_bytes p.snippet.now.source.text) (first_start (trimmed_of p.snippet.now)) (end_from 0 (trimmed_of p.snippet.now)))
replaced_touched p is line one touches = grind (arith, common_steps)

-- those from the first trimmed patch's start to the last one's end
pub known_replaced : (p : PreparedSuggestion) → IsPrepared p → (line : List ℕ) (infos : List LineInfo) (start end : ℕ)
    → given_lines p.snippet.now ≡ line ∷ [] → true ≡ is_touched p.snippet.now.fold p.splice.ranges.items 0
    → start ≡ first_start (map trimmed_edit_of p.splice.patches.items) → end ≡ end_from 0 (map trimmed_edit_of p.splice.patches.items)
    → map table_entry infos ≡ touched_entries p.map start end → last_removed infos ≡ last_reached p.snippet.now
    → unless_stays (bytes_eq line (last_removed infos)) (texts_at infos) ≡ texts_of_source p.snippet.now (replaced_lines p.snippet.now)
known_replaced p is line infos start end one touches starts ends are reached =
    let s = p.snippet.now in
    let source : List ℕ = cow_str_bytes s.source.text in
    let ks : List ℕ = lines_touched source (first_start (trimmed_of s)) (end_from 0 (trimmed_of s)) in
    let stays : Bool = bytes_eq line (last_reached s) in
    let from : start ≡ first_start (trimmed_of s) = starts ∙ ap first_start is.edits in
    let to : end ≡ end_from 0 (trimmed_of s) = ends ∙ ap (end_from 0) is.edits in
    let texts : texts_at infos ≡ texts_of_source s ks = cc (touched_source p is infos start end are, from, to) in
    let lines : replaced_lines s ≡ unless_stays stays ks = replaced_touched p is line one touches in
    cc (reached, texts, unless_stays-map stays (text_at (source_lines source)) ks, lines)

-- the rows of those
pub known_replaced_rows : (p : PreparedSuggestion) → IsPrepared p → (line : List ℕ) (infos : List LineInfo) (start end first : ℕ) → p.kind ≡ Diff
    → given_lines p.snippet.now ≡ line ∷ [] → true ≡ is_touched p.snippet.now.fold p.splice.ranges.items 0
    → start ≡ first_start (map trimmed_edit_of p.splice.patches.items) → end ≡ end_from 0 (map trimmed_edit_of p.splice.patches.items)
    → map table_entry infos ≡ touched_entries p.map start end → last_removed infos ≡ last_reached p.snippet.now
    → first ≡ p.snippet.now.line_start + first_given p.snippet.now
    → removed_from (line_of (source_lines (cow_str_bytes p.snippet.now.source.text)) (first_start (trimmed_of p.snippet.now)))
    (counted_from first 0 (unless_stays (bytes_eq line (last_removed infos)) (texts_at infos))) ≡ map (removed_row p.snippet.now)
    (removed_lines p.snippet.now)
known_replaced_rows p is line infos start end first diff one touches starts ends are reached numbered =
    let s = p.snippet.now in
    let source : List ℕ = cow_str_bytes s.source.text in
    let ls = source_lines source in
    let a : ℕ = line_of ls (first_start (trimmed_of s)) in
    let n : ℕ = line_of ls (end_from 0 (trimmed_of s)) + 1 - a in
    let stays : Bool = bytes_eq line (last_reached s) in
    let m : ℕ = if stays then n - 1 else n in
    let text : ℕ → List ℕ = text_at ls in
    let row : List (List ℕ) → ℕ → ℕ → SuggestionRow = λ given at k.
    Removes k (if length given == 0 then s.line_start + k else capped_sum at (k - a)) (text k) in
    let ks : List ℕ = removed_lines s in
    let lines : replaced_lines s ≡ range_with_len a m = replaced_touched p is line one touches ∙ unless_range stays a n in
    let removed : range_with_len a m ≡ ks = sym lines ∙ sym (removes_replaced p is line diff one) in
    let texts : unless_stays (bytes_eq line (last_removed infos)) (texts_at infos)
    ≡ map text (range_with_len a m) = known_replaced p is line infos start end one touches starts ends are reached ∙ ap (map text) lines in
    let begun : a ≡ a + 0 = omega arith in
    let rows : removed_from a (counted_from first 0 (map text (range_with_len a m)))
    ≡ map (row (line ∷ []) first) (range_with_len a m) = ap (removed_from a) (range_counted text first a a 0 m begun)
    ∙ range_removed (λ k. (capped_sum first (k - a), text k)) a m in
    ap (λ (ts : List (List ℕ)). removed_from a (counted_from first 0 ts)) texts ∙ rows ∙ ap (map (row (line ∷ []) first)) removed
    ∙ ap (λ (at : ℕ). map (row (line ∷ []) at) ks) numbered ∙ ap (λ (given : List (List ℕ)). map (row given (s.line_start + first_given s)) ks) (sym one)
