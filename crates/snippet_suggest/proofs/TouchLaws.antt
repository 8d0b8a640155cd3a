-- Each line that a patch touches is offered, unless it is blank or the suggestion's text is as it was.
use Rattle.snippet_suggest.proofs.Common.{◌≡◌, ◌≢◌, ℕ, ◌+◌, ◌-◌, ◌<◌, ◌≤◌, ◌⊎◌, inl, inr, Bool, true, false, not, common_steps, List, [], ◌∷◌, Contains, length}
use Rattle.snippet_suggest.proofs.Common.{map, get_or, refl, sym, ap, subst, ◌∙◌, ⊎_elim, arith, length-map, get_or-map, list_any_at, true≢false, and_from}
use Rattle.snippet_suggest.proofs.Common.{or_right, le-leb, cases_Bool, chars-nil, cow_str_bytes, Snippet, Patch, lines_of, source_lines, text_at, LineRange}
use Rattle.snippet_suggest.proofs.Common.{Edit, patched, without_final_line_feeds, IsTouched, line_ranges, ranges_from, spliced_text, texts_of, AreDisjoint}
use Rattle.snippet_suggest.proofs.Common.{ranges_from-written_ranges, IsShownPart, IsHeld, shown-touched, touched-held, DisplaySuggestion, Diff, IsOfferable}
use Rattle.snippet_suggest.proofs.Common.{edits_of, first_given, given_lines, given_ranges, given_text, is_left_out, last_reached, shown_kind, is_blank_text}
use Rattle.snippet_suggest.proofs.Common.{kind_of, is_touched, shown_from, IsAsItWas, numbers_given, numbers_of, offered_lines, numbers_shown, rules}
use Rattle.snippet_lines.specs.Lines.{Line}
use Rattle.snippet_suggest.proofs.ByKind.{counted_folded}
use Rattle.snippet_suggest.proofs.RisingLemmas.{touched_shown}
use Rattle.snippet_suggest.proofs.OfferLaws.{HaveSpans, edits-apart, given-is-patched, given-part}
use Rattle.snippet_suggest.proofs.GutterFits.{one_given}

-- a line in one of some ranges of the patched source is held by the same range counted from a later line on
held-later : (base j : ℕ) (ranges : List LineRange) → IsHeld (ranges_from base ranges) j → is_touched true ranges (j - base) ≡ true
held-later base j ranges h =
    let shift : LineRange → LineRange = λ r. record { first = base + r.first; last = base + r.last } in
    let i : ℕ = h.among.0 in
    let within : i < length ranges = omega (arith, h.among.1, length-map ranges shift) in
    let r : LineRange = get_or ranges i h.range in
    let same : shift r ≡ h.range = sym (get_or-map shift ranges i h.range h.range within) ∙ h.among.2 in
    let from : base + r.first ≤ j = omega (arith, h.from, ap (λ q. q.first) same) in
    let to : j ≤ base + r.last = omega (arith, h.to, ap (λ q. q.last) same) in grind (arith, common_steps, list_any_at, and_from, le-leb, within, from, to)

-- a line is left out only of a diff: it is blank, or the same as the last that is removed
left_out : (kind : DisplaySuggestion) (lines : List (List ℕ)) (last : List ℕ) → is_left_out kind lines last ≡ true
    → (kind ≡ Diff) × ((is_blank_text (get_or lines 0 []) ≡ true) ⊎ (get_or lines 0 [] ≡ last))
left_out x y z u = search rules

-- a diff has at most one line
diff-one : (source : List ℕ) (ts : List Edit) (text : List ℕ) → kind_of source ts text ≡ Diff → length (lines_of text) ≤ 1
diff-one source ts text is = one_given source ts text (ap (λ k. counted_folded k 0 0 1) is)

-- a line that isn't blank isn't empty
not-empty : (text : List ℕ) → is_blank_text text ≡ false → text ≢ []
not-empty text filled none = grind (arith, chars-nil)

-- a list of one element
only : {X : Type 0} (xs : List X) (d : X) → 0 < length xs → length xs ≤ 1 → xs ≡ get_or xs 0 d ∷ []
only [] d some few = absurd (omega (arith, some))
only (x ∷ []) d some few = refl
only (x ∷ y ∷ xs) d some few = absurd (omega (arith, few))

-- numbers counted from elsewhere
contains-moved : (base k j : ℕ) (ks : List ℕ) → base + k ≡ j → Contains ks k → Contains (map (λ n. base + n) ks) j
contains-moved base k j ks is among = grind (arith, length-map, get_or-map)

-- where none is left out they are those that are shown
none-left-out : (kind : DisplaySuggestion) (folds : Bool) (ranges : List LineRange) (lines : List (List ℕ)) (last : List ℕ)
    → is_left_out kind lines last ≡ false → numbers_of kind folds ranges lines last ≡ numbers_shown (shown_from (is_touched folds ranges) 0 0 (length lines))
none-left-out kind folds ranges lines last none = grind (arith)

-- where the line of a text is left out, it is blank or the text is as it was
lone_patch_left_out : (s : Snippet Patch) → HaveSpans s → AreDisjoint (edits_of s) → s.markers.items ≢ [] → IsOfferable s → 0 < length (given_lines s)
    → is_left_out (shown_kind s) (given_lines s) (last_reached s) ≡ true
    → (length (given_lines s) ≤ 1) × ((is_blank_text (get_or (given_lines s) 0 []) ≡ true) ⊎ IsAsItWas s)
lone_patch_left_out s spans disjoint some offerable first is =
    let source : List ℕ = cow_str_bytes s.source.text in
    let why = left_out (shown_kind s) (given_lines s) (last_reached s) is in
    let one : length (given_lines s) ≤ 1 = grind (arith, common_steps, diff-one, length-map) in
    let part : IsShownPart s.fold source (edits_of s) = given-part s spans disjoint some offerable in
    let text : spliced_text s.fold source (edits_of s) ≡ given_text s = part.spliced ∙ sym part.text in
    (one, ⊎_elim (λ blank. inl blank) (λ same. inr (ap (λ t. texts_of (lines_of t)) text ∙ only (given_lines s) [] first one ∙ ap (λ t. t ∷ []) same)) why.1)

-- where a line is touched there are patches
touched_some : (s : Snippet Patch) (j : ℕ) → IsTouched (cow_str_bytes s.source.text) (edits_of s) j → s.markers.items ≢ []
touched_some s j touched none = grind (arith)

-- each touched line that isn't blank is offered, unless the text is as it was
pub touched-offered : (s : Snippet Patch) → HaveSpans s → AreDisjoint (edits_of s) → IsOfferable s → (j : ℕ)
    → IsTouched (cow_str_bytes s.source.text) (edits_of s) j
    → is_blank_text (text_at (source_lines (patched (cow_str_bytes s.source.text) (edits_of s))) j) ≡ false → IsAsItWas s ⊎ Contains (offered_lines s) j
touched-offered s spans disjoint offerable j touched filled =
    let some : s.markers.items ≢ [] = touched_some s j touched in
    let source : List ℕ = cow_str_bytes s.source.text in
    let es : List Edit = edits_of s in
    let base : ℕ = first_given s in
    let ls : List Line = source_lines (patched source es) in
    let part : IsShownPart s.fold source es = given-part s spans disjoint some offerable in
    let bounds = shown-touched s.fold source es offerable.no_cr offerable.before (edits-apart s spans disjoint) part j touched
    (not-empty (text_at ls j) filled) in
    let count : length (given_lines s) ≡ length (lines_of (without_final_line_feeds part.part)) = length-map (lines_of (given_text s)) (λ l. l.0)
    ∙ ap (λ t. length (lines_of t)) part.text in
    let k : ℕ = j - base in
    let low : k < length (given_lines s) = omega (arith, bounds.0, bounds.1, count) in
    let is_j : base + k ≡ j = omega (arith, bounds.0) in
    ⊎_elim
    (λ out. let why = lone_patch_left_out s spans disjoint some offerable (omega (arith, low)) out in
    ⊎_elim
    (λ blank. let zero_k : k ≡ 0 = omega (arith, low, why.0) in
    let at : get_or (given_lines s) 0 [] ≡ text_at ls j = ap (λ n. get_or (given_lines s) n []) (sym zero_k)
    ∙ (given-is-patched s spans disjoint some offerable k low).1 ∙ ap (text_at ls) is_j in
    absurd (true≢false (sym blank ∙ ap is_blank_text at ∙ filled)))
    (λ as_it_was. inl as_it_was) why.1)
    (λ shown. let ranges : ranges_from base (given_ranges s) ≡ line_ranges source es = ranges_from-written_ranges s.fold source es offerable.no_cr
    offerable.before (edits-apart s spans disjoint) in
    let held : is_touched true (given_ranges s) k ≡ true = held-later base j (given_ranges s)
    (subst (λ rs. IsHeld rs j) (sym ranges) (touched-held source es j touched)) in
    let among : Contains (numbers_shown (shown_from (is_touched s.fold (given_ranges s)) 0 0 (length (given_lines s)))) k = touched_shown
    (is_touched s.fold (given_ranges s)) (length (given_lines s)) k low (or_right (not s.fold) (is_touched true (given_ranges s) k) held) in
    inr (contains-moved base k j (numbers_given s) is_j (subst (λ ks.
    Contains ks k) (sym (none-left-out (shown_kind s) s.fold (given_ranges s) (given_lines s) (last_reached s) shown)) among)))
    (cases_Bool (is_left_out (shown_kind s) (given_lines s) (last_reached s)))
