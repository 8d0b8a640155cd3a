-- Laws of edits that overlap.
use Rattle.snippet_splice.proofs.Common.{◌≡◌, ℕ, zero, suc, ◌+◌, ◌-◌, ◌<◌, ◌≤◌, true, false, ltb, Bool, Option, Some, None, List, [], ◌∷◌, length, map}
use Rattle.snippet_splice.proofs.Common.{get_or, All, IfSome, IfNone, sym, ap, subst, ◌∙◌, ⊎_elim, arith, refl, position_from, option_map, option_or}
use Rattle.snippet_splice.proofs.Common.{get_or-map, length-map, All-from_get_or, All-cons, All-head, All-tail, All-map, cases_Bool, cond-true, cond-false}
use Rattle.snippet_splice.proofs.Common.{ltb-false, false_from_ne_true, Patch, IsSpan, Edit, edit_of, precedes, in_order, put_in, overlap, first_overlap_from}
use Rattle.snippet_splice.proofs.Common.{common_steps}
use Rattle.snippet_splice.proofs.Common.{first_overlap, overlap_at, no_edit, AreDisjoint, AreOverlapping, IsFirstOverlap, AreApart, rules}

-- the edit at a place is that of the patch there
pub get_or-edit_of : (ps : List Patch) (k : ℕ) (p : Patch) → k < length ps → p ≡ get_or ps k p → get_or (map edit_of ps) k no_edit ≡ edit_of p
get_or-edit_of ps k p within is = get_or-map edit_of ps k p no_edit within ∙ ap edit_of (sym is)

-- two patches overlap where their edits do
pub overlap-seen : (ps : List Patch) (m n : ℕ) (p q : Patch) → m < length ps → n < length ps → p ≡ get_or ps m p → q ≡ get_or ps n q
    → overlap_at (map edit_of ps) m n ≡ overlap (edit_of p) (edit_of q)
overlap-seen ps m n p q low high first second = grind (arith, get_or-edit_of)

-- the edits of spans that are taken start before they end
pub ordered-spans : (source : List ℕ) (ps : List Patch) → All (λ p. IsSpan source p.span.start p.span.end) ps → All (λ e. e.start ≤ e.end) (map edit_of ps)
ordered-spans source ps spans = omega (arith, All-map (λ e. e.start ≤ e.end) edit_of ps (λ k d within. (spans k d within).ordered))

-- ---- edits given in order, one after the other

overlap-after : (d e : Edit) → d.start ≤ d.end → e.start ≤ e.end → d.end ≤ e.start → overlap d e ≡ false
overlap-after d e a b h = search rules

far : (es : List Edit) → ((k : ℕ) → k + 1 < length es → (get_or es k no_edit).end ≤ (get_or es (k + 1) no_edit).start)
    → ((k : ℕ) → k < length es → (get_or es k no_edit).start ≤ (get_or es k no_edit).end) → (m d : ℕ) → m + d + 1 < length es
    → (get_or es m no_edit).end ≤ (get_or es (m + d + 1) no_edit).start
far es steps ordered m zero within = search rules
far es steps ordered m (suc d) within = grind (arith, common_steps, far es steps ordered m d (omega arith))

disjoint-in_order : (es : List Edit) → ((k : ℕ) → k + 1 < length es → (get_or es k no_edit).end ≤ (get_or es (k + 1) no_edit).start)
    → ((k : ℕ) → k < length es → (get_or es k no_edit).start ≤ (get_or es k no_edit).end) → AreDisjoint es
disjoint-in_order es steps ordered m n low high =
    let e : m + (n - m - 1) + 1 ≡ n = omega arith in
    overlap-after (get_or es m no_edit) (get_or es n no_edit) (ordered m (omega arith)) (ordered n high)
    (subst (λ k. (get_or es m no_edit).end ≤ (get_or es k no_edit).start) e (far es steps ordered m (n - m - 1) (omega arith)))

-- patches of which each ends at the start of the next or before it don't overlap
pub disjoint-apart : (source : List ℕ) (ps : List Patch) → All (λ p. IsSpan source p.span.start p.span.end) ps
    → ((k : ℕ) → k + 1 < length ps → (get_or (map edit_of ps) k no_edit).end ≤ (get_or (map edit_of ps) (k + 1) no_edit).start) → AreDisjoint (map edit_of ps)
disjoint-apart source ps spans apart =
    let size : length (map edit_of ps) ≡ length ps = length-map ps edit_of in
    disjoint-in_order (map edit_of ps) (λ k within. apart k (omega arith)) (λ k within. ordered-spans source ps spans k no_edit within)

-- ---- edits that don't overlap stand apart once they are in order

-- an edit doesn't overlap with one that is given later
abbrev pub ClearOf : Edit → Edit → Type 0
ClearOf e d = overlap e d ≡ false

put-apart : (at : ℕ) (e : Edit) (ds : List Edit) → at ≤ e.start → e.start ≤ e.end → AreApart at ds → All (ClearOf e) ds → AreApart at (put_in precedes e ds)
put-apart at e [] low ordered apart clear = (low, ordered, tt)
put-apart at e (d ∷ ds) low ordered apart clear =
    let here : ClearOf e d = clear 0 d (omega arith) in
    ⊎_elim
    (λ t. let after : d.end ≤ e.start = ltb-false e.start d.end (sym (cond-true (precedes d e) (ltb e.start d.end) (ltb d.start e.end) t) ∙ here) in
    subst (AreApart at) (sym (cond-true (precedes d e) (d ∷ put_in precedes e ds) (e ∷ d ∷ ds) t))
    (apart.0, apart.1, put-apart d.end e ds after ordered apart.2 (λ k x within. clear (suc k) x (omega arith))))
    (λ f. let before : e.end ≤ d.start = ltb-false d.start e.end (sym (cond-false (precedes d e) (ltb e.start d.end) (ltb d.start e.end) f) ∙ here) in
    subst (AreApart at) (sym (cond-false (precedes d e) (d ∷ put_in precedes e ds) (e ∷ d ∷ ds) f)) (low, ordered, (before, apart.1, apart.2)))
    (cases_Bool (precedes d e))

-- edits that don't overlap stand apart once they are in order
pub apart-in_order : (es : List Edit) → All (λ e. e.start ≤ e.end) es → AreDisjoint es → AreApart 0 (in_order es)
apart-in_order [] ordered disjoint = tt
apart-in_order (e ∷ es) ordered disjoint =
    let rest = apart-in_order es (λ k d within. ordered (suc k) d (omega arith)) (λ m n low high. disjoint (suc m) (suc n) (omega arith) (omega arith)) in
    put-apart 0 e (in_order es) (omega arith) (ordered 0 e (omega arith)) rest
    (clear-in_order es (All-from_get_or (ClearOf e) es no_edit (λ k within. disjoint 0 (suc k) (omega arith) (omega arith))))
  where
    clear-put : (d : Edit) (ds : List Edit) → ClearOf e d → All (ClearOf e) ds → All (ClearOf e) (put_in precedes d ds)
    clear-put d [] here all = All-cons (ClearOf e) d [] here all
    clear-put d (c ∷ ds) here all =
        ⊎_elim (λ t. rw t (All-cons (ClearOf e) c (put_in precedes d ds) (All-head (ClearOf e) c ds all)
        (clear-put d ds here (All-tail (ClearOf e) c ds all))))
        (λ f. rw f (All-cons (ClearOf e) d (c ∷ ds) here all)) (cases_Bool (precedes c d))

    clear-in_order : (ds : List Edit) → All (ClearOf e) ds → All (ClearOf e) (in_order ds)
    clear-in_order [] all = all
    clear-in_order (d ∷ ds) all =
        clear-put d (in_order ds) (All-head (ClearOf e) d ds all) (clear-in_order ds (All-tail (ClearOf e) d ds all))

-- ---- the pair that is named is the one that is computed

-- two pairs of numbers
same_pair : (a b c d : ℕ) → a ≡ c → b ≡ d → ◌≡◌ {A = Option (ℕ × ℕ)} (Some (a, b)) (Some (c, d))
same_pair a b c d first second = cc

position-found : (test : Edit → Bool) (i : ℕ) (es : List Edit) (k : ℕ) → k < length es → test (get_or es k no_edit) ≡ true
    → ((j : ℕ) → j < k → test (get_or es j no_edit) ≡ false) → position_from test i es ≡ Some (i + k)
position-found test i [] k within passes before = absurd (omega arith)
position-found test i (e ∷ es) zero within passes before = search rules
position-found test i (e ∷ es) (suc k) within passes before =
    let same : i + 1 + k ≡ i + suc k = omega arith in
    cond-false (test e) (Some i) (position_from test (i + 1) es) (before 0 (omega arith))
    ∙ position-found test (i + 1) es k (omega arith) passes (λ j low. before (suc j) (omega arith)) ∙ ap (λ n. Some n) same

position-none : (test : Edit → Bool) (i : ℕ) (es : List Edit) → ((j : ℕ) → j < length es → test (get_or es j no_edit) ≡ false) → position_from test i es ≡ None
position-none test i [] none = refl
position-none test i (e ∷ es) none =
    cond-false (test e) (Some i) (position_from test (i + 1) es) (none 0 (omega arith)) ∙ position-none test (i + 1) es (λ j low. none (suc j) (omega arith))

-- overlapping edits, with one more in front
overlapping-more : (e : Edit) (es : List Edit) (m n : ℕ) → AreOverlapping es m n → AreOverlapping (e ∷ es) (suc m) (suc n)
overlapping-more e es m n o = search rules

first_overlap-tail : (e : Edit) (es : List Edit) (m n : ℕ) → IsFirstOverlap (e ∷ es) (suc m) (suc n) → IsFirstOverlap es m n
first_overlap-tail e es m n first = record {
  is = record {
    before = omega (arith, first.is.before);
    within = omega (arith, first.is.within);
    overlapping = first.is.overlapping;
  };
  least_first = λ a b o. omega (arith, first.least_first (suc a) (suc b) (overlapping-more e es a b o));
  least_second = λ b o. omega (arith, first.least_second (suc b) (overlapping-more e es m b o));
}

overlap_from-some : (n : ℕ) (es : List Edit) (a b : ℕ) → IsFirstOverlap es a b → first_overlap_from n es ≡ Some (n + a, n + b)
overlap_from-some n [] a b first = absurd (omega (arith, first.is.within))
overlap_from-some n (e ∷ es) a zero first = absurd (omega (arith, first.is.before))
overlap_from-some n (e ∷ es) zero (suc b) first =
    let found = position-found (overlap e) (n + 1) es b (omega (arith, first.is.within)) first.is.overlapping
    (λ j low. false_from_ne_true (overlap e (get_or es j no_edit)) (λ t.
    let o : AreOverlapping (e ∷ es) 0 (suc j) = record { before = omega arith; within = omega (arith, low, first.is.within); overlapping = t } in
    absurd (omega (arith, low, first.least_second (suc j) o)))) in
    cc (found, same_pair n (n + 1 + b) (n + 0) (n + suc b) (omega arith) (omega arith))
overlap_from-some n (e ∷ es) (suc a) (suc b) first =
    let none : position_from (overlap e) (n + 1) es ≡ None = position-none (overlap e) (n + 1) es
    (λ j low. false_from_ne_true (overlap e (get_or es j no_edit)) (λ t.
    absurd (omega (arith, first.least_first 0 (suc j) (record { before = omega arith; within = omega (arith, low); overlapping = t }))))) in
    ap (λ p. option_or (option_map (λ k. (n, k)) p) (first_overlap_from (n + 1) es)) none
    ∙ overlap_from-some (n + 1) es a b (first_overlap-tail e es a b first)
    ∙ same_pair (n + 1 + a) (n + 1 + b) (n + suc a) (n + suc b) (omega arith) (omega arith)

overlap_from-none : (n : ℕ) (es : List Edit) → AreDisjoint es → first_overlap_from n es ≡ None
overlap_from-none n [] disjoint = refl
overlap_from-none n (e ∷ es) disjoint =
    ap (λ p. option_or (option_map (λ k. (n, k)) p) (first_overlap_from (n + 1) es))
    (position-none (overlap e) (n + 1) es (λ j low. disjoint 0 (suc j) (omega arith) (omega arith)))
    ∙ overlap_from-none (n + 1) es (λ a b low high. disjoint (suc a) (suc b) (omega arith) (omega arith))

first_overlap-some : (es : List Edit) (a b : ℕ) → IsFirstOverlap es a b → first_overlap es ≡ Some (a, b)
unfolding first_overlap
first_overlap-some es a b first = overlap_from-some 0 es a b first ∙ same_pair (0 + a) (0 + b) a b (omega arith) (omega arith)

-- edits that don't overlap have no first overlap
pub first_overlap-none : (es : List Edit) → AreDisjoint es → first_overlap es ≡ None
unfolding first_overlap
first_overlap-none es disjoint = overlap_from-none 0 es disjoint

-- what is the first pair where there is one, and nothing else where none overlap, is what is computed
pub first_overlap-only : (es : List Edit) (r : Option (ℕ × ℕ)) → IfSome r (λ t. IsFirstOverlap es t.0 t.1) → IfNone r (AreDisjoint es) → r ≡ first_overlap es
first_overlap-only es (Some t) some none = sym (first_overlap-some es t.0 t.1 some)
first_overlap-only es None some none = sym (first_overlap-none es none)
