-- The lines of the text that is shown are lines of the patched source, one after the other.
use Rattle.snippet_splice.proofs.Common.{◌≡◌, ◌≢◌, ℕ, zero, suc, ◌+◌, ◌-◌, ◌<◌, ◌⊎◌, inl, inr, Bool, true, false, cond, eqb, List, [], ◌∷◌, ◌++◌, All, length}
use Rattle.snippet_splice.proofs.Common.{take, drop, get_or, refl, sym, ap, subst, ◌∙◌, ⊎_elim, arith, append_assoc, append-nil, length-append, length-map}
use Rattle.snippet_splice.proofs.Common.{length-take-le, take_at, drop_at, map-append, get_or-take, get_or-drop, All-nil, All-cons, All-same, All-head}
use Rattle.snippet_splice.proofs.Common.{All-tail, All-take, All-drop, All-append, cases_Bool, eqb-true, eqb-false, slice_range}
use Rattle.snippet_splice.proofs.Common.{EndLine, Eof, Lf, Crlf, Line, line_bytes, end_bytes, joined, lines_of, with_first_byte, source_lines, start_of}
use Rattle.snippet_splice.proofs.Common.{last_byte, is_lf, AreLines, AreLinesOf-source_lines, lines_of-append, lines_of-joined, last_byte-cons}
use Rattle.snippet_splice.proofs.Common.{line_of-within, Edit, precedes, in_order, edited_from, patched, first_start, shown_start, unless_lone_line_feed}
use Rattle.snippet_splice.proofs.Common.{without_final_line_feeds, HasNoCr, shown_line, texts_of, AreFrom, All-put_in, rules, common_steps}
use Rattle.snippet_splice.proofs.RangeLemmas.{front-lines}
use Rattle.snippet_splice.proofs.SpliceLemmas.{Stops, IsShownPart, last_byte-append}

-- ---- the texts of lines without CR

abbrev in_first : ℕ → List (List ℕ) → List (List ℕ)
in_first b [] = (b ∷ []) ∷ []
in_first b (t ∷ ts) = (b ∷ t) ∷ ts

abbrev texts : List ℕ → List (List ℕ)
texts [] = []
texts (b ∷ bs) = cond (is_lf b) ([] ∷ texts bs) (in_first b (texts bs))

first-texts : (b : ℕ) (ls : List Line) → b ≢ 13 → texts_of (with_first_byte b ls) ≡ in_first b (texts_of ls)
first-texts x y z = search rules

texts-lines_of : (xs : List ℕ) → HasNoCr xs → texts_of (lines_of xs) ≡ texts xs
texts-lines_of [] none = refl
texts-lines_of (b ∷ bs) none =
    let more = texts-lines_of bs (All-tail (λ c. c ≢ 13) b bs none) in
    ⊎_elim (λ t. rw t (ap (λ ts. [] ∷ ts) more)) (λ f. rw f (first-texts b (lines_of bs) (none 0 0 (omega arith)) ∙ ap (in_first b) more))
    (cases_Bool (eqb b 10))

-- a text that no LF ends is some whole lines where an LF follows
texts-stop : (b : ℕ) (w y : List ℕ) → last_byte (b ∷ w) ≢ 10 → texts ((b ∷ w) ++ 10 ∷ y) ≡ texts (b ∷ w) ++ texts y
texts-stop b [] y unclosed = search rules
texts-stop b (c ∷ w) y unclosed = grind (arith, last_byte-cons b c w, texts-stop c w y (λ e. unclosed (last_byte-cons b c w ∙ e)))

-- ---- a text without the LF that end it

-- what is taken away begins with LF
pub record Shortens (xs ws : List ℕ) : Type 0 where
  pub tail : List ℕ
  pub whole : xs ≡ ws ++ tail
  pub stops : Stops tail
  pub feeds : All (λ b. b ≡ 10) tail
  pub unclosed : (ws ≡ []) ⊎ (last_byte ws ≢ 10)

Shortens-cons : (b : ℕ) (bs ws : List ℕ) → Shortens bs ws → Shortens (b ∷ bs) (unless_lone_line_feed b ws)
Shortens-cons b bs [] h =
    ⊎_elim (λ t. rw t (record {
      tail = b ∷ bs;
      whole = refl;
      stops = inr (bs, ap (λ c. c ∷ bs) (eqb-true b 10 t));
      feeds = All-cons (λ c. c ≡ 10) b bs (eqb-true b 10 t) (All-same (λ c. c ≡ 10) bs h.tail h.whole h.feeds);
      unclosed = inl refl;
    }))
    (λ f. rw f (record { tail = h.tail; whole = ap (λ l. b ∷ l) h.whole; stops = h.stops; feeds = h.feeds; unclosed = inr (eqb-false b 10 f) }))
    (cases_Bool (is_lf b))
Shortens-cons b bs (c ∷ cs) h = search rules

-- a text without its final line feeds is a shorter one
pub Shortens-final : (xs : List ℕ) → Shortens xs (without_final_line_feeds xs)
Shortens-final [] = record { tail = []; whole = refl; stops = inl refl; feeds = All-nil (λ b. b ≡ 10); unclosed = inl refl }
Shortens-final (b ∷ bs) = Shortens-cons b bs (without_final_line_feeds bs) (Shortens-final bs)

-- what stands after the text that is shown: nothing, or an LF
after-shown : (part ws rest : List ℕ) → Shortens part ws → Stops rest ⊎ (last_byte part ≡ 10) → (z : List ℕ) × (part ++ rest ≡ ws ++ z) × Stops z
after-shown part ws rest h stops = grind (arith, append_assoc ws h.tail rest, append-nil ws)

texts-front : (ws z : List ℕ) → Stops z → (ws ≡ []) ⊎ (last_byte ws ≢ 10) → (ts : List (List ℕ)) × (texts (ws ++ z) ≡ texts ws ++ ts)
texts-front [] z stops unclosed = (texts z, refl)
texts-front (b ∷ w) z stops unclosed =
    ⊎_elim (λ none. ([], ap (λ l. texts ((b ∷ w) ++ l)) none ∙ ap texts (append-nil (b ∷ w)) ∙ sym (append-nil (texts (b ∷ w)))))
    (λ (y, e). (texts y, ap (λ l. texts ((b ∷ w) ++ l)) e ∙ texts-stop b w y (⊎_elim (λ nil. absurd (cc)) (λ other. other) unclosed))) stops

-- ---- the front of a source before one of its lines

take-none : {X : Type 0} (k : ℕ) → take {A = X} k [] ≡ []
take-none x = search rules

AreLines-take : (ls : List Line) (k : ℕ) → AreLines ls → AreLines (take k ls)
AreLines-take ls zero are = tt
AreLines-take [] (suc k) are = tt
AreLines-take (l ∷ ls) (suc k) are = grind (arith, take-none, AreLines-take ls k are.2)

closed-joined : (ls : List Line) (k : ℕ) → AreLines ls → k < length ls → 0 < length (joined (take k ls)) → last_byte (joined (take k ls)) ≡ 10
closed-joined ls zero are within some = absurd (omega arith)
closed-joined [] (suc k) are within some = absurd (omega arith)
closed-joined (l ∷ ls) (suc k) are within some =
    let ended : l.1 ≢ Eof = λ eof. let none : ls ≡ [] = (are.1 eof).1 in absurd (omega (arith, ap length none)) in
    let here : last_byte (line_bytes l) ≡ 10 = last_byte-append l.0 (end_bytes l.1) (ends l.1 ended) in
    after (joined (take k ls)) (λ more. closed-joined ls k are.2 (omega arith) more) here
  where
    ends : (ending : EndLine) → ending ≢ Eof → last_byte (end_bytes ending) ≡ 10
    ends Eof ended = absurd (ended refl)
    ends Lf ended = refl
    ends Crlf ended = refl

    after : (rest : List ℕ) → (0 < length rest → last_byte rest ≡ 10) → last_byte (line_bytes l) ≡ 10 → last_byte (line_bytes l ++ rest) ≡ 10
    after [] closed here = ap last_byte (append-nil (line_bytes l)) ∙ here
    after (b ∷ bs) closed here = last_byte-append (line_bytes l) (b ∷ bs) (closed (omega arith))

-- a front is so many whole lines
pub record IsLinesFront (front : List ℕ) (k : ℕ) : Type 0 where
  pub closed : 0 < length front → last_byte front ≡ 10
  pub count : length (lines_of front) ≡ k

lines-front : (source : List ℕ) (k : ℕ) → k < length (source_lines source) → IsLinesFront (take (start_of (source_lines source) k) source) k
lines-front source k within =
    let ls : List Line = source_lines source in
    rw (front-lines source k) (⊎_elim
    (λ one. let e : k ≡ 0 = omega (arith, ap length one) in rw e (record { closed = λ some. absurd (omega arith); count = refl }))
    (λ (some, are). record {
      closed = closed-joined ls k are within;
      count = ap length (lines_of-joined (take k ls) (AreLines-take ls k are)) ∙ length-take-le k ls (omega arith);
    })
    (AreLinesOf-source_lines source).lines)

-- what stands before the shown part is whole lines
pub shown-front : (fold : Bool) (source : List ℕ) (es : List Edit)
    → IsLinesFront (slice_range source 0 (shown_start fold source (first_start (in_order es)))) (shown_line fold source es)
shown-front false source es = record { closed = λ some. absurd (omega arith); count = refl }
shown-front true source es = grind (arith, common_steps, lines-front, line_of-within)

-- ---- no CR in the patched source

HasNoCr-left : (xs ys : List ℕ) → HasNoCr (xs ++ ys) → HasNoCr xs
HasNoCr-left xs ys none = grind (arith, take_at xs ys (length xs) refl, All-take (λ c. c ≢ 13) (length xs) (xs ++ ys) none)

HasNoCr-right : (xs ys : List ℕ) → HasNoCr (xs ++ ys) → HasNoCr ys
HasNoCr-right xs ys none = grind (arith, drop_at xs ys (length xs) refl, All-drop (λ c. c ≢ 13) (length xs) (xs ++ ys) none)

edited_from-no_cr : (source : List ℕ) (at : ℕ) (es : List Edit) → HasNoCr source → All (λ e. HasNoCr e.text) es → HasNoCr (edited_from source at es)
edited_from-no_cr source at [] none texts = All-drop (λ c. c ≢ 13) at source none
edited_from-no_cr source at (e ∷ es) none texts =
    All-append (λ c. c ≢ 13) (slice_range source at e.start) (e.text ++ edited_from source e.end es)
    (All-take (λ c. c ≢ 13) (e.start - at) (drop at source) (All-drop (λ c. c ≢ 13) at source none))
    (All-append (λ c. c ≢ 13) e.text (edited_from source e.end es) (All-head (λ e. HasNoCr e.text) e es texts)
    (edited_from-no_cr source e.end es none (All-tail (λ e. HasNoCr e.text) e es texts)))

All-in_order : (es : List Edit) → All (λ e. HasNoCr e.text) es → All (λ e. HasNoCr e.text) (in_order es)
All-in_order [] all = all
All-in_order (e ∷ es) all =
    All-put_in precedes (λ e. HasNoCr e.text) e (in_order es) (All-head (λ e. HasNoCr e.text) e es all)
    (All-in_order es (All-tail (λ e. HasNoCr e.text) e es all))

-- ---- the lines that are shown

AreFrom-append : (before some more : List (List ℕ)) (k : ℕ) → length before ≡ k → AreFrom k some (before ++ (some ++ more))
AreFrom-append before some more k size = grind (arith, length-append, drop_at, take_at)

-- such lines, one by one
pub AreFrom-at : (some all : List (List ℕ)) (k i : ℕ) (d : List ℕ) → AreFrom k some all → i < length some
    → (k + i < length all) × (get_or some i d ≡ get_or all (k + i) d)
AreFrom-at some all k i d h low = grind (arith, get_or-take, get_or-drop)

AreFrom-source : (d : List ℕ) (k : ℕ) (some : List (List ℕ)) → AreFrom k some (texts_of (lines_of d)) → AreFrom k some (texts_of (source_lines d))
AreFrom-source x y z u = search rules

-- the lines of the shown part are those of the patched source, from the first that is shown on
pub AreFrom-shown : (fold : Bool) (source : List ℕ) (es : List Edit) → HasNoCr source → All (λ e. HasNoCr e.text) es → (h : IsShownPart fold source es)
    → AreFrom (shown_line fold source es) (texts_of (lines_of (without_final_line_feeds h.part))) (texts_of (source_lines (patched source es)))
AreFrom-shown fold source es none texts_none h =
    let d : List ℕ = patched source es in
    let ws : List ℕ = without_final_line_feeds h.part in
    let short : Shortens h.part ws = Shortens-final h.part in
    let clean : HasNoCr (h.front ++ (h.part ++ h.rest)) = subst HasNoCr h.whole (edited_from-no_cr source 0 (in_order es) none (All-in_order es texts_none)) in
    let clean_back : HasNoCr (h.part ++ h.rest) = HasNoCr-right h.front (h.part ++ h.rest) clean in
    let (z, joint, stops) = after-shown h.part ws h.rest short h.stops in
    let clean_ws : HasNoCr ws = HasNoCr-left ws z (subst HasNoCr joint clean_back) in
    let (more, cut) = texts-front ws z stops short.unclosed in
    let front : IsLinesFront h.front (shown_line fold source es) = rw h.before (shown-front fold source es) in
    let back : texts_of (lines_of (h.part ++ h.rest)) ≡ texts_of (lines_of ws) ++ more = texts-lines_of (h.part ++ h.rest) clean_back ∙ ap texts joint ∙ cut
    ∙ ap (λ ts. ts ++ more) (sym (texts-lines_of ws clean_ws)) in
    let all : texts_of (lines_of d) ≡ texts_of (lines_of h.front) ++ (texts_of (lines_of ws) ++ more) =
    ap (λ t. texts_of (lines_of t)) h.whole ∙ ap texts_of (lines_of-append h.front (h.part ++ h.rest) front.closed)
    ∙ map-append (λ l. l.0) (lines_of h.front) (lines_of (h.part ++ h.rest)) ∙ ap (λ ts. texts_of (lines_of h.front) ++ ts) back in
    AreFrom-source d (shown_line fold source es) (texts_of (lines_of ws))
    (rw all (AreFrom-append (texts_of (lines_of h.front)) (texts_of (lines_of ws)) more (shown_line fold source es)
    (length-map (lines_of h.front) (λ l. l.0) ∙ front.count)))
