-- Each touched line that isn't empty is among the lines that are shown.
use Rattle.snippet_splice.proofs.Common.{◌≡◌, ◌≢◌, ℕ, ◌+◌, ◌-◌, ◌<◌, ◌≤◌, ◌⊎◌, inl, inr, Bool, cond, List, [], ◌∷◌}
use Rattle.snippet_splice.proofs.Common.{◌++◌, All, Contains, length, take, drop, get_or, refl, sym, ap, subst, ◌∙◌, ⊎_elim, arith, append_assoc}
use Rattle.snippet_splice.proofs.Common.{append-nil, length-append, length-drop, take_at, take_all, take-take, take-append-le, take-append-drop, get_or-take}
use Rattle.snippet_splice.proofs.Common.{get_or-drop, get_or-append_right, get_or_append_left, nil_from_length, length-map, get_or-map, take-add}
use Rattle.snippet_splice.proofs.Common.{sum_by-take-le, All-nil, All-cons, All-take, All-push, All-same, All-weaker, All-contains, cases_lt, slice_range, Eof}
use Rattle.snippet_splice.proofs.Common.{Line, line_bytes, lines_of, source_lines, start_of, text_at, last_byte, is_lf, IsLineWithEnd, text_at-stands}
use Rattle.snippet_splice.proofs.Common.{start_of-next, start_of-end, joined-source_lines, split_last, newline_count-open, length-source_lines}
use Rattle.snippet_splice.proofs.Common.{source_lines-some, last_byte-push, text_at-end, line_bytes-slice, IsLine-at, IsOneLine-line, Edit, in_order}
use Rattle.snippet_splice.proofs.Common.{trimmed_edits, patched, written_from, first_start, shown_start, without_final_line_feeds, LineRange, Stand}
use Rattle.snippet_splice.proofs.Common.{stands_from, stands, IsInLine, IsTouchedBy, IsTouched, HasNoCr, shown_line, last_end, lines_of_stand, line_ranges}
use Rattle.snippet_splice.proofs.Common.{AreApart}
use Rattle.snippet_splice.proofs.ShownLemmas.{shown-apart}
use Rattle.snippet_splice.proofs.RangeLemmas.{feeds, feeds-append, feeds-none, feeds-front, feeds-shown}
use Rattle.snippet_splice.proofs.SpliceLemmas.{AreBeforeFinalLf, Stops, IsShownPart, last_end-stands, front-size, stands_from-earlier}
use Rattle.snippet_splice.proofs.LineLemmas.{Shortens, Shortens-final, IsLinesFront, shown-front}
use Rattle.snippet_splice.proofs.WriteLemmas.{last_text}
use Rattle.snippet_splice.proofs.Common.{rules}
use Rattle.snippet_splice.proofs.Common.{common_steps}

feeds-take : (n : ℕ) (xs : List ℕ) → feeds (take n xs) ≤ feeds xs
feeds-take n xs = sum_by-take-le (λ b. cond (is_lf b) 1 0) xs n

-- ---- a line that begins at an LF, or at the end, is empty

line-empty : (d : List ℕ) (j : ℕ) → j < length (source_lines d) → (start_of (source_lines d) j < length d → get_or d (start_of (source_lines d) j) 0 ≡ 10)
    → text_at (source_lines d) j ≡ []
line-empty d j within at = grind (arith, text_at-stands, text_at-end, get_or-take, get_or-drop, IsLine-at, nil_from_length)

-- ---- the LF before a place of a line are as many as the lines before it

last_byte-drop : (b : ℕ) (d : List ℕ) → b < length d → last_byte (drop b d) ≡ last_byte d
last_byte-drop b d inside = grind (arith, length-drop, get_or-drop)

no-feeds : (l : List ℕ) → IsLineWithEnd l → (0 < length l → last_byte l ≢ 10) → All (λ c. c ≢ 10) l
no-feeds [] one last = All-nil (λ c. c ≢ 10)
no-feeds (c ∷ cs) one last =
    All-same (λ c. c ≢ 10) (c ∷ cs) (take (length (c ∷ cs) - 1) (c ∷ cs) ++ last_byte (c ∷ cs) ∷ []) (split_last (c ∷ cs) (omega arith))
    (All-push (λ c. c ≢ 10) (take (length (c ∷ cs) - 1) (c ∷ cs)) (last_byte (c ∷ cs)) one (last (omega arith)))

in-line-feeds : (d : List ℕ) (j p : ℕ) → IsInLine d j p → feeds (take p d) ≡ j
in-line-feeds d j p h =
    let ls : List Line = source_lines d in
    let b : ℕ = start_of ls j in
    let l : List ℕ = line_bytes (get_or ls j ([], Eof)) in
    let next : start_of ls (j + 1) ≡ b + length l = start_of-next ls j ([], Eof) h.within in
    let n : start_of ls (j + 1) - b ≡ length l = omega arith in
    let line : take (length l) (drop b d) ≡ l = ap (λ k. take k (drop b d)) (sym n) ∙ line_bytes-slice d j h.within in
    let one : IsLineWithEnd l = IsOneLine-line (get_or ls j ([], Eof)) (IsLine-at d j h.within) in
    let none : All (λ c. c ≢ 10) (slice_range d b p) = ⊎_elim
    (λ before. let short : p - b ≤ length l - 1 = omega (arith, h.from) in
    let part : slice_range d b p ≡ take (p - b) (take (length l - 1) l) = sym (take-take (p - b) (length l) (drop b d) (omega arith)) ∙ ap (take (p - b)) line
    ∙ sym (take-take (p - b) (length l - 1) l short) in
    All-same (λ c. c ≢ 10) (slice_range d b p) (take (p - b) (take (length l - 1) l)) part (All-take (λ c. c ≢ 10) (p - b) (take (length l - 1) l) one))
    (λ (final, at_end, open_end). let whole : start_of ls (j + 1) ≡ length d = start_of-end ls (j + 1) (omega arith) ∙ ap length (joined-source_lines d) in
    let size : p - b ≡ length l = omega arith in
    let part : slice_range d b p ≡ l = ap (λ k. take k (drop b d)) size ∙ line in
    let tail : drop b d ≡ l = sym (take_all (length l) (drop b d) (omega (arith, length-drop b d))) ∙ line in
    All-same (λ c. c ≢ 10) (slice_range d b p) l part (no-feeds l one (λ some e.
    open_end (sym (last_byte-drop b d (omega (arith, some))) ∙ ap last_byte tail ∙ e))))
    h.to in
    rw (front-split d b p h.from) (feeds-append (take b d) (slice_range d b p) ∙ omega (arith, feeds-front d j h.within, feeds-none (slice_range d b p) none))
  where
    front-split : (d : List ℕ) (b p : ℕ) → b ≤ p → take p d ≡ take b d ++ slice_range d b p
    front-split d b p low = grind (arith, take-add b (p - b) d)

-- ---- where the texts stand

last_end-le : (source : List ℕ) (at now : ℕ) (ts : List Edit) → now ≤ last_end now (stands_from source at now ts)
last_end-le source at now [] = omega arith
last_end-le source at now (t ∷ ts) = grind (arith, last_end-le source t.end (now + length (slice_range source at t.start) + length t.text) ts)

last_end-lt : (source : List ℕ) (at now : ℕ) (ts : List Edit) → 0 < length (last_text ts) → now < last_end now (stands_from source at now ts)
last_end-lt source at now [] some = absurd (omega arith)
last_end-lt source at now (t ∷ []) some = omega (arith, some)
last_end-lt source at now (t ∷ u ∷ ts) some =
    omega (arith, last_end-lt source t.end (now + length (slice_range source at t.start) + length t.text) (u ∷ ts) some)

-- a stand between two places
pub record IsWithin (low high : ℕ) (s : Stand) : Type 0 where
  pub from : low ≤ s.from
  pub to : s.to ≤ high

stands-within : (source : List ℕ) (at now : ℕ) (ts : List Edit)
    → All (IsWithin now (last_end now (stands_from source at now ts))) (stands_from source at now ts)
stands-within source at now [] = All-nil (IsWithin now now)
stands-within source at now (t ∷ ts) =
    search (rules, All-cons, last_end-le, All-weaker, stands-within source t.end ((now + length (slice_range source at t.start)) + length t.text) ts)

-- where the last text isn't empty each empty one stands before its end
abbrev pub EndsBefore : ℕ → Stand → Type 0
EndsBefore high s = s.from ≡ s.to → s.to < high

EndsBefore-stands_from : (source : List ℕ) (at now : ℕ) (ts : List Edit) → 0 < length (last_text ts)
    → All (EndsBefore (last_end now (stands_from source at now ts))) (stands_from source at now ts)
EndsBefore-stands_from source at now [] some = absurd (omega arith)
EndsBefore-stands_from source at now (t ∷ []) some = search rules
EndsBefore-stands_from source at now (t ∷ u ∷ ts) some =
    let from : ℕ = now + length (slice_range source at t.start) in
    let to : ℕ = from + length t.text in
    let high : ℕ = last_end to (stands_from source t.end to (u ∷ ts)) in
    All-cons (EndsBefore high) (record { from = from; to = to }) (stands_from source t.end to (u ∷ ts)) (λ e.
    last_end-lt source t.end to (u ∷ ts) some) (EndsBefore-stands_from source t.end to (u ∷ ts) some)

-- ---- the lines that are touched

-- the number of lines of a text that no LF ends
count-open : (ws : List ℕ) → (ws ≡ []) ⊎ (last_byte ws ≢ 10) → 0 < length ws → length (lines_of ws) ≡ feeds ws + 1
count-open ws unclosed some =
    let other : (front : List ℕ) → ws ≢ front ++ 10 ∷ [] = λ front e.
    ⊎_elim (λ nil. absurd (omega (arith, ap length nil))) (λ last. last (ap last_byte e ∙ last_byte-push front 10)) unclosed in
    ap length (sym (source_lines-some ws some)) ∙ length-source_lines ws ∙ ap (λ n. n + 1) (newline_count-open ws other)

-- a front of a text that an LF ends has fewer LF
fewer-feeds : (f : List ℕ) (x : ℕ) → last_byte f ≡ 10 → x < length f → feeds (take x f) < feeds f
fewer-feeds f x closed short = grind (arith, common_steps, length-drop, split_last, last_byte-drop, take-append-drop, feeds-append)

-- a cut of a text, of which the middle is shown without the LF that end it
pub touched-in : (d f part rest ws : List ℕ) (k j : ℕ) (s : Stand) → d ≡ f ++ (part ++ rest) → Shortens part ws → (0 < length f → last_byte f ≡ 10)
    → feeds f ≡ k → Stops rest ⊎ EndsBefore (length f + length part) s → IsWithin (length f) (length f + length part) s → IsTouchedBy d j s
    → text_at (source_lines d) j ≢ [] → (k ≤ j) × (j < k + length (lines_of ws))
touched-in d f part rest ws k j s whole short closed counted stops within touched some =
    let ls : List Line = source_lines d in
    let x : ℕ = start_of ls j in
    let p : ℕ = touched.place in
    let g : List ℕ = f ++ ws in
    let m : ℕ = length (lines_of ws) in
    let line : IsInLine d j p = touched.in_line in
    let here : feeds (take p d) ≡ j = in-line-feeds d j p line in
    let front : take (length f) d ≡ f = ap (take (length f)) whole ∙ take_at f (part ++ rest) (length f) refl in
    let low : k ≤ j = omega (arith, feeds-take (length f) (take p d), ap feeds (take-take (length f) p d (omega arith) ∙ front)) in
    let parts : d ≡ g ++ (short.tail ++ rest) = cc (whole, short.whole, append_assoc ws short.tail rest, append_assoc f ws (short.tail ++ rest)) in
    let size : length part ≡ length ws + length short.tail = ap length short.whole ∙ length-append ws short.tail in
    let size_g : length g ≡ length f + length ws = length-append f ws in
    let empty_line : (x < length d → get_or d x 0 ≡ 10) → ⊥ = λ at. some (line-empty d j line.within at) in
    let high : k + m ≤ j → ⊥ = λ past. ⊎_elim
    (λ inside. let same : take x d ≡ take x g = ap (take x) parts ∙ take-append-le x g (short.tail ++ rest) (omega (arith, inside)) in
    let many : feeds (take x g) ≡ j = ap feeds (sym same) ∙ feeds-front d j line.within in
    few ws f x k j counted closed short.unclosed inside past many)
    (λ after. ⊎_elim
    (λ inside. empty_line (λ _. let e : get_or d x 0 ≡ get_or (short.tail ++ rest) (x - length g) 0 = ap (λ l. get_or l x 0) parts
    ∙ get_or-append_right g (short.tail ++ rest) (length g) x 0 refl after in
    let low_tail : x - length g < length short.tail = omega (arith, inside, after, size, size_g) in
    e ∙ get_or_append_left short.tail rest 0 (x - length g) low_tail ∙ short.feeds (x - length g) 0 low_tail))
    (λ past_part. ⊎_elim (λ before. absurd (omega (arith, before, line.from, past_part, within.to)))
    (λ (same, at). let at_end : x ≡ length f + length part = omega (arith, at, line.from, past_part, within.to) in
    ⊎_elim
    (λ stop. empty_line (λ inside. let z : x - (length f + length part) ≡ 0 = omega arith in
    let e : get_or d x 0 ≡ get_or rest 0 0 = ap (λ l. get_or l x 0) (whole ∙ sym (append_assoc f part rest))
    ∙ get_or-append_right (f ++ part) rest (length f + length part) x 0 (length-append f part) (omega arith) ∙ ap (λ n. get_or rest n 0) z in
    ⊎_elim (λ nil. absurd (omega (arith, ap length whole, length-append f (part ++ rest), length-append part rest, ap length nil)))
    (λ (y, lf). e ∙ ap (λ l. get_or l 0 0) lf) stop))
    (λ ends. absurd (omega (arith, ends same, at, line.from, past_part))) stops)
    touched.to)
    (cases_lt x (length f + length part)))
    (cases_lt x (length g)) in
    (low, ⊎_elim (λ ok. ok) (λ past. absurd (high past)) (cases_lt j (k + m)))
  where
    few : (ws f : List ℕ) (x k j : ℕ) → feeds f ≡ k → (0 < length f → last_byte f ≡ 10) → (ws ≡ []) ⊎ (last_byte ws ≢ 10) → x < length (f ++ ws)
        → k + length (lines_of ws) ≤ j → feeds (take x (f ++ ws)) ≡ j → ⊥
    few [] f x k j counted closed unclosed inside past many = grind (arith, common_steps, append-nil, fewer-feeds)
    few (c ∷ cs) f x k j counted closed unclosed inside past many =
        absurd (omega (arith, feeds-take x (f ++ (c ∷ cs)), feeds-append f (c ∷ cs), count-open (c ∷ cs) unclosed (omega arith), many, past, counted))

-- each touched line that isn't empty is shown
pub shown-touched : (fold : Bool) (source : List ℕ) (es : List Edit) → HasNoCr source → AreBeforeFinalLf source (trimmed_edits source es)
    → AreApart 0 (in_order es) → (h : IsShownPart fold source es) → (j : ℕ) → IsTouched source es j
    → text_at (source_lines (patched source es)) j ≢ []
    → (shown_line fold source es ≤ j) × (j < shown_line fold source es + length (lines_of (without_final_line_feeds h.part)))
shown-touched fold source es none before apart h j touched some =
    let first : ℕ = shown_start fold source (first_start (in_order es)) in
    let ts : List Edit = trimmed_edits source es in
    let front : IsLinesFront h.front (shown_line fold source es) = rw h.before (shown-front fold source es) in
    let counted : feeds h.front ≡ shown_line fold source es = ap feeds h.before ∙ feeds-shown fold source es in
    let facts = placed ts (shown-apart fold source es apart) before touched.stand touched.among in
    touched-in (patched source es) h.front h.part h.rest (without_final_line_feeds h.part) (shown_line fold source es) j touched.stand h.whole
    (Shortens-final h.part) front.closed counted
    (⊎_elim (λ stop. inl stop) (λ more. inr (λ e. omega (arith, facts.1 more e, h.ends, h.size))) h.closes)
    (record { from = omega (arith, facts.0.from, h.size); to = omega (arith, facts.0.to, h.ends, h.size) }) touched.by some
  where
    placed : (ts : List Edit) → AreApart (shown_start fold source (first_start (in_order es))) ts → AreBeforeFinalLf source ts → (s : Stand)
        → Contains (stands source ts) s → IsWithin (shown_start fold source (first_start (in_order es)))
        (shown_start fold source (first_start (in_order es)) + length (written_from source (shown_start fold source (first_start (in_order es))) ts)) s
        × (0 < length (last_text ts) → EndsBefore
        (shown_start fold source (first_start (in_order es)) + length (written_from source (shown_start fold source (first_start (in_order es))) ts)) s)
    placed [] after before s among = absurd (omega (arith, among.1))
    placed (t ∷ ts) after before s among =
        let first : ℕ = shown_start fold source (first_start (in_order es)) in
        let size : length (slice_range source 0 first) ≡ first = front-size fold source (first_start (in_order es)) in
        let same : stands source (t ∷ ts) ≡ stands_from source first first (t ∷ ts) = stands_from-earlier source 0 first 0 t ts (omega arith) after.0
        ∙ (let e : 0 + length (slice_range source 0 first) ≡ first = omega (arith, size) in ap (λ n. stands_from source first n (t ∷ ts)) e) in
        let end : last_end first (stands_from source first first (t ∷ ts)) ≡ first + length (written_from source first (t ∷ ts)) = sym (ap (last_end 0) same)
        ∙ last_end-stands source first t ts none before after size in
        let there : Contains (stands_from source first first (t ∷ ts)) s = subst (λ l. Contains l s) same among in (
          All-contains (IsWithin first (first + length (written_from source first (t ∷ ts)))) (stands_from source first first (t ∷ ts)) s
              (subst (λ n. All (IsWithin first n) (stands_from source first first (t ∷ ts))) end (stands-within source first first (t ∷ ts))) there,
          λ more. All-contains (EndsBefore (first + length (written_from source first (t ∷ ts)))) (stands_from source first first (t ∷ ts)) s
              (subst (λ n. All (EndsBefore n) (stands_from source first first (t ∷ ts))) end (EndsBefore-stands_from source first first (t ∷ ts) more)) there,
        )

-- ---- touched lines by ranges, for what is drawn of them

-- a line that a text touches is in the range of its lines
pub touched-feeds : (d : List ℕ) (j : ℕ) (s : Stand) → IsTouchedBy d j s → (feeds (take s.from d) ≤ j) × (j ≤ feeds (take s.to d))
touched-feeds d j s touched =
    let p : ℕ = touched.place in
    let here : feeds (take p d) ≡ j = in-line-feeds d j p touched.in_line in
    let after : p ≤ s.to = ⊎_elim (λ before. omega arith) (λ (same, at). omega arith) touched.to in (
      omega (arith, feeds-take s.from (take p d), ap feeds (take-take s.from p d touched.from), here),
      omega (arith, feeds-take p (take s.to d), ap feeds (take-take p s.to d after), here),
    )

-- a touched line is in one of the ranges
pub record IsHeld (ranges : List LineRange) (j : ℕ) : Type 0 where
  pub range : LineRange
  pub among : Contains ranges range
  pub from : range.first ≤ j
  pub to : j ≤ range.last

-- a line that an edit touches stands in one of the ranges of lines
pub touched-held : (source : List ℕ) (es : List Edit) (j : ℕ) → IsTouched source es j → IsHeld (line_ranges source es) j
touched-held source es j touched =
    let ss : List Stand = stands source (trimmed_edits source es) in
    let s : Stand = touched.stand in
    let bounds = touched-feeds (patched source es) j s touched.by in
    let f : Stand → LineRange = lines_of_stand (patched source es) in
    let (k, within, is) = touched.among in
    record {
      range = f s;
      among = (k, omega (arith, within, length-map ss f), get_or-map f ss k s (f s) within ∙ ap f is);
      from = bounds.0;
      to = bounds.1;
    }
