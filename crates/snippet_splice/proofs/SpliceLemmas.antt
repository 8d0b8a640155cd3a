-- Where no CR is copied and no edit stands after a final LF, the text that is shown is the spliced text.
use Rattle.snippet_splice.proofs.Common.{◌≡◌, ◌≢◌, ℕ, ◌+◌, ◌-◌, ◌<◌, ◌≤◌, ◌⊎◌, inl, inr, Bool, true, false, eqb, min, List, [], ◌∷◌, ◌++◌, All, length, take}
use Rattle.snippet_splice.proofs.Common.{drop, refl, sym, ap, ◌∙◌, ⊎_elim, arith, append_assoc, append-nil, length-append, length-take, length-take-le}
use Rattle.snippet_splice.proofs.Common.{length-drop, drop_at, take_all, take_min, drop_min, take-append-drop, take-append-add, All-take, All-drop, All-head}
use Rattle.snippet_splice.proofs.Common.{All-tail, cases_Bool, cond-false, cond_both, eqb-true, slice_range, before_first, position_or_len}
use Rattle.snippet_splice.proofs.Common.{Line, lines_of, with_first_byte, source_lines, text_at, last_byte, is_lf, line_of-within, text_at-end, Edit}
use Rattle.snippet_splice.proofs.Common.{in_order, trimmed_edits, edited_from, patched, in_text, copied, written_from, end_from, first_start}
use Rattle.snippet_splice.proofs.Common.{closes_line, shown_start, without_final_line_feeds, shown_text, stands_from, stands, HasNoCr, IsBeforeFinalLf}
use Rattle.snippet_splice.proofs.Common.{last_end, spliced_end, spliced_text, AreApart, rules, common_steps}
use Rattle.snippet_splice.proofs.EditLemmas.{edited_from-earlier, edited_from-trimmed}
use Rattle.snippet_splice.proofs.WriteLemmas.{with_line_feeds-none, last_text, closes-last}
use Rattle.snippet_splice.proofs.ShownLemmas.{shown-apart}

-- ---- without CR, bytes are copied as they are

in_text-same : (source : List ℕ) (b : ℕ) → HasNoCr source → IsBeforeFinalLf source b → in_text source b ≡ min b (length source)
in_text-same source b none before = search rules

slice-min : (s : List ℕ) (a b : ℕ) → a ≤ b → slice_range s (min a (length s)) (min b (length s)) ≡ slice_range s a b
slice-min s a b low = grind (arith, drop_min, take_all, length-drop)

-- a stretch without carriage returns is copied as it is
pub copied-same : (source : List ℕ) (a b : ℕ) → HasNoCr source → a ≤ b → IsBeforeFinalLf source b → copied source a b ≡ slice_range source a b
copied-same source a b none low before =
    rw (in_text-same source a none (λ e. omega (arith, before e)), in_text-same source b none before, slice-min source a b low)
    (with_line_feeds-none (slice_range source a b) (λ i. All-take (λ c. c ≢ 13) (b - a) (drop a source) (All-drop (λ c. c ≢ 13) a source none) i 0))

-- no edit starts after a final LF
abbrev pub AreBeforeFinalLf : List ℕ → List Edit → Type 0
AreBeforeFinalLf source ts = All (λ t. IsBeforeFinalLf source t.start) ts

-- what is written is the patched source up to the last edit
pub edited_from-written : (source : List ℕ) (at : ℕ) (ts : List Edit) → HasNoCr source → AreBeforeFinalLf source ts → AreApart at ts
    → edited_from source at ts ≡ written_from source at ts ++ drop (end_from at ts) source
edited_from-written source at [] none before apart = refl
edited_from-written source at (t ∷ ts) none before apart =
    let here = copied-same source at t.start none apart.0 (All-head (λ t. IsBeforeFinalLf source t.start) t ts before) in
    let rest = edited_from-written source t.end ts none (All-tail (λ t. IsBeforeFinalLf source t.start) t ts before) apart.2 in
    simp (here, rest, append_assoc)

-- ---- where the last text ends

last_end-written : (source : List ℕ) (at now : ℕ) (ts : List Edit) → HasNoCr source → AreBeforeFinalLf source ts → AreApart at ts
    → last_end now (stands_from source at now ts) ≡ now + length (written_from source at ts)
last_end-written source at now [] none before apart = omega arith
last_end-written source at now (t ∷ ts) none before apart =
    let here = copied-same source at t.start none apart.0 (All-head (λ t. IsBeforeFinalLf source t.start) t ts before) in
    last_end-written source t.end (now + length (slice_range source at t.start) + length t.text) ts none
    (All-tail (λ t. IsBeforeFinalLf source t.start) t ts before) apart.2
    ∙ omega (arith, ap length here, length-append {A = ℕ})

-- texts stand where they do when the source before them is given first
pub stands_from-earlier : (source : List ℕ) (a b now : ℕ) (t : Edit) (ts : List Edit) → a ≤ b → b ≤ t.start
    → stands_from source a now (t ∷ ts) ≡ stands_from source b (now + length (slice_range source a b)) (t ∷ ts)
stands_from-earlier source a b now t ts low high = grind (arith, common_steps, length-append)

-- ---- the first line of a text

prefix-first : (b : ℕ) (bs : List ℕ) → is_lf b ≡ false → before_first is_lf (b ∷ bs) ≡ b ∷ before_first is_lf bs
prefix-first b bs no_lf = search rules

prefix-none : (b : ℕ) (bs : List ℕ) → is_lf b ≡ true → before_first is_lf (b ∷ bs) ≡ []
prefix-none b bs lf = search rules

first_text : (b : ℕ) (ls : List Line) → b ≢ 13 → text_at (with_first_byte b ls) 0 ≡ b ∷ text_at ls 0
first_text x y z = search rules

text_at-first-of : (xs : List ℕ) → HasNoCr xs → text_at (lines_of xs) 0 ≡ before_first is_lf xs
text_at-first-of [] none = refl
text_at-first-of (b ∷ bs) none =
    ⊎_elim (λ t. rw (prefix-none b bs t, t) refl) (λ f. rw (prefix-first b bs f, f)
    (first_text b (lines_of bs) (none 0 0 (omega arith)) ∙ ap (λ l. b ∷ l) (text_at-first-of bs (All-tail (λ c. c ≢ 13) b bs none)))) (cases_Bool (eqb b 10))

pub text_at-first : (xs : List ℕ) → HasNoCr xs → text_at (source_lines xs) 0 ≡ before_first is_lf xs
text_at-first [] none = refl
text_at-first (b ∷ bs) none = text_at-first-of (b ∷ bs) none

-- ---- the part of the patched source that is shown

-- what is after a part is cut off where a line ends, or the part closes its line
abbrev pub Stops : List ℕ → Type 0
Stops rest = (rest ≡ []) ⊎ ((y : List ℕ) × (rest ≡ 10 ∷ y))

-- the part of the patched source that is shown, what stands before it and what stands after it
pub record IsShownPart (fold : Bool) (source : List ℕ) (es : List Edit) : Type 0 where
  pub front : List ℕ
  pub part : List ℕ
  pub rest : List ℕ
  pub whole : patched source es ≡ front ++ (part ++ rest)
  pub before : front ≡ slice_range source 0 (shown_start fold source (first_start (in_order es)))
  pub size : length front ≡ shown_start fold source (first_start (in_order es))
  pub stops : Stops rest ⊎ (last_byte part ≡ 10)
  pub closes : Stops rest ⊎ (0 < length (last_text (trimmed_edits source es)))
  pub ends : length front + length (written_from source (shown_start fold source (first_start (in_order es))) (trimmed_edits source es))
      ≤ length front + length part
  pub text : shown_text fold source es ≡ without_final_line_feeds part
  pub spliced : spliced_text fold source es ≡ without_final_line_feeds part

start-within : (fold : Bool) (source : List ℕ) (first : ℕ) → shown_start fold source first ≤ length source
start-within fold source first = grind (arith, cond_both, text_at-end, line_of-within)

pub shown-whole : (fold : Bool) (source : List ℕ) (es : List Edit) → HasNoCr source → AreBeforeFinalLf source (trimmed_edits source es)
    → AreApart 0 (in_order es) → let s = shown_start fold source (first_start (in_order es)) in let ts = trimmed_edits source es in
    patched source es ≡ slice_range source 0 s ++ (written_from source s ts ++ drop (end_from s ts) source)
shown-whole fold source es none before apart =
    let s : ℕ = shown_start fold source (first_start (in_order es)) in
    let after = shown-apart fold source es apart in
    sym (edited_from-trimmed source 0 (in_order es) apart) ∙ edited_from-earlier source 0 s (trimmed_edits source es) (omega arith) after
    ∙ ap (λ l. slice_range source 0 s ++ l) (edited_from-written source s (trimmed_edits source es) none before after)

-- what stands before the shown part is as long as where that starts
pub front-size : (fold : Bool) (source : List ℕ) (first : ℕ) → length (slice_range source 0 (shown_start fold source first)) ≡ shown_start fold source first
front-size fold source first = grind (arith, length-take-le, start-within)

-- ---- how the last text ends

-- the last byte of two texts is a line feed where the second one's is
pub last_byte-append : (xs ys : List ℕ) → last_byte ys ≡ 10 → last_byte (xs ++ ys) ≡ 10
last_byte-append xs [] e = absurd (cc)
last_byte-append [] (y ∷ ys) e = e
last_byte-append (x ∷ xs) (y ∷ ys) e = grind (arith, length-append, last_byte-append xs (y ∷ ys) e)

some_bytes : (xs : List ℕ) → last_byte xs ≡ 10 → 0 < length xs
some_bytes x y = grind (arith, common_steps)

last-written : (source : List ℕ) (at : ℕ) (ts : List Edit) → last_byte (last_text ts) ≡ 10 → last_byte (written_from source at ts) ≡ 10
last-written source at [] e = absurd (cc)
last-written source at (t ∷ []) e = grind (arith, last_byte-append, append-nil)
last-written source at (t ∷ u ∷ ts) e = grind (arith, last_byte-append, last-written source t.end (u ∷ ts) e)

-- after the first line of a text stands its LF, or nothing
first_stops : (xs : List ℕ) → Stops (drop (length (before_first is_lf xs)) xs)
first_stops [] = inl refl
first_stops (b ∷ bs) = grind (arith, prefix-none, eqb-true, prefix-first, first_stops bs)

first-split : (xs : List ℕ) → xs ≡ before_first is_lf xs ++ drop (length (before_first is_lf xs)) xs
first-split xs = grind (arith, length-take, drop_min, take-append-drop)

-- ---- the parts

-- where the last text ends
pub last_end-stands : (source : List ℕ) (s : ℕ) (t : Edit) (ts : List Edit) → HasNoCr source → AreBeforeFinalLf source (t ∷ ts) → AreApart s (t ∷ ts)
    → length (slice_range source 0 s) ≡ s → last_end 0 (stands source (t ∷ ts)) ≡ s + length (written_from source s (t ∷ ts))
last_end-stands source s t ts none before apart size =
    ap (last_end 0) (stands_from-earlier source 0 s 0 t ts (omega arith) apart.0)
    ∙ last_end-written source s (0 + length (slice_range source 0 s)) (t ∷ ts) none before apart ∙ omega (arith, size)

cut-part : (f w r : List ℕ) (s n : ℕ) → length f ≡ s → slice_range (f ++ (w ++ r)) s (s + length w + n) ≡ w ++ take n r
cut-part f w r s n size = grind (arith, drop_at f (w ++ r) s size, take-append-add w r n)

drop-part : (f w r : List ℕ) (s : ℕ) → length f ≡ s → drop (s + length w) (f ++ (w ++ r)) ≡ r
drop-part f w r s size =
    ap (drop (s + length w)) (sym (append_assoc f w r)) ∙ drop_at (f ++ w) r (s + length w) (omega (arith, length-append f w, size))

-- without CR in the source, and no edit after a final LF, the text that is shown is the spliced text
pub IsShownPart-plain : (fold : Bool) (source : List ℕ) (es : List Edit) → HasNoCr source → AreBeforeFinalLf source (trimmed_edits source es)
    → AreApart 0 (in_order es) → trimmed_edits source es ≢ [] → IsShownPart fold source es
unfolding shown_text spliced_text
IsShownPart-plain false source es none before apart some =
    let ts : List Edit = trimmed_edits source es in
    let w : List ℕ = written_from source 0 ts in
    let r : List ℕ = drop (end_from 0 ts) source in
    let whole : patched source es ≡ w ++ r = shown-whole false source es none before apart in
    record {
      front = [];
      part = w ++ r;
      rest = [];
      whole = whole ∙ sym (append-nil (w ++ r));
      before = refl;
      size = refl;
      stops = inl (inl refl);
      closes = inl (inl refl);
      ends = omega (arith, length-append w r);
      text = refl;
      spliced = ap without_final_line_feeds whole;
    }
IsShownPart-plain true source es none before apart some =
    let ts : List Edit = trimmed_edits source es in
    let s : ℕ = shown_start true source (first_start (in_order es)) in
    let f : List ℕ = slice_range source 0 s in
    let w : List ℕ = written_from source s ts in
    let r : List ℕ = drop (end_from s ts) source in
    let after : AreApart s ts = shown-apart true source es apart in
    let size : length f ≡ s = front-size true source (first_start (in_order es)) in
    let whole : patched source es ≡ f ++ (w ++ r) = shown-whole true source es none before apart in
    let same : edited_from source 0 ts ≡ f ++ (w ++ r) = edited_from-trimmed source 0 (in_order es) apart ∙ whole in
    let to : last_end 0 (stands source ts) ≡ s + length w = last_of ts some before after size in
    let left : drop (last_end 0 (stands source ts)) (edited_from source 0 ts) ≡ r = cc (to, same, drop-part f w r s size) in
    ⊎_elim
    (λ t. let end : spliced_end source ts ≡ s + length w + 0 = rw t (to ∙ omega arith) in
    record {
      front = f;
      part = w;
      rest = r;
      whole = whole;
      before = refl;
      size = size;
      stops = inr (last-written source s ts (eqb-true (last_byte (last_text ts)) 10 (sym (closes-last ts) ∙ t)));
      closes = inr (some_bytes (last_text ts) (eqb-true (last_byte (last_text ts)) 10 (sym (closes-last ts) ∙ t)));
      ends = omega arith;
      text = rw (t, append-nil w) refl;
      spliced = rw (end, whole, cut-part f w r s 0 size, append-nil w) refl;
    })
    (λ t. let l : List ℕ = before_first is_lf r in
    let clean : HasNoCr r = All-drop (λ c. c ≢ 13) (end_from s ts) source none in
    let end : spliced_end source ts ≡ s + length w + length l =
    cond-false (closes_line ts) (last_end 0 (stands source ts))
    (last_end 0 (stands source ts) + length (before_first is_lf (drop (last_end 0 (stands source ts)) (edited_from source 0 ts)))) t
    ∙ ap (λ n. n + length (before_first is_lf (drop (last_end 0 (stands source ts)) (edited_from source 0 ts)))) to
    ∙ ap (λ x. s + length w + length (before_first is_lf x)) left in
    let front_of : take (length l) r ≡ l = ap (λ n. take n r) (length-take (position_or_len is_lf r) r) ∙ take_min (position_or_len is_lf r) r in
    record {
      front = f;
      part = w ++ l;
      rest = drop (length l) r;
      whole = whole ∙ ap (λ x. f ++ (w ++ x)) (first-split r) ∙ ap (λ x. f ++ x) (sym (append_assoc w l (drop (length l) r)));
      before = refl;
      size = size;
      stops = inl (first_stops r);
      closes = inl (first_stops r);
      ends = omega (arith, length-append w l);
      text = ap (λ x. without_final_line_feeds (w ++ x)) (cond-false (closes_line ts) [] (text_at (source_lines r) 0) t ∙ text_at-first r clean);
      spliced = rw (end, whole, cut-part f w r s (length l) size, front_of) refl;
    })
    (cases_Bool (closes_line ts))
  where
    last_of : (ts : List Edit) → ts ≢ [] → AreBeforeFinalLf source ts → AreApart (shown_start true source (first_start (in_order es))) ts
        → length (slice_range source 0 (shown_start true source (first_start (in_order es)))) ≡ shown_start true source (first_start (in_order es))
        → last_end 0 (stands source ts) ≡ shown_start true source (first_start (in_order es))
        + length (written_from source (shown_start true source (first_start (in_order es))) ts)
    last_of [] some before apart size = absurd (some refl)
    last_of (t ∷ ts) some before apart size =
        last_end-stands source (shown_start true source (first_start (in_order es))) t ts none before apart size
