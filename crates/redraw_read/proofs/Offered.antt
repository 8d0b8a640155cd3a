-- Edits at spots, one after another, and the line around a spot.
use Rattle.std.proofs.lemmas.Grind.{common_steps}
use Rattle.std.proofs.Common.{◌≡◌, ◌≢◌, ◌⊎◌, ℕ, zero, suc, ◌+◌, ◌-◌, ◌<◌, ◌≤◌, List, [], ◌∷◌, ◌++◌, Option, Some, None, drop, take, get_or, get_or-drop, length}
use Rattle.std.proofs.Common.{length-append, length-drop, slice_get, refl, sym, ap, subst, ◌∙◌, arith, inl, inr}
use Rattle.std.specs.Borrow.{Bor}
use Rattle.std.specs.List.{HoldsAt}
use Rattle.std.specs.Option.{MatchOption, option_map}
use Rattle.std.specs.Str.{IsCharBoundary, IsUtf8}
use Rattle.std.proofs.lemmas.Option.{slice_get_past, slice_get_read}
use Rattle.std.proofs.Math.Seq.{get_or-append_seam, take-suc}
use Rattle.std.proofs.lemmas.Bool.{cases_lt}
use Rattle.std.proofs.lemmas.List.{at_drop_more, get_or-take, length-take-le}
use Rattle.std.proofs.lemmas.List.Elements.{All-from_get_or}
use Rattle.std.proofs.lemmas.Str.{IsCharBoundary-start, IsCharBoundary-after_ascii}
use Rattle.redraw_report.specs.declared.diagnostic.SuggestedEdit.{SuggestedEdit}
use Rattle.redraw_read.specs.Placed.{HasNoFeed, IsLastStart, IsLineIn, edit_at, edits_at}
use Rattle.redraw_read.specs.declared.spot.Spot.{Spot}

-- without spots there are no edits
edits-nowhere : (es : List SuggestedEdit) → edits_at [] es ≡ []
edits-nowhere [] = refl
edits-nowhere (e ∷ es) = refl

-- an edit at the spot that comes next, and the others at those after it
edits-cons : (spots : List Spot) (i : ℕ) (e : SuggestedEdit) (es : List SuggestedEdit)
    → edits_at (drop i spots) (e ∷ es) ≡ edit_at (slice_get spots i) e ++ edits_at (drop (suc i) spots) es
edits-cons [] zero e es = sym (edits-nowhere es)
edits-cons [] (suc i) e es = sym (edits-nowhere es)
edits-cons (s ∷ spots) zero e es = refl
edits-cons (s ∷ spots) (suc i) e es = edits-cons spots i e es

-- the edits that are left are the next and those after it
pub edits-next : (spots : List Spot) (edits : List SuggestedEdit) (i : ℕ) (e : SuggestedEdit) → i < length edits → e ≡ get_or edits i e
    → edits_at (drop i spots) (drop i edits) ≡ edit_at (slice_get spots i) e ++ edits_at (drop (i + 1) spots) (drop (i + 1) edits)
edits-next spots edits i e within is = grind (arith, common_steps, at_drop_more, edits-cons)

-- what is looked up at an index is the element there
pub looked-up : (spots : List Spot) (i : ℕ) (r : Option (Bor Spot))
    → MatchOption r (length spots ≤ i) (λ x. (i < length spots) × HoldsAt (λ (y : Spot). x.now ≡ y) spots i)
    → option_map (λ (s : Bor Spot). s.now) r ≡ slice_get spots i
looked-up spots i None past = sym (slice_get_past spots i past)
looked-up spots i (Some x) h = sym (slice_get_read spots (length spots) i x.now refl h.0 (h.1 x.now))

-- after the last line feed of a text its last line starts
pub start-after : (text : List ℕ) (feed : ℕ)
    → (feed < length text) × (get_or text feed 0 ≡ 10) × ((i : ℕ) → feed < i → i < length text → get_or text i 0 ≢ 10) → IsLastStart text (feed + 1)
start-after text feed h =
    let count : feed + 1 ≡ suc feed = omega arith in
    record {
      within = omega (arith, h.0);
      starts =
          inr (
            take feed text,
            ap (λ n. take n text) count ∙ take-suc text feed 0 h.0 ∙ ap (λ b. take feed text ++ b ∷ []) h.1,
          );
      last =
          All-from_get_or (λ b. b ≢ 10) (drop (feed + 1) text) 0
          (λ i less same. h.2 (feed + 1 + i) (omega arith) (omega (arith, less, length-drop (feed + 1) text))
          (sym (get_or-drop (feed + 1) text i 0) ∙ same));
    }

-- no line feed stands between where the last line of a text up to a byte starts and that byte: so the byte is in the line, or at its end
pub reaches : (text : List ℕ) (at start : ℕ) (line : List ℕ) → at ≤ length text → start ≤ at → HasNoFeed (drop start (take at text))
    → IsLineIn (drop start text) line [] → at ≤ start + length line
reaches text at start line within from none is = by_cases (cases_lt (start + length line) at)
  where
    k : ℕ
    k = length line

    fed : start + k < at → (after : List ℕ) → drop start text ≡ line ++ after → (after ≡ []) ⊎ ((rest : List ℕ) × (after ≡ 10 ∷ rest)) → ⊥
    fed less after cut (inl nothing) =
        let all : length (drop start text) ≡ length line + length after = ap length cut ∙ length-append line after in
        let zero_after : length after ≡ 0 = ap length nothing in
        omega (arith, all, zero_after, length-drop start text)
    fed less after cut (inr begun) =
        let feed : get_or (drop start text) k 0 ≡ 10 =
        ap (λ l. get_or l k 0) (cut ∙ ap (λ a. line ++ a) begun.1) ∙ get_or-append_seam line 10 begun.0 0 in
        let same : get_or (drop start (take at text)) k 0 ≡ 10 =
        get_or-drop start (take at text) k 0 ∙ get_or-take at text (start + k) 0 less ∙ sym (get_or-drop start text k 0) ∙ feed in
        none k 0 (omega (arith, length-drop start (take at text), length-take-le at text within)) same

    by_cases : (start + length line < at) ⊎ (at ≤ start + length line) → at ≤ start + length line
    by_cases (inl less) = absurd (fed less is.after is.is is.ends)
    by_cases (inr done) = done

-- the last line of a text starts at one byte: not at an earlier one, since a line feed stands before it
no_earlier : (text : List ℕ) (a b : ℕ) → IsLastStart text a → IsLastStart text b → a < b → ⊥
no_earlier text a b p q less = by_start q.starts
  where
    by_start : (take b text ≡ []) ⊎ ((front : List ℕ) × (take b text ≡ front ++ (10 ∷ []))) → ⊥
    by_start (inl none) = omega (arith, less, ap length none, length-take-le b text q.within)
    by_start (inr fed) =
        let front = fed.0 in
        let count : b ≡ length front + 1 = sym (length-take-le b text q.within) ∙ ap length fed.1 ∙ length-append front (10 ∷ []) in
        let seam : get_or (take b text) (length front) 0 ≡ 10 = ap (λ l. get_or l (length front) 0) fed.1 ∙ get_or-append_seam front 10 [] 0 in
        let feed : get_or text (length front) 0 ≡ 10 = sym (get_or-take b text (length front) 0 (omega arith)) ∙ seam in
        let place : a + (length front - a) ≡ length front = omega (arith, less, count) in
        p.last (length front - a) 0 (omega (arith, less, count, q.within, length-drop a text))
        (get_or-drop a text (length front - a) 0 ∙ ap (λ n. get_or text n 0) place ∙ feed)

pub one_start : (text : List ℕ) (a b : ℕ) → IsLastStart text a → IsLastStart text b → a ≡ b
one_start text a b p q = grind (arith, common_steps, cases_lt, no_earlier)

-- where the last line starts of a text up to some byte, a character begins: it is the text's start, or a line feed stands before it
pub start_border : (text : List ℕ) (at start : ℕ) → IsUtf8 text → at ≤ length text → IsLastStart (take at text) start → IsCharBoundary text start
start_border text at start utf8 within is = by_start is.starts
  where
    front : List ℕ
    front = take at text

    fits : start ≤ at
    fits = omega (arith, is.within, length-take-le at text within)

    long : length (take start front) ≡ start
    long = length-take-le start front is.within

    by_start : (take start front ≡ []) ⊎ ((before : List ℕ) × (take start front ≡ before ++ (10 ∷ []))) → IsCharBoundary text start
    by_start (inl none) = subst (IsCharBoundary text) (sym (sym long ∙ ap length none)) (IsCharBoundary-start text utf8)
    by_start (inr fed) =
        let before = fed.0 in
        let i : ℕ = length before in
        let count : start ≡ i + 1 = sym long ∙ ap length fed.1 ∙ length-append before (10 ∷ []) in
        let seam : get_or (take start front) i 0 ≡ 10 = ap (λ l. get_or l i 0) fed.1 ∙ get_or-append_seam before 10 [] 0 in
        let feed : get_or text i 0 ≡ 10 =
        sym (get_or-take at text i 0 (omega (arith, count, fits))) ∙ sym (get_or-take start front i 0 (omega (arith, count))) ∙ seam in
        subst (IsCharBoundary text) (sym count) (IsCharBoundary-after_ascii text i utf8 (omega (arith, count, fits, within)) (omega (arith, feed)))
