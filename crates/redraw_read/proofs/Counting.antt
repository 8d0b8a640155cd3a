-- Counts that grow on the way, and which alternatives are drawn.
use Rattle.std.proofs.lemmas.Grind.{common_steps}
use Rattle.std.proofs.Common.{◌≡◌, ◌==◌, ℕ, zero, suc, ◌+◌, ◌<◌, ◌≤◌, ◌-◌, ◌^◌, ◌&&◌, ◌||◌, Bool, true, false, not, min, List, [], ◌∷◌}
use Rattle.std.proofs.Common.{Some, None, length, take}
use Rattle.std.proofs.Common.{is_some, ltb, refl, sym, ap, ◌∙◌, arith, if◌then◌else◌}
use Rattle.std.specs.List.{AllZip, list_all, slice_index_or, sum_by}
use Rattle.std.proofs.lemmas.Bool.{cases_Bool, cases_lt, le-leb, leb-true}
use Rattle.std.proofs.lemmas.Bool.Decides.{nat_tests}
use Rattle.std.proofs.lemmas.List.Sums.{sum_by_more}
use Rattle.snippet_lines.specs.Places.{IsSpanBetween, begins_char}
use Rattle.snippet_lines.specs.declared.clamp.Place.{Place}
use Rattle.snippet_lines.specs.declared.clamp.SpanAt.{SpanAt}
use Rattle.redraw_report.specs.declared.diagnostic.SuggestedEdit.{SuggestedEdit}
use Rattle.redraw_report.specs.declared.diagnostic.Region.{Region}
use Rattle.redraw_report.specs.declared.finding.Content.{Content}
use Rattle.redraw_report.specs.declared.finding.Offer.{Offer}
use Rattle.redraw_report.specs.SameSource.{same_content, same_source}
use Rattle.redraw_read.specs.Counted.{adds, capped, holds, is_beside, is_drawn, more, ones, shows_same, shows_text}
use Rattle.redraw_read.specs.Placed.{AtHand, IsAttributeAt, IsAttributeOffer, IsSpotOf, are_in, has_text, one_source, sight_of}
use Rattle.redraw_read.specs.declared.spot.Placing.{Placing}
use Rattle.redraw_read.specs.declared.spot.Spot.{Spot}

-- so many more, and then so many more
more-more : (n j k : ℕ) → more (more n j) k ≡ more n (j + k)
more-more n zero k =
    let count : k ≡ zero + k = omega arith in
    ap (more n) count
more-more n (suc j) k =
    let count : suc (j + k) ≡ suc j + k = omega arith in
    more-more (capped (n + 1)) j k ∙ ap (more n) count

adds-adds : (p : Placing) (a b c d : ℕ) → adds (adds p a b) c d ≡ adds p (a + c) (b + d)
adds-adds p a b c d =
    ap (λ n. record p { clamped = n; undrawn = more (more p.undrawn b) d }) (more-more p.clamped a c)
    ∙ ap (λ n. record p { clamped = more p.clamped (a + c); undrawn = n }) (more-more p.undrawn b d)

-- from a count on, its own and so many more, as far as they can be counted
more-capped : (n k : ℕ) → n ≤ 2 ^ 64 - 1 → more n k ≡ capped (n + k)
more-capped n zero fits = omega (arith, fits)
more-capped n (suc k) fits = grind (arith, common_steps, more-capped (min (n + 1) (2 ^ 64 - 1)) k (omega arith))

-- from nothing on, so many as far as they can be counted
pub more-none : (n k : ℕ) → n ≡ 0 → more n k ≡ capped k
more-none n k none = grind (arith, common_steps, more-capped)

-- with the next of some elements the sum so far grows by what it adds
sum-next : {X : Type 0} (f : X → ℕ) (xs : List X) (i : ℕ) (x : X) → i < length xs → x ≡ slice_index_or xs i x
    → sum_by f (take i xs) + f x ≡ sum_by f (take (i + 1) xs)
sum-next {X} f xs i x within is = ap (λ (e : X). sum_by f (take i xs) + f e) is ∙ sym (sum_by_more f xs i x within)

-- of some elements as far as they have been walked along, and the next one
pub adds-next : {X : Type 0} (f g : X → ℕ) (xs : List X) (i : ℕ) (x : X) (first now next : Placing) → i < length xs → x ≡ slice_index_or xs i x
    → now ≡ adds first (sum_by f (take i xs)) (sum_by g (take i xs)) → next ≡ adds now (f x) (g x)
    → next ≡ adds first (sum_by f (take (i + 1) xs)) (sum_by g (take (i + 1) xs))
adds-next f g xs i x first now next within is so after = grind (arith, common_steps, adds-adds, sum-next)

-- the same where no alternatives are among them
pub adds-next_place : {X : Type 0} (f : X → ℕ) (xs : List X) (i : ℕ) (x : X) (first now next : Placing) → i < length xs → x ≡ slice_index_or xs i x
    → now ≡ adds first (sum_by f (take i xs)) 0 → next ≡ adds now (f x) 0 → next ≡ adds first (sum_by f (take (i + 1) xs)) 0
adds-next_place f xs i x first now next within is so after =
    after
    ∙ ap (λ (p : Placing). adds p (f x) 0) so
    ∙ adds-adds first (sum_by f (take i xs)) 0 (f x) 0
    ∙ ap (λ n. adds first n 0) (sum-next f xs i x within is)

-- other things after places
pub adds-then : (first now next : Placing) (a b c : ℕ) → now ≡ adds first a 0 → next ≡ adds now b c → next ≡ adds first (a + b) c
adds-then first now next a b c so after =
    let all : 0 + c ≡ c = omega arith in
    after ∙ ap (λ (p : Placing). adds p b c) so ∙ adds-adds first a 0 b c ∙ ap (adds first (a + b)) all

not-back : (a b : Bool) → a ≡ not b → b ≡ not a
not-back a true is = ap not (sym is)
not-back a false is = ap not (sym is)

-- an alternative is counted after the places of its edits, unless there is an offer of it
pub adds-alternative : (first now : Placing) (a n : ℕ) (none some drawn : Bool) → now ≡ adds first a 0 → n ≡ more now.undrawn (ones none)
    → some ≡ not none → some ≡ drawn → record now { undrawn = n } ≡ adds first a (ones (not drawn))
adds-alternative first now a n none some drawn so counted told is = grind (arith, common_steps, not-back)

-- a border of characters is told by the byte there
border_by : (text : List ℕ) (k b : ℕ) → k ≤ length text → (k < length text → 128 ≤ b → 192 ≤ b)
    → (k == length text || ltb k (length text) && begins_char b) ≡ true
border_by text k b within begins = grind (arith, common_steps, cases_lt, nat_tests)

border_when : (text : List ℕ) (k b : ℕ) → (k == length text || ltb k (length text) && begins_char b) ≡ true
    → (k ≤ length text) × (k < length text → 128 ≤ b → 192 ≤ b)
border_when text k b is = (grind (arith, nat_tests, is), λ below over. grind (arith, nat_tests, is, below, over))

held-and : (a b c d e : Bool) → a ≡ true → b ≡ true → c ≡ true → d ≡ true → e ≡ true → (a && b && (c && d) && e) ≡ true
held-and a b c d e p q r s t = grind (arith, common_steps)

and-held : (a b c d e : Bool) → (a && b && (c && d) && e) ≡ true → (a ≡ true) × (b ≡ true) × (c ≡ true) × (d ≡ true) × (e ≡ true)
and-held a b c d e h = grind (arith, common_steps)

-- what is located is said not to be what was asked for just where the text doesn't hold that
pub clamped-as : (text : List ℕ) (from to : Place) (at : SpanAt) → IsSpanBetween text from to at → at.clamped ≡ not (holds text from to)
clamped-as text from to at is = grind (arith, common_steps, cases_Bool, held-and, border_by, le-leb, and-held, border_when, leb-true)

some-if : {X : Type 0} (b : Bool) (x : X) → is_some (if b then Some x else None) ≡ b
some-if true x = refl
some-if false x = refl

and-as : (a b c d : Bool) → a ≡ b → (a ≡ true → c ≡ d) → (a && c) ≡ (b && d)
and-as true b c d same next = ap (λ x. true && x) (next refl) ∙ ap (λ x. x && d) same
and-as false b c d same next = ap (λ x. x && d) same

text-as : (c : Content) → has_text c ≡ shows_text (sight_of c)
text-as c = grind (arith, common_steps)

same-as : (c d : Content) → has_text d ≡ true → same_content c d ≡ shows_same (sight_of d) (sight_of c)
same-as c d has = grind (arith, common_steps)

-- a spot is in another one's source where its edit is in the lines of the other's
beside-as : (hand : AtHand) (e f : SuggestedEdit) (s t : Spot) → IsSpotOf hand e s → IsSpotOf hand f t → has_text s.source.content ≡ true
    → same_source t.source s.source ≡ is_beside hand e f
beside-as hand e f s t hs ht has = grind (arith, common_steps, same-as, ht.path, hs.path, hs.shows, ht.shows)

all-beside : (hand : AtHand) (e : SuggestedEdit) (s : Spot) → IsSpotOf hand e s → has_text s.source.content ≡ true
    → (es : List SuggestedEdit) (spots : List Spot) → AllZip (IsSpotOf hand) es spots → are_in s.source spots ≡ list_all (is_beside hand e) es
all-beside hand e s hs has [] [] h = refl
all-beside hand e s hs has [] (t ∷ spots) h = absurd h
all-beside hand e s hs has (f ∷ es) [] h = absurd h
all-beside hand e s hs has (f ∷ es) (t ∷ spots) h =
    ap (λ b. b && are_in s.source spots) (beside-as hand e f s t hs h.0 has)
    ∙ ap (λ b. is_beside hand e f && b) (all-beside hand e s hs has es spots h.1)

-- edits are in one source where an alternative of them is drawn
pub drawn-as : (hand : AtHand) (edits : List SuggestedEdit) (spots : List Spot) → AllZip (IsSpotOf hand) edits spots
    → is_some (one_source spots) ≡ is_drawn hand edits
drawn-as hand edits spots h = grind (arith, common_steps, some-if, and-as, text-as, all-beside)

attribute_text : (c : Content) (r : Region) (s : Spot) (e : SuggestedEdit) (o : Offer) → IsAttributeAt c r s e o → has_text c ≡ true
attribute_text c r s e o h = grind (arith, common_steps)

-- that of an attribute is in a source
pub attribute_drawn : (spots : List Spot) (edits : List SuggestedEdit) (o : Offer) → IsAttributeOffer spots edits o → true ≡ is_some (one_source spots)
attribute_drawn spots edits o h = grind (arith, common_steps, some-if, attribute_text)
