-- How labels find the places that they go to, one after another.
use Rattle.std.proofs.lemmas.Grind.{common_steps}
use Rattle.std.proofs.Common.{◌≡◌, ◌∙◌, ℕ, zero, suc, ◌+◌, ◌<◌, ◌≤◌, ◌&&◌, Bool, true, false, List, [], ◌∷◌, ◌++◌, Option, Some, None}
use Rattle.std.proofs.Common.{ap, append-nil, append_assoc, arith, drop, get_or, if◌then◌else◌, length, refl, slice_set, string_bytes, sym, take, take-suc}
use Rattle.std.specs.BTreeMap.{BTreeMap, Updates, UpdatesBy}
use Rattle.std.specs.Global.{Global}
use Rattle.std.specs.List.{last_or}
use Rattle.std.specs.Option.{IsSome, option_map, option_to_list}
use Rattle.std.specs.Str.{bytes_eq}
use Rattle.std.specs.declared.collections.VecDeque.{VecDeque}
use Rattle.std.proofs.lemmas.Slice.Eq.{bytes_eq-Decides}
use Rattle.redraw_report.specs.contracts.diagnostic.RegionEq.TheImpl.Laws.{laws-law}
use Rattle.redraw_report.specs.contracts.diagnostic.RegionPartialEq.TheImpl as equality
use Rattle.redraw_report.specs.declared.diagnostic.FileSpan.{FileSpan}
use Rattle.redraw_report.specs.declared.diagnostic.Region.{Region}
use Rattle.redraw_read.proofs.PrimaryParts.{equal_parts}
use Rattle.redraw_read.specs.Labels.{is_bare, is_bare_at, labelled, takes, with_each, with_label}
use Rattle.redraw_read.specs.Roles.{FilePart, part_cmp}
use Rattle.redraw_read.specs.Targets.{AreBarePlaces, indices_of, kept_by, label_at, put_at, put_each, target, targets}
use Rattle.redraw_read.specs.declared.labels.EditLabel.{EditLabel}

-- ---- one label more

pub with_each-push : (labels : List EditLabel) (l : EditLabel) (spans : List FileSpan)
    → with_each (labels ++ l ∷ []) spans ≡ with_label l (with_each labels spans)
with_each-push [] l spans = refl
with_each-push (k ∷ labels) l spans = with_each-push labels l (with_label k spans)

pub targets-push : (labels : List EditLabel) (l : EditLabel) (spans : List FileSpan)
    → targets (labels ++ l ∷ []) spans ≡ targets labels spans ++ target l (with_each labels spans) ∷ []
targets-push [] l spans = refl
targets-push (k ∷ labels) l spans = ap (λ (found : List (Option ℕ)). target k spans ∷ found) (targets-push labels l (with_label k spans))

pub put_each-push : (found : List (Option ℕ)) (labels : List EditLabel) (l : EditLabel) (spans : List FileSpan)
    → put_each found (labels ++ l ∷ []) spans ≡ put_at (get_or found (length labels) None) l (put_each found labels spans)
put_each-push [] [] l spans = refl
put_each-push (t ∷ found) [] l spans = refl
put_each-push [] (k ∷ labels) l spans = put_each-push [] labels l (put_at None k spans)
put_each-push (t ∷ found) (k ∷ labels) l spans = put_each-push found labels l (put_at t k spans)

-- ---- a label at its target

put-suc : (o : Option ℕ) (l : EditLabel) (s : FileSpan) (spans : List FileSpan) → put_at (option_map suc o) l (s ∷ spans) ≡ s ∷ put_at o l spans
put-suc None l s spans = refl
put-suc (Some n) l s spans = refl

put-next : (takes : Bool) (l : EditLabel) (s : FileSpan) (spans : List FileSpan) → put_at (target l spans) l spans ≡ with_label l spans
    → put_at (if takes then Some 0 else option_map suc (target l spans)) l (s ∷ spans) ≡ (if takes then labelled l s ∷ spans else s ∷ with_label l spans)
put-next true l s spans rest = refl
put-next false l s spans rest = put-suc (target l spans) l s spans ∙ ap (λ (r : List FileSpan). s ∷ r) rest

put-target : (l : EditLabel) (spans : List FileSpan) → put_at (target l spans) l spans ≡ with_label l spans
put-target l [] = refl
put-target l (s ∷ spans) = put-next (takes l s) l s spans (put-target l spans)

pub put-targets : (labels : List EditLabel) (spans : List FileSpan) → put_each (targets labels spans) labels spans ≡ with_each labels spans
put-targets [] spans = refl
put-targets (l ∷ labels) spans =
    ap (λ (r : List FileSpan). put_each (targets labels (with_label l spans)) labels r) (put-target l spans) ∙ put-targets labels (with_label l spans)

-- ---- indices

one : ℕ → Bool → List ℕ
one n is = if is then n ∷ [] else []

joins : (is : Bool) (n : ℕ) (rest : List ℕ) → (if is then n ∷ rest else rest) ≡ one n is ++ rest
unfolding one
joins true n rest = refl
joins false n rest = refl

indices-one : (n : ℕ) (test : FileSpan → Bool) (spans : List FileSpan) (s : FileSpan)
    → indices_of n test (spans ++ s ∷ []) ≡ indices_of n test spans ++ one (n + length spans) (test s)
unfolding one
indices-one n test [] s = ap (λ k. if test s then k ∷ [] else []) (let e : n ≡ n + 0 = omega arith in e)
indices-one n test (t ∷ spans) s = grind (arith, common_steps, indices-one (suc n) test spans s, joins, one, append_assoc)

-- one more place
pub indices-push : (test : FileSpan → Bool) (spans : List FileSpan) (s : FileSpan)
    → indices_of 0 test (spans ++ s ∷ []) ≡ indices_of 0 test spans ++ (if test s then length spans ∷ [] else [])
unfolding one
indices-push test spans s =
    indices-one 0 test spans s
    ∙ ap (λ k. indices_of 0 test spans ++ (if test s then k ∷ [] else [])) (let e : 0 + length spans ≡ length spans = omega arith in e)

indices-by : (is other : Bool) → is ≡ other → (n : ℕ) (rest others : List ℕ) → rest ≡ others
    → (if is then n ∷ rest else rest) ≡ (if other then n ∷ others else others)
indices-by is other e n rest others same =
    ap (λ (b : Bool). if b then n ∷ rest else rest) e ∙ ap (λ (r : List ℕ). if other then n ∷ r else r) same

indices-same : (n : ℕ) (p q : FileSpan → Bool) (spans : List FileSpan) → ((s : FileSpan) → p s ≡ q s) → indices_of n p spans ≡ indices_of n q spans
indices-same n p q [] same = refl
indices-same n p q (s ∷ spans) same = indices-by (p s) (q s) (same s) n _ _ (indices-same (suc n) p q spans same)

-- the first of some numbers
abbrev pub lead : List ℕ → Option ℕ
lead [] = None
lead (n ∷ ns) = Some n

lead-suc : (n : ℕ) (o : Option ℕ) → option_map (λ k. suc n + k) o ≡ option_map (λ k. n + k) (option_map suc o)
lead-suc n None = refl
lead-suc n (Some k) = ap Some (let e : suc n + k ≡ n + suc k = omega arith in e)

lead-next : (is : Bool) (n : ℕ) (rest : List ℕ) (o : Option ℕ) → lead rest ≡ option_map (λ k. suc n + k) o
    → lead (if is then n ∷ rest else rest) ≡ option_map (λ k. n + k) (if is then Some 0 else option_map suc o)
lead-next true n rest o h = ap Some (let e : n ≡ n + 0 = omega arith in e)
lead-next false n rest o h = h ∙ lead-suc n o

lead-from : (n : ℕ) (l : EditLabel) (spans : List FileSpan) → lead (indices_of n (takes l) spans) ≡ option_map (λ k. n + k) (target l spans)
lead-from n l [] = refl
lead-from n l (s ∷ spans) = lead-next (takes l s) n (indices_of (suc n) (takes l) spans) (target l spans) (lead-from (suc n) l spans)

as_it_is : (o : Option ℕ) → option_map (λ k. 0 + k) o ≡ o
as_it_is None = refl
as_it_is (Some k) = ap Some (let e : 0 + k ≡ k = omega arith in e)

-- the first index of those that take a label is its target
lead-target : (l : EditLabel) (spans : List FileSpan) → lead (indices_of 0 (takes l) spans) ≡ target l spans
lead-target l spans = lead-from 0 l spans ∙ as_it_is (target l spans)

-- ---- indices once a label is put

and_false : (a b : Bool) → ((a && false) && b) ≡ false
and_false true b = refl
and_false false b = refl

-- a place that has a label takes none
none_taken : (region : Region) (file : List ℕ) (l : EditLabel) (s : FileSpan) → is_bare_at region file (labelled l s) ≡ false
none_taken region file l s = and_false s.is_primary ((equality.ghosts).eq s.region region && bytes_eq (string_bytes s.file) file)

taken-next : (is : Bool) (n : ℕ) (l : EditLabel) (s : FileSpan) (spans : List FileSpan) → takes l s ≡ is
    → indices_of (suc n) (takes l) (with_label l spans) ≡ drop 1 (indices_of (suc n) (takes l) spans)
    → indices_of n (takes l) (if is then labelled l s ∷ spans else s ∷ with_label l spans)
    ≡ drop 1 (if is then n ∷ indices_of (suc n) (takes l) spans else indices_of (suc n) (takes l) spans)
taken-next is n l s spans e rest = grind (arith, common_steps, none_taken)

-- the first that took it doesn't any more
taken-first : (n : ℕ) (l : EditLabel) (spans : List FileSpan) → indices_of n (takes l) (with_label l spans) ≡ drop 1 (indices_of n (takes l) spans)
taken-first n l [] = refl
taken-first n l (s ∷ spans) = taken-next (takes l s) n l s spans refl (taken-first (suc n) l spans)

other-next : (is : Bool) (n : ℕ) (region : Region) (file : List ℕ) (l : EditLabel) (s : FileSpan) (spans : List FileSpan) → takes l s ≡ is
    → ((t : FileSpan) → takes l t ≡ true → is_bare_at region file t ≡ false)
    → indices_of (suc n) (is_bare_at region file) (with_label l spans) ≡ indices_of (suc n) (is_bare_at region file) spans
    → indices_of n (is_bare_at region file) (if is then labelled l s ∷ spans else s ∷ with_label l spans) ≡ indices_of n (is_bare_at region file) (s ∷ spans)
other-next is n region file l s spans e apart rest = grind (arith, common_steps, indices-by, none_taken)

-- at another part of a file the same are bare
other-same : (n : ℕ) (region : Region) (file : List ℕ) (l : EditLabel) (spans : List FileSpan)
    → ((t : FileSpan) → takes l t ≡ true → is_bare_at region file t ≡ false)
    → indices_of n (is_bare_at region file) (with_label l spans) ≡ indices_of n (is_bare_at region file) spans
other-same n region file l [] apart = refl
other-same n region file l (s ∷ spans) apart =
    other-next (takes l s) n region file l s spans refl apart (other-same (suc n) region file l spans apart)

-- ---- parts of files

abbrev are_parts : FilePart → FilePart → Bool
are_parts k q = (equality.ghosts).eq k.0 q.0 && bytes_eq k.1.now q.1.now

both : (a b : Bool) → (a && b) ≡ true → (a ≡ true) × (b ≡ true)
both a b e = grind (arith, common_steps)

same_region : (a k q : Region) → (equality.ghosts).eq k q ≡ true → (equality.ghosts).eq a k ≡ (equality.ghosts).eq a q
same_region a k q e = laws-law.symm a k ∙ laws-law.congr k q a e ∙ laws-law.symm q a

-- one part has the bare places of the other
at_same : (k q : FilePart) → are_parts k q ≡ true → (s : FileSpan) → is_bare_at k.0 k.1.now s ≡ is_bare_at q.0 q.1.now s
at_same k q e s = grind (arith, common_steps, both, same_region, bytes_eq-Decides)

never : (a b : Bool) → b ≡ false → (a && b) ≡ false
never true b e = e
never false b e = refl

-- a place that is bare at one part isn't at another
at_other : (k q : FilePart) → are_parts k q ≡ false → (s : FileSpan) → is_bare_at k.0 k.1.now s ≡ true → is_bare_at q.0 q.1.now s ≡ false
at_other k q e s is = grind (arith, common_steps, both, never, laws-law.congr, bytes_eq-Decides)

-- what is kept by a part, once it was taken out and put in again
kept_once : (old mid new : BTreeMap FilePart (VecDeque ℕ Global)) (k : FilePart) (w : VecDeque ℕ Global) → UpdatesBy part_cmp (part_cmp k) old mid None
    → Updates part_cmp mid new k (Some w) → (q : FilePart) → kept_by new q ≡ (if are_parts k q then w.items else kept_by old q)
kept_once old mid new k w out in_again q = grind (arith, common_steps, equal_parts, in_again.0, out.0)

-- a place more: it is kept by its part if it is bare
pub bare-more : (old mid new : BTreeMap FilePart (VecDeque ℕ Global)) (k : FilePart) (w : VecDeque ℕ Global) (s : FileSpan) (spans : List FileSpan) (n : ℕ)
    → UpdatesBy part_cmp (part_cmp k) old mid None → Updates part_cmp mid new k (Some w) → (k.0 ≡ s.region) × (k.1.now ≡ string_bytes s.file)
    → is_bare s ≡ true → n ≡ length spans → w.items ≡ kept_by old k ++ n ∷ [] → AreBarePlaces old spans → AreBarePlaces new (spans ++ s ∷ [])
bare-more old mid new k w s spans n out in_again at bare count grown are q =
    kept_once old mid new k w out in_again q ∙ by (are_parts k q) refl ∙ sym (indices-push (is_bare_at q.0 q.1.now) spans s)
  where
    there : is_bare_at q.0 q.1.now s ≡ are_parts k q
    there =
        ap (λ (b : Bool). b && ((equality.ghosts).eq s.region q.0 && bytes_eq (string_bytes s.file) q.1.now)) bare
        ∙ ap (λ (r : Region). (equality.ghosts).eq r q.0 && bytes_eq (string_bytes s.file) q.1.now) (sym at.0)
        ∙ ap (λ (f : List ℕ). (equality.ghosts).eq k.0 q.0 && bytes_eq f q.1.now) (sym at.1)

    by : (b : Bool) → are_parts k q ≡ b
        → (if b then w.items else kept_by old q) ≡ indices_of 0 (is_bare_at q.0 q.1.now) spans ++ (if is_bare_at q.0 q.1.now s then length spans ∷ [] else [])
    by true e =
        grown ∙ ap (λ m. kept_by old k ++ m ∷ []) count
        ∙ ap (λ (r : List ℕ). r ++ length spans ∷ []) (are k ∙ indices-same 0 _ _ spans (at_same k q e))
        ∙ ap (λ (b : Bool). indices_of 0 (is_bare_at q.0 q.1.now) spans ++ (if b then length spans ∷ [] else [])) (sym (there ∙ e))
    by false e =
        are q ∙ sym (append-nil (indices_of 0 (is_bare_at q.0 q.1.now) spans))
        ∙ ap (λ (b : Bool). indices_of 0 (is_bare_at q.0 q.1.now) spans ++ (if b then length spans ∷ [] else [])) (sym (there ∙ e))

-- another place isn't kept
pub bare-same : (places : BTreeMap FilePart (VecDeque ℕ Global)) (s : FileSpan) (spans : List FileSpan) → is_bare s ≡ false
    → AreBarePlaces places spans → AreBarePlaces places (spans ++ s ∷ [])
bare-same places s spans other are q = grind (arith, common_steps, append-nil, indices-push, are q, q.0)

-- a label takes the first place of its part
pub taken-out : (old mid new : BTreeMap FilePart (VecDeque ℕ Global)) (k : FilePart) (w : VecDeque ℕ Global) (l : EditLabel) (spans : List FileSpan)
    → UpdatesBy part_cmp (part_cmp k) old mid None → Updates part_cmp mid new k (Some w) → (k.0 ≡ l.edit.region) × (k.1.now ≡ string_bytes l.edit.file)
    → w.items ≡ drop 1 (kept_by old k) → AreBarePlaces old spans → AreBarePlaces new (with_label l spans)
taken-out old mid new k w l spans out in_again at rest are q = kept_once old mid new k w out in_again q ∙ by (are_parts k q) refl
  where
    its : (s : FileSpan) → is_bare_at k.0 k.1.now s ≡ takes l s
    its s = ap (λ (r : Region). is_bare_at r k.1.now s) at.0 ∙ ap (λ (f : List ℕ). is_bare_at l.edit.region f s) at.1

    by : (b : Bool) → are_parts k q ≡ b → (if b then w.items else kept_by old q) ≡ indices_of 0 (is_bare_at q.0 q.1.now) (with_label l spans)
    by true e =
        rest ∙ ap (λ (r : List ℕ). drop 1 r) (are k ∙ indices-same 0 _ _ spans its) ∙ sym (taken-first 0 l spans)
        ∙ indices-same 0 _ _ (with_label l spans) (λ s. sym (its s) ∙ at_same k q e s)
    by false e = are q ∙ sym (other-same 0 q.0 q.1.now l spans (λ t is. at_other k q e t (its t ∙ is)))

-- its target is the first index that is kept
pub first-kept : (places : BTreeMap FilePart (VecDeque ℕ Global)) (k : FilePart) (l : EditLabel) (spans : List FileSpan)
    → (k.0 ≡ l.edit.region) × (k.1.now ≡ string_bytes l.edit.file) → AreBarePlaces places spans → lead (kept_by places k) ≡ target l spans
first-kept places k l spans at are = grind (arith, common_steps, indices-same, lead-target, are k)

-- ---- indices that were found

-- what is first taken out of some numbers
pub lead-popped : (old new : List ℕ) (r : Option ℕ) → old ≡ option_to_list r ++ new → (0 < length old → IsSome r) → r ≡ lead old
lead-popped old new r is some = grind (arith, common_steps)

-- a label at an index that places have, and past them
pub label-set : (spans : List FileSpan) (n : ℕ) (l : EditLabel) (s : FileSpan) → n < length spans → s ≡ get_or spans n s
    → slice_set spans n (labelled l s) ≡ label_at n l spans
label-set [] n l s less is = absurd (omega (arith, less))
label-set (t ∷ spans) zero l s less is = ap (λ (u : FileSpan). labelled l u ∷ spans) is
label-set (t ∷ spans) (suc n) l s less is = ap (λ (r : List FileSpan). t ∷ r) (label-set spans n l s (omega (arith, less)) is)

pub label-past : (spans : List FileSpan) (n : ℕ) (l : EditLabel) → length spans ≤ n → spans ≡ label_at n l spans
label-past [] n l past = refl
label-past (t ∷ spans) zero l past = absurd (omega (arith, past))
label-past (t ∷ spans) (suc n) l past = ap (λ (r : List FileSpan). t ∷ r) (label-past spans n l (omega (arith, past)))

-- the last of a list
pub last-is : {A : Type 0} (o : Option A) (xs : List A) (x : A) → last_or o (xs ++ x ∷ []) ≡ Some x
last-is o [] x = refl
last-is o (y ∷ xs) x = last-is (Some y) xs x

pub last-popped : {A : Type 0} (old new : List A) (r : Option A) → old ≡ new ++ option_to_list r → (0 < length old → IsSome r) → r ≡ last_or None old
last-popped old new r is some = grind (arith, common_steps, last-is)

-- ---- labels one after another

taken-next_item : {A : Type 0} (xs : List A) (i : ℕ) (x : A) → i < length xs → x ≡ get_or xs i x → take (i + 1) xs ≡ take i xs ++ x ∷ []
taken-next_item {A} xs i x less is =
    let count : i + 1 ≡ suc i = omega arith in
    ap (λ n. take n xs) count ∙ take-suc xs i x less ∙ ap (λ (e : A). take i xs ++ e ∷ []) (sym is)

pub targets-next : (labels : List EditLabel) (i : ℕ) (l : EditLabel) (spans : List FileSpan) (old new : List (Option ℕ)) (first : Option ℕ)
    → i < length labels → l ≡ get_or labels i l → old ≡ targets (take i labels) spans → first ≡ target l (with_each (take i labels) spans)
    → new ≡ old ++ first ∷ [] → new ≡ targets (take (i + 1) labels) spans
targets-next labels i l spans old new first less is before here grown = grind (arith, common_steps, targets-push, taken-next_item)

pub bare-next : (places : BTreeMap FilePart (VecDeque ℕ Global)) (labels : List EditLabel) (i : ℕ) (l : EditLabel) (spans : List FileSpan)
    → i < length labels → l ≡ get_or labels i l → AreBarePlaces places (with_label l (with_each (take i labels) spans))
    → AreBarePlaces places (with_each (take (i + 1) labels) spans)
bare-next places labels i l spans less is are part =
    are part ∙ ap (λ (ss : List FileSpan). indices_of 0 (is_bare_at part.0 part.1.now) ss)
    (sym (with_each-push (take i labels) l spans) ∙ ap (λ (ls : List EditLabel). with_each ls spans) (sym (taken-next_item labels i l less is)))

-- before the first place, the places so far, and one more
pub none-yet : (places : BTreeMap FilePart (VecDeque ℕ Global)) → places.entries ≡ [] → AreBarePlaces places []
none-yet places none part = rw none refl

pub places-next : (places : BTreeMap FilePart (VecDeque ℕ Global)) (spans : List FileSpan) (i : ℕ) (s : FileSpan) → i < length spans → s ≡ get_or spans i s
    → AreBarePlaces places (take i spans ++ s ∷ []) → AreBarePlaces places (take (i + 1) spans)
places-next places spans i s less is are part =
    are part ∙ ap (λ (ss : List FileSpan). indices_of 0 (is_bare_at part.0 part.1.now) ss) (sym (taken-next_item spans i s less is))
