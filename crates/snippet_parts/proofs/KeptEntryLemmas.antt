-- Lines that are given their entries one by one.
use Rattle.snippet_parts.proofs.Common.{◌≡◌, ◌≢◌, ℕ, ◌+◌, ◌-◌, ◌<◌, ◌≤◌, Bool, Err, nat_cmp, List, [], ◌∷◌, ◌++◌, map, length, take, drop, get_or, set, inl}
use Rattle.snippet_parts.proofs.Common.{inr, sym, ap, ◌∙◌, arith, All, AllPairs, filter, range_with_len, IsBinarySearchResult, length-range_with_len}
use Rattle.snippet_parts.proofs.Common.{get_or-range_with_len, AllPairs-filter, searched, cases_eq, cases_lt, eq-eqb, ne_eqb, append-nil, ext_get_or}
use Rattle.snippet_parts.proofs.Common.{get_or-map, get_or-set_same, get_or-set_other, length-map, length-set, places, same_lists, filter-append, Source}
use Rattle.snippet_parts.proofs.Common.{LineAnnotation, KeptLine, line_with}

-- an entry that stands on line k comes after its others
one_more : (s : Source) (seen : List ℕ) (parts : List LineAnnotation) (p : LineAnnotation) (k : ℕ) → s.first + k ≡ p.start.line
    → line_with s seen (parts ++ p ∷ []) k ≡ record (line_with s seen parts k) { parts = (line_with s seen parts k).parts ++ p ∷ [] }
one_more s seen parts p k here = grind (arith, eq-eqb, filter-append)

-- one that stands on another line doesn't change it
none_more : (s : Source) (seen : List ℕ) (parts : List LineAnnotation) (p : LineAnnotation) (k : ℕ) → s.first + k ≢ p.start.line
    → line_with s seen (parts ++ p ∷ []) k ≡ line_with s seen parts k
none_more s seen parts p k away = grind (arith, ne_eqb, filter-append, append-nil)

-- an entry that stands on none of some lines changes none
pub stands_nowhere : (s : Source) (seen : List ℕ) (parts : List LineAnnotation) (p : LineAnnotation) (ks : List ℕ)
    → ((k : ℕ) → k < length ks → s.first + get_or ks k 0 ≢ p.start.line)
    → map (line_with s seen parts) ks ≡ map (line_with s seen (parts ++ p ∷ [])) ks
stands_nowhere s seen parts p ks nowhere =
    let f : ℕ → KeptLine = line_with s seen parts in
    let g : ℕ → KeptLine = line_with s seen (parts ++ p ∷ []) in
    ext_get_or (f 0) (map f ks) (map g ks) (length-map ks f ∙ sym (length-map ks g)) (λ i within.
    let there : i < length ks = omega (arith, within, length-map ks f) in
    get_or-map f ks i 0 (f 0) there ∙ sym (none_more s seen parts p (get_or ks i 0) (nowhere i there)) ∙ sym (get_or-map g ks i 0 (f 0) there))

-- and one that stands on a line at a place changes the line there
pub entry_stands_at : (s : Source) (seen : List ℕ) (parts : List LineAnnotation) (p : LineAnnotation) (ks : List ℕ) (at : ℕ) (ls : List KeptLine) (l : KeptLine)
    → AllPairs (λ (a b : ℕ). a < b) ks → at < length ks → s.first + get_or ks at 0 ≡ p.start.line → ls ≡ map (line_with s seen parts) ks
    → l ≡ record (get_or ls at l) { parts = (get_or ls at l).parts ++ p ∷ [] }
    → set ls at l ≡ map (line_with s seen (parts ++ p ∷ [])) ks
entry_stands_at s seen parts p ks at ls l up within here are is =
    let f : ℕ → KeptLine = line_with s seen parts in
    let g : ℕ → KeptLine = line_with s seen (parts ++ p ∷ []) in
    let count : length ls ≡ length ks = ap length are ∙ length-map ks f in
    ext_get_or l (set ls at l) (map g ks) (length-set ls at l ∙ count ∙ sym (length-map ks g)) (λ i inside.
    let there : i < length ks = omega (arith, inside, length-set ls at l, count) in
    elim (cases_eq i at) [
      | inl same ↦
          ap (λ j. get_or (set ls at l) j l) same ∙ get_or-set_same ls at l l (omega (arith, within, count)) ∙ is
          ∙ ap (λ (m : KeptLine). record m { parts = m.parts ++ p ∷ [] }) (ap (λ xs. get_or xs at l) are ∙ get_or-map f ks at 0 l within)
          ∙ sym (one_more s seen parts p (get_or ks at 0) here) ∙ sym (get_or-map g ks at 0 l within) ∙ ap (λ j. get_or (map g ks) j l) (sym same)
      | inr other ↦
          let apart : s.first + get_or ks i 0 ≢ p.start.line = λ meets. elim (cases_lt i at) [
            | inl before ↦ omega (arith, here, meets, up i at 0 before within)
            | inr from ↦ omega (arith, here, meets, up at i 0 (omega (arith, from, other)) there)
          ] in
          get_or-set_other ls at i l l other ∙ ap (λ xs. get_or xs i l) are ∙ get_or-map f ks i 0 l there
          ∙ sym (none_more s seen parts p (get_or ks i 0) apart) ∙ sym (get_or-map g ks i 0 l there)
    ])

-- lines that are changed in place are all that there are
pub whole_again : {X : Type 0} (old new : List X) (len : ℕ) → len ≡ length old → length new ≡ length old → take len (new ++ drop (length new) old) ≡ new
whole_again old new len is same = same_lists _ _ (grind (arith, places)) (λ k d h. grind (arith, places))

-- lines that are read alike at each place are the same
pub lines_same : (f g : ℕ → KeptLine) (n : ℕ) (ks : List ℕ) → All (λ k. k < n) ks → ((k : ℕ) → k < n → f k ≡ g k) → map f ks ≡ map g ks
lines_same f g n ks within same =
    ext_get_or (f 0) (map f ks) (map g ks) (length-map ks f ∙ sym (length-map ks g)) (λ i inside.
    let there : i < length ks = omega (arith, inside, length-map ks f) in
    get_or-map f ks i 0 (f 0) there ∙ same (get_or ks i 0) (within i 0 there) ∙ sym (get_or-map g ks i 0 (f 0) there))

-- numbers that pass a test ascend, each once
pub kept-rise : (p : ℕ → Bool) (n : ℕ) → AllPairs (λ (a b : ℕ). a < b) (filter p (range_with_len 0 n))
kept-rise p n =
    AllPairs-filter (λ (a b : ℕ). a < b) p (range_with_len 0 n) (λ i j d before within.
    let len = length-range_with_len 0 n in
    omega (
      arith,
      before,
      len,
      within,
      get_or-range_with_len 0 n i d (omega (arith, before, within, len)),
      get_or-range_with_len 0 n j d (omega (arith, within, len)),
    ))

rises : (ks : List ℕ) → AllPairs (λ (a b : ℕ). a < b) ks → (i j : ℕ) → i ≤ j → j < length ks → get_or ks i 0 ≤ get_or ks j 0
rises ks up i j le within = grind (arith)

-- a number that a search by halves doesn't find is none of them
pub found_nowhere : (ks : List ℕ) (first number index i : ℕ) → AllPairs (λ (a b : ℕ). a < b) ks
    → IsBinarySearchResult (λ y. nat_cmp y index) ks (Err i) → first ≤ number → index ≡ number - first
    → (k : ℕ) → k < length ks → first + get_or ks k 0 ≢ number
found_nowhere ks first number index i up found le is k within same =
    let at = searched ks index (Err i) found (rises ks up) in
    elim (cases_lt k i) [
      | inl before ↦ omega (arith, at.1 k before, same, le, is)
      | inr from ↦ omega (arith, at.2 k from within, same, le, is)
    ]
