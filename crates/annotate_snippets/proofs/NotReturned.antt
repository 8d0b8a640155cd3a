-- What the parts of the library don't return: results that are wrong, each of a small input, contradict the words of a contract.
use Rattle.annotate_snippets.proofs.Common.{◌≡◌, ℕ, ◌≤◌, true, false, None, Some, Ok, Err, Vec, List, [], ◌∷◌, codes, encode_utf8_all}
use Rattle.annotate_snippets.proofs.Common.{length, map, refl, ap, subst, arith, alloc_error, OnErr, inl, inr, ◌↔◌, IfSome, IsNone, slice_index_or}
use Rattle.annotate_snippets.proofs.Common.{Global, span_fault, Annotation, Primary, Element, Group, Patch, WritesCells, Cell, text_cells, NoStyle, Edit}
use Rattle.annotate_snippets.proofs.Common.{trimmed_edit, trimmed_edits, kept_before, sandwich, norm, depth_among, places_of, share_line, IsChainOf}
use Rattle.annotate_snippets.proofs.Common.{IsLongestChain, SharesWithFirst, LongExtent, first_fault, first_refusal, plain_settings, SpanOffBoundary}
use Rattle.snippet_model.specs.declared.snippet.Element.TheVariants as element
use Rattle.annotate_snippets.proofs.NotShown.{span_of}
use Rattle.annotate_snippets.proofs.SmallReports.{group, snippet}

-- ---- `normalized`

-- U+202A as it is, which is shown as U+FFFD
listed_character_shown : 0x202A ∷ [] ≡ norm (0x202A ∷ []) → ⊥
unfolding norm
listed_character_shown same = grind (arith, slice_index_or)

-- ---- `render`

-- a report with a span of the second byte of `é`, which stands inside the character
abbrev off_border : Vec Element Global → Vec Annotation Global → List Group
off_border v w =
    group v None (element.Cause (snippet w None (encode_utf8_all (codes "é")) (span_of Primary 1 2 ∷ []) (omega arith)) ∷ []) (omega arith) ∷ []

refused : (v : Vec Element Global) (w : Vec Annotation Global) → first_refusal plain_settings (off_border v w) ≡ Some (SpanOffBoundary 0 0 0)
unfolding first_fault span_fault lib.Utf8.encode
refused v w = refl

-- a text in place of the refusal, as where the span is moved to the next border
span_moved_to_border : {A : Type 0} (v : Vec Element Global) (w : Vec Annotation Global) (text : A)
    → IfSome (first_refusal plain_settings (off_border v w)) (λ refusal. Ok text ≡ Err refusal) → ⊥
unfolding first_fault span_fault lib.Utf8.encode
span_moved_to_border v w text refusal = cc

-- ---- `trimmed_patches`

-- `ab` with `y` put in at the end, given before `abx` in place of all of it. Trimmed both stand at the end; the second comes first, since
-- untrimmed it starts first
abbrev put_in_and_replaced : List Edit
put_in_and_replaced =
    record { start = 2; end = 2; text = codes "y" } ∷ record { start = 0; end = 2; text = codes "abx" } ∷ []

-- the order of the trimmed ones, which gives `abyx` and not `abxy`
patches_reordered_after_trimming : record { start = 2; end = 2; text = codes "y" } ∷ record { start = 2; end = 2; text = codes "x" } ∷ []
    ≡ trimmed_edits (codes "ab") put_in_and_replaced → ⊥
unfolding trimmed_edit sandwich kept_before
patches_reordered_after_trimming same =
    let letter : ◌≡◌ {A = ℕ} 121 120 = ap (λ (es : List Edit). slice_index_or (first_text es) 0 0) same in
    absurd (omega (arith, letter))
  where
    first_text : List Edit → List ℕ
    first_text [] = []
    first_text (e ∷ es) = e.text

-- ---- `spliced_lines`

-- nothing in place of the spliced text, where there is a patch
splice_always_none : (A : Type 0) (patch : Patch) → (IsNone {T = A} None ↔ (patch ∷ [] ≡ [])) → ⊥
splice_always_none A patch only = grind (arith, only.0)

-- ---- `depths`

-- the places of two spans, on lines 1 to 2 and on lines 3 to 4: they share none
abbrev upper : LongExtent
upper = record { from = 0; to = 3; first = 1; last = 2 }

abbrev lower : LongExtent
lower = record { from = 4; to = 7; first = 3; last = 4 }

-- a depth for each of them, so that the greatest is 2: no two places in a row share a line
depth_of_its_own : IsLongestChain (places_of (upper ∷ lower ∷ [])) 2 → ⊥
depth_of_its_own longest = by_first longest.chain longest.long longest.is_chain
  where
    -- a chain of the lower one alone
    one : (chain : List LongExtent) → IsChainOf (lower ∷ []) chain → length chain ≤ 1
    one chain (inl none) = omega (arith, ap length none)
    one chain (inr some) = omega (arith, ap length some.1, ap length some.3)

    -- and one that goes on from the upper one
    after : (rest : List LongExtent) → length rest ≡ 1 → SharesWithFirst upper rest → IsChainOf (lower ∷ []) rest → ⊥
    after [] two shares chain = absurd (omega (arith, two))
    after (q ∷ qs) two shares (inl none) = absurd (omega (arith, ap length none))
    after (q ∷ qs) two shares (inr some) =
        let is : q ≡ lower = cc (some.1) in
        let apart : false ≡ true = subst (λ p. share_line upper p ≡ true) is shares in
        cc

    by_first : (chain : List LongExtent) → length chain ≡ 2 → IsChainOf (upper ∷ lower ∷ []) chain → ⊥
    by_first chain two (inl rest) = absurd (omega (arith, two, one chain rest))
    by_first chain two (inr some) = after some.0 (omega (arith, two, ap length some.1)) some.2 some.3

-- the places of two spans that share line 2
abbrev longer : LongExtent
longer = record { from = 0; to = 5; first = 1; last = 3 }

abbrev shorter : LongExtent
shorter = record { from = 2; to = 5; first = 2; last = 3 }

-- depth 1 for both of them: these aren't one place, and so have two depths
every_place_at_depth_one : 1 ∷ 1 ∷ [] ≡ map (depth_among (longer ∷ shorter ∷ [])) (longer ∷ shorter ∷ []) → ⊥
every_place_at_depth_one same = grind (arith, slice_index_or)

-- ---- the grid

-- a row more where there was no memory for a cell: the grid stays as it was
refused_cells_leave_rows : OnErr {T = Unit {0}} (Err alloc_error) (◌≡◌ {A = List (List Cell)} ([] ∷ []) []) → ⊥
refused_cells_leave_rows same = cc

-- the rest of a run where a character is written into it, here `x` into `abc`: the cells after it stay as they were
touched_run_left_whole : WritesCells (text_cells NoStyle (codes "abc") ∷ []) (text_cells NoStyle (codes "axbc") ∷ []) 0 1 (text_cells NoStyle (codes "x")) → ⊥
touched_run_left_whole writes = grind (arith, writes.after)
