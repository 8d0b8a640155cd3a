-- The greatest of what some elements want: as wide a gutter as any of them, as many bars as stand beside any of them.
use Rattle.std.proofs.lemmas.Grind.{common_steps}
use Rattle.annotate_snippets.proofs.Common.{◌≡◌, ℕ, ◌+◌, ◌<◌, ◌&&◌, max, fold, map, take, Bool, true, false, cond, List, [], ◌∷◌}
use Rattle.annotate_snippets.proofs.Common.{length, get_or, refl, ap, ◌∙◌, arith, filter, flat_map, decimal, flat_map-append, append-nil, take_more}
use Rattle.annotate_snippets.proofs.Common.{fold-map, fold-append, fold_more, Element, Message, Cause, Suggestion, Origin, Padding, counted_line, is_drawn}
use Rattle.annotate_snippets.proofs.Common.{depth_of_element, width_wanted, IsGroupPrepared, element_of, PreparedElement, PreparedGroup}

-- the greater of a number and of what an element wants
abbrev pub greater : (Element → ℕ) → ℕ → Element → ℕ
greater wants most e = max (wants e) most

-- one more of some elements, as they were prepared
pub widest-more : (wants : Element → ℕ) (most : ℕ) (ps : List PreparedElement) (i : ℕ) (p : PreparedElement) → i < length ps → p ≡ get_or ps i p
    → fold (greater wants) most (map element_of (take (i + 1) ps)) ≡ max (wants (element_of p)) (fold (greater wants) most (map element_of (take i ps)))
widest-more wants most ps i p within is = grind (arith, fold-map, fold_more)

-- elements that aren't drawn want nothing
unnumbered : (b : Bool) (n : ℕ) → cond (b && false) n 0 ≡ 0
unnumbered true n = refl
unnumbered false n = refl

-- an element that isn't drawn wants no width
pub width-undrawn : (e : Element) → is_drawn e ≡ false → width_wanted e ≡ 0
width-undrawn (Message m) out = refl
width-undrawn (Cause s) out = cc
width-undrawn (Suggestion s) out = cc (out, unnumbered s.line_numbering (length (decimal (counted_line s))))
width-undrawn (Origin o) out = refl
width-undrawn (Padding p) out = refl

-- an element that isn't drawn has no depth
pub depth-undrawn : (e : Element) → is_drawn e ≡ false → depth_of_element e ≡ 0
depth-undrawn (Message m) out = refl
depth-undrawn (Cause s) out = cc
depth-undrawn (Suggestion s) out = refl
depth-undrawn (Origin o) out = refl
depth-undrawn (Padding p) out = refl

-- so the greatest is that of those that are drawn
pub widest-drawn : (wants : Element → ℕ) → ((e : Element) → is_drawn e ≡ false → wants e ≡ 0) → (most : ℕ) (es : List Element)
    → fold (greater wants) most (filter is_drawn es) ≡ fold (greater wants) most es
widest-drawn wants none most [] = refl
widest-drawn wants none most (e ∷ es) = by (is_drawn e) refl (λ m. widest-drawn wants none m es)
  where
    by : (drawn : Bool) → is_drawn e ≡ drawn → ((m : ℕ) → fold (greater wants) m (filter is_drawn es) ≡ fold (greater wants) m es)
        → fold (greater wants) most (cond (is_drawn e) (e ∷ filter is_drawn es) (filter is_drawn es)) ≡ fold (greater wants) (greater wants most e) es
    by true is rest = ap (λ b. fold (greater wants) most (cond b (e ∷ filter is_drawn es) (filter is_drawn es))) is ∙ rest (greater wants most e)
    by false is rest = let same : most ≡ greater wants most e = omega (arith, none e is) in cc (is, rest most, same)

-- that of a group's elements that were prepared is that of the group
pub widest-prepared : (wants : Element → ℕ) → ((e : Element) → is_drawn e ≡ false → wants e ≡ 0)
    → (most : ℕ) (p : PreparedGroup) (ps : List PreparedElement) → ps ≡ p.elements.items → IsGroupPrepared p
    → fold (greater wants) most (map element_of ps) ≡ fold (greater wants) most p.group.now.elements.items
widest-prepared wants none most p ps is prepared = grind (arith, widest-drawn, prepared.elements_are, p.group.now.elements.items)

-- the elements of a group that was prepared
abbrev pub elements_in : PreparedGroup → List Element
elements_in p = p.group.now.elements.items

-- one more of some groups
pub widest-more_groups : (wants : Element → ℕ) (ps : List PreparedGroup) (i : ℕ) (p : PreparedGroup) → i < length ps → p ≡ get_or ps i p
    → fold (greater wants) 0 (flat_map elements_in (take (i + 1) ps)) ≡ fold (greater wants)
    (fold (greater wants) 0 (flat_map elements_in (take i ps))) p.group.now.elements.items
widest-more_groups wants ps i p within is = grind (arith, common_steps, take_more, flat_map-append, append-nil, fold-append)
