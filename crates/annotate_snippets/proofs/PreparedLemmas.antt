-- What is prepared so far of a report's groups, and of the elements of a group.
use Rattle.std.proofs.lemmas.Grind.{common_steps}
use Rattle.std.proofs.Common.{arith}
use Rattle.annotate_snippets.proofs.Common.{◌≡◌, ℕ, ◌+◌, ◌<◌, All, map, take, List, [], ◌∷◌, ◌++◌, length, get_or, filter, map-append}
use Rattle.annotate_snippets.proofs.Common.{take_more, All-push, All-same, filter_more, Element, Group, is_drawn, IsElementPrepared, IsGroupPrepared}
use Rattle.annotate_snippets.proofs.Common.{element_of, PreparedElement, PreparedGroup}

-- the group that was prepared
abbrev pub group_of : PreparedGroup → Group
group_of p = p.group.now

-- these groups were prepared, in order
pub record ArePrepared (gs : List Group) (ps : List PreparedGroup) : Type 0 where
  pub groups : map group_of ps ≡ gs
  pub prepared : All IsGroupPrepared ps

-- and one more
pub ArePrepared-push : (gs : List Group) (i : ℕ) (g : Group) (ps new : List PreparedGroup) (p : PreparedGroup) → new ≡ ps ++ p ∷ [] → i < length gs
    → g ≡ get_or gs i g → group_of p ≡ g → ArePrepared (take i gs) ps → IsGroupPrepared p → ArePrepared (take (i + 1) gs) new
ArePrepared-push gs i g ps new p pushed within is of before prepared = record {
  groups = grind (arith, common_steps, map, map-append, take, take_more, before.groups);
  prepared = All-same IsGroupPrepared new (ps ++ p ∷ []) pushed (All-push IsGroupPrepared ps p before.prepared prepared);
}

-- those of these elements that are drawn were prepared, in order
pub record AreDrawnPrepared (es : List Element) (ps : List PreparedElement) : Type 0 where
  pub elements : map element_of ps ≡ filter is_drawn es
  pub prepared : All IsElementPrepared ps

-- one more element is prepared where it is drawn, and else nothing is added
pub AreDrawnPrepared-more : (es : List Element) (i : ℕ) (e : Element) (ps new : List PreparedElement) → i < length es → e ≡ get_or es i e
    → map element_of new ≡ map element_of ps ++ filter is_drawn (e ∷ []) → (All IsElementPrepared ps → All IsElementPrepared new)
    → AreDrawnPrepared (take i es) ps → AreDrawnPrepared (take (i + 1) es) new
AreDrawnPrepared-more es i e ps new within is added prepared before = record {
  elements = grind (arith, common_steps, take, filter_more, before.elements);
  prepared = prepared before.prepared;
}
