-- The steps by which the report that is shown is made, and which are taken.
use Rattle.annotate_snippets.proofs.Common.{◌≡◌, ◌&&◌, Bool, true, false, not, List, refl, sym, ap, subst, Group, IsAsSet, IsRemade}
use Rattle.annotate_snippets.proofs.Common.{IsShownFor, adds_context, shows_as_given, wraps, Renderer, Form}

-- ---- nothing is set

-- where nothing is set that makes another report of it, a report is shown in place of itself
pub unset : (form : Form) (r : Renderer) (groups : List Group) → shows_as_given form r ≡ true → IsAsSet form r groups groups
unset form r groups none = let Set : Bool → Type 0 = λ given. IsShownFor given form r groups groups in subst Set (sym none) refl

-- and no other is
pub unset-same : (form : Form) (r : Renderer) (groups shown : List Group) → shows_as_given form r ≡ true → IsAsSet form r groups shown → shown ≡ groups
unset-same form r groups shown none set = let Set : Bool → Type 0 = λ given. IsShownFor given form r groups shown in subst Set none set

-- ---- something is set

-- else it is one that is made of it
pub set-remade : (form : Form) (r : Renderer) (groups shown : List Group) → shows_as_given form r ≡ false → IsRemade form r groups shown
    → IsAsSet form r groups shown
set-remade form r groups shown some made = let Set : Bool → Type 0 = λ given. IsShownFor given form r groups shown in subst Set (sym some) made

pub remade-set : (form : Form) (r : Renderer) (groups shown : List Group) → shows_as_given form r ≡ false → IsAsSet form r groups shown
    → IsRemade form r groups shown
remade-set form r groups shown some set = let Set : Bool → Type 0 = λ given. IsShownFor given form r groups shown in subst Set some set

-- so it is where line feeds are shown, where lines around those that are kept are, and where titles and messages are wrapped
pub feeds-set : (form : Form) (r : Renderer) → r.show_line_feeds ≡ true → shows_as_given form r ≡ false
feeds-set form r asked = ap (λ (feeds : Bool). not feeds && not r.mask_controls && not (adds_context form r) && not (wraps form r)) asked

pub context-set : (form : Form) (r : Renderer) → adds_context form r ≡ true → shows_as_given form r ≡ false
context-set form r asked = cc (asked, none (not r.show_line_feeds) (not r.mask_controls))
  where
    none : (b c : Bool) → (b && c && false && not (wraps form r)) ≡ false
    none true true = refl
    none true false = refl
    none false true = refl
    none false false = refl

pub wrap-set : (form : Form) (r : Renderer) → wraps form r ≡ true → shows_as_given form r ≡ false
wrap-set form r asked = cc (asked, none (not r.show_line_feeds) (not r.mask_controls) (not (adds_context form r)))
  where
    none : (b c d : Bool) → (b && c && d && false) ≡ false
    none true true true = refl
    none true true false = refl
    none true false d = refl
    none false true d = refl
    none false false d = refl

pub mask-set : (form : Form) (r : Renderer) → r.mask_controls ≡ true → shows_as_given form r ≡ false
mask-set form r asked = cc (asked, none (not r.show_line_feeds))
  where
    none : (b : Bool) → (b && false && not (adds_context form r) && not (wraps form r)) ≡ false
    none true = refl
    none false = refl
