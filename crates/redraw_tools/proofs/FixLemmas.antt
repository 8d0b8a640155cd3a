-- Fixes that are added to what is said beside a message, and notes.
use Rattle.std.proofs.Common.{◌≡◌, ℕ, suc, ◌+◌, ◌-◌, ◌<◌, ◌&&◌, List, [], ◌∷◌, ◌++◌, Option, Some, append_assoc}
use Rattle.std.proofs.Common.{arith, false, get_or, length, map, nat_eq, take, refl, string_bytes, sym, subst, ap, ◌∙◌}
use Rattle.std.proofs.lemmas.List.{append-nil, map-append}
use Rattle.std.proofs.lemmas.Option.{slice_get_within}
use Rattle.std.specs.List.{slice_get}
use Rattle.std.specs.Option.{option_map_or}
use lib.Pointwise.{pointwise}
use Rattle.serde_json.specs.Data.{Data}
use Rattle.serde_json.specs.View.{view}
use Rattle.serde_json.specs.declared.value.Value.{Value}
use Rattle.redraw_report.specs.declared.diagnostic.Child.{Child}
use Rattle.redraw_report.specs.declared.diagnostic.Unit.{Unit}
use Rattle.redraw_tools.specs.Fixes.{AddsFix, AddsFixes, AddsNotes, note, is_help, says_last}
use Rattle.redraw_tools.specs.Found.{Remark, remark_view}
use Rattle.redraw_tools.proofs.Listed.{seen_more}

module _ (run : Data) (unit : Unit) (part rule : Option Data) where
  after : (ds : List Data) (d : Data) (a b c : List Remark) → AddsFixes run unit part rule ds a b → AddsFix run unit part rule d b c
      → AddsFixes run unit part rule (ds ++ d ∷ []) a c
  after [] d a b c same one = (c, subst (λ x. AddsFix run unit part rule d x c) same one, refl)
  after (e ∷ ds) d a b c (now, first, rest) one = (now, first, after ds d now b c rest one)

  -- one fix more
  pub adds-next : (vs : List Value) (i : ℕ) (v w : Value) (a b c : List Remark) → i < length vs → v ≡ get_or vs i v → w ≡ v
      → AddsFixes run unit part rule (map view (take i vs)) a b → AddsFix run unit part rule (view w) b c
      → AddsFixes run unit part rule (map view (take (i + 1) vs)) a c
  adds-next vs i v w a b c within is same before one =
      subst (λ ds. AddsFixes run unit part rule ds a c) (sym (seen_more vs i v within is))
      (after (map view (take i vs)) (view v) a b c before (subst (λ u. AddsFix run unit part rule (view u) b c) same one))

-- whether the last of some remarks is a help that says this
pub says-at : (text : List ℕ) (children : List Child) (c : Child) → Some c ≡ slice_get children (length children - 1)
    → says_last text (map remark_view children) ≡ (is_help c.severity && pointwise nat_eq (string_bytes c.message) text)
says-at text [] c is = absurd (omega (arith, slice_get_within [] 0 c (sym is)))
says-at text (d ∷ []) c is =
    ap (λ (o : Option Child). option_map_or (λ e. is_help e.severity && pointwise nat_eq (string_bytes e.message) text) o false) (sym is)
says-at text (d ∷ e ∷ children) c is =
    let on : suc (suc (length children)) - 1 ≡ suc (suc (length children) - 1) = omega arith in
    says-at text (e ∷ children) c (is ∙ ap (slice_get (d ∷ e ∷ children)) on)

-- notes that are added
pub notes-none : (rs : List Remark) → AddsNotes rs rs
notes-none rs = ([], sym (append-nil rs))

pub notes-one : (rs new : List Remark) (text : List ℕ) → new ≡ rs ++ note text ∷ [] → AddsNotes rs new
notes-one rs new text is = (text ∷ [], is)

pub notes-more : (a b c : List Remark) → AddsNotes a b → AddsNotes b c → AddsNotes a c
notes-more a b c (xs, b_is) (ys, c_is) =
    (xs ++ ys, c_is ∙ ap (λ rs. rs ++ map note ys) b_is ∙ append_assoc a (map note xs) (map note ys) ∙ ap (λ rs. a ++ rs) (sym (map-append note xs ys)))
