-- `behind_null` makes what owns nothing.
use mathlib.Core.Path.{◌≡◌, refl, sym, subst, ap, ◌∙◌}
use mathlib.Core.List.{List, [], ◌∷◌, ◌++◌}
use seplogic.Ra.Ura.{Ura}
use lib.Dec.{lit<}
use mir.Val.{Val, WT, has_ty, vnull, vcons, vnil, vstruct}
use base.Logic.{SProp, ent, emp, id⊢}
use base.Fml.{ftrue, fsep}
use prog.Memory.{Memory}
use prog.Routine.{Routine}
use prog.Wp.{WpFn, Tables}
use types.Logic.{Logic}
use contract.Monad.{Fun, fact}
use contract.Running.{tables, tables_of}
use sound.WpLaws.{WpFn-mono}
use types.Kit.{Item, ‵, raw, ◌⊛◌, ◌$◌, ◌∵◌, !, qed, by, move, drop, rewrite, use1, join, split, fsplit, fjoin, fpack, feq_l, feq_i, suffices, done}
use types.Part.{whole, sub, agg}
use types.Run.{stop, fld, no_more, and_then, of_opd, returns, enter}
use types.ByLocal.{alloc_all, pass_all, free_all, look_at, get, get_in, sets}
use denote.Exit.{yes}
use denote.RattleType.{Valss, owns}
use denote.RawPtr.{Ptr, RawPtr, null_ptr, ptr_val}
use denote.Signature.{Slot, plain, type_at, types_at}
use denote.Steps.{heard, nothing}
use denote.Struct.Struct.{within}
use denote.Struct.Owning.{shape}
use denote.Triple.Spec.{triple_of}
use denote.Triple.Table.{entered}
use denote.Triple.Walked.{says, Stays, stay_dropped, walk_of, ends_at, Goes-dropped, walk_Meets}
use Rattle.core.proofs.alloc.Calls.{α, handle_tells}
use Rattle.std_alloc.proofs.ResultValues.{and_tt}
use Rattle.std.proofs.Common.{arith}
use Rattle.std_heap.specs.contracts.Global as Heap
use Rattle.yazgult_c.specs.contracts.sources.kept.Kept as Kept
use Rattle.yazgult_c.specs.contracts.sources.Sources as Sources
use Rattle.yazgult_c.proofs.AsBox.{E}
use Rattle.yazgult_c.specs.contracts.sources.Sources.behind_null as F
use Rattle.yazgult_c.specs.contracts.sources.Sources.behind_null.Key.{name as #self}
use Rattle.yazgult_c.proofs.sources.Sources.behind_null.Statement as stated
use Rattle.yazgult_c.proofs.sources.Sources.behind_null.Code as code

abbrev At : Slot 0
At = plain (λ _. RawPtr)

abbrev Heaped : Slot 0
Heaped = plain (λ _. Heap.the_row)

abbrev stayed : Stays (F.ended).signature.params (F.ended).kept
stayed = (stay_dropped At yes, (stay_dropped Heaped yes, tt))

abbrev no_wt : WT vnull
no_wt = record { fits = lit< tt }

abbrev no_sources : Heap.the_row.Denot → Kept.the_row.Denot
no_sources alloc =
    record {
      sources = record { ptr = null_ptr; len = 0; cap = 0; alloc = alloc; items = []; ok = (refl, omega arith); small = omega arith };
      answer = record { ptr = null_ptr; len = 0; cap = 0; alloc = alloc; items = []; ok = (refl, omega arith); small = omega arith };
    }

module _ {M : Type 1} {𝓤 : Ura M} (𝓛 : Logic 𝓤) (at_mem : Memory → SProp 𝓤) (run : Routine → Fun 𝓤) (𝓣 : Tables 𝓤 𝓛.H) where
  open 𝓛 use {H}

  walk : (z : (walk_of 𝓛 F.ended stayed (F.clauses 𝓛 at_mem run)).Ghost)
      → ent 𝓤 ((walk_of 𝓛 F.ended stayed (F.clauses 𝓛 at_mem run)).pre z) (WpFn 𝓤 H 𝓣.C 𝓣.Λ code.function (z.0.4.0 ++ (z.0.4.1.0 ++ []))
      ((walk_of 𝓛 F.ended stayed (F.clauses 𝓛 at_mem run)).post z))
  walk z =
      let Post = (walk_of 𝓛 F.ended stayed (F.clauses 𝓛 at_mem run)).post z in
      let at = z.0.3.0 in let alloc = z.0.3.1.0 in
      let made : Sources.the_row.Denot = record { at = null_ptr; alloc = alloc; kept = no_sources alloc } in
      qed 𝓛 ((‵ ftrue ⊛ ‵ (fsep (RawPtr.own_val at z.0.4.0) (fsep (Heap.the_row.own_val alloc z.0.4.1.0) ftrue))) ∷ raw (fact 𝓤 (at ≡ null_ptr)) ∷ []) ∵
      move ! (1 ∷ []) $ heard ! (at ≡ null_ptr) (λ null. split ! $ drop ! $ fsplit ! $ feq_l ! (λ ep. fsplit ! $
      handle_tells E.al ! alloc z.0.4.1.0 (λ hv eh fa. move ! (1 ∷ []) $ drop ! $
      let w : Val = vstruct (vcons vnull (vcons hv vnil)) in
      let is_null : z.0.4.0 ≡ vnull ∷ [] = ep ∙ ap (λ (p : Ptr). ptr_val p ∷ []) null in
      nothing ! $ nothing ! $ move ! (2 ∷ 0 ∷ []) $ fjoin ! $ feq_i ! (List Val) (vnull ∷ []) (vnull ∷ []) refl $ fjoin ! $
      feq_i ! (List Val) (w ∷ []) (w ∷ []) refl $ fjoin ! $
      fpack ! (Valss (RawPtr ∷ Heap.the_row ∷ [])) (within (shape Sources.the_type) (null_ptr, (((tt, tt), tt), tt)) (w ∷ [])) (
        vnull ∷ [],
        (hv ∷ [], tt),
      ) $ fjoin ! $
      use1 𝓛 (‵ (Sources.the_row.own_val made (w ∷ []))) (id⊢ 𝓤 _) $
      let Γ : List (Item 𝓤) = ‵ (Sources.the_row.own_val made (w ∷ [])) ∷ [] in
      by ! (subst (λ (us : List Val × List Val). ent 𝓤 (types.Kit.⋆ 𝓛 Γ) (WpFn 𝓤 H 𝓣.C 𝓣.Λ code.function (us.0 ++ (us.1 ++ [])) Post)) (λ j.
      (sym is_null j, sym eh j))
      (qed 𝓛 Γ ∵ enter ! 𝓣.C 𝓣.Λ code.function (vnull ∷ hv ∷ []) _ $ alloc_all ! (λ ls. pass_all ! refl ((tt, no_wt), (fa, tt)) $
      sets ! (agg ! (and_then ! (get ! refl) (and_then ! (get ! refl) (no_more !)))) refl (and_tt (has_ty (α E.al) hv) fa.0, (no_wt, (fa.1, tt))) $
      returns ! (look_at ! 0 refl) $ free_all ! refl $
      suffices ! _ (ends_at 𝓛 F.ended stayed (F.clauses 𝓛 at_mem run) z w made (tt, (tt, tt)) (tt, (tt, tt))) $
      says ! refl $ nothing ! $ nothing ! $ fjoin ! $ nothing ! $ fjoin ! $ join ! $ nothing ! $ join ! $ done !))))))

pub behind_null_spec : {M : Type 1} → stated.statement M
unfolding tables_of
behind_null_spec 𝓤 𝓛 𝓜 𝓡 wired =
    let 𝓣 : Tables 𝓤 𝓛.H = tables_of 𝓤 𝓛.H 𝓜 (tables 𝓤 𝓛.H 𝓜 𝓡 𝓡.env) in
    entered 𝓤 𝓛.H (triple_of 𝓛 F.signature (F.spec 𝓛 𝓜.mem 𝓡.returns)) 𝓣.C 𝓣.Λ #self code.function (code.unfolded 𝓤 𝓛.H 𝓜 𝓡 wired)
    (walk_Meets 𝓛 F.ended stayed (Goes-dropped 𝓛 0 At yes (λ κs x f. refl), (Goes-dropped 𝓛 0 Heaped yes (λ κs x f. refl), tt))
    (F.clauses 𝓛 𝓜.mem 𝓡.returns) (WpFn 𝓤 𝓛.H 𝓣.C 𝓣.Λ code.function) (WpFn-mono 𝓤 𝓛.H 𝓛.laws 𝓣 code.function)
    (walk 𝓛 𝓜.mem 𝓡.returns 𝓣))
