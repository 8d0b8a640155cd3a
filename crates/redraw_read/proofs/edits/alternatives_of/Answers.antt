use Rattle.std.proofs.Common.{◌≡◌, ◌≢◌, ◌∙◌, [], true, false, All, ap, subst, sym}
use Rattle.std.specs.Global.{Vec}
use Rattle.std.proofs.lemmas.List.Elements.{All-push}
use Rattle.redraw_report.specs.declared.diagnostic.SuggestedEdit.{SuggestedEdit}
use Rattle.redraw_read.proofs.Begun.{begins, joins}
use Rattle.redraw_read.proofs.edits.alternatives_of.Goals as goal
use Rattle.redraw_read.proofs.edits.alternatives_of.Goals.{then-begins+in_ok-push, else-begins}

pub loop-edit-preserved : goal.loop-edit-preserved
loop-edit-preserved c =
    let here = c.loop-edit in
    let last = c.push-in-loop-edit.new.self.items in
    let pushes = c.in_ok-push-2.ensures.items in
    elim c.if-begins.branch [
      | then-begins+in_ok-push w ↦
          let grows = ap (λ v. v.items) w.alternatives-is ∙ w.in_ok-push.ensures.items in
          let none = ap (λ v. v.items) w.current-is ∙ w.new-current-then-begins.ensures.items in
          let some = λ (empty : here.current.items ≡ []).
          let never : true ≡ false = sym w.if-begins.true ∙ c.begins_another-begins.ensures.none (c.deref.ensures.value ∙ empty) in
          absurd cc in
          record {
            all = begins here.alternatives.items _ here.current c.if-begins.current last here.yielded c.in-Some.edit grows none pushes here.invariant.all;
            some =
                subst (All (λ (each : Vec SuggestedEdit). each.items ≢ [])) (sym grows)
                (All-push (λ (each : Vec SuggestedEdit). each.items ≢ []) here.alternatives.items here.current here.invariant.some some);
          }
      | else-begins w ↦
          let same = ap (λ v. v.items) w.alternatives-is in
          record {
            all =
                joins here.alternatives.items _ here.current c.if-begins.current last here.yielded c.in-Some.edit same (ap (λ v. v.items) w.current-is) pushes
                here.invariant.all;
            some = subst (All (λ (each : Vec SuggestedEdit). each.items ≢ [])) (sym same) here.invariant.some;
          }
    ]
