use Rattle.snippet_labels.proofs.Common.{◌∙◌, [], ◌∷◌, ap, arith, chars-nil, false, label_width, subst, sym, ℕ, List}
use Rattle.snippet_labels.proofs.PieceLemmas.{pieces_width-one}
use Rattle.snippet_labels.specs.LabelSize.{IsSized, pieces_in}
use Rattle.snippet_labels.proofs.drawn_label.DrawnLabel.none.Goals as goal
use Rattle.snippet_labels.proofs.drawn_label.DrawnLabel.none.Goals.{then-past, else-past}

-- a label of no text has no byte
pub invariant_of-result : goal.invariant_of-result
invariant_of-result c =
    let width : List ℕ → ℕ = λ cs. label_width (record { beside = cs ∷ []; below = cs ∷ []; last = false; past = false }) in
    elim c.if-past.branch [
      | then-past w ↦ subst (λ text. IsSized text 0) (sym w.text-is) (record { texts = cc; is = omega (arith, pieces_width-one []); few = omega arith })
      | else-past w ↦ subst (λ text. IsSized text 0) (sym w.text-is)
          (record { texts = cc; is = omega (arith, pieces_width-one [], ap width chars-nil); few = omega arith })
    ]

pub returns : goal.returns
returns c =
    elim c.if-past.branch [
      | then-past w ↦ record {
        value = ap pieces_in w.text-is ∙ ap (λ b. record { beside = [] ∷ []; below = [] ∷ []; last = false; past = b }) (sym w.if-past.true);
      }
      | else-past w ↦ record {
        value = ap pieces_in w.text-is ∙ ap (λ (cs : List ℕ). record { beside = cs ∷ []; below = cs ∷ []; last = false; past = false }) chars-nil
            ∙ ap (λ b. record { beside = [] ∷ []; below = [] ∷ []; last = false; past = b }) (sym w.if-past.false);
      }
    ]
