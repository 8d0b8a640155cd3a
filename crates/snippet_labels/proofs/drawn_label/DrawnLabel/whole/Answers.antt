use Rattle.snippet_labels.proofs.Common.{◌≡◌, ◌∙◌, ◌∷◌, [], false, ℕ, List, arith, ap, chars, encodes-chars, label_width, length, pieces_width, subst, sym}
use Rattle.snippet_labels.proofs.PieceLemmas.{pieces_width-one}
use Rattle.snippet_labels.specs.LabelSize.{AreSized, pieces_in}
use Rattle.std.specs.Cow.{cow_str_bytes}
use Rattle.snippet_labels.proofs.drawn_label.DrawnLabel.whole.Goals as goal
use Rattle.snippet_labels.proofs.drawn_label.DrawnLabel.whole.Goals.{in-Borrowed, in-Owned}

-- a label of one piece is as long as its text
pub invariant_of-result : goal.invariant_of-result
invariant_of-result c =
    let text : List ℕ = c.as_str-width.result.now in
    let one : pieces_width (chars text ∷ []) ≡ length text = pieces_width-one (chars text) ∙ ap length (encodes-chars text c.as_str-width.utf8) in
    let long : length text ≡ label_width (record { beside = chars text ∷ []; below = chars text ∷ []; last = false; past = false }) = omega (arith, one) in
    let whole : List ℕ → ℕ = λ bytes. label_width (record { beside = chars bytes ∷ []; below = chars bytes ∷ []; last = false; past = false }) in
    elim c.match-text.branch [
      | in-Borrowed w ↦ record {
        texts = subst AreSized (sym w.text-is) (cc);
        is = long ∙ ap whole (c.as_str-width.ensures.value ∙ ap cow_str_bytes w.in-Borrowed.is) ∙ sym (ap (λ t. label_width (pieces_in t)) w.text-is);
        few = omega arith;
      }
      | in-Owned w ↦ record {
        texts = subst AreSized (sym w.text-is) (cc);
        is = long ∙ ap whole (c.as_str-width.ensures.value ∙ ap cow_str_bytes w.in-Owned.is) ∙ sym (ap (λ t. label_width (pieces_in t)) w.text-is);
        few = omega arith;
      }
    ]
