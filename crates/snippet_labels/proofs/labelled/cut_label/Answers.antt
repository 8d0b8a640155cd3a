use Rattle.snippet_labels.proofs.Common.{◌≡◌, ◌∙◌, ◌∷◌, [], ℕ, false, ap, option_copied, sym, label_of_entry}
use Rattle.snippet_labels.proofs.Common.{beside_column, code_cell, label_pieces, normalized_chars, stands_last}
use Rattle.std.proofs.Math.Bool.{and-false}
use Rattle.snippet_labels.specs.Pieces.{breaks_labels}
use Rattle.snippet_labels.proofs.PieceLemmas.{LabelPieces-is, label_pieces-nil}
use Rattle.snippet_labels.proofs.labelled.cut_label.Goals as goal

-- a label of no text
pub returns-in_default : goal.returns-in_default
returns-in_default c =
    let layout = c.args.layout in
    let e = c.args.entry.now in
    let none : normalized_chars e.label ≡ [] = ap normalized_chars (sym c.text.ensures.value ∙ ap option_copied c.in_default.is) in
    let empty : (cell : ℕ) → [] ∷ [] ≡ label_pieces layout cell (normalized_chars e.label) = λ cell.
    sym (ap (label_pieces layout cell) none ∙ label_pieces-nil layout cell) in
    let last : false ≡ stands_last layout (normalized_chars e.label) =
    sym (ap (stands_last layout) none ∙ and-false (breaks_labels layout)) in
    record {
      value = c.none.ensures.value ∙ LabelPieces-is (record { beside = [] ∷ []; below = [] ∷ []; last = false; past = c.goes_past-past.result })
          (label_of_entry layout e) (empty (code_cell layout (beside_column e))) (empty (code_cell layout e.start.display)) last c.goes_past-past.ensures.value;
    }
