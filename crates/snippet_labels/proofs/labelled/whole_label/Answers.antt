use Rattle.snippet_labels.proofs.Common.{◌≡◌, ◌∙◌, ◌∷◌, [], ℕ, List, ap, chars-nil, option_copied, sym, normalized_chars}
use Rattle.snippet_labels.proofs.labelled.whole_label.Goals as goal

pub returns-in-None : goal.returns-in-None
returns-in-None c =
    let none : normalized_chars c.args.entry.now.label ≡ [] = ap normalized_chars (sym c.text.ensures.value ∙ ap option_copied c.in-None.is) in
    let empty = ap (λ (cs : List ℕ). cs ∷ []) (chars-nil ∙ sym none) in
    record {
      beside = c.whole-in-None.ensures.beside ∙ empty;
      below = c.whole-in-None.ensures.below ∙ empty;
      last = c.whole-in-None.ensures.last;
      past = c.whole-in-None.ensures.past;
    }
