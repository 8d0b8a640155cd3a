use Rattle.snippet_labels.proofs.Common.{◌≡◌, ◌∙◌, ◌==◌, [], ◌∷◌, ap, chars-nil, refl, sym, ℕ, List, Bool, true, false, label_at}
use Rattle.snippet_labels.specs.LabelSize.{pieces_in}
use Rattle.std.specs.Prelude.{if◌then◌else◌}
use Rattle.snippet_labels.proofs.drawn_label.DrawnLabel.text.Goals as goal

pub returns-in-Past : goal.returns-in-Past
returns-in-Past c =
    record {
      pieces = ap (λ (cs : List ℕ). cs ∷ []) chars-nil ∙ both (c.args.position == 0)
          ∙ ap (label_at c.args.position) (ap pieces_in (sym c.in-Past.is) ∙ c.self.view_is);
    }
  where
    both : (b : Bool) → (let none : List (List ℕ) = [] ∷ [] in none ≡ (if b then [] ∷ [] else [] ∷ []))
    both true = refl
    both false = refl
