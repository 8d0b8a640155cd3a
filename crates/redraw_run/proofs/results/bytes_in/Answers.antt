use Rattle.std.proofs.Common.{◌≡◌, ◌++◌, ◌∙◌, ℕ, List, ap, append_assoc, arith, drop, sym, take}
use Rattle.std.specs.List.{slice_range}
use Rattle.std.proofs.lemmas.List.{take-append-drop}
use Rattle.std.proofs.lemmas.List.Folds.{drop_split}
use Rattle.redraw_run.proofs.results.bytes_in.Goals as goal

pub returns-then-place-text : goal.returns-then-place-text
returns-then-place-text c =
    let text = c.args.text.now in
    let start = c.args.place.start in
    let end = c.args.place.end in
    let all : text ≡ take start text ++ slice_range text start end ++ drop end text =
    sym (take-append-drop start text) ∙ ap (λ (l : List ℕ). take start text ++ l) (drop_split text start end (omega arith))
    ∙ sym (append_assoc (take start text) (slice_range text start end) (drop end text)) in
    record { part = (take start text, drop end text, all) }
