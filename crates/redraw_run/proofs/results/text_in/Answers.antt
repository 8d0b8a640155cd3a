use Rattle.std.proofs.Common.{◌≡◌, ◌++◌, ◌∙◌, ℕ, List, ap, append_assoc, drop, sym}
use Rattle.std.proofs.lemmas.List.{take-append-drop}
use Rattle.redraw_run.proofs.results.text_in.Goals as goal

pub returns-in-Ok : goal.returns-in-Ok
returns-in-Ok c =
    let result : List ℕ = c.without_comma.result.now in
    let value : List ℕ = c.in-Ok.value.now in
    let (before, after, all) = c.bytes_in.ensures.part in
    let (comma, cut) = c.without_comma.ensures.part in
    let n = c.trim_end.ensures.value.0 in
    let blanks : List ℕ = drop n value in
    let end : List ℕ = comma ++ blanks in
    let whole : value ≡ result ++ end =
    sym (take-append-drop n value) ∙ ap (λ (l : List ℕ). l ++ blanks) (sym c.trim_end.ensures.value.1 ∙ cut) ∙ append_assoc result comma blanks in
    let bytes : c.bytes_in.result.now ≡ value = sym c.in-Ok.ensures.cases.0 in
    let split : c.args.text.now ≡ before ++ result ++ (end ++ after) =
    all ∙ ap (λ (l : List ℕ). before ++ l ++ after) (bytes ∙ whole)
    ∙ ap (λ (l : List ℕ). l ++ after) (sym (append_assoc before result end)) ∙ append_assoc (before ++ result) end after in
    record { part = (before, end ++ after, split) }
