use Rattle.std.proofs.Common.{◌∙◌, List, ℕ, Some, ap, string_bytes, sym}
use Rattle.std.specs.Map.{update}
use Rattle.std.specs.Str.{bytes_eq}
use Rattle.std.proofs.lemmas.Map.Text.{btree_map_updates_text}
use Rattle.std.proofs.lemmas.Slice.Eq.{bytes_eq-Decides}
use Rattle.redraw_read.specs.ShownLines.{number_of}
use Rattle.redraw_read.proofs.LineNumbers.{is_none, put_first}
use Rattle.redraw_read.proofs.shown_lines.add_new.Goals as goal

pub returns-in_ok-insert : goal.returns-in_ok-insert
returns-in_ok-insert c =
    let numbers = c.args.numbers.now in
    let text = c.args.text.now in
    record {
      added = λ t.
          btree_map_updates_text (string_bytes c.in_ok-text.text) numbers c.insert.new.self (Some c.args.number) c.in_ok-insert.ensures.updates t
          ∙ ap (λ (bs : List ℕ). update bytes_eq (number_of numbers) bs (Some c.args.number) t) c.in_ok-text.ensures.ok
          ∙ put_first (number_of numbers t) (bytes_eq text t) c.args.number
          (λ same. ap (number_of numbers) (sym ((bytes_eq-Decides text t).0 same))
          ∙ is_none (number_of numbers text) (sym c.if-not-contains_key.ensures));
    }
