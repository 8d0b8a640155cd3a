use Rattle.std.proofs.Common.{List, ℕ, Some, string_bytes, ap, ◌∙◌}
use Rattle.std.specs.BTreeMap.{get_by_text}
use Rattle.std.specs.Map.{update}
use Rattle.std.specs.Str.{bytes_eq}
use Rattle.std.proofs.lemmas.Map.Text.{btree_map_updates_text}
use Rattle.redraw_read.proofs.index.add_place.Goals as goal

pub returns-clause-added : goal.returns-clause-added
returns-clause-added c =
    λ n. btree_map_updates_text (string_bytes c.in_ok-name.name) c.args.places.now c.insert.new.self (Some c.args.place) c.in_ok-insert.ensures.updates n
    ∙ ap (λ (bs : List ℕ). update bytes_eq (get_by_text c.args.places.now) bs (Some c.args.place) n) c.in_ok-name.ensures.ok
