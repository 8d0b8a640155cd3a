use Rattle.std.proofs.Common.{length}
use Rattle.std.proofs.lemmas.Map.Text.{btree_map_updates_str}
use Rattle.redraw_tools.proofs.Indexing.{put-indexed, put-measured}
use Rattle.redraw_tools.proofs.rules.RuleNumbers.put.Goals as goal

pub returns-clause-measured : goal.returns-clause-measured
returns-clause-measured c =
    put-measured c.args.self.now (record { by_id = c.insert-2.new.self; lengths = c.insert.new.self }) c.args.id.now c.args.number c.requires.measured
    (btree_map_updates_str c.args.id.now c.args.self.now.by_id c.insert-2.new.self _ c.in_ok-insert-2.ensures.updates)
    (λ o. c.in_ok-insert.ensures.updates.0 (length o))

pub returns-clause-put : goal.returns-clause-put
returns-clause-put c =
    put-indexed c.args.self.now (record { by_id = c.insert-2.new.self; lengths = c.insert.new.self }) c.args.id.now c.args.number c.requires.measured
    (btree_map_updates_str c.args.id.now c.args.self.now.by_id c.insert-2.new.self _ c.in_ok-insert-2.ensures.updates)
    (λ o. c.in_ok-insert.ensures.updates.0 (length o))
