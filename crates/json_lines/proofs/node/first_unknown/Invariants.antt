use Rattle.std.proofs.Common.{◌≡◌, ◌++◌, List, String, Global}
use Rattle.std.specs.Map.{keys_of}
use Rattle.json_lines.specs.Field.{lent_texts}
use Rattle.json_lines.proofs.Names.{AllNamed}
use Rattle.json_lines.proofs.node.first_unknown.Given as goal

-- each field so far has one of the names
abbrev pub invariant-loop-name : goal.invariant-loop-name
invariant-loop-name l =
    (done : List (String Global)) × (keys_of l.fields.entries ≡ done ++ l.name-iterator) × AllNamed (lent_texts l.names) done
