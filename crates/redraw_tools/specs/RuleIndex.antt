-- Where the rules of a run stand, by their ids.
use Rattle.std.specs.Prelude.{◌≡◌, ℕ, Bool, false, List, [], ◌∷◌, Option, Some, None, codes, is_some, length, option_and_then, if◌then◌else◌}
use Rattle.std.specs.BTreeMap as map
use Rattle.std.specs.BTreeSet as set
use Rattle.std.specs.Cmp.Lexicographic.{slice_cmp}
use Rattle.std.specs.List.{slice_get}
use Rattle.std.specs.Ordering.{nat_cmp}
use Rattle.serde_json.specs.Data.{Data}
use Rattle.redraw_tools.specs.Rule.{first_with, items_in, tool_part}
use Rattle.redraw_tools.specs.declared.rules.RuleNumbers.{RuleNumbers}
use Rattle.redraw_tools.specs.declared.rules.RunRules.{RunRules}

-- whether an index has ids of this length, and the number that it has under an id
abbrev pub has_length : RuleNumbers → List ℕ → Bool
has_length numbers id = set.contains_by (nat_cmp (length id)) numbers.lengths

abbrev pub number_under : RuleNumbers → List ℕ → Option ℕ
number_under numbers id = map.get_by (λ k. slice_cmp nat_cmp id k.now) numbers.by_id

abbrev pub indexed : RuleNumbers → List ℕ → Option ℕ
indexed numbers id = if has_length numbers id then number_under numbers id else None

-- an index has an id only where it has its length
abbrev pub IsMeasured : RuleNumbers → Type 0
IsMeasured numbers = (id : List ℕ) → has_length numbers id ≡ false → number_under numbers id ≡ None

-- an id that isn't empty, and that an index doesn't have
abbrev pub if_new : RuleNumbers → List ℕ → Option (List ℕ)
if_new numbers [] = None
if_new numbers (c ∷ cs) = if is_some (indexed numbers (c ∷ cs)) then None else Some (c ∷ cs)

-- an index has the number of the first of these rules under each id
abbrev pub IsIndexOf : RuleNumbers → List Data → Type 0
IsIndexOf numbers rules = (id : List ℕ) → indexed numbers id ≡ first_with id rules

-- the number that the indexes of a run have under an id, of a part of its tool
abbrev pub indexed_in : RunRules → Option ℕ → List ℕ → Option ℕ
indexed_in rules None id = indexed rules.driver id
indexed_in rules (Some extension) id = option_and_then (λ numbers. indexed numbers id) (slice_get rules.extensions.items extension)

-- the indexes are those of the parts of this run's tool
abbrev pub AreIndexesOf : RunRules → Data → Type 0
AreIndexesOf rules run =
    (extension : Option ℕ) (id : List ℕ) → indexed_in rules extension id ≡ first_with id (items_in (codes "rules") (tool_part run extension))
