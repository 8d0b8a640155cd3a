-- What the fields of an object say that another tool wrote: a field that has `null` is one that isn't there, and what is of another kind
-- than what is asked for counts as nothing.
use Rattle.std.specs.Prelude.{ℕ, zero, suc, List, [], ◌∷◌, Option, Some, None, is_some, option_and_then, if◌then◌else◌}
use Rattle.serde_json.specs.Data.{Data, Items, no_items, item}
use Rattle.serde_json.specs.Find.{as_array, as_object, as_str, at, get}
use Rattle.json_lines.specs.Field.{as_whole, given, text_field}

-- a value that is an object
abbrev pub as_fields : Data → Option Data
as_fields d = if is_some (as_object d) then Some d else None

-- the object in the field of a name
abbrev pub object_at : List ℕ → Data → Option Data
object_at name d = option_and_then as_fields (given name d)

-- the values that stand in a list
abbrev pub values : Option Items → List Data
values None = []
values (Some no_items) = []
values (Some (item d ds)) = d ∷ values (Some ds)

-- the values of the list in the field of a name
abbrev pub list_at : List ℕ → Data → List Data
list_at name d = values (option_and_then as_array (given name d))

-- the text in the field of a name
abbrev pub text_at : List ℕ → Data → Option (List ℕ)
text_at name d = option_and_then as_str (given name d)

-- the whole number in the field of a name
abbrev pub number_at : List ℕ → Data → Option ℕ
number_at name d = option_and_then as_whole (given name d)

-- a number that isn't 0
abbrev pub but_zero : ℕ → Option ℕ
but_zero zero = None
but_zero (suc n) = Some (suc n)

-- the line or the column in the field of a name, counted from 1
abbrev pub from_one : List ℕ → Data → Option ℕ
from_one name d = option_and_then but_zero (number_at name d)

-- the text in the field of a name in what is there, if there is something
abbrev pub text_in : List ℕ → Option Data → Option (List ℕ)
text_in name d = option_and_then (text_field name) d

-- the value with this number in the list that is there
abbrev pub item_in : ℕ → Option Data → Option Data
item_in index d = option_and_then (at index) d

-- the field of a name in what is there
abbrev pub field_in : List ℕ → Option Data → Option Data
field_in name d = option_and_then (get name) d
