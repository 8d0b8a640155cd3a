-- Optional texts, by their bytes.
use Rattle.std.specs.Prelude.{ℕ, List, Option}
use Rattle.std.specs.Cow.{cow_str_bytes}
use Rattle.std.specs.Option.{option_map}
use Rattle.snippet_model.specs.declared.option_cow.OptionCow.{OptionCow}

-- the bytes of an optional text
abbrev pub text_of : OptionCow → Option (List ℕ)
text_of given = option_map cow_str_bytes given.0
