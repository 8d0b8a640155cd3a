-- Where a file stands among those that were asked for.
use Rattle.std.specs.Prelude.{◌≡◌, ℕ, suc, List, [], ◌∷◌, Option, Some, None, if◌then◌else◌}
use Rattle.std.specs.BTreeMap.{get_by_text}
use Rattle.std.specs.Option.{option_and_then, option_map}
use Rattle.redraw_read.specs.Extract.{is_named}
use Rattle.redraw_read.specs.declared.index.FileIndex.{FileIndex}
use Rattle.redraw_read.specs.declared.sources.File.{File}

-- the place that an index has of a file of this name, in a project with this file
abbrev pub place_in : FileIndex → (name home : List ℕ) → Option ℕ
place_in index name home = option_and_then (λ places. get_by_text places name) (get_by_text index.homes home)

-- the place of the first of some files that was asked for so
abbrev pub place_among : List File → (name home : List ℕ) → Option ℕ
place_among [] name home = None
place_among (f ∷ files) name home = if is_named name home f then Some 0 else option_map suc (place_among files name home)

-- an index is that of these files
abbrev pub IsIndexOf : FileIndex → List File → Type 0
IsIndexOf index files = (name home : List ℕ) → place_in index name home ≡ place_among files name home
