-- The lines of a text by what stands in them where the message of a suggestion may, or a place.
use Rattle.std.specs.Prelude.{◌≡◌, ℕ, suc, Bool, List, [], ◌∷◌, Option, Some, None, String, false, map, if◌then◌else◌}
use Rattle.std.specs.Borrow.{Bor}
use Rattle.std.specs.BTreeMap.{BTreeMap, get_by_text}
use Rattle.std.specs.Global.{Global}
use Rattle.std.specs.Option.{ForSome, option_map, option_map_or}
use Rattle.std.specs.Str.{bytes_eq}
use Rattle.redraw_read.specs.Rendered.{stands_in, way, way_of}
use Rattle.redraw_read.specs.declared.rendered.Manner.{Manner}
use Rattle.redraw_read.specs.declared.rendered.Stand.{Stand}

-- the texts that were lent
abbrev pub texts : List (Bor (List ℕ)) → List (List ℕ)
texts lines = map (λ (l : Bor (List ℕ)). l.now) lines

-- the number by a text
abbrev pub number_of : BTreeMap (String Global) ℕ → List ℕ → Option ℕ
number_of numbers text = get_by_text numbers text

-- whether this text stands in a line where a message may, or a place
abbrev pub is_there : Stand → List ℕ → List ℕ → Bool
is_there place text line = option_map_or (λ t. bytes_eq t text) (stands_in place line) false

-- the number of the first of some lines where this text stands so
abbrev pub number_among : Stand → List ℕ → List (List ℕ) → Option ℕ
number_among place text [] = None
number_among place text (line ∷ lines) = if is_there place text line then Some 0 else option_map suc (number_among place text lines)

-- a number that was found, or else this one, if it is one
abbrev pub first_of : Option ℕ → Bool → ℕ → Option ℕ
first_of (Some n) is number = Some n
first_of None is number = if is then Some number else None

-- these are the numbers of some lines by what stands there
abbrev pub AreNumbersOf : Stand → BTreeMap (String Global) ℕ → List (List ℕ) → Type 0
AreNumbersOf place numbers lines = (text : List ℕ) → number_of numbers text ≡ number_among place text lines

-- these are messages, each with how it is shown in a text
abbrev pub AreKnown : List ℕ → BTreeMap (String Global) Manner → Type 0
AreKnown text known = (message : List ℕ) → ForSome (get_by_text known message) (λ manner. way_of manner ≡ way message text)
