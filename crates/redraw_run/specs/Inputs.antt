-- What becomes of inputs: of standard input and of files, each by the argument that names it.
use Rattle.std.specs.Prelude.{◌≡◌, ◌⊎◌, ℕ, ◌&&◌, ◌++◌, Bool, true, false, List, [], ◌∷◌, Option, Some, None, Result, Ok, Err, map, option_map}
use Rattle.std.specs.declared.io.Error.{Error}
use Rattle.std.specs.Borrow.{Bor}
use Rattle.program.specs.Inputs.{IsNamed, hyphen}
use Rattle.redraw_command.specs.declared.choice.Choice.{Choice}
use Rattle.redraw_run.specs.Deeds.{State, Deed, Does, IsCutShort}
use Rattle.redraw_run.specs.Fates.{Each, IsHalted, IsInput, IsTelling, Then}
use Rattle.redraw_run.specs.ReadLines.{AreFirstOf, AreAllOf}

-- ---- where pieces come from

-- what an argument names, if that could be opened
abbrev pub IsSourceOf : {File Standard : Type 0} → List ℕ → Option (File ⊎ Standard) → Type 0
IsSourceOf name None = Unit {0}
IsSourceOf name (Some source) = IsNamed name source

-- what is held by what could be opened, if it could
abbrev pub held_in : {B : Type 0} → (B → Option (List ℕ)) → Result B Error → Option (Option (List ℕ))
held_in held (Ok reader) = Some (held reader)
held_in held (Err error) = None

-- these are all pieces of what could be opened
abbrev pub AreAllIn : Option (Option (List ℕ)) → List (List ℕ) → Type 0
AreAllIn None pieces = ⊥
AreAllIn (Some held) pieces = AreAllOf held pieces

-- these are the first ones, and none where it couldn't be opened
abbrev pub AreFirstIn : Option (Option (List ℕ)) → List (List ℕ) → Type 0
AreFirstIn None pieces = pieces ≡ []
AreFirstIn (Some held) pieces = AreFirstOf held pieces

-- ---- one input

-- what becomes of pieces that could be read to their end: they are all that there are
pub record IsRead (held : Option (Option (List ℕ))) (pieces : List (List ℕ)) (c : Choice) (deeds : List Deed) : Type 0 where
  pub all : AreAllIn held pieces
  pub becomes : IsInput pieces c deeds

-- what becomes of pieces that couldn't: of the first ones, as far as that goes, and one message tells why
pub record IsUnread (held : Option (Option (List ℕ))) (pieces : List (List ℕ)) (is_whole : Bool) (c : Choice) (deeds : List Deed) : Type 0 where
  pub first : AreFirstIn held pieces
  pub becomes : Then (IsHalted pieces) IsTelling c deeds
  pub partial : is_whole ≡ false

-- what becomes of pieces of what could be opened or not, and whether all of it could be read and is of a form that is known
abbrev pub AreOf : Option (Option (List ℕ)) → List (List ℕ) → Bool → Choice → List Deed → Type 0
AreOf held pieces is_whole c deeds = IsRead held pieces c deeds ⊎ IsUnread held pieces is_whole c deeds

-- pieces of it are gone through
abbrev pub IsDrawnFrom : Option (Option (List ℕ)) → Bool → State → State → Type 0
IsDrawnFrom held is_whole a b = (pieces : List (List ℕ)) × Does (AreOf held pieces is_whole) a b

-- pieces of it are read up to where output couldn't be written
abbrev pub IsCutFrom : Option (Option (List ℕ)) → State → State → Type 0
IsCutFrom held a b = (pieces : List (List ℕ)) × AreFirstIn held pieces × IsCutShort (IsHalted pieces) a b

-- an input: the argument that names it; the file or standard input that it is, if that could be opened; the pieces that were read of it; and
-- whether all of it could be read and is of a form that is known
pub record Input (File Standard : Type 0) : Type 0 where
  pub name : List ℕ
  pub source : Option (File ⊎ Standard)
  pub pieces : List (List ℕ)
  pub is_whole : Bool

-- what becomes of an input
abbrev pub IsOf : {File Standard : Type 0} → (File ⊎ Standard → Option (List ℕ)) → Input File Standard → Choice → List Deed → Type 0
IsOf held input c deeds = IsSourceOf input.name input.source × AreOf (option_map held input.source) input.pieces input.is_whole c deeds

-- the input of this name is gone through, and is whole or not
abbrev pub IsDrawnOf : {File Standard : Type 0} → (File ⊎ Standard → Option (List ℕ)) → List ℕ → Bool → State → State → Type 0
IsDrawnOf {File} {Standard} held name is_whole a b =
    (input : Input File Standard) × (input.name ≡ name) × (input.is_whole ≡ is_whole) × Does (IsOf held input) a b

-- pieces of the input of this name are read up to where output couldn't be written
abbrev pub IsInputCut : {File Standard : Type 0} → (File ⊎ Standard → Option (List ℕ)) → List ℕ → State → State → Type 0
IsInputCut {File} {Standard} held name a b =
    (source : Option (File ⊎ Standard)) × IsSourceOf name source × IsCutFrom (option_map held source) a b

-- ---- several

-- whether all of some inputs could be read and are of a form that is known
abbrev pub are_whole : {File Standard : Type 0} → List (Input File Standard) → Bool
are_whole [] = true
are_whole (input ∷ inputs) = input.is_whole && are_whole inputs

-- the names of some inputs
abbrev pub names_of : {File Standard : Type 0} → List (Input File Standard) → List (List ℕ)
names_of {File} {Standard} inputs = map (λ (input : Input File Standard). input.name) inputs

-- some given names; the one of standard input where none is given
abbrev pub given_names : List (Bor (List ℕ)) → List (List ℕ)
given_names [] = hyphen ∷ []
given_names (name ∷ names) = name.now ∷ map (λ (n : Bor (List ℕ)). n.now) names

-- the names of the inputs that are to be read: those that are given, or standard input where none is
abbrev pub asked_names : Option (Bor (List (Bor (List ℕ)))) → List (List ℕ)
asked_names None = hyphen ∷ []
asked_names (Some names) = given_names names.now

-- the inputs of these names are gone through, each read in their order, and all are whole or not
pub record AreDrawn (File Standard : Type 0) (held : File ⊎ Standard → Option (List ℕ)) (names : List (List ℕ)) (is_whole : Bool) (a b : State)
    : Type 0 where
  pub inputs : List (Input File Standard)
  pub named : names_of inputs ≡ names
  pub whole : are_whole inputs ≡ is_whole
  pub does : Does (Each (IsOf held) inputs) a b

-- some inputs of these names are gone through, and of the next one pieces are read up to where output couldn't be written
pub record AreCut (File Standard : Type 0) (held : File ⊎ Standard → Option (List ℕ)) (names : List (List ℕ)) (a b : State) : Type 0 where
  pub inputs : List (Input File Standard)
  pub name : List ℕ
  pub later : List (List ℕ)
  pub named : names ≡ names_of inputs ++ name ∷ later
  pub source : Option (File ⊎ Standard)
  pub is : IsSourceOf name source
  pub pieces : List (List ℕ)
  pub first : AreFirstIn (option_map held source) pieces
  pub does : IsCutShort (Then (Each (IsOf held) inputs) (IsHalted pieces)) a b
