-- What a sink is that takes up the groups of a page, one after the other.
use Rattle.std.specs.Prelude.{◌≡◌, ◌⊎◌, ◌==◌, Bool, true, false, List, [], ◌∷◌, ◌++◌, length}
use Rattle.annotate_snippets.specs.Page.{GroupPage}

-- it took up these groups in order, the first of them as the first of the page or as a later one
abbrev pub Takes : {S : Type 0} → (Bool → GroupPage → S → S → Type 0) → Bool → List GroupPage → S → S → Type 0
Takes took first [] old new = new ≡ old
Takes {S = S} took first (g ∷ gs) old new = (mid : S) × ((took first g old mid) × (Takes took false gs mid new))

-- it took up the groups before one of the page, and at this it stopped with an error
pub record StopsAt {S E : Type 0} (took : Bool → GroupPage → S → S → Type 0) (stopped : Bool → GroupPage → E → S → S → Type 0)
    (page : List GroupPage) (error : E) (old new : S) : Type 0 where
  pub before : List GroupPage
  pub group : GroupPage
  pub after : List GroupPage
  pub page_is : page ≡ before ++ group ∷ after
  pub mid : S
  pub taken : Takes took true before old mid
  pub stops : stopped (length before == 0) group error mid new

-- a page isn't taken up whole: the error is one of memory and the sink is as it was, or it stopped at a group
abbrev pub Stops : {S E : Type 0} → (Bool → GroupPage → S → S → Type 0) → (Bool → GroupPage → E → S → S → Type 0) → (E → Type 0)
    → List GroupPage → E → S → S → Type 0
Stops took stopped IsMemory page error old new = (IsMemory error × (new ≡ old)) ⊎ StopsAt took stopped page error old new
