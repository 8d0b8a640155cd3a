-- When a copy of a part of a report is the same as what it is of: all that can be read of the two agrees. A text may be
-- borrowed in one and owned in the other; its bytes agree.
use Rattle.std.specs.Prelude.{◌≡◌, Option, None, MatchOption, IsSomeAnd}
use Rattle.std.specs.Cow.{cow_str_bytes}
use Rattle.std.specs.declared.alloc.Global.{Global}
use Rattle.std.specs.declared.borrow.CowStr.{CowStr}
use Rattle.snippet_model.specs.declared.snippet.Patch.{Patch}

-- texts with the same bytes
abbrev pub SameText : CowStr Global → CowStr Global → Type 0
SameText a b = cow_str_bytes b ≡ cow_str_bytes a

-- two values that may be missing: both are, or both are there and the same, as Same says
abbrev pub SameOption : {T : Type 0} → (T → T → Type 0) → Option T → Option T → Type 0
SameOption Same a b = MatchOption a (b ≡ None) (λ x. IsSomeAnd b (Same x))

-- patches of the same bytes and replacement
abbrev pub SamePatch : Patch → Patch → Type 0
SamePatch a b = (b.span ≡ a.span) × SameText a.replacement b.replacement
