-- What is known of a snippet's source.
use Rattle.std.specs.Prelude.{◌≡◌, Bool, false}
use Rattle.std.specs.Cow.{cow_str_bytes}
use Rattle.std.specs.declared.alloc.Global.{Global}
use Rattle.std.specs.declared.borrow.CowStr.{CowStr}

-- its text, and whether the bytes at which its lines start are lent with it. What is drawn depends on the text alone
pub record SourceSeen : Type 0 where
  pub text : CowStr Global
  pub is_indexed : Bool

-- a text of which no lines are known
abbrev pub unindexed : CowStr Global → SourceSeen
unindexed text = record { text = text; is_indexed = false }

-- sources of the same text, both with their lines or neither
pub record SameSource (a b : SourceSeen) : Type 0 where
  pub text : cow_str_bytes b.text ≡ cow_str_bytes a.text
  pub lines : b.is_indexed ≡ a.is_indexed
