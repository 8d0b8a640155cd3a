use Rattle.snippet_splice.proofs.Common.{◌≡◌, ℕ, List, count_by, max, arith, drop_all, drop_more, IsSpanBorder, rules}
use Rattle.snippet_splice.proofs.splice.source_lines_shown.Goals as goal

border_max : (source : List ℕ) (a b m : ℕ) → m ≡ max a b → IsSpanBorder source a → IsSpanBorder source b → IsSpanBorder source m
border_max source a b m is first second = search rules

pub loop-patch-preserved : goal.loop-patch-preserved
loop-patch-preserved c = grind (arith, drop_more, border_max)

pub returns : goal.returns
returns c = grind (arith, drop_all, count_by)
