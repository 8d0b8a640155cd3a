use Rattle.snippet_suggest.proofs.Common.{◌≡◌, false, map, take, list_any, trimmed_edit_of, takes_away}
use Rattle.snippet_suggest.proofs.kind.takes_away.Given as goal

-- none of the patches so far takes something away
abbrev pub invariant-loop-patch : goal.invariant-loop-patch
invariant-loop-patch l = list_any (takes_away l.source) (map trimmed_edit_of (take l.patch-index l.patches)) ≡ false
