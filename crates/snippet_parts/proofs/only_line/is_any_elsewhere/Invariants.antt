use Rattle.snippet_parts.proofs.Common.{◌≡◌, false, not, take, list_any, is_alone_on}
use Rattle.snippet_parts.proofs.only_line.is_any_elsewhere.Given as goal

-- each so far is marked on the line alone
abbrev pub invariant-loop-span : goal.invariant-loop-span
invariant-loop-span l = list_any (λ x. not (is_alone_on l.line x)) (take l.span-index l.located) ≡ false
