-- All so far is whitespace of this width: the line's is this much more than that of the rest.
use Rattle.snippet_window.proofs.Common.{◌≡◌, ◌+◌, ◌*◌, ◌≤◌, length, drop, option_map, leading_whitespace}
use Rattle.std.specs.Str.{chars}
use Rattle.snippet_window.proofs.whitespace.leading_whitespace.Given as goal

abbrev pub invariant-loop-c : goal.invariant-loop-c
invariant-loop-c l =
    (option_map (λ columns. l.columns + columns) (leading_whitespace (drop (length l.yielded) (chars l.line))) ≡ leading_whitespace (chars l.line))
    × (l.columns + 4 * length l.c-iterator.rest.now ≤ 4 * length l.line)
