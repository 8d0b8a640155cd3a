-- The columns so far are the width of the characters so far, and each byte left has room for four more.
use Rattle.std.proofs.Common.{◌≡◌, ◌+◌, ◌*◌, ◌≤◌, length}
use Rattle.snippet_text.specs.Width.{width_of}
use Rattle.snippet_text.proofs.width.str_width.Given as goal

abbrev pub invariant-loop-c : goal.invariant-loop-c
invariant-loop-c l =
    (l.columns ≡ width_of l.yielded) × (l.columns + 4 * length l.c-iterator.rest.now ≤ 4 * length l.text)
