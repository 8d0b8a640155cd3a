-- While none was found that isn't, each byte so far is ASCII.
use Rattle.std.proofs.Common.{◌≡◌, ℕ, ◌<◌, true, get_or}
use Rattle.snippet_style.proofs.cells.are_ascii.Given as goal

abbrev pub invariant-loop-byte : goal.invariant-loop-byte
invariant-loop-byte l = l.ascii ≡ true → (k : ℕ) → k < l.byte-index → get_or l.fn.bytes k 0 < 128
