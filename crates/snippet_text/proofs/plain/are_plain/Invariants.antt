-- While none was found that isn't, each byte so far is plain.
use Rattle.std.proofs.Common.{◌≡◌, ℕ, ◌<◌, true, get_or}
use Rattle.snippet_text.specs.Plain.{IsPlain}
use Rattle.snippet_text.proofs.plain.are_plain.Given as goal

abbrev pub invariant-loop-byte : goal.invariant-loop-byte
invariant-loop-byte l = l.plain ≡ true → (k : ℕ) → k < l.byte-index → IsPlain (get_or l.fn.bytes k 0)
