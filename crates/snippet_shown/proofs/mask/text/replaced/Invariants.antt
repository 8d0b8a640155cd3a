-- What is written so far spells the characters so far, masked.
use Rattle.snippet_shown.proofs.Common.{◌≡◌, encode_utf8_all, string_bytes, masked}
use Rattle.snippet_shown.proofs.mask.text.replaced.Given as goal

abbrev pub invariant-loop-c : goal.invariant-loop-c
invariant-loop-c l = string_bytes l.shown ≡ encode_utf8_all (masked l.yielded)
