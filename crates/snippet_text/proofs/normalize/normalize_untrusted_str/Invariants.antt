-- What is written so far spells the normalised text of the characters so far.
use Rattle.std.proofs.Common.{◌≡◌, encode_utf8_all, string_bytes}
use Rattle.snippet_text.specs.Normalized.{norm}
use Rattle.snippet_text.proofs.normalize.normalize_untrusted_str.Given as goal

abbrev pub invariant-loop-c : goal.invariant-loop-c
invariant-loop-c l = string_bytes l.out ≡ encode_utf8_all (norm l.yielded)
