-- What is written so far spells the characters so far, with line feeds shown.
use Rattle.snippet_shown.proofs.Common.{◌≡◌, encode_utf8_all, string_bytes, with_line_feeds_shown}
use Rattle.snippet_shown.proofs.as_set.line_feeds.replaced.Given as goal

abbrev pub invariant-loop-c : goal.invariant-loop-c
invariant-loop-c l = string_bytes l.shown ≡ encode_utf8_all (with_line_feeds_shown l.yielded)
