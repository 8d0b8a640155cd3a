use Rattle.annotate_snippets.proofs.Common.{◌≡◌, ◌++◌, encode_utf8_all, string_bytes, escaped_text}
use Rattle.annotate_snippets.proofs.renderer.markdown.push_escaped.Given as goal

-- the characters so far are added
abbrev pub invariant-loop-c : goal.invariant-loop-c
invariant-loop-c l = string_bytes l.out ≡ string_bytes l.fn.out ++ encode_utf8_all (escaped_text l.yielded)
