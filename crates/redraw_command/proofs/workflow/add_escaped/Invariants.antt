-- What is added so far spells the characters so far, escaped.
use Rattle.std.proofs.Common.{◌≡◌, ◌++◌, encode_utf8_all, string_bytes}
use Rattle.redraw_command.specs.Workflow.{escaped}
use Rattle.redraw_command.proofs.workflow.add_escaped.Given as goal

abbrev pub invariant-loop-character : goal.invariant-loop-character
invariant-loop-character l = string_bytes l.line ≡ string_bytes l.initial.line ++ encode_utf8_all (escaped l.part l.yielded)
