use Rattle.std.proofs.Common.{◌≡◌, ◌+◌, drop}
use Rattle.redraw_run.specs.Word.{word_length}
use Rattle.redraw_run.proofs.word.word_length.Given as goal

-- all bytes up to here are of the word
abbrev pub invariant-loop-at : goal.invariant-loop-at
invariant-loop-at l = l.at + word_length (drop l.at l.bytes) ≡ word_length l.bytes
