-- What was walked over is counted, and each byte left has room for one more character and four more columns.
use Rattle.snippet_lines.proofs.Common.{◌≡◌, ◌+◌, ◌*◌, ◌≤◌, length, width_of}
use Rattle.snippet_lines.proofs.place.walked.Given as goal

abbrev pub invariant-loop-c : goal.invariant-loop-c
invariant-loop-c l =
    record {
      characters : l.characters ≡ length l.yielded;
      columns : l.columns ≡ width_of l.yielded;
      room : l.characters + length l.c-iterator.rest.now ≤ length l.text;
      space : l.columns + 4 * length l.c-iterator.rest.now ≤ 4 * length l.text;
    }
