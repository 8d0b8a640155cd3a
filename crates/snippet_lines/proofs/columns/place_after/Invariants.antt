-- The place is that after the units that are left, from here on.
use Rattle.snippet_lines.proofs.Common.{◌≡◌, ◌+◌, length, IsUtf8, place_from}
use Rattle.std.proofs.Common.{chars}
use Rattle.snippet_lines.proofs.columns.place_after.Given as goal

abbrev pub invariant-loop-c : goal.invariant-loop-c
invariant-loop-c l =
    record {
      place : place_from l.unit l.at (chars l.c-iterator.rest.now) l.left ≡ place_from l.unit 0 (chars l.text) l.units;
      size : l.at + length l.c-iterator.rest.now ≡ length l.text;
      utf8 : IsUtf8 l.c-iterator.rest.now;
    }
