-- Whether what is left has room is whether all has.
use Rattle.snippet_shown.proofs.Common.{◌≡◌, chars, false, nat_le, IsUtf8, letters, columns_ahead}
use Rattle.snippet_shown.proofs.wrap.row.has_room.Given as goal

abbrev pub invariant-loop-c : goal.invariant-loop-c
invariant-loop-c l = record {
  same : nat_le (columns_ahead l.inside (letters l.place (chars l.c-iterator.rest.now))) l.left
      ≡ nat_le (columns_ahead false (letters l.fn.place (chars l.rest))) l.fn.left;
  utf8 : IsUtf8 l.c-iterator.rest.now;
}
