-- The next word of what is left is that of all.
use Rattle.snippet_shown.proofs.Common.{◌≡◌, chars, IsUtf8, letters, next_width}
use Rattle.snippet_shown.proofs.wrap.row.next_width.Given as goal

abbrev pub invariant-loop-c : goal.invariant-loop-c
invariant-loop-c l = record {
  same : next_width (letters l.place (chars l.c-iterator.rest.now)) ≡ next_width (letters l.fn.place (chars l.rest));
  utf8 : IsUtf8 l.c-iterator.rest.now;
}
