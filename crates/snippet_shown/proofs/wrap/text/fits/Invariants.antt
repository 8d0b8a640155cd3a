-- Whether all lines fit is whether the lines left fit.
use Rattle.snippet_shown.proofs.Common.{◌≡◌, chars, IsUtf8, letters, letters_of, lines_fit}
use Rattle.snippet_shown.proofs.wrap.text.fits.Given as goal

abbrev pub invariant-loop-c : goal.invariant-loop-c
invariant-loop-c l = record {
  same : lines_fit l.room l.left (letters l.place (chars l.c-iterator.rest.now)) ≡ lines_fit l.room l.room (letters_of l.trusted (chars l.text));
  utf8 : IsUtf8 l.c-iterator.rest.now;
}
