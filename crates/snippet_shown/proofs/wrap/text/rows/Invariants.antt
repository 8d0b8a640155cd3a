-- What is written so far, with what is shown of the characters that are left, is all.
use Rattle.snippet_shown.proofs.Common.{chars, length, string_bytes, IsUtf8, wrapped}
use Rattle.snippet_shown.proofs.StepLemmas.{Writes}
use Rattle.snippet_shown.proofs.wrap.text.rows.Given as goal

abbrev pub invariant-letters : goal.invariant-letters
invariant-letters l = record {
  utf8 : IsUtf8 l.letters.rest.now;
  so_far : Writes l.room l.row l.place (string_bytes l.shown) l.letters.rest.now (wrapped l.room l.trusted (chars l.text));
}

abbrev pub decreases-letters : goal.decreases-letters
decreases-letters l = length (chars l.letters.rest.now)
