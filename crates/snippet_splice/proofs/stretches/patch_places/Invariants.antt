use Rattle.snippet_splice.proofs.Common.{◌≡◌, ◌≤◌, ◌++◌, drop, map, slice_range, IsUtf8, IsSpanBorder, in_text, characters_before, extents_from}
use Rattle.snippet_splice.proofs.Common.{extent_of, AreApart, trimmed_edit_of}
use Rattle.snippet_splice.proofs.stretches.patch_places.Given as goal

-- the places of the patches that are left complete those of all
abbrev pub invariant-loop-patch : goal.invariant-loop-patch
invariant-loop-patch l = record {
  border : IsSpanBorder l.source l.at;
  after : l.from ≤ l.at;
  utf8 : IsUtf8 (slice_range l.source (in_text l.source l.from) (in_text l.source l.at));
  counted : l.chars ≡ characters_before l.source l.from l.at;
  apart : AreApart l.at (map trimmed_edit_of (drop l.patch-index l.patches));
  whole : map extent_of l.places.items ++ extents_from l.source l.from l.at (map trimmed_edit_of (drop l.patch-index l.patches))
      ≡ extents_from l.source l.from l.from (map trimmed_edit_of l.patches);
}
