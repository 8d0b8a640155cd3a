use Rattle.snippet_shown.proofs.Common.{◌≡◌, ◌++◌, length, map, into_iter_items, into_iter_len, visible_mark}
use Rattle.snippet_shown.proofs.context.snippets.add_visible.Given as goal

-- the annotations so far, and after them those of the spans that are left
abbrev pub invariant-loop-span : goal.invariant-loop-span
invariant-loop-span l = record {
  added : l.markers.items ++ map visible_mark (into_iter_items l.span-iterator) ≡ l.initial.markers.items ++ map visible_mark l.fn.spans.items;
  left : into_iter_len l.span-iterator ≡ length (into_iter_items l.span-iterator);
}
