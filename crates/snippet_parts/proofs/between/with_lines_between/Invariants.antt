use Rattle.snippet_parts.proofs.Common.{◌≡◌, ◌++◌, ◌<◌, ◌^◌, None, map, length, into_iter_items, into_iter_len, seen_kept, infos_of, kept_of}
use Rattle.std.proofs.Common.{All}
use Rattle.snippet_parts.proofs.BetweenLemmas.{filled}
use Rattle.snippet_parts.proofs.between.with_lines_between.Given as goal

-- the lines so far, and after them those of the lines that are left
abbrev pub invariant-loop-info : goal.invariant-loop-info
invariant-loop-info l = record {
  lines : map seen_kept (infos_of l.shown.items) ++ filled l.source l.before (map seen_kept (into_iter_items l.info-iterator))
      ≡ filled l.source None (map seen_kept l.fn.kept.items);
  kept : kept_of l.shown.items ++ into_iter_items l.info-iterator ≡ l.fn.kept.items;
  texts : All (λ info. length info.line.now < 2 ^ 56) (into_iter_items l.info-iterator);
  left : into_iter_len l.info-iterator ≡ length (into_iter_items l.info-iterator);
}
