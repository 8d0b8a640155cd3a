use Rattle.snippet_parts.proofs.Common.{◌++◌, ◌∷◌, [], ap, map, sym, ◌∙◌, take, take_more, line_with}
use Rattle.snippet_parts.proofs.annotated_lines.add_entries.Goals as goal

pub loop-entry-preserved : goal.loop-entry-preserved
loop-entry-preserved c = record {
  count = c.in_ok-add_entry.ensures.count ∙ c.loop-entry.invariant.count;
  added = λ seen bare. c.in_ok-add_entry.ensures.added seen (take c.loop-entry.entry-index c.args.entries.now)
      (c.loop-entry.invariant.added seen bare)
      ∙ ap (λ ps. map (line_with c.args.source.now seen ps) c.args.kept.now)
      (sym (take_more c.args.entries.now c.loop-entry.entry-index c.entry-item.result c.loop-entry-test.true
      ∙ ap (λ e. take c.loop-entry.entry-index c.args.entries.now ++ e ∷ []) (sym c.entry-item.is)));
}
