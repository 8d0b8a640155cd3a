-- Of the further spans so far those with a label stand after the first; spans are looked for in the source.
use Rattle.snippet_text_form.proofs.Common.{◌≡◌, ◌++◌, None, filter, map, take, flat_map, is_labelled, span_form}
use Rattle.std.proofs.Common.{chars}
use Rattle.snippet_text_form.proofs.CauseLemmas.{annotation_of}
use Rattle.snippet_text_form.proofs.cause.add_spans.Given as goal

abbrev pub invariant-loop-span : goal.invariant-loop-span
invariant-loop-span l =
    record {
      finder : l.finder ≡ l.source;
      added : l.form ≡ l.initial.form ++ flat_map (span_form l.anonymized l.source (chars l.indent) None)
          (filter is_labelled (map annotation_of (take l.span-index l.others)));
    }
