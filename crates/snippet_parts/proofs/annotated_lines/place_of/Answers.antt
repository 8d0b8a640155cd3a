use Rattle.snippet_parts.proofs.KeptEntryLemmas.{found_nowhere}
use Rattle.snippet_parts.proofs.annotated_lines.place_of.Goals as goal

pub returns-in-Err-clause-none : goal.returns-in-Err-clause-none
returns-in-Err-clause-none c =
    found_nowhere c.args.kept.now c.args.first c.args.number c.in_ok-index.index c.in-Err.field-0 c.requires.ascending c.in-Err.ensures.position
    c.in_ok-index.ensures.0 c.in_ok-index.ensures.1
