use Rattle.annotate_snippets.proofs.Common.{arith, cow_str_bytes, length-source_lines}
use Rattle.annotate_snippets.proofs.renderer.text_form.add_snippet.Goals as goal

pub map_of-requires-clause-numbers : goal.map_of-requires-clause-numbers
map_of-requires-clause-numbers c = omega (arith, length-source_lines (cow_str_bytes c.args.snippet.now.source.text), c.requires.drawable.numbers)
