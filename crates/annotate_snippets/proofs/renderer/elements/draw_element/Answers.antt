use Rattle.std.proofs.lemmas.Grind.{common_steps}
use Rattle.annotate_snippets.proofs.Common.{on_ok_weaker, arith, padding_row}
use Rattle.annotate_snippets.proofs.PageWords.{message_rows}
use Rattle.annotate_snippets.proofs.NamedRows.{cells_of-others}
use Rattle.annotate_snippets.proofs.PlainRows.{plain_added}
use Rattle.annotate_snippets.proofs.renderer.elements.draw_element.Goals as goal

pub returns-in-Message : goal.returns-in-Message
returns-in-Message c = grind (arith, common_steps, on_ok_weaker, plain_added, cells_of-others, message_rows)

pub returns-in-Cause : goal.returns-in-Cause
returns-in-Cause c = grind (arith, common_steps, on_ok_weaker, plain_added)

pub returns-in-Origin : goal.returns-in-Origin
returns-in-Origin c = grind (arith, common_steps, on_ok_weaker, plain_added, cells_of-others)

pub returns-in-Padding : goal.returns-in-Padding
returns-in-Padding c = grind (arith, common_steps, on_ok_weaker, plain_added, padding_row)
