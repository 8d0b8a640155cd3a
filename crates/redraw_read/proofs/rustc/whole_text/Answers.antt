use Rattle.json_lines.specs.Field.{lent_text}
use Rattle.redraw_read.proofs.rustc.whole_text.Goals as goal

pub returns : goal.returns
returns c = record { is = (lent_text c.in_ok-said.said, c.in_ok-said.ensures.value, c.if_whole.ensures.value) }
