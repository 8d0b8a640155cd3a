use Rattle.std.proofs.Common.{None, Some, sym}
use Rattle.redraw_read.proofs.After.{parted}
use Rattle.redraw_read.proofs.words.after_first.Goals as goal

pub returns-in-Some : goal.returns-in-Some
returns-in-Some c = record { value = sym (parted c.args.words.now c.args.text.now (Some (c.in-Some.field-0-0, c.in-Some.rest)) c.in-Some.ensures.cases) }

pub returns-in-None : goal.returns-in-None
returns-in-None c = record { value = sym (parted c.args.words.now c.args.text.now None c.in-None.ensures.cases) }
