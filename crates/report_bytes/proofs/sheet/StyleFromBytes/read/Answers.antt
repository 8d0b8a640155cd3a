use Rattle.report_bytes.proofs.PlainStyle.{plain_left}
use Rattle.report_bytes.proofs.sheet.StyleFromBytes.read.Goals as goal

pub returns-in-Some-clause-left : goal.returns-in-Some-clause-left
returns-in-Some-clause-left c = plain_left c.args.bytes.now c.in-Some.rest.now c.in-Some.ensures.plain
