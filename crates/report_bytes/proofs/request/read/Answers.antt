use Rattle.report_bytes.proofs.Whole.{no_fault}
use Rattle.report_bytes.proofs.request.read.Goals as goal

pub returns-clause-only : goal.returns-clause-only
returns-clause-only c = λ r is same.
    no_fault c.args.kept.now c.whole.result c.args.bytes.now r c.whole.ensures.few c.whole.ensures.left is same
