use Rattle.snippet_splice.proofs.stretches.text_between.Goals as goal
use Rattle.snippet_splice.proofs.Common.{rules}

pub returns-in-None : goal.returns-in-None
returns-in-None c = search rules
