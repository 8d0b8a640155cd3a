use Rattle.replay_read.proofs.report.ElementReadPart.read.Goals as goal

pub returns-clause-value : goal.returns-clause-value
returns-clause-value c = c.bare_element.ensures.value c.args.sources.now
