use Rattle.std.proofs.Common.{codes, ◌∙◌}
use Rattle.clap.specs.Words.{found_of}
use Rattle.clap.proofs.WalkLemmas.{raw_values-rows}
use Rattle.redraw_command.proofs.arguments.inputs_of.Goals as goal

pub returns : goal.returns
returns c = record { value = c.get_strs.ensures ∙ raw_values-rows (found_of c.args.matches.now) (codes "inputs") }
