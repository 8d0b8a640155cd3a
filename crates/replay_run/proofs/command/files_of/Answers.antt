use Rattle.std.proofs.Common.{List, Option, [], ap, codes, ◌∙◌}
use Rattle.std.specs.Prelude.{unwrap_or}
use Rattle.clap.proofs.WalkLemmas.{raw_values-rows}
use Rattle.clap.specs.Words.{found_of}
use Rattle.replay_run.proofs.Asking.{arguments_or_none}
use Rattle.replay_run.specs.Arguments.{Argument}
use Rattle.replay_run.proofs.command.files_of.Goals as goal

pub returns : goal.returns
returns c =
    record {
      value = arguments_or_none c.get_strs.result _ c.unwrap_or_default.result (λ x h. h) c.unwrap_or_default.ensures
          ∙ ap (λ (o : Option (List Argument)). unwrap_or o []) (c.get_strs.ensures ∙ raw_values-rows (found_of c.args.matches.now) (codes "files"));
    }
