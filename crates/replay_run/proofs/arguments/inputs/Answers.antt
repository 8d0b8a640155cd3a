use Rattle.std.proofs.Common.{[], ap, ◌∙◌, ◌∷◌}
use Rattle.clap.specs.Walk.{Rule}
use Rattle.clap.specs.Words.{rule_of}
use Rattle.clap.specs.declared.builder.arg.Arg.{Arg}
use Rattle.program.specs.Inputs.{hyphen}
use Rattle.replay_run.proofs.arguments.inputs.Goals as goal

pub returns : goal.returns
returns c =
    record {
      rule = ap rule_of c.default_value.ensures ∙ ap (λ (r : Rule). record r { defaults = hyphen ∷ [] }) c.files.ensures.rule;
      local = ap (λ (a : Arg). a.global) c.default_value.ensures ∙ c.files.ensures.local;
    }
