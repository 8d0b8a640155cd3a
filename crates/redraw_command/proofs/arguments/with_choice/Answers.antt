use Rattle.std.proofs.Common.{ap₂, refl, ◌∙◌}
use Rattle.clap.specs.Simple.{with_rule}
use Rattle.redraw_command.proofs.arguments.with_choice.Goals as goal

pub returns : goal.returns
returns c =
    let level = c.in_ok-arg.ensures.shape c.parsed-level.ensures.local ∙ ap₂ with_rule refl c.parsed-level.ensures.rule in
    let path = c.in_ok-arg-2.ensures.shape c.parsed-path.ensures.local ∙ ap₂ with_rule level c.parsed-path.ensures.rule in
    record {
      app = (
        c.level_words-levels.result,
        c.column_words-columns.result,
        c.level_words-levels.ensures.args,
        c.column_words-columns.ensures.args,
        c.in_ok-chosen.ensures.shape c.parsed-unit.ensures.local ∙ ap₂ with_rule path c.parsed-unit.ensures.rule,
      );
    }
