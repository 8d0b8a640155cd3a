use Rattle.std.proofs.Common.{ap₂, refl, ◌∙◌}
use Rattle.clap.specs.Simple.{with_rule}
use Rattle.redraw_command.proofs.arguments.with_look.Goals as goal

pub returns : goal.returns
returns c =
    let color = c.in_ok-arg.ensures.shape c.parsed-color.ensures.local ∙ ap₂ with_rule refl c.parsed-color.ensures.rule in
    let width = c.in_ok-arg-2.ensures.shape c.parsed-width.ensures.local ∙ ap₂ with_rule color c.parsed-width.ensures.rule in
    record {
      app = (
        c.color_words-colors.result,
        c.color_words-colors.ensures.args,
        c.in_ok-looked.ensures.shape c.parsed-root.ensures.local ∙ ap₂ with_rule width c.parsed-root.ensures.rule,
      );
    }
