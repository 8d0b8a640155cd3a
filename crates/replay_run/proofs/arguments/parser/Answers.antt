use Rattle.std.proofs.Common.{ap, ap₂, true, ◌∙◌}
use Rattle.clap.specs.Simple.{App, app_of_fields, on_top, with_rule}
use Rattle.replay_run.proofs.arguments.parser.Goals as goal

abbrev versioned : App → App
versioned = on_top (λ s. record s { has_version = true })

abbrev unnamed : App → App
unnamed = on_top (λ s. record s { no_binary_name = true })

abbrev overriding : App → App
overriding = on_top (λ s. record s { args_override_self = true })

pub returns : goal.returns
returns c =
    let base = ap app_of_fields c.args_override_self.ensures ∙ ap overriding (ap app_of_fields c.no_binary_name.ensures
    ∙ ap unnamed (ap app_of_fields c.override_usage.ensures ∙ (ap app_of_fields c.version.ensures
    ∙ ap versioned (ap app_of_fields c.about.ensures ∙ c.new.ensures.app)))) in
    let one = c.in_ok-arg.ensures.shape c.flag-text.ensures.local ∙ ap₂ with_rule base c.flag-text.ensures.rule in
    let two = c.in_ok-arg-2.ensures.shape c.flag-keep_going.ensures.local ∙ ap₂ with_rule one c.flag-keep_going.ensures.rule in
    let three = c.in_ok-arg-3.ensures.shape c.flag-check.ensures.local ∙ ap₂ with_rule two c.flag-check.ensures.rule in
    let four = c.in_ok-arg-4.ensures.shape c.valued-repeat.ensures.local ∙ ap₂ with_rule three c.valued-repeat.ensures.rule in
    record {
      app = c.in_ok-command.ensures.shape c.inputs.ensures.local ∙ ap₂ with_rule four c.inputs.ensures.rule;
    }
