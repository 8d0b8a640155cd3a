use Rattle.std.proofs.Common.{ap, ap₂, true, ◌∙◌}
use Rattle.clap.specs.Simple.{App, app_of_fields, on_top, with_rule}
use Rattle.redraw_command.specs.Arguments.{choice_rules, flag_rules, form_rules, look_rules, with_rules}
use Rattle.redraw_command.proofs.arguments.command.Goals as goal

abbrev versioned : App → App
versioned = on_top (λ s. record s { has_version = true })

abbrev unnamed : App → App
unnamed = on_top (λ s. record s { no_binary_name = true })

abbrev overriding : App → App
overriding = on_top (λ s. record s { args_override_self = true })

pub returns : goal.returns
returns c =
    let base = ap app_of_fields c.args_override_self-command.ensures ∙ ap overriding (ap app_of_fields c.no_binary_name.ensures
    ∙ ap unnamed (ap app_of_fields c.version.ensures
    ∙ ap versioned (ap app_of_fields c.about.ensures ∙ c.new.ensures.app))) in
    let (colors, color_words, looks) = c.in_ok-looked.ensures.app in
    let (levels, columns, level_words, column_words, chooses) = c.in_ok-chosen.ensures.app in
    let formed = c.in_ok-formed.ensures.app ∙ ap (λ (app : App). with_rules app form_rules) base in
    let flagged = c.in_ok-flagged.ensures.app ∙ ap (λ (app : App). with_rules app flag_rules) formed in
    let looked = looks ∙ ap (λ (app : App). with_rules app (look_rules colors)) flagged in
    let chosen = chooses ∙ ap (λ (app : App). with_rules app (choice_rules levels columns)) looked in
    record {
      app = record {
        colors = colors;
        levels = levels;
        columns = columns;
        color_words = color_words;
        level_words = level_words;
        column_words = column_words;
        is = c.in_ok-whole.ensures.shape c.files.ensures.local ∙ ap₂ with_rule chosen c.files.ensures.rule;
      };
    }
