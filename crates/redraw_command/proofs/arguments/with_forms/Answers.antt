use Rattle.std.proofs.Common.{ap₂, refl, ◌∙◌}
use Rattle.clap.specs.Simple.{with_rule}
use Rattle.redraw_command.proofs.arguments.with_forms.Goals as goal

pub returns : goal.returns
returns c =
    let unicode = c.in_ok-arg.ensures.shape c.flag-unicode.ensures.local ∙ ap₂ with_rule refl c.flag-unicode.ensures.rule in
    let text = c.in_ok-arg-2.ensures.shape c.flag-text.ensures.local ∙ ap₂ with_rule unicode c.flag-text.ensures.rule in
    let short = c.in_ok-arg-3.ensures.shape c.flag-short.ensures.local ∙ ap₂ with_rule text c.flag-short.ensures.rule in
    let fit = c.in_ok-arg-4.ensures.shape c.flag-fit.ensures.local ∙ ap₂ with_rule short c.flag-fit.ensures.rule in
    let github = c.in_ok-arg-5.ensures.shape c.flag-github.ensures.local ∙ ap₂ with_rule fit c.flag-github.ensures.rule in
    let html = c.in_ok-arg-6.ensures.shape c.flag-html.ensures.local ∙ ap₂ with_rule github c.flag-html.ensures.rule in
    let markdown = c.in_ok-arg-7.ensures.shape c.flag-markdown.ensures.local ∙ ap₂ with_rule html c.flag-markdown.ensures.rule in
    record { app = c.in_ok-formed.ensures.shape c.flag-verify.ensures.local ∙ ap₂ with_rule markdown c.flag-verify.ensures.rule }
