use Rattle.std.proofs.Common.{ap₂, refl, ◌∙◌}
use Rattle.clap.specs.Simple.{with_rule}
use Rattle.redraw_command.proofs.arguments.with_flags.Goals as goal

pub returns : goal.returns
returns c =
    let styled = c.in_ok-arg.ensures.shape c.flag-styled.ensures.local ∙ ap₂ with_rule refl c.flag-styled.ensures.rule in
    let links = c.in_ok-arg-2.ensures.shape c.flag-links.ensures.local ∙ ap₂ with_rule styled c.flag-links.ensures.rule in
    let links_auto = c.in_ok-arg-3.ensures.shape c.flag-links_auto.ensures.local ∙ ap₂ with_rule links c.flag-links_auto.ensures.rule in
    let duplicates = c.in_ok-arg-4.ensures.shape c.flag-duplicates.ensures.local ∙ ap₂ with_rule links_auto c.flag-duplicates.ensures.rule in
    let quiet = c.in_ok-arg-5.ensures.shape c.flag-quiet.ensures.local ∙ ap₂ with_rule duplicates c.flag-quiet.ensures.rule in
    let confined = c.in_ok-arg-6.ensures.shape c.flag-confined.ensures.local ∙ ap₂ with_rule quiet c.flag-confined.ensures.rule in
    let unconfined = c.in_ok-arg-7.ensures.shape c.flag-unconfined.ensures.local ∙ ap₂ with_rule confined c.flag-unconfined.ensures.rule in
    record { app = c.in_ok-flagged.ensures.shape c.flag-lines.ensures.local ∙ ap₂ with_rule unconfined c.flag-lines.ensures.rule }
