use Rattle.snippet_titles.proofs.Common.{◌∙◌, ap, is_hidden, Level, width_of}
use Rattle.std.proofs.Common.{chars}
use Rattle.snippet_titles.proofs.LabelLemmas.{label_width-parts}
use Rattle.snippet_titles.proofs.heading.label_width.Goals as goal

pub returns-clause-value : goal.returns-clause-value
returns-clause-value g c =
    label_width-parts _ c.level-2.result.now _ _ _ _ _ _ _ _ c.level-2.ensures
    (c.is_hidden-hidden.ensures.value ∙ ap (λ (level : Level). is_hidden level.name) c.level.ensures)
    c.id-2.ensures c.id.ensures (c.str_width.ensures.value ∙ ap (λ bytes. width_of (chars bytes)) c.as_str.ensures.value)
    c.id_width.ensures.value c.colon-colon.ensures.value c.str_width-2.ensures.value
