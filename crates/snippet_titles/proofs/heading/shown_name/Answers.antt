use Rattle.snippet_titles.proofs.NameLemmas.{hidden_shown, standard_shown}
use Rattle.snippet_titles.proofs.heading.shown_name.Goals as goal

pub returns-in-Standard : goal.returns-in-Standard
returns-in-Standard c =
    record { value = standard_shown c.args.level.now c.as_str-in-Standard.result.now c.in-Standard.is c.as_str-in-Standard.ensures.value }

pub returns-in-Hidden : goal.returns-in-Hidden
returns-in-Hidden c = record { value = hidden_shown c.args.level.now c.in-Hidden.is }
