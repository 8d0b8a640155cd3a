use Rattle.std.proofs.Common.{ap, ◌∙◌}
use Rattle.serde_json.specs.Written.{compact_text, has_float}
use Rattle.replay_answer.proofs.Answering.{told_of-whole}
use Rattle.replay_answer.proofs.answer.told_json.Goals as goal

pub returns : goal.returns
returns c =
    let whole = ap has_float c.in_ok-told.ensures.value ∙ told_of-whole c.args.number c.args.words.now in
    record { line = c.in_ok-line.ensures.text whole ∙ ap compact_text c.in_ok-told.ensures.value }
