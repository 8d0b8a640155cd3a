use Rattle.std.proofs.Common.{◌∙◌, ap, map, string_bytes, sym, ◌≡◌}
use Rattle.std.proofs.lemmas.Iterator.Consumers.{YieldsList-end}
use Rattle.std.proofs.lemmas.Iterator.Adapters.{YieldsList-from_vec}
use Rattle.std.proofs.lemmas.List.{map-id}
use Rattle.serde_json.specs.View.{items_view}
use Rattle.replay_answer.specs.Answer.{text_items}
use Rattle.replay_answer.proofs.Answering.{items_view-texts}
use Rattle.replay_answer.proofs.answer.values_of.Goals as goal

pub returns : goal.returns
returns c =
    let all = YieldsList-end (YieldsList-from_vec c.args.texts.items (cc)
    (cc)) c.loop-text.yielded c.loop-text.text-iterator c.loop-text.yielded_by c.next.result c.next.new.self c.in-None.is c.next.ensures.steps in
    let yielded : c.loop-text.yielded ≡ c.args.texts.items = sym (map-id c.loop-text.yielded) ∙ all.0 in
    record { items = ap items_view c.loop-text.invariant ∙ items_view-texts c.loop-text.yielded ∙ ap (λ texts. text_items (map string_bytes texts)) yielded }
