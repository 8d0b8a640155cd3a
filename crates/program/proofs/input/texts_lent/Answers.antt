use Rattle.std.proofs.Common.{Bor, Global, List, String, ap, arith, map, string_bytes, sym, take, ◌++◌, ◌∷◌, [], ◌∙◌}
use Rattle.std.proofs.lemmas.List.{map_more, map_push, take_all}
use Rattle.program.specs.Arguments.{Argument}
use Rattle.program.proofs.input.texts_lent.Goals as goal

abbrev argument : Bor Argument → Argument
argument reference = reference.now

pub loop-text-preserved : goal.loop-text-preserved
loop-text-preserved c =
    let i = c.loop-text.text-index in
    let texts = c.args.texts.now in
    let text = c.as_str.result in
    ap (map argument) c.in_ok-push.ensures.items ∙ map_push argument c.loop-text.lent.items text
    ∙ ap (λ (l : List Argument). l ++ text.now ∷ []) c.loop-text.invariant
    ∙ ap (λ (x : Argument). map string_bytes (take i texts) ++ x ∷ []) c.as_str.ensures.value
    ∙ ap (λ (s : String Global). map string_bytes (take i texts) ++ string_bytes s ∷ []) c.text-item.is
    ∙ sym (map_more string_bytes texts i _ c.loop-text-test.true)

pub returns : goal.returns
returns c =
    let texts = c.args.texts.now in
    record { texts = c.loop-text.invariant ∙ ap (map string_bytes) (take_all c.loop-text.text-index texts (omega (arith, c.loop-text-test.false))) }
