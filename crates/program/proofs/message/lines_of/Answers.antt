use Rattle.std.proofs.Common.{Bor, List, ℕ, String, Global, ap, arith, chars, map, string_bytes, sym, take, ◌++◌, ◌∷◌, [], ◌∙◌}
use Rattle.std.proofs.lemmas.List.{map_more, map_push, take_all}
use Rattle.program.specs.Message.{on_one_line}
use Rattle.program.proofs.message.lines_of.Goals as goal

abbrev line_of : Bor (List ℕ) → List ℕ
line_of text = on_one_line (chars text.now)

abbrev shown : String Global → List ℕ
shown line = chars (string_bytes line)

pub loop-text-preserved : goal.loop-text-preserved
loop-text-preserved c =
    let i = c.loop-text.text-index in
    let texts = c.args.texts.now in
    let line = c.in_ok-on_one_line.field-0 in
    ap (map shown) c.in_ok-push.ensures.items ∙ map_push shown c.loop-text.lines.items line
    ∙ ap (λ (l : List (List ℕ)). l ++ shown line ∷ []) c.loop-text.invariant
    ∙ ap (λ (x : List ℕ). map line_of (take i texts) ++ x ∷ []) c.in_ok-on_one_line.ensures.value
    ∙ sym (map_more line_of texts i _ c.loop-text-test.true)

pub returns : goal.returns
returns c =
    let texts = c.args.texts.now in
    record {
      value = c.loop-text.invariant ∙ ap (map line_of) (take_all c.loop-text.text-index texts (omega (arith, c.loop-text-test.false)));
    }
