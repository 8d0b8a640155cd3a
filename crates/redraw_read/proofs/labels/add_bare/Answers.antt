use Rattle.std.proofs.lemmas.Grind.{common_steps}
use Rattle.std.proofs.Common.{◌∙◌, ◌++◌, ◌∷◌, [], List, ℕ, ap, sym, arith}
use Rattle.redraw_read.proofs.Targeted.{bare-more, bare-same}
use Rattle.redraw_read.proofs.labels.add_bare.Goals as goal

pub returns-in_ok-insert : goal.returns-in_ok-insert
returns-in_ok-insert c =
    record {
      added = λ spans are count. bare-more c.args.bare.now c.indices_out-indices.new.bare c.insert.new.self c.part_of-part.result c.push_back.new.self
          c.args.span.now spans c.args.index c.indices_out-indices.ensures.out c.in_ok-insert.ensures.updates c.part_of-part.ensures.of
          (sym c.is_bare.ensures.value ∙ c.if-is_bare.true) count
          (c.in_ok-push_back.ensures.items ∙ ap (λ (l : List ℕ). l ++ c.args.index ∷ []) c.indices_out-indices.ensures.value) are;
    }

pub returns-else-is_bare : goal.returns-else-is_bare
returns-else-is_bare c = grind (arith, common_steps, bare-same, c.is_bare.ensures.value, c.if-is_bare.false)
