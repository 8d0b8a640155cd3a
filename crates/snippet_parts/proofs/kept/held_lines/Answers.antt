use Rattle.snippet_parts.proofs.Common.{common_steps, arith, rules, subst, sym, IsNonDecreasingBy, IsNonDecreasingBy-from_sort_by_key, Stretch}
use Rattle.snippet_parts.proofs.KeptLemmas.{held-permuted}
use Rattle.snippet_parts.proofs.kept.held_lines.Goals as goal

pub merged_lines-requires : goal.merged_lines-requires
merged_lines-requires c = record {
  sorted = subst (IsNonDecreasingBy (λ (s : Stretch). s.first)) (sym c.deref.ensures.value)
      (IsNonDecreasingBy-from_sort_by_key (λ (s : Stretch). s.first) c.sort_by_key.new.self.items c.in_ok-sort_by_key.ensures.sorted (λ a r q k. search rules));
}

pub returns : goal.returns
returns c = grind (arith, common_steps, c.deref.ensures.value, held-permuted, c.sort_by_key.ensures.permutation, c.merged_lines.ensures.value)
