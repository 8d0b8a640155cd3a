use Rattle.snippet_parts.proofs.Common.{◌<◌, ◌||◌, ℕ, true, false, not, length, refl, subst, sym, All, list_any, source_lines, keeps}
use Rattle.snippet_parts.proofs.KeptLemmas.{all-kept, kept-within}
use Rattle.snippet_parts.proofs.kept.all_lines.Goals as goal

pub returns : goal.returns
returns c =
    let text = c.args.source.now.text in
    let count : ℕ = length (source_lines text) in
    record {
      value = λ marks. all-kept (λ k. not false || list_any (keeps text k) marks) count c.line_count-count.result c.in_ok-lines.lines.items
          c.push_lines.new.lines.items (λ k. refl) c.line_count-count.ensures.value c.in_ok-lines.ensures.items c.in_ok-push_lines.ensures.value;
      within = subst (All (λ k. k < count)) (sym (all-kept (λ k. true) count c.line_count-count.result c.in_ok-lines.lines.items
          c.push_lines.new.lines.items (λ k. refl) c.line_count-count.ensures.value c.in_ok-lines.ensures.items c.in_ok-push_lines.ensures.value))
          (kept-within (λ k. true) count);
    }
