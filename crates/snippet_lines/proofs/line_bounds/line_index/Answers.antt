use Rattle.snippet_lines.proofs.Common.{common_steps, ◌≡◌, ◌+◌, ◌∙◌, ℕ, List, min, take, length, ap, arith, newline_count}
use Rattle.snippet_lines.proofs.IndexLemmas.{line_of-count}
use Rattle.snippet_lines.proofs.line_bounds.line_index.Goals as goal

-- a front that ends after the text is the text, wherever it ends
same : (source : List ℕ) (byte at : ℕ) → at ≡ min byte (length source) → take (at + 1) source ≡ take (byte + 1) source
same source byte at is = grind (arith, common_steps)

pub returns : goal.returns
returns c =
    let source : List ℕ = c.args.source.now in
    record {
      value = c.newline_count_before.ensures.value
          ∙ ap newline_count (same source c.args.byte c.min.result c.min.ensures) ∙ line_of-count source c.args.byte;
    }
