use Rattle.snippet_parts.proofs.Common.{◌≡◌, ◌+◌, ◌-◌, ◌∙◌, List, ℕ, ap, take, arith, Source, newline_count, source_lines, line_of}
use Rattle.snippet_parts.proofs.Common.{line_of-last}
use Rattle.snippet_parts.proofs.counted.counted_number.Goals as goal

pub returns : goal.returns
returns c =
    let s : Source = c.args.map.now in
    let end : ℕ = c.reached_end-end.result in
    let last : c.saturating_sub.result ≡ end - 1 = omega (arith, c.saturating_sub.ensures) in
    let counted : c.line_index_of.result ≡ newline_count (take end s.text) = c.line_index_of.ensures.value
    ∙ ap (line_of (source_lines s.text)) last ∙ line_of-last s.text end in
    record {
      value = c.line_number_of.ensures.value ∙ ap (λ n. s.first + n) counted ∙ ap (λ (t : Source). t.first + newline_count (take end t.text)) c.requires.map
          ∙ ap (λ (bytes : List ℕ). c.args.snippet.now.line_start + newline_count bytes) c.reached_end-end.ensures.value;
    }
