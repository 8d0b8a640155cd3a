use Rattle.snippet_parts.proofs.Common.{◌≡◌, ◌-◌, ◌<◌, ℕ, ap, sym, ◌∙◌, length, arith, ltb-true, Source, source_lines}
use Rattle.snippet_parts.proofs.TableLemmas.{line_at-some}
use Rattle.snippet_parts.proofs.source_map.SourceMap.get_line.Goals as goal

pub returns-then-has_line-clause-stands : goal.returns-then-has_line-clause-stands
returns-then-has_line-clause-stands c =
    let first : c.self.inside.line_start ≡ c.args.self.now.first = ap (λ (s : Source). s.first) c.self.view_is in
    let lines : ℕ = length (source_lines c.args.self.now.text) in
    let there : c.in_ok-index.index < lines = ltb-true c.in_ok-index.index lines (sym c.has_line.ensures.value ∙ c.if-has_line.true) in
    (line_at-some c.args.self.now c.args.number c.in_ok-index.index c.text_of_line.result.now (omega (arith, c.in_ok-index.ensures.0, first))
    (c.in_ok-index.ensures.1 ∙ ap (λ n. c.args.number - n) first) there c.text_of_line.ensures.value).1
