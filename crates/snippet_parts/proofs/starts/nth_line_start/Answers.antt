use Rattle.snippet_parts.proofs.Common.{◌≡◌, ◌+◌, ◌∙◌, List, ap, sym, arith, Line, source_lines, start_of, line_of, start_of-zero}
use Rattle.snippet_parts.proofs.Common.{line_of-start}
use Rattle.snippet_parts.proofs.starts.nth_line_start.Goals as goal

pub loop-line-init : goal.loop-line-init
loop-line-init c = sym (start_of-zero (source_lines c.args.source.now))

pub loop-line-preserved : goal.loop-line-preserved
loop-line-preserved c =
    let ls : List Line = source_lines c.args.source.now in
    let here : line_of ls c.loop-line.start ≡ c.loop-line.line = ap (line_of ls) c.loop-line.invariant
    ∙ line_of-start c.args.source.now c.loop-line.line (omega (arith, c.loop-line-test.true, c.loop-line.auto.line-end, c.requires.within)) in
    c.line_bounds-start.ensures.end ∙ ap (λ k. start_of ls (k + 1)) here
