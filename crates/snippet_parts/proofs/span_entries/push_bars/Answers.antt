use Rattle.snippet_parts.proofs.Common.{◌+◌, ◌-◌, ◌≡◌, ℕ, ap, ◌∙◌, arith, bar_part, seen_long}
use Rattle.snippet_parts.proofs.EntryLemmas.{bars_more, bars-closed, bars-open}
use Rattle.snippet_parts.proofs.span_entries.push_bars.Goals as goal

pub loop-line-preserved : goal.loop-line-preserved
loop-line-preserved c =
    let f = λ (k : ℕ). bar_part (seen_long c.args.span) c.args.depth (c.args.source.now.first + k) in
    bars_more f c.args.entries.now.items c.loop-line.entries.items c.push.new.self.items c.bar_entry.result
    (c.args.span.start.line - c.line_start.result + 1)
    c.loop-line.line c.loop-line.auto.line c.in_ok-push.ensures.items
    (c.bar_entry.ensures.value ∙ ap (λ n. bar_part (seen_long c.args.span) c.args.depth (n + c.loop-line.line))
    c.line_start-in-loop-line.ensures.value) c.loop-line.invariant

pub returns-in_ok-push-2 : goal.returns-in_ok-push-2
returns-in_ok-push-2 c =
    let f = λ (k : ℕ). bar_part (seen_long c.args.span) c.args.depth (c.args.source.now.first + k) in
    let first : ℕ = c.args.span.start.line - c.args.source.now.first in
    let last : ℕ = c.args.span.end.line - c.args.source.now.first in
    let bars = c.requires.fit.bars in
    let from : c.args.span.start.line - c.line_start.result ≡ first = ap (λ n. c.args.span.start.line - n) c.line_start.ensures.value in
    let number : c.args.span.end.line - 1 ≡ c.args.source.now.first + (last - 1) = omega (arith, c.requires.fit.lines, c.requires.fit.from) in
    record {
      value = bars-closed f c.args.entries.now.items c.loop-line.entries.items c.push-then-span.new.self.items
          c.bar_entry-then-span.result c.args.source.now.text first last c.args.span.bars.end (c.args.span.start.line - c.line_start.result + 1)
          (c.loop-line.line - (c.args.span.start.line - c.line_start.result + 1))
          c.args.span.bars.closing c.if-span.true c.in_ok-push-2.ensures.items
          (c.bar_entry-then-span.ensures.value ∙ ap (bar_part (seen_long c.args.span) c.args.depth) number)
          c.loop-line.invariant (ap (λ n. n + 1) from) (omega (arith, bars.from, from)) bars.from bars.to bars.before bars.telling bars.closes;
    }

pub returns-else-span : goal.returns-else-span
returns-else-span c =
    let f = λ (k : ℕ). bar_part (seen_long c.args.span) c.args.depth (c.args.source.now.first + k) in
    let first : ℕ = c.args.span.start.line - c.args.source.now.first in
    let last : ℕ = c.args.span.end.line - c.args.source.now.first in
    let bars = c.requires.fit.bars in
    let from : c.args.span.start.line - c.line_start.result ≡ first = ap (λ n. c.args.span.start.line - n) c.line_start.ensures.value in
    record {
      value = bars-open f c.args.entries.now.items c.loop-line.entries.items c.args.source.now.text first last c.args.span.bars.end
          (c.args.span.start.line - c.line_start.result + 1)
          (c.loop-line.line - (c.args.span.start.line - c.line_start.result + 1)) c.args.span.bars.closing c.if-span.false
          c.loop-line.invariant (ap (λ n. n + 1) from) (omega (arith, bars.from, from)) bars.from bars.to bars.before bars.telling bars.closes;
    }
