use Rattle.snippet_suggest.proofs.Common.{◌≡◌, ◌<◌, ◌≤◌, ℕ, ltb, leb, ◌&&◌, arith, nat_tests}
use Rattle.snippet_suggest.proofs.shown_lines.touch_range.Goals as goal

-- the lines of a range that the loop has passed are all of it
passed : (first last k line : ℕ) → (k ≤ last → k < line) → (leb first k && (leb k last && ltb k line)) ≡ (leb first k && leb k last)
passed first last k line all = grind (arith, nat_tests)

pub returns-clause-value : goal.returns-clause-value
returns-clause-value c = grind (arith, c.loop-line.invariant, c.args.touched.now, c.args.range.first, c.args.range.last, c.loop-line.line)
