use Rattle.std.proofs.lemmas.Grind.{common_steps}
use Rattle.snippet_strokes.proofs.Common.{◌≡◌, ◌==◌, arith, true, ℕ, nat_tests, nil_from_length}
use Rattle.snippet_strokes.proofs.BarRows.{changed_same}
use Rattle.snippet_strokes.proofs.bars.draw_bars.Goals as goal

-- a number that the test calls zero
zero_told : (n : ℕ) → true ≡ (n == 0) → n ≡ 0
zero_told n is = grind (arith, nat_tests)

pub returns-then-is_empty : goal.returns-then-is_empty
returns-then-is_empty c = grind (arith, common_steps, nil_from_length, zero_told, changed_same)
