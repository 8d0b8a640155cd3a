use Rattle.std.proofs.Common.{arith, sym}
use Rattle.std.proofs.lemmas.Bool.Decides.{nat_tests}
use Rattle.ucd_table.specs.Rows.{in_ranges}
use Rattle.snippet_text.proofs.WidthRanges.{narrow_width, wide_width, zero_width}
use Rattle.snippet_text.proofs.width.common_width.Goals as goal

pub returns-in-768-to-823-clause-value : goal.returns-in-768-to-823-clause-value
unfolding in_ranges
returns-in-768-to-823-clause-value c = sym (zero_width c.args.c (omega arith) (grind (arith, nat_tests)))

pub returns-in-768-to-823-2-clause-value : goal.returns-in-768-to-823-2-clause-value
unfolding in_ranges
returns-in-768-to-823-2-clause-value c = sym (zero_width c.args.c (omega arith) (grind (arith, nat_tests)))

pub returns-in-174-to-767-clause-value : goal.returns-in-174-to-767-clause-value
unfolding in_ranges
returns-in-174-to-767-clause-value c = sym (narrow_width c.args.c (omega arith) (grind (arith, nat_tests)))

pub returns-in-174-to-767-2-clause-value : goal.returns-in-174-to-767-2-clause-value
unfolding in_ranges
returns-in-174-to-767-2-clause-value c = sym (narrow_width c.args.c (omega arith) (grind (arith, nat_tests)))

pub returns-in-12353-to-12438-clause-value : goal.returns-in-12353-to-12438-clause-value
unfolding in_ranges
returns-in-12353-to-12438-clause-value c = sym (wide_width c.args.c (omega arith) (grind (arith, nat_tests)))

pub returns-in-12353-to-12438-2-clause-value : goal.returns-in-12353-to-12438-2-clause-value
unfolding in_ranges
returns-in-12353-to-12438-2-clause-value c = sym (wide_width c.args.c (omega arith) (grind (arith, nat_tests)))

pub returns-in-12880-to-42124-clause-value : goal.returns-in-12880-to-42124-clause-value
unfolding in_ranges
returns-in-12880-to-42124-clause-value c = sym (wide_width c.args.c (omega arith) (grind (arith, nat_tests)))

pub returns-in-12880-to-42124-2-clause-value : goal.returns-in-12880-to-42124-2-clause-value
unfolding in_ranges
returns-in-12880-to-42124-2-clause-value c = sym (wide_width c.args.c (omega arith) (grind (arith, nat_tests)))

pub returns-in-65281-to-65376-clause-value : goal.returns-in-65281-to-65376-clause-value
unfolding in_ranges
returns-in-65281-to-65376-clause-value c = sym (wide_width c.args.c (omega arith) (grind (arith, nat_tests)))

pub returns-in-128066-to-128252-clause-value : goal.returns-in-128066-to-128252-clause-value
unfolding in_ranges
returns-in-128066-to-128252-clause-value c = sym (wide_width c.args.c (omega arith) (grind (arith, nat_tests)))

pub returns-in-128066-to-128252-2-clause-value : goal.returns-in-128066-to-128252-2-clause-value
unfolding in_ranges
returns-in-128066-to-128252-2-clause-value c = sym (wide_width c.args.c (omega arith) (grind (arith, nat_tests)))
