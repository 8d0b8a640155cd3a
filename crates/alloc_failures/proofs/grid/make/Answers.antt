use Rattle.std.proofs.Common.{lit<}
use Rattle.std.specs.Str.{chars}
use Rattle.alloc_failures.proofs.grid.make.Goals as goal

pub puts-requires-clause-end : goal.puts-requires-clause-end
unfolding chars
puts-requires-clause-end c = lit< tt
