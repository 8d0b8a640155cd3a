use Rattle.std.proofs.Common.{arith}
use Rattle.std.proofs.lemmas.Str.Pattern.{strip_prefix_char}
use Rattle.redraw_command.proofs.relative.after_slash.Goals as goal

pub returns : goal.returns
returns c = record { value = strip_prefix_char 47 _ _ c.strip_prefix.ensures.cases (omega arith) }
