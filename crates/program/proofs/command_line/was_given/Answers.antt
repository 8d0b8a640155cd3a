use Rattle.std.proofs.Common.{Bool, List, Option, ap, bytes_eq, codes, false, ℕ, ◌∙◌}
use Rattle.std.specs.Option.{option_map_or}
use Rattle.clap.specs.Words.{found_of}
use Rattle.clap.proofs.WalkLemmas.{first_value-rows}
use Rattle.program.proofs.command_line.was_given.Goals as goal

abbrev is_true : Option (List ℕ) → Bool
is_true value = option_map_or (λ text. bytes_eq text (codes "true")) value false

pub returns-in-Some : goal.returns-in-Some
returns-in-Some c =
    record { value = c.eq.ensures ∙ ap is_true (c.in-Some.ensures ∙ first_value-rows (found_of c.args.matches.now) c.args.name.now) }

pub returns-in-None : goal.returns-in-None
returns-in-None c =
    record { value = ap is_true (c.in-None.ensures ∙ first_value-rows (found_of c.args.matches.now) c.args.name.now) }
