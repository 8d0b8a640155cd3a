use Rattle.std.proofs.Common.{refl, sym, arith}
use Rattle.snip_run.proofs.arguments.is_option_name.Goals as goal

pub returns-in-text-3 : goal.returns-in-text-3
returns-in-text-3 c =
    record { value = (λ _. (2, omega arith, sym c.in-text.is-text-3), λ _. refl) }

pub returns-in-text-4 : goal.returns-in-text-4
returns-in-text-4 c =
    record { value = (λ _. (3, omega arith, sym c.in-text.is-text-4), λ _. refl) }
