use Rattle.std.proofs.Common.{◌≡◌, ℕ, ◌≤◌, List, [], ◌∷◌, Bor, Some, length, get_or, drop, ap, arith}
use Rattle.program.specs.declared.options.Options.{Options}
use Rattle.snip_run.specs.Arguments.{Argument, arguments_at, Width}
use Rattle.snip_run.proofs.arguments.take_option.Goals as goal

-- two arguments, of which the first is known, and those after them
two_arguments : (ws : List (Bor Argument)) (d : Bor Argument) (name : Argument) → 2 ≤ length ws → (get_or ws 0 d).now ≡ name
    → arguments_at ws ≡ name ∷ (get_or ws 1 d).now ∷ arguments_at (drop 2 ws)
two_arguments [] d name h is = absurd (omega arith)
two_arguments (a ∷ []) d name h is = absurd (omega arith)
two_arguments (a ∷ b ∷ ws) d name h is = ap (λ (w : Argument). w ∷ b.now ∷ arguments_at ws) is

pub returns-in_ok-number_of-in-text-5-clause-taken : goal.returns-in_ok-number_of-in-text-5-clause-taken
returns-in_ok-number_of-in-text-5-clause-taken c =
    record {
      setting = Width _;
      sound = c.in_ok-number_of-in-text-5.ensures.digits.0;
      begins = two_arguments c.args.args.now _ _ c.in-text-5.len_at_least c.in-text-5.is-text;
      some = omega arith;
      within = c.in-text-5.len_at_least;
      options = ap (λ (n : ℕ). let o : Options = record c.args.options { width = Some n } in o) c.in_ok-number_of-in-text-5.ensures.digits.1;
    }
