use Rattle.std.proofs.Common.{List, ℕ, Option, String, Global, ap, nat_eq, sym, ◌∙◌}
use Rattle.std.specs.List.{starts_with}
use Rattle.std.proofs.lemmas.Str.Pattern.{starts_text}
use Rattle.redraw_command.specs.Files.{lies_in}
use Rattle.redraw_command.proofs.found.lies_in.Goals as goal

pub returns-in-Some : goal.returns-in-Some
returns-in-Some c =
    record {
      value = starts_text _ _ _ c.starts_with.ensures.cases
          ∙ ap (λ (start : List ℕ). starts_with nat_eq c.args.path.now start) c.as_str.ensures.value
          ∙ ap (λ (folder : Option (String Global)). lies_in folder c.args.path.now) (sym c.in-Some.is);
    }
