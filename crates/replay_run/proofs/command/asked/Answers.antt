use Rattle.std.proofs.Common.{codes, sym, ◌∙◌}
use Rattle.clap.proofs.WalkLemmas.{first_value-rows}
use Rattle.clap.specs.Words.{found_of, rows_of}
use Rattle.replay_run.proofs.Asking.{asked_with_check, asked_without}
use Rattle.replay_run.proofs.command.asked.Goals as goal

pub returns-then-was_given : goal.returns-then-was_given
returns-then-was_given c =
    let found = found_of c.args.matches.now in
    let repeat = c.get_str-repeat.ensures ∙ first_value-rows found (codes "repeat") in
    record {
      value = c.check_of.ensures.value ∙ asked_with_check (rows_of found) _ _ _ _ c.was_given-texts.ensures.value c.was_given-keep_going.ensures.value
          repeat c.files_of-files.ensures.value (sym c.if-was_given.true ∙ c.was_given.ensures.value);
    }

pub returns-else-was_given : goal.returns-else-was_given
returns-else-was_given c =
    let found = found_of c.args.matches.now in
    let repeat = c.get_str-repeat.ensures ∙ first_value-rows found (codes "repeat") in
    record {
      value = c.draw_of.ensures.value ∙ asked_without (rows_of found) _ _ _ _ c.was_given-texts.ensures.value c.was_given-keep_going.ensures.value
          repeat c.files_of-files.ensures.value (sym c.if-was_given.false ∙ c.was_given.ensures.value);
    }
