use Rattle.replay_run.proofs.lines.text_of.Goals as goal

pub returns-in-Ok-case_text-clause-answers : goal.returns-in-Ok-case_text-clause-answers
returns-in-Ok-case_text-clause-answers c =
    let (outcome, became, is) = c.in-Ok-case_text.ensures.text in
    record { case = c.in-Ok.case; outcome = outcome; case_is = c.in-Ok.ensures.value; became = became; text_is = is }
