use Rattle.std.proofs.Common.{◌≡◌, refl, subst, sym}
use Rattle.std.specs.Io.KnownBytes.{Appends}
use Rattle.replay_run.specs.WrittenAnswer.{answer_text}
use Rattle.replay_run.specs.declared.lines.AnswerForm.{AnswerForm}
use Rattle.replay_run.specs.declared.lines.AnswerForm.TheVariants.{Json, Texts}
use Rattle.replay_run.proofs.lines.write_answer.Goals as goal

-- there are two forms
not_texts : (form : AnswerForm) → (form ≡ Texts → ⊥) → form ≡ Json
not_texts Json never = refl
not_texts Texts never = absurd (never refl)

pub returns-in-Texts : goal.returns-in-Texts
returns-in-Texts g c =
    record {
      answer = (
        c.in_ok-outcome.outcome,
        c.in_ok-outcome.ensures.outcome,
        subst (λ form. Appends (g.W.Write.contents c.args.out.now) (g.W.Write.contents c.write_report.new.out)
            (answer_text form c.args.is_first c.args.case.now.id.now c.in_ok-outcome.outcome)) (sym c.in-Texts.is) c.in_ok-write_report.ensures.text,
      );
    }

pub returns : goal.returns
returns g c =
    record {
      answer = (
        c.in_ok-outcome.outcome,
        c.in_ok-outcome.ensures.outcome,
        subst (λ form. Appends (g.W.Write.contents c.args.out.now) (g.W.Write.contents c.write_json.new.out)
            (answer_text form c.args.is_first c.args.case.now.id.now c.in_ok-outcome.outcome))
            (sym (not_texts c.args.form c.in_default.not-Texts)) c.in_ok-write_json.ensures.line,
      );
    }
