use Rattle.std.proofs.lemmas.Grind.{common_steps}
use Rattle.snippet_text_form.proofs.Common.{List, ℕ, subst, sym, string_bytes, arith, IsUtf8-string_bytes, BeginsWith-added, AreMarks, FormMark}
use Rattle.snippet_text_form.proofs.MarkLemmas.{AreMarks-grown, AreMarks-mark, pieces-mark}
use Rattle.snippet_text_form.proofs.form.push_mark.Goals as goal

pub returns-in_err-push-clause-marks : goal.returns-in_err-push-clause-marks
returns-in_err-push-clause-marks c =
    let old : List ℕ = string_bytes c.args.text.now in
    let new : List ℕ = string_bytes c.push_some.new.out in
    subst (λ (ms : List FormMark). AreMarks new 0 ms) (sym c.in_err-push.ensures.items)
    (AreMarks-grown old new 0 c.args.marks.now.items (BeginsWith-added old c.args.word.now new c.in_ok-push_some.ensures.bytes) c.requires.marks)

pub returns : goal.returns
returns c = grind (arith, common_steps, pieces-mark, IsUtf8-string_bytes, AreMarks-mark)
