use Rattle.std.proofs.lemmas.Grind.{common_steps}
use Rattle.snippet_text_form.proofs.Common.{string_bytes, IsUtf8-string_bytes, arith}
use Rattle.snippet_text_form.proofs.MarkLemmas.{AreMarks-grown, BeginsWith-pushed, text_pushed-on_ok}
use Rattle.snippet_text_form.proofs.form.TextForm.add_text.Goals as goal

pub invariant_of-self : goal.invariant_of-self
invariant_of-self c =
    AreMarks-grown (string_bytes c.self.inside.text) (string_bytes c.push_str.new.self) 0 c.self.inside.marks.items
    (BeginsWith-pushed c.push_str.result (string_bytes c.self.inside.text) (string_bytes c.push_str.new.self) c.args.text.now c.push_str.ensures.bytes)
    c.self.invariant

pub returns : goal.returns
returns c = grind (arith, common_steps, text_pushed-on_ok, IsUtf8-string_bytes)
