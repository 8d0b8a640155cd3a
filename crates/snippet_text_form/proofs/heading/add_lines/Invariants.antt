-- The lines so far were added, and the columns of what stands before them are known where they were asked for.
use Rattle.snippet_text_form.proofs.Common.{◌≡◌, IfSome, width_of, heading_label}
use Rattle.snippet_text_form.proofs.SplitForm.{with_lines}
use Rattle.snippet_text_form.proofs.heading.add_lines.Given as goal

abbrev pub invariant-loop-index : goal.invariant-loop-index
invariant-loop-index g l =
    let columns = width_of (heading_label l.kind ((goal.MessageOrTitle-dyn g l.heading.now).heading_of l.heading.now.1)) in
    (l.form ≡ with_lines l.initial.form l.role columns l.trusted l.yielded) × IfSome l.width (λ known. known ≡ columns)
