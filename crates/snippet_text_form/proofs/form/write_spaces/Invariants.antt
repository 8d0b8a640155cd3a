-- So many spaces were added.
use Rattle.snippet_text_form.proofs.Common.{◌≡◌, ◌++◌, replicate, string_bytes}
use Rattle.snippet_text_form.proofs.form.write_spaces.Given as goal

abbrev pub invariant-loop : goal.invariant-loop
invariant-loop l = string_bytes l.out ≡ string_bytes l.initial.out ++ replicate l.counter 32
