use Rattle.std.proofs.Common.{arith}
use Rattle.snippet_text_form.proofs.CauseLemmas.{is_shown-chars}
use Rattle.snippet_text_form.proofs.cause.is_shown.Goals as goal

pub returns : goal.returns
returns c = grind (arith, is_shown-chars, c.is_empty.ensures, c.as_str.result.now, c.as_str.utf8, c.as_str.ensures.value)
