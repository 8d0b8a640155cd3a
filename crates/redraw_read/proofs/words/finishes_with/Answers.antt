use Rattle.std.proofs.lemmas.Str.Pattern.{ends_text}
use Rattle.redraw_read.proofs.words.finishes_with.Goals as goal

pub returns : goal.returns
returns c = record { value = ends_text _ _ _ c.ends_with.ensures.cases }
