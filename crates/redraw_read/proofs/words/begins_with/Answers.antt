use Rattle.std.proofs.lemmas.Str.Pattern.{starts_text}
use Rattle.redraw_read.proofs.words.begins_with.Goals as goal

pub returns : goal.returns
returns c = record { value = starts_text _ _ _ c.starts_with.ensures.cases }
