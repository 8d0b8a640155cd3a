use Rattle.std.proofs.Common.{Some, arith, inl, inr, refl}
use Rattle.std.proofs.lemmas.Str.Pattern.{strip_suffix_char}
use Rattle.redraw_run.proofs.json_value.without_feed.Goals as goal

pub returns-in-Some : goal.returns-in-Some
returns-in-Some c = record { cut = inr (strip_suffix_char 10 c.args.text.now (Some c.in-Some.rest) c.in-Some.ensures.cases (omega arith)) }

pub returns-in-None : goal.returns-in-None
returns-in-None c = record { cut = inl refl }
