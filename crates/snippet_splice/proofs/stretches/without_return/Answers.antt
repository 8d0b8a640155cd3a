use Rattle.snippet_splice.proofs.Common.{None, sym, lit<, strip_suffix_char, rules}
use Rattle.snippet_splice.proofs.StretchLemmas.{without_cr-stays}
use Rattle.snippet_splice.proofs.stretches.without_return.Goals as goal

pub returns-in-Some : goal.returns-in-Some
returns-in-Some c = search rules

pub returns-in-None : goal.returns-in-None
returns-in-None c =
    record {
      value = sym (without_cr-stays c.args.piece.now (strip_suffix_char 13 c.args.piece.now None c.in-None.ensures.cases (lit< tt)));
    }
