use Rattle.std.proofs.Common.{◌-◌, arith, length}
use Rattle.snippet_text.proofs.PlainLemmas.{plain_overlapping}
use Rattle.snippet_text.proofs.plain.ends_are_plain.Goals as goal

pub returns-then-are_plain : goal.returns-then-are_plain
returns-then-are_plain c =
    let bytes = c.args.bytes.now in
    let last = length bytes - c.args.count in
    record {
      yes = λ is. plain_overlapping bytes c.args.count last (length bytes - last)
          (omega (arith, c.requires.meet)) (omega arith) (c.are_plain.ensures.yes c.if-are_plain.true) (c.are_plain-then-are_plain.ensures.yes is);
    }
