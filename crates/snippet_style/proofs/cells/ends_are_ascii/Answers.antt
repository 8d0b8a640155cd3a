use Rattle.std.proofs.Common.{◌-◌, ◌<◌, arith, length}
use Rattle.snippet_style.proofs.ByteLemmas.{All-overlapping}
use Rattle.snippet_style.proofs.cells.ends_are_ascii.Goals as goal

pub returns-then-are_ascii : goal.returns-then-are_ascii
returns-then-are_ascii c =
    let bytes = c.args.bytes.now in
    let last = length bytes - c.args.count in
    record {
      yes = λ is. All-overlapping (λ b. b < 128) bytes c.args.count last (length bytes - last)
          (omega (arith, c.requires.meet)) (omega arith) (c.are_ascii.ensures.yes c.if-are_ascii.true) (c.are_ascii-then-are_ascii.ensures.yes is);
    }
