use Rattle.std.proofs.Common.{arith, length, ap, refl, sym, true, ◌∙◌}
use Rattle.output_stream.specs.Standing.{known}
use Rattle.output_stream.proofs.Writing.{failed_before, first_failure}
use Rattle.output_stream.proofs.Parts.{some_left}
use Rattle.output_stream.proofs.stream.Stream.write.Goals as goal

pub returns-then-self-clause-cut : goal.returns-then-self-clause-cut
returns-then-self-clause-cut g c =
    failed_before (known g.W.Write.contents c.args.self.now) c.args.bytes.now c.if-self.true
    (λ none. omega (arith, ap length none, some_left (length c.args.bytes.now) (sym c.is_empty.ensures ∙ c.if-is_empty.false)))

pub returns-in-Err-clause-cut : goal.returns-in-Err-clause-cut
returns-in-Err-clause-cut g c =
    first_failure (known g.W.Write.contents c.args.self.now)
    (known g.W.Write.contents record { writer = c.write_whole.new.out; has_failed = true }) c.args.bytes.now c.if-self.false refl
    c.in-Err.ensures.cut
