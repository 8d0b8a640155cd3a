use Rattle.std.proofs.Common.{◌∙◌, sym}
use Rattle.replay_read.proofs.Lines.{placed-on}
use Rattle.replay_read.proofs.ruler.Ruler.placed.Goals as goal

pub returns-in-Some : goal.returns-in-Some
returns-in-Some c =
    record {
      value = placed-on c.args.self.now.source.now c.args.self.now.unit c.args.place c.in-Some.line c.byte_in.result c.if-place-eq0.false c.if-place-eq0-2.false
          (sym c.in-Some.is ∙ c.line_at.ensures.value) c.byte_in.ensures.value;
    }
