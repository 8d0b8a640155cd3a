use Rattle.std.proofs.Common.{arith}
use Rattle.std.specs.Option.{unwrap_or}
use Rattle.std.proofs.lemmas.Str.{IsUtf8-from_is_utf8}
use Rattle.replay_read.specs.declared.span.SpanUnit.TheVariants.{Char}
use Rattle.replay_read.proofs.Units.{units_in-between, units_in-empty}
use Rattle.replay_read.proofs.ruler.Ruler.stop_in.Goals as goal

pub returns-then-is_empty-clause-units : goal.returns-then-is_empty-clause-units
returns-then-is_empty-clause-units c =
    units_in-empty (unwrap_or c.args.self.now.unit Char) c.args.self.now.source.now c.args.part.start

pub returns-then-stop-part-clause-units : goal.returns-then-stop-part-clause-units
returns-then-stop-part-clause-units c =
    units_in-empty (unwrap_or c.args.self.now.unit Char) c.args.self.now.source.now c.args.part.start

pub overflow_sub-result : goal.overflow_sub-result
overflow_sub-result c =
    let ruler = c.args.self.now in
    let between = units_in-between (unwrap_or ruler.unit Char) ruler.source.now c.args.part.start c.last_stop-stop.result.byte
    (IsUtf8-from_is_utf8 ruler.source.now ruler.text) c.requires.part.1 c.if-stop-part.false in
    omega (arith, between, c.units_before-before.ensures.value, c.last_stop-stop.ensures.stop.1)

pub returns-clause-units : goal.returns-clause-units
returns-clause-units c =
    let ruler = c.args.self.now in
    let between = units_in-between (unwrap_or ruler.unit Char) ruler.source.now c.args.part.start c.last_stop-stop.result.byte
    (IsUtf8-from_is_utf8 ruler.source.now ruler.text) c.requires.part.1 c.if-stop-part.false in
    omega (arith, between, c.units_before-before.ensures.value, c.last_stop-stop.ensures.stop.1)
