use Rattle.std.proofs.Common.{◌∙◌, ap, arith, take}
use Rattle.std.specs.Option.{unwrap_or}
use Rattle.std.proofs.lemmas.List.{length-take-le}
use Rattle.std.proofs.lemmas.Str.{IsUtf8-from_is_utf8, IsUtf8-take}
use Rattle.replay_read.specs.Stops.{units_in}
use Rattle.replay_read.specs.declared.span.SpanUnit.TheVariants.{Char}
use Rattle.replay_read.proofs.Units.{units_in-between, units_in-within}
use Rattle.replay_read.proofs.ruler.Ruler.units_before.Goals as goal

pub overflow_add-result : goal.overflow_add-result
overflow_add-result c =
    let ruler = c.args.self.now in
    let source = ruler.source.now in
    let unit = unwrap_or ruler.unit Char in
    let utf8 = IsUtf8-from_is_utf8 source ruler.text in
    let stop = c.last_stop-stop.ensures.stop in
    let between = units_in-between unit source c.last_stop-stop.result.byte c.args.byte utf8 stop.0 c.last_stop-stop.ensures.before in
    let counted = c.unit_count.ensures.value ∙ ap (λ u. units_in u c.range.result.now) c.column_unit.ensures.value ∙ ap (units_in unit) c.range.ensures.value in
    let within = units_in-within unit (take c.args.byte source) (IsUtf8-take source c.args.byte utf8 c.requires.border) in
    omega (arith, stop.1, between, counted, within, length-take-le c.args.byte source c.requires.border.0, c.ranges.byte.fits)

pub returns : goal.returns
returns c =
    let ruler = c.args.self.now in
    let source = ruler.source.now in
    let unit = unwrap_or ruler.unit Char in
    let stop = c.last_stop-stop.ensures.stop in
    let between = units_in-between unit source c.last_stop-stop.result.byte c.args.byte (IsUtf8-from_is_utf8 source ruler.text) stop.0
    c.last_stop-stop.ensures.before in
    let counted = c.unit_count.ensures.value ∙ ap (λ u. units_in u c.range.result.now) c.column_unit.ensures.value ∙ ap (units_in unit) c.range.ensures.value in
    record { value = omega (arith, stop.1, between, counted) }
