use Rattle.std.proofs.Common.{◌∙◌, ◌+◌, ◌-◌, ap, sym}
use Rattle.std.specs.Option.{option_map, unwrap_or}
use Rattle.std.proofs.lemmas.Str.{IsUtf8-from_is_utf8}
use Rattle.replay_read.specs.MarkerSpan.{byte_after}
use Rattle.replay_read.specs.declared.span.SpanUnit.TheVariants.{Char}
use Rattle.replay_read.proofs.Units.{byte_after-from}
use Rattle.replay_read.proofs.ruler.Ruler.byte_in.Goals as goal

pub returns-in-Some : goal.returns-in-Some
returns-in-Some c =
    let ruler = c.args.self.now in
    let unit = unwrap_or ruler.unit Char in
    let stop = c.stop_in-stop.result in
    let part = c.requires.part in
    let from = byte_after-from unit ruler.source.now c.args.part.start stop.byte c.args.part.end c.args.units stop.units
    (IsUtf8-from_is_utf8 ruler.source.now ruler.text) part.1 c.stop_in-stop.ensures.border c.stop_in-stop.ensures.after c.stop_in-stop.ensures.before
    c.stop_in-stop.ensures.units c.stop_in-stop.ensures.few in
    let found = c.byte_after.ensures.value ∙ ap (λ u. byte_after u c.range.result.now (c.args.units - stop.units)) c.column_unit.ensures.value
    ∙ ap (λ bytes. byte_after unit bytes (c.args.units - stop.units)) c.range.ensures.value in
    record { value = sym (from ∙ ap (option_map (λ byte. stop.byte + byte)) (sym found ∙ c.in-Some.is)) }

pub returns-in-None : goal.returns-in-None
returns-in-None c =
    let ruler = c.args.self.now in
    let unit = unwrap_or ruler.unit Char in
    let stop = c.stop_in-stop.result in
    let part = c.requires.part in
    let from = byte_after-from unit ruler.source.now c.args.part.start stop.byte c.args.part.end c.args.units stop.units
    (IsUtf8-from_is_utf8 ruler.source.now ruler.text) part.1 c.stop_in-stop.ensures.border c.stop_in-stop.ensures.after c.stop_in-stop.ensures.before
    c.stop_in-stop.ensures.units c.stop_in-stop.ensures.few in
    let found = c.byte_after.ensures.value ∙ ap (λ u. byte_after u c.range.result.now (c.args.units - stop.units)) c.column_unit.ensures.value
    ∙ ap (λ bytes. byte_after unit bytes (c.args.units - stop.units)) c.range.ensures.value in
    record { value = sym (from ∙ ap (option_map (λ byte. stop.byte + byte)) (sym found ∙ c.in-None.is)) }
