use Rattle.std.specs.Option.{unwrap_or}
use Rattle.std.proofs.lemmas.Str.{IsUtf8-from_is_utf8}
use Rattle.replay_read.specs.declared.span.SpanUnit.TheVariants.{Char}
use Rattle.replay_read.proofs.Units.{stop-first}
use Rattle.replay_read.proofs.ruler.Ruler.last_stop.Goals as goal

pub returns-in_default-clause-stop : goal.returns-in_default-clause-stop
returns-in_default-clause-stop c =
    let ruler = c.args.self.now in
    stop-first (unwrap_or ruler.unit Char) ruler.source.now (IsUtf8-from_is_utf8 ruler.source.now ruler.text)

pub returns-in_default-2-clause-stop : goal.returns-in_default-2-clause-stop
returns-in_default-2-clause-stop c =
    let ruler = c.args.self.now in
    stop-first (unwrap_or ruler.unit Char) ruler.source.now (IsUtf8-from_is_utf8 ruler.source.now ruler.text)

pub returns-in_default-3-clause-stop : goal.returns-in_default-3-clause-stop
returns-in_default-3-clause-stop c =
    let ruler = c.args.self.now in
    stop-first (unwrap_or ruler.unit Char) ruler.source.now (IsUtf8-from_is_utf8 ruler.source.now ruler.text)
