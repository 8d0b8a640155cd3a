use Rattle.std.proofs.Common.{arith}
use Rattle.std.proofs.lemmas.Str.{IsCharBoundary-end, IsCharBoundary-start, IsUtf8-from_is_utf8}
use Rattle.replay_read.proofs.ruler.Ruler.counted.Goals as goal

pub byte_in-requires : goal.byte_in-requires
byte_in-requires c =
    let ruler = c.args.self.now in
    record {
      part = (
        omega arith,
        IsCharBoundary-start ruler.source.now (IsUtf8-from_is_utf8 ruler.source.now ruler.text),
        IsCharBoundary-end ruler.source.now,
      );
    }
