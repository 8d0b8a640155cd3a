use Rattle.std.proofs.Common.{length, ap, sym}
use Rattle.std.proofs.lemmas.Iterator.{YieldsList-from_chars}
use Rattle.std.proofs.lemmas.Iterator.Consumers.{count_from_yields_List}
use Rattle.std.proofs.lemmas.Str.{chars-IsAscii}
use Rattle.std.proofs.lemmas.Str.Ascii.{IsAscii-from_all}
use Rattle.snippet_style.proofs.cells.char_count.Goals as goal

pub returns-then-is_ascii : goal.returns-then-is_ascii
returns-then-is_ascii c =
    let ascii = IsAscii-from_all c.args.text.now (c.is_ascii.ensures.yes c.if-is_ascii.true) in
    record { value = ap length (sym (chars-IsAscii c.args.text.now ascii)) }

pub returns : goal.returns
returns c =
    record { value = count_from_yields_List c.chars.result c.count.result c.count.ensures.ran (YieldsList-from_chars c.args.text.now c.utf8.text cc) }
