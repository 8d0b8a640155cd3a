use Rattle.std.proofs.Common.{◌≡◌, ◌∙◌, true, ap, sym, arith, length, tests}
use Rattle.std.specs.Prelude.{◌==◌, if◌then◌else◌}
use Rattle.std.specs.Str.Lossy.{utf8_valid_len}
use Rattle.std.proofs.lemmas.Str.{utf8_valid_len-IsUtf8}
use Rattle.redraw_tools.proofs.uri.text_or.Goals as goal

pub returns-in-Ok : goal.returns-in-Ok
returns-in-Ok c =
    let bytes = c.args.bytes.now in
    let all : utf8_valid_len bytes ≡ length bytes = utf8_valid_len-IsUtf8 bytes c.in-Ok.ensures.cases.1 in
    let test : (utf8_valid_len bytes == length bytes) ≡ true = grind (arith, tests) in
    record { value = c.in-Ok.ensures.cases.0 ∙ sym (ap (λ t. if t then bytes else c.args.other.now) test) }
