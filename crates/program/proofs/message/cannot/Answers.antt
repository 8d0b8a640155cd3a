use Rattle.std.proofs.Common.{◌≡◌, ◌++◌, ap, codes, string_bytes, ◌∙◌}
use Rattle.std.proofs.lemmas.Result.{IfOk-weaker}
use Rattle.program.specs.Message.{cannot}
use Rattle.program.proofs.message.cannot.Goals as goal

pub returns : goal.returns
returns c =
    let shown = c.in_ok-shown.shown in
    let program = c.args.program.now in
    let verb = c.args.verb.now in
    record {
      value = IfOk-weaker c.format.result (λ text. string_bytes text ≡ program ++ (codes ": cannot " ++ (verb ++ (codes " " ++ string_bytes shown))))
          (λ text. string_bytes text ≡ cannot program verb c.args.name.now)
          (λ text same. same ∙ ap (λ name. program ++ (codes ": cannot " ++ (verb ++ (codes " " ++ name)))) c.in_ok-shown.ensures.value)
          c.format.ensures.ok;
    }
