use Rattle.std.proofs.Common.{◌≢◌, Some, None, refl, arith, inl}
use Rattle.std.proofs.lemmas.List.Elements.{All-from_get_or}
use Rattle.std.proofs.lemmas.Str.Pattern.{rfind_char}
use Rattle.redraw_read.proofs.Offered.{start-after}
use Rattle.redraw_read.proofs.offers.last_start.Goals as goal

pub returns-in-Some : goal.returns-in-Some
returns-in-Some c =
    record { is = start-after c.args.text.now c.in-Some.feed (rfind_char 10 c.args.text.now (Some c.in-Some.feed) c.in-Some.ensures.cases (omega arith)) }

pub returns-in-None : goal.returns-in-None
returns-in-None c =
    let none = rfind_char 10 c.args.text.now None c.in-None.ensures.cases (omega arith) in
    record { is = record { within = omega arith; starts = inl refl; last = All-from_get_or (λ b. b ≢ 10) c.args.text.now 0 none } }
