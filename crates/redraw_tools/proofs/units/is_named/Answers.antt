use Rattle.std.proofs.Common.{◌≡◌, Bool, true, false, refl, sym, map}
use Rattle.std.specs.Char.{to_ascii_lowercase}
use Rattle.std.proofs.lemmas.Slice.Eq.{bytes_eq-Decides}
use Rattle.redraw_tools.proofs.units.is_named.Goals as goal

same : (a b : Bool) → (a ≡ true → b ≡ true) → (b ≡ true → a ≡ true) → a ≡ b
same true true p q = refl
same true false p q = sym (p refl)
same false true p q = q refl
same false false p q = refl

pub returns : goal.returns
returns c =
    let one = map to_ascii_lowercase c.args.name.now in
    let other = map to_ascii_lowercase c.args.known.now in
    let decides = bytes_eq-Decides one other in
    record { value = same _ _ (λ p. decides.1 (c.eq_ignore_ascii_case.ensures.test.0 p)) (λ p. c.eq_ignore_ascii_case.ensures.test.1 (decides.0 p)) }
