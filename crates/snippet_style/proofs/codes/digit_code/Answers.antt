use Rattle.std.proofs.Common.{◌≡◌, arith, refl}
use Rattle.std.specs.Fmt.{digits}
use Rattle.snippet_style.proofs.codes.digit_code.Goals as goal

pub returns-in-0 : goal.returns-in-0
unfolding digits
returns-in-0 c = record { text = rw c.in-0.is refl }

pub returns-in-1 : goal.returns-in-1
unfolding digits
returns-in-1 c = record { text = rw c.in-1.is refl }

pub returns-in-2 : goal.returns-in-2
unfolding digits
returns-in-2 c = record { text = rw c.in-2.is refl }

pub returns-in-3 : goal.returns-in-3
unfolding digits
returns-in-3 c = record { text = rw c.in-3.is refl }

pub returns-in-4 : goal.returns-in-4
unfolding digits
returns-in-4 c = record { text = rw c.in-4.is refl }

pub returns-in-5 : goal.returns-in-5
unfolding digits
returns-in-5 c = record { text = rw c.in-5.is refl }

pub returns-in-6 : goal.returns-in-6
unfolding digits
returns-in-6 c = record { text = rw c.in-6.is refl }

pub returns-in-7 : goal.returns-in-7
unfolding digits
returns-in-7 c = record { text = rw c.in-7.is refl }

pub returns-in-8 : goal.returns-in-8
unfolding digits
returns-in-8 c = record { text = rw c.in-8.is refl }

pub returns-in_default : goal.returns-in_default
unfolding digits
returns-in_default c =
    let is : c.args.number ≡ 9 = omega (arith, c.in_default, c.requires.small) in
    record { text = rw is refl }
