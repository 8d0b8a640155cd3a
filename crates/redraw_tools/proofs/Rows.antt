-- Rows of what is shown, computed: of steps, of their labels and of messages with links; and wrong ones, which contradict it.
use Rattle.std.proofs.Common.{◌≡◌, refl, [], ◌∷◌, get_or, ap, arith}
use Rattle.std.specs.Prelude.{Some, None, codes, true}
use Rattle.std.specs.List.{range_with_len}
use Rattle.redraw_report.specs.declared.diagnostic.Severity.TheVariants.{Error, Warning}
use Rattle.redraw_tools.specs.Excerpt.{marked_width}
use Rattle.redraw_tools.specs.Heading.{heading_of}
use Rattle.redraw_tools.specs.Links.{without_links}
use Rattle.redraw_tools.specs.Said.{level_of, said_of}
use Rattle.redraw_tools.specs.Steps.{shown_steps}

-- of fourteen steps the fifth and the sixth aren't shown
fourteen : shown_steps 14 ≡ 0 ∷ 1 ∷ 2 ∷ 3 ∷ 6 ∷ 7 ∷ 8 ∷ 9 ∷ 10 ∷ 11 ∷ 12 ∷ 13 ∷ []
fourteen = refl

-- of twelve all are
twelve : shown_steps 12 ≡ range_with_len 0 12
twelve = refl

-- a body that shows the first twelve is refused
not_first : shown_steps 14 ≡ range_with_len 0 12 → ⊥
not_first same =
    let fifth : 6 ≡ 4 = ap (λ steps. get_or steps 4 0) same in
    omega (arith, fifth)

-- and so is one that shows the last twelve
not_last : shown_steps 14 ≡ range_with_len 2 12 → ⊥
not_last same =
    let first : 0 ≡ 2 = ap (λ steps. get_or steps 0 0) same in
    omega (arith, first)

-- a link is its text, in which an escaped bracket is that bracket
link : without_links 0 (codes "see [a\\[0\\]](12).") ≡ codes "see a[0]."
link = refl

-- a link to an address stays as it is written
address : without_links 0 (codes "[a](https://b.c)") ≡ codes "[a](https://b.c)"
address = refl

-- a body that leaves links as they are written is refused
not-written : without_links 0 (codes "[a](1)") ≡ codes "[a](1)" → ⊥
not-written same =
    let first : 97 ≡ 91 = ap (λ text. get_or text 0 0) same in
    omega (arith, first)

-- a line of GCC: where it is, and what it says
line : heading_of (codes "a.c:3:5: error: no x [-Wy]") ≡ Some record {
  drive = None;
  file = codes "a.c";
  line = 3;
  column = Some 5;
  text = codes "error: no x [-Wy]";
}
line = refl

level : level_of (codes "error") ≡ Some Error
level = refl

-- one of tsc, and one of pylint, which counts columns from 0
tsc : heading_of (codes "a.ts(3,5): x") ≡ Some record { drive = None; file = codes "a.ts"; line = 3; column = Some 5; text = codes "x" }
tsc = refl

pylint : said_of (codes "W0611: no x") ≡ record { severity = Warning; id = Some (codes "W0611"); message = codes "no x"; is_from_zero = true }
pylint = refl

-- marks after a gutter without a number are as wide as they stand from their caret on
marks : marked_width (codes "   | ~^~~ ") ≡ Some 3
marks = refl
