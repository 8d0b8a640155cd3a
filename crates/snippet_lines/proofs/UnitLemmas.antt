-- How a text is walked along, unit by unit.
use Rattle.snippet_lines.proofs.Common.{◌≡◌, ℕ, ◌+◌, ◌-◌, ◌<◌, ◌≤◌, ◌==◌, true, false, List, [], ◌∷◌, nat_lt, length, sym}
use Rattle.snippet_lines.proofs.Common.{ap, ◌∙◌, arith, if◌then◌else◌, nat_tests, chars-nil, len_utf8, place_from, units_of, Place, ColumnUnit}
use Rattle.std.proofs.Common.{chars}

-- before a character that counts more than the units that are left
pub place_from-here : (unit : ColumnUnit) (at left c : ℕ) (cs rest : List ℕ) → cs ≡ c ∷ rest → left < units_of unit c
    → place_from unit at cs left ≡ record { byte = at; exact = left == 0 }
place_from-here unit at left c cs rest cons few =
    ap (λ cs. place_from unit at cs left) cons ∙ ap (λ t. if t then here else more) test
  where
    here : Place
    here = record { byte = at; exact = left == 0 }

    more : Place
    more = place_from unit (at + len_utf8 c) rest (left - units_of unit c)

    test : nat_lt left (units_of unit c) ≡ true
    test = grind (arith, nat_tests)

-- past one that counts no more
pub place_from-next : (unit : ColumnUnit) (at left c count bytes : ℕ) (cs rest : List ℕ) {p : Place} → cs ≡ c ∷ rest → count ≡ units_of unit c
    → bytes ≡ len_utf8 c
    → count ≤ left → place_from unit at cs left ≡ p → place_from unit (at + bytes) rest (left - count) ≡ p
place_from-next unit at left c count bytes cs rest {p} cons counts sized many is =
    let step = ap (λ cs. place_from unit at cs left) cons ∙ ap (λ t. if t then here else more) test in
    let same = ap (λ n. place_from unit (at + len_utf8 c) rest (left - n)) counts ∙ sym step in
    ap (λ n. place_from unit (at + n) rest (left - count)) sized ∙ same ∙ is
  where
    here : Place
    here = record { byte = at; exact = left == 0 }

    more : Place
    more = place_from unit (at + len_utf8 c) rest (left - units_of unit c)

    test : nat_lt left (units_of unit c) ≡ false
    test = grind (arith, nat_tests)

-- at the end
pub place_from-end : (unit : ColumnUnit) (at left : ℕ) (rest : List ℕ) (p : Place) → length rest ≡ 0 → place_from unit at (chars rest) left ≡ p
    → record { byte = at; exact = left == 0 } ≡ p
place_from-end unit at left [] p none is = ap (λ cs. place_from unit at cs left) (sym chars-nil) ∙ is
place_from-end unit at left (b ∷ rest) p none is = absurd (omega (arith, none))
