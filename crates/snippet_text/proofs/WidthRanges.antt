-- Characters that stand together in Unicode, and are all of one width.
use Rattle.std.proofs.Common.{◌≡◌, ◌∙◌, ℕ, ◌≤◌, ◌<◌, Bool, true, false, not, cond, eqb, leb, ltb, ◌||◌, ◌==◌, List, [], ◌∷◌}
use Rattle.std.proofs.Common.{refl, ap, arith, Some, None}
use Rattle.std.specs.Option.{unwrap_or}
use Rattle.std.proofs.lemmas.Bool.Decides.{nat_tests}
use Rattle.ucd_table.specs.Rows.{Range, in_ranges}
use Rattle.ucd_table.proofs.Computing.{tables}
use Rattle.ucd_table.proofs.Facts.{always, Stepped-always}
use Rattle.ucd_table.proofs.Stepped.{Stepped, of_ranges, zip_stepped}
use Rattle.ucd_table.proofs.StepsLemmas.{range_rows, rises_from}
use Rattle.unicode_width.proofs.KindLemmas.{kind_stepped}
use Rattle.unicode_width.specs.Kind.{kind}
use Rattle.unicode_width.specs.Width as unicode
use Rattle.unicode_width.specs.Width.{alone, of_kind}
use Rattle.unicode_width.specs.declared.kind.Kind.{Kind}
use Rattle.unicode_width.specs.declared.kind.Kind.TheVariants as kinds
use Rattle.snippet_text.specs.Normalized.{has_control_picture, is_bidirectional_control}
use Rattle.snippet_text.specs.Width.{char_width, is_replacement}

-- the width of each character of a kind, and 3 for the kind whose characters have rules of their own
abbrev kind_width : Kind → ℕ
kind_width kinds.Zero = 0
kind_width kinds.Wide = 2
kind_width kinds.EmojiModifier = 2
kind_width kinds.Emoji = 2
kind_width kinds.Single = 3
kind_width other = 1

alone_of : (c : ℕ) (k : Kind) (n : ℕ) → kind_width k ≡ n → n < 3 → (of_kind false c k).0 ≡ n
alone_of c kinds.Zero n is few = is
alone_of c kinds.Narrow n is few = is
alone_of c kinds.Wide n is few = is
alone_of c kinds.Ambiguous n is few = is
alone_of c kinds.Alef n is few = is
alone_of c kinds.KhmerLetter n is few = is
alone_of c kinds.TifinaghConsonant n is few = is
alone_of c kinds.LisuTone n is few = is
alone_of c kinds.RegionalIndicator n is few = is
alone_of c kinds.EmojiModifier n is few = is
alone_of c kinds.Emoji n is few = is
alone_of c kinds.Single n is few = absurd (omega (arith, is, few))

no_cond : {X : Type 0} (b : Bool) (x y : X) → b ≡ false → cond b x y ≡ y
no_cond b x y is = ap (λ c. cond c x y) is

yes_cond : {X : Type 0} (b : Bool) (x y : X) → b ≡ true → cond b x y ≡ x
yes_cond b x y is = ap (λ c. cond c x y) is

-- a character that isn't shown as another has the width of its kind
kept_width : (c n : ℕ) → 0xA0 ≤ c → (c == 0x200D) ≡ false → is_bidirectional_control c ≡ false → is_replacement c ≡ false → kind_width (kind c) ≡ n
    → n < 3 → char_width c ≡ n
unfolding char_width unicode.char_width alone
kept_width c n high joiner control replacement is few =
    no_cond (eqb c 0x9) 4 _ (grind (arith, nat_tests))
    ∙ no_cond (eqb c 0x200D) 0 _ joiner
    ∙ no_cond (has_control_picture c || eqb c 0x7F || is_bidirectional_control c) 1 _ (grind (arith, nat_tests, control))
    ∙ no_cond (is_replacement c) 1 _ replacement
    ∙ ap (λ o. unwrap_or o 1) (no_cond (ltb c 0x7F) _ _ (grind (arith, nat_tests))
    ∙ yes_cond (leb 0xA0 c) (Some (alone false c).0) None (grind (arith, nat_tests)))
    ∙ alone_of c (kind c) n is few

-- a character outside of some ranges, or of a kind of this width
abbrev is_wide_in : List Range → ℕ → ℕ → Bool
is_wide_in ranges n c = not (in_ranges ranges c) || (kind_width (kind c) == n)

abbrev wide_in_stepped : (ranges : List Range) (n : ℕ) → rises_from 0 (range_rows ranges) ≡ true → Stepped (is_wide_in ranges n)
wide_in_stepped ranges n rise =
    zip_stepped (λ inside k. not inside || (kind_width k == n)) (in_ranges ranges) kind (of_ranges ranges rise) kind_stepped

-- the kind of each character of the ranges has this width, if that holds of the steps of all
kind_width_in : (ranges : List Range) (n : ℕ) (rise : rises_from 0 (range_rows ranges) ≡ true)
    → always (is_wide_in ranges n) (wide_in_stepped ranges n rise) ≡ true → (c : ℕ) → c ≤ 0x10FFFF → in_ranges ranges c ≡ true → kind_width (kind c) ≡ n
kind_width_in ranges n rise all c valid inside =
    let told : is_wide_in ranges n c ≡ true = Stepped-always (is_wide_in ranges n) (wide_in_stepped ranges n rise) all c valid in
    grind (arith, nat_tests, told, inside)

abbrev zero_ranges : List Range
zero_ranges = (0x300, 0x337) ∷ (0x339, 0x36F) ∷ []

zero_rise : rises_from 0 (range_rows zero_ranges) ≡ true
unfolding rises_from
zero_rise = refl

zero_are : always (is_wide_in zero_ranges 0) (wide_in_stepped zero_ranges 0 zero_rise) ≡ true
unfolding tables kind_stepped
zero_are = refl

-- a character of these ranges is so wide
pub zero_width : (c : ℕ) → c ≤ 0x10FFFF → in_ranges zero_ranges c ≡ true → char_width c ≡ 0
unfolding in_ranges
zero_width c valid inside =
    kept_width c 0 (grind (arith, nat_tests, inside)) (grind (arith, nat_tests, inside)) (grind (arith, nat_tests, inside)) (grind (arith, nat_tests, inside))
    (kind_width_in zero_ranges 0 zero_rise zero_are c valid inside) (omega arith)

abbrev narrow_ranges : List Range
narrow_ranges = (0xAE, 0x2FF) ∷ (0x370, 0x482) ∷ []

narrow_rise : rises_from 0 (range_rows narrow_ranges) ≡ true
unfolding rises_from
narrow_rise = refl

narrow_are : always (is_wide_in narrow_ranges 1) (wide_in_stepped narrow_ranges 1 narrow_rise) ≡ true
unfolding tables kind_stepped
narrow_are = refl

-- a character of these ranges is so wide
pub narrow_width : (c : ℕ) → c ≤ 0x10FFFF → in_ranges narrow_ranges c ≡ true → char_width c ≡ 1
unfolding in_ranges
narrow_width c valid inside =
    kept_width c 1 (grind (arith, nat_tests, inside)) (grind (arith, nat_tests, inside)) (grind (arith, nat_tests, inside)) (grind (arith, nat_tests, inside))
    (kind_width_in narrow_ranges 1 narrow_rise narrow_are c valid inside) (omega arith)

abbrev wide_ranges : List Range
wide_ranges = (0x3041, 0x3096) ∷ (0x309B, 0x30FF) ∷ (0x3250, 0xA48C) ∷ (0xAC00, 0xD7A3) ∷ (0xFF01, 0xFF60) ∷ (0x1F442, 0x1F4FC) ∷ (0x1F5FB, 0x1F64F) ∷ []

wide_rise : rises_from 0 (range_rows wide_ranges) ≡ true
unfolding rises_from
wide_rise = refl

wide_are : always (is_wide_in wide_ranges 2) (wide_in_stepped wide_ranges 2 wide_rise) ≡ true
unfolding tables kind_stepped
wide_are = refl

-- a character of these ranges is so wide
pub wide_width : (c : ℕ) → c ≤ 0x10FFFF → in_ranges wide_ranges c ≡ true → char_width c ≡ 2
unfolding in_ranges
wide_width c valid inside =
    kept_width c 2 (grind (arith, nat_tests, inside)) (grind (arith, nat_tests, inside)) (grind (arith, nat_tests, inside)) (grind (arith, nat_tests, inside))
    (kind_width_in wide_ranges 2 wide_rise wide_are c valid inside) (omega arith)
