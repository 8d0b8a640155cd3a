-- Texts that are cut at what stands in them, and numbers that they are.
use Rattle.std.specs.Prelude.{ℕ, ◌-◌, ◌^◌, ◌&&◌, Bool, List, [], ◌∷◌, Option, Some, None, drop, eqb, length, nat_lt, option_map, take}
use Rattle.std.specs.Prelude.{if◌then◌else◌}
use Rattle.std.specs.Borrow.{Bor}
use Rattle.std.specs.Char.{is_ascii_digit}
use Rattle.std.specs.List.{ends_with, list_all, starts_with}
use Rattle.std.specs.Option.{option_or}
use Rattle.std.specs.Str.Parse.{digits_value}

-- what stands before something, and what stands after it
abbrev pub Parts : Type 0
Parts = List ℕ × List ℕ

abbrev pub lent_parts : Option (Bor (List ℕ) × Bor (List ℕ)) → Option Parts
lent_parts found = option_map (λ (p : Bor (List ℕ) × Bor (List ℕ)). (p.0.now, p.1.now)) found

-- what comes after these words at the start of a text, and before them at its end, where they stand there
abbrev pub after : List ℕ → List ℕ → Option (List ℕ)
after words text = if starts_with eqb text words then Some (drop (length words) text) else None

abbrev pub before : List ℕ → List ℕ → Option (List ℕ)
before words text = if ends_with eqb text words then Some (take (length text - length words) text) else None

-- a text that is cut at words with which it begins, and one that has one more byte before
abbrev pub parted_here : List ℕ → List ℕ → Option Parts
parted_here words text = option_map (λ rest. ([], rest)) (after words text)

abbrev pub with_byte : ℕ → Parts → Parts
with_byte b p = (b ∷ p.0, p.1)

-- what stands before and after the first place in a text where these words stand
abbrev pub parted : List ℕ → List ℕ → Option Parts
parted words [] = parted_here words []
parted words (b ∷ bs) = option_or (parted_here words (b ∷ bs)) (option_map (with_byte b) (parted words bs))

-- the same of the last place
abbrev pub parted_last : List ℕ → List ℕ → Option Parts
parted_last words [] = parted_here words []
parted_last words (b ∷ bs) = option_or (option_map (with_byte b) (parted_last words bs)) (parted_here words (b ∷ bs))

-- whether a text is decimal digits, one or more
abbrev pub is_numeral : List ℕ → Bool
is_numeral digits = nat_lt 0 (length digits) && list_all is_ascii_digit digits

-- the number that a text is, of decimal digits alone, if it fits in 64 bits
abbrev pub number_of : List ℕ → Option ℕ
number_of digits =
    if is_numeral digits && nat_lt (digits_value 10 digits) (2 ^ 64) then Some (digits_value 10 digits) else None
