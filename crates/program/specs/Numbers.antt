-- Numbers that arguments write.
use Rattle.std.specs.Prelude.{ℕ, ◌<◌, ◌^◌, ◌&&◌, Option, Some, None, if◌then◌else◌, nat_lt}
use Rattle.std.specs.Str.Parse.{IsNumeral, digits_value, without_leading_plus}
use Rattle.clap.specs.ValueTests.{is_numeral}
use Rattle.program.specs.Arguments.{Argument}

-- decimal digits alone, one or more, whose number fits in 64 bits
abbrev pub IsNumber : Argument → Type 0
IsNumber argument = IsNumeral 10 argument × (digits_value 10 argument < 2 ^ 64)

-- the number that an argument of decimal digits writes
abbrev pub number_in : Argument → ℕ
number_in argument = digits_value 10 argument

-- the number that an argument of decimal digits alone writes, where it fits in 64 bits
abbrev pub number_of : Argument → Option ℕ
number_of argument = if is_numeral argument && nat_lt (number_in argument) (2 ^ 64) then Some (number_in argument) else None

-- the same of an argument in which a plus may stand before the digits
abbrev pub number_after_plus : Argument → Option ℕ
number_after_plus argument = number_of (without_leading_plus argument)
