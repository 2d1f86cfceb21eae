-- Numbers in text.
use Rattle.std.specs.Prelude.{ℕ, ◌^◌, ◌&&◌, nat_lt, List, Option, Some, None, if◌then◌else◌}
use Rattle.std.specs.Str.{all_ascii_digits}
use Rattle.std.specs.Str.Parse.{digits_value}

-- a word of decimal digits, below 2^64
abbrev pub number_in : List ℕ → Option ℕ
number_in word = if all_ascii_digits word && nat_lt (digits_value 10 word) (2 ^ 64) then Some
    (digits_value 10 word) else None
