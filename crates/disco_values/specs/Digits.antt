-- Whole numbers in decimal digits.
use Rattle.std.specs.Prelude.{ℕ, ◌^◌, not, ◌&&◌, List, length, ◌==◌, nat_lt, if◌then◌else◌, Option, Some, None}
use Rattle.std.specs.Char.{is_ascii_digit}
use Rattle.std.specs.List.{list_all}
use Rattle.std.specs.Str.Parse.{digits_value}

-- the number that a text of digits spells, up to 2 ^ 64 - 1
abbrev pub digits_number : List ℕ → Option ℕ
digits_number s = if not (length s == 0) && (list_all is_ascii_digit s && nat_lt (digits_value 10 s) (2 ^ 64)) then Some (digits_value 10 s) else None
