-- Names as the lines have them (this project's own format; the escapes are those of RFC 3986, section 2.1).
use Rattle.std.specs.Prelude.{ℕ, Bool, List, [], ◌∷◌, ◌||◌, ◌==◌, if◌then◌else◌, flat_map}
use Rattle.std.specs.Char.{is_ascii_alphanumeric}
use Rattle.percent_encoding.specs.Percent.{percent_encode_byte}

-- an ASCII letter, a digit or one of `-._:~`
abbrev pub is_shown : ℕ → Bool
is_shown b = is_ascii_alphanumeric b || (b == 45 || (b == 46 || (b == 95 || (b == 58 || b == 126))))

-- such a byte stays, and each other one is `%` and two upper-case hexadecimal digits
unfoldable pub shown_name : List ℕ → List ℕ
shown_name name = flat_map (λ b. if is_shown b then b ∷ [] else percent_encode_byte b) name
