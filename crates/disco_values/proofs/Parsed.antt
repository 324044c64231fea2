-- Texts of digits and the numbers that they spell.
use Rattle.std.proofs.Common.{◌≡◌, ℕ, ◌+◌, ◌*◌, ◌<◌, ◌≤◌, ◌^◌, ◌&&◌, length, true, false, Bool, cond, nat_lt, List, [], ◌∷◌, Option, None, Some, decimal, refl, ap, ◌∙◌, arith}
use Rattle.std.specs.List.{list_all}
use Rattle.std.specs.Char.{digit_value, is_ascii_digit}
use Rattle.std.specs.Str.{all_ascii_digits}
use Rattle.std.specs.Str.Parse.{digits_value, digits_value_after}
use Rattle.std.proofs.lemmas.Str.Parse.{IsNumeralModel, numerals_by_value, tells_all_ascii_digits}
use Rattle.std.proofs.lemmas.Fmt.{decimal_nonempty, digits_decimal, digits_value-decimal}
use Rattle.std.proofs.lemmas.Bool.Decides.{nat_tests}
use Rattle.disco_values.specs.Digits.{digits_number}

pub own : IsNumeralModel (λ ds. all_ascii_digits ds ≡ true) (digits_value 10)
own = numerals_by_value _ tells_all_ascii_digits

pub all_are_digits : (s : List ℕ) → list_all is_ascii_digit s ≡ all_ascii_digits s
all_are_digits [] = refl
all_are_digits (c ∷ cs) = ap (λ b. is_ascii_digit c && b) (all_are_digits cs)

-- the number that the rest of a text makes of the number in front of it
abbrev pub number_after : ℕ → List ℕ → Option ℕ
number_after n ds = cond (list_all is_ascii_digit ds && nat_lt (digits_value_after 10 n ds) (2 ^ 64)) (Some (digits_value_after 10 n ds)) None

pub nothing_left : (n : ℕ) → n < 2 ^ 64 → Some n ≡ number_after n []
nothing_left n small = grind (arith, nat_tests, small)

-- what follows makes no number smaller
grows : (n : ℕ) (ds : List ℕ) → n ≤ digits_value_after 10 n ds
grows n [] = omega arith
grows n (c ∷ cs) = omega (arith, grows (n * 10 + digit_value c) cs)

no_digit : (d e : Bool) (n : ℕ) → d ≡ false → None ≡ cond ((d && e) && nat_lt n (2 ^ 64)) (Some n) None
no_digit true e n not = absurd (cc)
no_digit false e n not = refl

too_large : (d : Bool) (n : ℕ) → 2 ^ 64 ≤ n → None ≡ cond (d && nat_lt n (2 ^ 64)) (Some n) None
too_large d n large = grind (arith, nat_tests, large)

-- where one more digit makes no number, no more digits do
pub no_more : (n c : ℕ) (cs : List ℕ) → ((is_ascii_digit c ≡ true) × (n * 10 + digit_value c < 2 ^ 64) → ⊥) → None ≡ number_after n (c ∷ cs)
no_more n c cs refute = by_digit (is_ascii_digit c) refl
  where
    by_digit : (d : Bool) → is_ascii_digit c ≡ d → None ≡ number_after n (c ∷ cs)
    by_digit false is = no_digit _ _ _ is
    by_digit true is = too_large _ _ (large (grows (n * 10 + digit_value c) cs) (λ small. refute (is, small)))
      where
        large : n * 10 + digit_value c ≤ digits_value_after 10 n (c ∷ cs) → (n * 10 + digit_value c < 2 ^ 64 → ⊥) → 2 ^ 64 ≤ digits_value_after 10 n (c ∷ cs)
        large more not = grind (arith, more, not)

by_value : (s : List ℕ) (n : ℕ) → 0 < length s → list_all is_ascii_digit s ≡ true → digits_value 10 s ≡ n → n < 2 ^ 64 → digits_number s ≡ Some n
by_value s n some all is small = grind (arith, nat_tests, some, all, is, small)

-- the digits of a number spell it
pub digits_again : (n : ℕ) → n < 2 ^ 64 → digits_number (decimal n) ≡ Some n
digits_again n small = by_value (decimal n) n (decimal_nonempty n small) (all_are_digits (decimal n) ∙ digits_decimal own n small) (digits_value-decimal own n small) small
