-- Digits are ASCII, so bytes that are no UTF-8 spell no number.
use Rattle.std.proofs.Common.{◌≡◌, ℕ, ◌<◌, true, false, Bool, List, None, refl, arith}
use Rattle.std.specs.List.{list_all}
use Rattle.std.specs.Char.{is_ascii_digit}
use Rattle.std.specs.Str.{IsUtf8}
use Rattle.std.proofs.lemmas.Str.{IsUtf8-from_ascii}
use Rattle.std.proofs.lemmas.Str.Ascii.{IsAscii-from_all}
use Rattle.std.proofs.lemmas.List.Sums.{AllPass-from_list_all}
use Rattle.std.proofs.lemmas.List.Elements.{All-weaker}
use Rattle.std.proofs.lemmas.Bool.Decides.{nat_tests}
use Rattle.disco_values.specs.Digits.{digits_number}

digit_small : (b : ℕ) → is_ascii_digit b ≡ true → b < 128
digit_small b h = grind (arith, nat_tests, h)

pub not_digits : (s : List ℕ) → (IsUtf8 s → ⊥) → None ≡ digits_number s
not_digits s bad = by (list_all is_ascii_digit s) refl
  where
    by : (b : Bool) → list_all is_ascii_digit s ≡ b → None ≡ digits_number s
    by true e = absurd (bad (IsUtf8-from_ascii s (IsAscii-from_all s (All-weaker (λ b. is_ascii_digit b ≡ true) (λ b. b < 128) digit_small s (AllPass-from_list_all is_ascii_digit s e)))))
    by false e = grind (arith, nat_tests, e)
