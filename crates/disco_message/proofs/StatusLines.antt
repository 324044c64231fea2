-- The status lines of all codes.
use Rattle.std.proofs.Common.{◌≡◌, ℕ, zero, suc, ◌<◌, ◌≤◌, Bool, true, false, ◌&&◌, length, nat_le, refl, arith}
use Rattle.std.specs.Char.{is_ascii_digit}
use Rattle.std.specs.List.{list_all}
use Rattle.std.proofs.lemmas.Bool.Decides.{Decides-below_and, nat_tests}
use Rattle.http.specs.StatusCode.{code_digits}
use Rattle.httparse.specs.Grammar.{is_value_byte}
use Rattle.disco_message.specs.StatusLine.{phrase}

pub left_of : (a b : Bool) → (a && b) ≡ true → a ≡ true
left_of true b e = refl
left_of false b e = e

pub right_of : (a b : Bool) → (a && b) ≡ true → b ≡ true
right_of true b e = e
right_of false b e = absurd (let bad : false ≡ true = e in cc)

abbrev has_digits : ℕ → Bool
has_digits n = list_all is_ascii_digit (code_digits n)

abbrev has_text : ℕ → Bool
has_text n = list_all is_value_byte (phrase n)

abbrev is_short : ℕ → Bool
is_short n = nat_le (length (phrase n)) 31

abbrev is_good : ℕ → Bool
is_good n = has_digits n && (has_text n && is_short n)

abbrev good_below : ℕ → Bool
good_below zero = true
good_below (suc n) = is_good n && good_below n

good : (n : ℕ) → n < 1000 → is_good n ≡ true
good n h = (Decides-below_and is_good (λ k. is_good k ≡ true) good_below (λ k. (λ x. x, λ x. x)) refl (λ _. refl) 1000).0 refl n h

pub digits_good : (n : ℕ) → n < 1000 → list_all is_ascii_digit (code_digits n) ≡ true
digits_good n h = left_of (has_digits n) (has_text n && is_short n) (good n h)

pub phrase_good : (n : ℕ) → n < 1000 → list_all is_value_byte (phrase n) ≡ true
phrase_good n h = left_of (has_text n) (is_short n) (right_of (has_digits n) (has_text n && is_short n) (good n h))

pub phrase_short : (n : ℕ) → n < 1000 → length (phrase n) ≤ 31
phrase_short n h =
    let short : is_short n ≡ true = right_of (has_text n) (is_short n) (right_of (has_digits n) (has_text n && is_short n) (good n h)) in
    grind (arith, nat_tests, short)
