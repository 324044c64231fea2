-- A certificate that is spelled is read as itself.
use Rattle.std.proofs.Common.{◌≡◌, ℕ, zero, suc, ◌+◌, ◌/◌, ◌%◌, ◌<◌, Bool, true, false, List, [], ◌∷◌, ◌++◌, take, drop, Some, codes, ◌==◌, if◌then◌else◌, refl, ap, ◌∙◌, arith, append_assoc}
use native.Mathlib.Numerals.{unary_clauses}
use Rattle.std.specs.Char.{is_ascii_digit}
use Rattle.std.specs.Fmt.{decimal, digit_glyph, digits, digits_onto}
use Rattle.std.specs.List.{after_first, before_first, list_all}
use Rattle.std.proofs.lemmas.Bool.Decides.{nat_tests}
use Rattle.disco_values.specs.Digits.{digits_number}
use Rattle.disco_values.proofs.Parsed.{digits_again}
use Rattle.disco_values.specs.declared.cert.Cert.{Cert}
use Rattle.disco_message.specs.Certificate.{behind_space, cert_by, cert_spelled, is_blank}
use Rattle.disco_message.specs.Laws.{IsInRange}

-- run, base and version as they are written
abbrev pub cert_text : Cert → List ℕ
cert_text c = decimal c.run ++ codes " " ++ decimal c.base ++ codes " " ++ decimal c.version

-- ---- numbers

onto_digits : (k n : ℕ) (ds : List ℕ) → list_all is_ascii_digit ds ≡ true → list_all is_ascii_digit (digits_onto k 10 false n ds) ≡ true
onto_digits zero n ds all = all
onto_digits (suc k) n ds all = by (n / 10 == 0) (onto_digits k (n / 10) (digit_glyph false (n % 10) ∷ ds) more)
  where
    last : is_ascii_digit (digit_glyph false (n % 10)) ≡ true
    last = let small : n % 10 < 10 = omega arith in grind (arith, nat_tests, small)

    more : list_all is_ascii_digit (digit_glyph false (n % 10) ∷ ds) ≡ true
    more = rw last all

    by : (t : Bool) → list_all is_ascii_digit (digits_onto k 10 false (n / 10) (digit_glyph false (n % 10) ∷ ds)) ≡ true
        → list_all is_ascii_digit (if t then digit_glyph false (n % 10) ∷ ds else digits_onto k 10 false (n / 10) (digit_glyph false (n % 10) ∷ ds)) ≡ true
    by true rest = more
    by false rest = rest

pub number_digits : (n : ℕ) → list_all is_ascii_digit (decimal n) ≡ true
unfolding digits
number_digits n = onto_digits 64 n [] refl

-- ---- parts

no_space : (b : ℕ) → is_ascii_digit b ≡ true → is_blank b ≡ false
no_space b e = grind (arith, nat_tests, e)

pub first_digit : (b : ℕ) (bs : List ℕ) → list_all is_ascii_digit (b ∷ bs) ≡ true → is_ascii_digit b ≡ true
first_digit b bs e = grind (arith, nat_tests, e)

pub more_digits : (b : ℕ) (bs : List ℕ) → list_all is_ascii_digit (b ∷ bs) ≡ true → list_all is_ascii_digit bs ≡ true
more_digits b bs e = grind (arith, nat_tests, e)

take_one : (n b : ℕ) (bs : List ℕ) → take (n + 1) (b ∷ bs) ≡ b ∷ take n bs
take_one n b bs = simp unary_clauses refl

take_more : (n b : ℕ) (bs : List ℕ) → take (1 + n) (b ∷ bs) ≡ b ∷ take n bs
take_more n b bs = let e : 1 + n ≡ n + 1 = omega arith in rw e (take_one n b bs)

drop_one : (n b : ℕ) (bs : List ℕ) → drop (n + 1) (b ∷ bs) ≡ drop n bs
drop_one n b bs = simp unary_clauses refl

drop_more : (n b : ℕ) (bs : List ℕ) → drop (1 + n + 1) (b ∷ bs) ≡ drop (n + 1) bs
drop_more n b bs = drop_one (1 + n) b bs ∙ ap (λ k. drop k bs) (omega arith)

before_more : (b : ℕ) (bs : List ℕ) → is_blank b ≡ false → before_first is_blank (b ∷ bs) ≡ b ∷ before_first is_blank bs
before_more b bs e = rw e (take_more _ b bs)

after_more : (b : ℕ) (bs : List ℕ) → is_blank b ≡ false → after_first is_blank (b ∷ bs) ≡ after_first is_blank bs
after_more b bs e = rw e (drop_more _ b bs)

before_space : (ds rest : List ℕ) → list_all is_ascii_digit ds ≡ true → before_first is_blank (ds ++ 32 ∷ rest) ≡ ds
before_space [] rest all = refl
before_space (d ∷ ds) rest all = before_more d (ds ++ 32 ∷ rest) (no_space d (first_digit d ds all)) ∙ ap (λ xs. d ∷ xs) (before_space ds rest (more_digits d ds all))

after_space : (ds rest : List ℕ) → list_all is_ascii_digit ds ≡ true → after_first is_blank (ds ++ 32 ∷ rest) ≡ rest
after_space [] rest all = refl
after_space (d ∷ ds) rest all = after_more d (ds ++ 32 ∷ rest) (no_space d (first_digit d ds all)) ∙ after_space ds rest (more_digits d ds all)

-- ---- all of it

pub parted : (r b v : List ℕ) → r ++ codes " " ++ b ++ codes " " ++ v ≡ r ++ 32 ∷ (b ++ 32 ∷ v)
parted r b v = append_assoc (r ++ codes " " ++ b) (codes " ") v ∙ append_assoc (r ++ codes " ") b (32 ∷ v) ∙ append_assoc r (codes " ") (b ++ 32 ∷ v)

spelled_parts : (r b v : List ℕ) → list_all is_ascii_digit r ≡ true → list_all is_ascii_digit b ≡ true
    → cert_spelled (r ++ 32 ∷ (b ++ 32 ∷ v)) ≡ cert_by (digits_number r) (digits_number b) (digits_number v)
spelled_parts r b v rs bs =
    let rest = b ++ 32 ∷ v in
    let at : behind_space (r ++ 32 ∷ rest) ≡ rest = after_space r rest rs in
    rw (before_space r rest rs, at, before_space b v bs, after_space b v bs) refl

pub spelled_again : (c : Cert) → IsInRange c → cert_spelled (cert_text c) ≡ Some c
spelled_again c fits =
    ap cert_spelled (parted (decimal c.run) (decimal c.base) (decimal c.version))
    ∙ spelled_parts (decimal c.run) (decimal c.base) (decimal c.version) (number_digits c.run) (number_digits c.base)
    ∙ rw (digits_again c.run fits.0, digits_again c.base fits.1, digits_again c.version fits.2) refl
