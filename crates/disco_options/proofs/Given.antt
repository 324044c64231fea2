-- What `get_one` reads of an option.
use Rattle.std.proofs.Common.{◌≡◌, ℕ, ◌<◌, ◌^◌, Bool, length, true, false, List, Option, Some, None, Result, Ok, Err, refl, ap, sym, ◌∙◌, ◌⊎◌, inl, inr, arith, codes, unwrap_or, option_and_then}
use Rattle.std.specs.List.{list_all}
use Rattle.std.specs.Option.{option_map_or}
use Rattle.std.specs.Char.{is_ascii_digit}
use Rattle.std.specs.Str.{bytes_eq}
use Rattle.std.specs.Str.Parse.{IsNumeral, ParsesBool, ParsesUnsigned, digits_value, without_leading_plus}
use Rattle.std.proofs.lemmas.Slice.Eq.{bytes_eq-Decides}
use Rattle.std.proofs.lemmas.Bool.Decides.{nat_tests}
use Rattle.clap.specs.Words.{ReadsOne}
use Rattle.disco_values.specs.Digits.{digits_number}
use Rattle.disco_values.proofs.Parsed.{all_are_digits, own}

split_on : (t : Bool) → (t ≡ true) ⊎ (t ≡ false)
split_on true = inl refl
split_on false = inr refl

number_of : (ds : List ℕ) → IsNumeral 10 ds × (digits_value 10 ds < 2 ^ 64) → Some (digits_value 10 ds) ≡ digits_number ds
number_of ds h = let all = all_are_digits ds ∙ own.from ds h.0.1 in grind (arith, nat_tests, h.0.0, h.1, all)

no_number : (ds : List ℕ) → (IsNumeral 10 ds × (digits_value 10 ds < 2 ^ 64) → ⊥) → None ≡ digits_number ds
no_number ds h = elim (split_on (list_all is_ascii_digit ds)) [
  | inl all ↦ let few : 0 < length ds → digits_value 10 ds < 2 ^ 64 → ⊥ = λ some small. h ((some, own.to ds (sym (all_are_digits ds) ∙ all)), small) in grind (arith, nat_tests, few, all)
  | inr all ↦ grind (arith, nat_tests, all)
]

module _ {E : Type 0} (G : List ℕ → Result ℕ E → Type 0) (parses : (t : List ℕ) (r : Result ℕ E) → G t r → ParsesUnsigned 64 10 t r) where
  read_number : (t : List ℕ) (r : Option ℕ) → ReadsOne G t r → r ≡ digits_number (without_leading_plus t)
  read_number t (Some n) g = let h = parses t (Ok n) g in ap (λ n. Some n) h.1 ∙ number_of (without_leading_plus t) h.0
  read_number t None g = no_number (without_leading_plus t) (parses t (Err g.0) g.1)

  -- the number that an option's text spells
  pub number_read : (o : Option (List ℕ)) (r : Option ℕ) → (o ≡ None → r ≡ None) → ((t : List ℕ) → o ≡ Some t → ReadsOne G t r) → r ≡ option_and_then (λ text. digits_number (without_leading_plus text)) o
  number_read None r none value = none refl
  number_read (Some t) r none value = read_number t r (value t refl)

flag_of : (E : Type 0) (t : List ℕ) (r : Option Bool) → ReadsOne {T = Bool} {E = E} (λ bs r. ParsesBool bs r) t r → unwrap_or r false ≡ bytes_eq t (codes "true")
flag_of E t (Some true) g = rw g refl
flag_of E t (Some false) g = rw g refl
flag_of E t None g = elim (split_on (bytes_eq t (codes "true"))) [
  | inl same ↦ absurd (g.1.0 ((bytes_eq-Decides t (codes "true")).0 same))
  | inr differs ↦ sym differs
]

-- the truth value that an option's text names
pub flag_read : (E : Type 0) (o : Option (List ℕ)) (r : Option Bool) → (o ≡ None → r ≡ None) → ((t : List ℕ) → o ≡ Some t → ReadsOne {T = Bool} {E = E} (λ bs r. ParsesBool bs r) t r) → unwrap_or r false ≡ option_map_or (λ text. bytes_eq text (codes "true")) o false
flag_read E None r none value = ap (λ r. unwrap_or r false) (none refl)
flag_read E (Some t) r none value = flag_of E t r (value t refl)
