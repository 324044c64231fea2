-- A text without a lower-case letter is in upper case.
use Rattle.std.proofs.Common.{◌≡◌, ℕ, Bool, true, false, not, ◌&&◌, List, [], ◌∷◌, refl, arith}
use Rattle.std.proofs.lemmas.Bool.Decides.{nat_tests}
use Rattle.std.specs.Char.{is_ascii_lowercase, to_ascii_uppercase}
use Rattle.std.specs.List.{list_all}
use Rattle.disco_values.specs.Text.{in_upper_case}

both : (p more : Bool) → (p && more) ≡ true → (p ≡ true) × (more ≡ true)
both true more all = (refl, all)
both false more all = absurd (cc)

byte_stays : (b : ℕ) → not (is_ascii_lowercase b) ≡ true → b ≡ to_ascii_uppercase b
byte_stays b is = grind (arith, nat_tests, is)

pub is_upper_already : (text : List ℕ) → list_all (λ b. not (is_ascii_lowercase b)) text ≡ true → text ≡ in_upper_case text
is_upper_already [] all = refl
is_upper_already (b ∷ bs) all =
    let parts = both (not (is_ascii_lowercase b)) (list_all (λ b. not (is_ascii_lowercase b)) bs) all in
    λ i. byte_stays b parts.0 i ∷ is_upper_already bs parts.1 i
