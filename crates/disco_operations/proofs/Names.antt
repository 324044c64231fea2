-- A name in upper case is compared with another byte by byte.
use Rattle.std.proofs.Common.{◌≡◌, ℕ, ◌&&◌, nat_eq, List, [], ◌∷◌, length, refl, ap, arith}
use Rattle.std.specs.Char.{to_ascii_uppercase}
use Rattle.std.specs.List.{list_all, zip}
use Rattle.std.specs.Str.{bytes_eq}
use Rattle.disco_values.specs.Text.{in_upper_case}

pub are_same : (name own : List ℕ) → length name ≡ length own
    → list_all (λ (p : ℕ × ℕ). nat_eq (to_ascii_uppercase p.0) p.1) (zip name own) ≡ bytes_eq (in_upper_case name) own
are_same [] [] e = refl
are_same [] (o ∷ os) e = absurd (omega (arith, e))
are_same (n ∷ ns) [] e = absurd (omega (arith, e))
are_same (n ∷ ns) (o ∷ os) e = ap (λ b. nat_eq (to_ascii_uppercase n) o && b) (are_same ns os (omega (arith, e)))
