-- Texts that are the same but for the case of their letters.
use Rattle.std.proofs.Common.{◌≡◌, ◌↔◌, IsTrue, ℕ, ◌==◌, Bool, true, false, not, ◌&&◌, ◌||◌, cond, List, [], ◌∷◌, map, filter, length, refl, sym, ap, ◌∙◌, arith}
use Rattle.std.specs.Char.{to_ascii_lowercase, to_ascii_uppercase}
use Rattle.std.specs.List.{list_any, slice_split}
use Rattle.std.specs.Str.{bytes_eq}
use Rattle.std.proofs.lemmas.Bool.Decides.{nat_tests, same_from_decides}
use Rattle.std.proofs.lemmas.Slice.Eq.{bytes_eq-Decides}
use Rattle.std.proofs.lemmas.Str.Ascii.{lowercase-uppercase}
use Rattle.disco_values.specs.Text.{in_upper_case}
use Rattle.disco_history.specs.Query.{vips}

uppercase-lowercase : (c : ℕ) → to_ascii_uppercase (to_ascii_lowercase c) ≡ to_ascii_uppercase c
uppercase-lowercase c = grind (arith, nat_tests)

each_same : (f g h : ℕ → ℕ) → ((c : ℕ) → f (g c) ≡ h c) → (t : List ℕ) → map f (map g t) ≡ map h t
each_same f g h same [] = refl
each_same f g h same (c ∷ t) = λ i. same c i ∷ each_same f g h same t i

-- texts that are one in lower case are one in upper case, and the other way round
to_upper : (a b : List ℕ) → map to_ascii_lowercase a ≡ map to_ascii_lowercase b → in_upper_case b ≡ in_upper_case a
to_upper a b e =
    sym (each_same to_ascii_uppercase to_ascii_lowercase to_ascii_uppercase uppercase-lowercase b)
    ∙ ap (map to_ascii_uppercase) (sym e)
    ∙ each_same to_ascii_uppercase to_ascii_lowercase to_ascii_uppercase uppercase-lowercase a

to_lower : (a b : List ℕ) → in_upper_case b ≡ in_upper_case a → map to_ascii_lowercase a ≡ map to_ascii_lowercase b
to_lower a b e =
    sym (each_same to_ascii_lowercase to_ascii_uppercase to_ascii_lowercase lowercase-uppercase a)
    ∙ ap (map to_ascii_lowercase) (sym e)
    ∙ each_same to_ascii_lowercase to_ascii_uppercase to_ascii_lowercase lowercase-uppercase b

pub alike : (a b : List ℕ) (r : Bool) → (IsTrue r ↔ (map to_ascii_lowercase a ≡ map to_ascii_lowercase b)) → r ≡ bytes_eq (in_upper_case b) (in_upper_case a)
alike a b r test =
    let equal = bytes_eq-Decides (in_upper_case b) (in_upper_case a) in
    same_from_decides r (bytes_eq (in_upper_case b) (in_upper_case a)) (λ t. to_upper a b (test.0 t), λ e. test.1 (to_lower a b e)) equal

-- a text is that vip, but for the case of its letters
abbrev pub is_vip : List ℕ → List ℕ → Bool
is_vip vip text = not (length text == 0) && bytes_eq (in_upper_case vip) (in_upper_case text)

any_kept : (vip : List ℕ) (ps : List (List ℕ)) → list_any (is_vip vip) ps ≡ list_any (bytes_eq (in_upper_case vip)) (map in_upper_case (filter (λ p. not (length p == 0)) ps))
any_kept vip [] = refl
any_kept vip (p ∷ ps) = one (not (length p == 0)) (any_kept vip ps)
  where
    one : (b : Bool) → list_any (is_vip vip) ps ≡ list_any (bytes_eq (in_upper_case vip)) (map in_upper_case (filter (λ p. not (length p == 0)) ps))
        → ((b && bytes_eq (in_upper_case vip) (in_upper_case p)) || list_any (is_vip vip) ps) ≡ list_any (bytes_eq (in_upper_case vip)) (map in_upper_case (cond b (p ∷ filter (λ p. not (length p == 0)) ps) (filter (λ p. not (length p == 0)) ps)))
    one true ih = ap (λ rest. bytes_eq (in_upper_case vip) (in_upper_case p) || rest) ih
    one false ih = ih

-- one of the pieces of an address is that vip where one of its vips is
pub any_vip : (vip address : List ℕ) → list_any (is_vip vip) (slice_split (λ b. b == 44) address) ≡ list_any (bytes_eq (in_upper_case vip)) (map in_upper_case (vips address))
any_vip vip address = any_kept vip (slice_split (λ b. b == 44) address)
