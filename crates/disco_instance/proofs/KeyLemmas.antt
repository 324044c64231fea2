-- A key that was read is one that a record may have.
use Rattle.std.proofs.Common.{◌≡◌, ◌≢◌, ℕ, Bool, true, false, List, [], ◌∷◌, codes, length, ◌==◌, cond, Option, Some, None, IfSome, option_and_then, Ok, refl, ap, subst, arith}
use Rattle.std.specs.Option.{ok_or, option_or}
use Rattle.std.proofs.lemmas.Bool.Decides.{nat_tests}
use Rattle.std.proofs.lemmas.Str.Ascii.{uppercase-uppercase}
use Rattle.serde_json.specs.Data.{Data}
use Rattle.disco_values.specs.Text.{in_upper_case}
use Rattle.disco_values.specs.declared.fault.Fault.TheVariants.{MissingField}
use Rattle.disco_values.specs.declared.fault.Field.TheVariants.{InstanceId, App}
use Rattle.disco_values.specs.declared.key.Key.{Key}
use Rattle.disco_instance.specs.Members.{not_empty, text_at}
use Rattle.disco_instance.specs.Instance.{id_at, app_at, if_ok, key_at}
use Rattle.disco_instance.specs.Steps.{IsRecordKey}

abbrev IsNotEmpty : Option (List ℕ) → Type 0
IsNotEmpty o = IfSome o (λ s. s ≢ [])

not_none : (s : List ℕ) → (length s == 0) ≡ false → s ≡ [] → ⊥
not_none s p e = grind (arith, nat_tests, p, ap length e)

from_test : (o : Option (List ℕ)) → IsNotEmpty (option_and_then not_empty o)
from_test None = tt
from_test (Some s) = one (length s == 0) refl
  where
    one : (b : Bool) → (length s == 0) ≡ b → IsNotEmpty (cond b None (Some s))
    one true p = tt
    one false p = λ e. not_none s p e

either : (a b : Option (List ℕ)) → IsNotEmpty a → IsNotEmpty b → IsNotEmpty (option_or a b)
either None b p q = q
either (Some x) b p q = p

twice : (s : List ℕ) → in_upper_case (in_upper_case s) ≡ in_upper_case s
twice [] = refl
twice (c ∷ cs) = λ i. uppercase-uppercase c i ∷ twice cs i

still_there : (s : List ℕ) → s ≢ [] → in_upper_case s ≢ []
still_there [] p = p
still_there (c ∷ cs) p = λ e. cc

by_parts : (id app : Option (List ℕ)) (k : Key) → IsNotEmpty id → IsNotEmpty app
    → if_ok (ok_or id (MissingField InstanceId)) (λ i. if_ok (ok_or app (MissingField App)) (λ a. Ok (record { app = in_upper_case a; id = i }))) ≡ Ok k
    → IsRecordKey k
by_parts None app k p q e = absurd (cc)
by_parts (Some id) None k p q e = absurd (cc)
by_parts (Some id) (Some app) k p q e =
    let same : record { app = in_upper_case app; id = id } ≡ k = cc in
    subst IsRecordKey same (record { has_app = still_there app q; has_id = p; upper = twice app })

pub key_kept : (within : Option (List ℕ)) (d : Data) (k : Key) → key_at within d ≡ Ok k → IsRecordKey k
key_kept within d k e = by_parts (id_at d) (app_at within d) k
    (either _ _ (from_test (text_at (codes "instanceId") d)) (from_test (text_at (codes "hostName") d)))
    (either _ _ (from_test (text_at (codes "app") d)) (from_test within)) e
