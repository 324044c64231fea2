-- What a step does to the leases, and which places it leaves.
use Rattle.std.proofs.Common.{◌≡◌, ℕ, Bool, true, false, cond, Option, Some, None, option_map, IsSome, refl, sym, ap, subst, ◌∙◌}
use Rattle.std.specs.Ordering.{is_eq}
use Rattle.std.specs.Cmp.{tied_itself}
use Rattle.std.specs.Option.{option_flatten}
use Rattle.std.specs.FinMap.{FinMap, get, insert, remove, get-insert, get-remove}
use Rattle.disco_values.specs.Key.{key_cmp, same_key}
use Rattle.disco_values.specs.declared.key.Key.{Key}
use Rattle.disco_history.proofs.Keys.{keys_total, same_is}
use Rattle.disco_lease.specs.Leases.{LeaseEntry, extended}

abbrev Places : Type 0
Places = FinMap key_cmp (Option LeaseEntry)

flat_cond : (b : Bool) (x y : Option (Option LeaseEntry)) → option_flatten (cond b x y) ≡ cond b (option_flatten x) (option_flatten y)
flat_cond true x y = refl
flat_cond false x y = refl

pub lease-put : (m n : Places) (k : Key) (l : LeaseEntry) → n ≡ insert m k (Some l) → (q : Key) → option_flatten (get n q) ≡ cond (same_key q k) (Some l) (option_flatten (get m q))
lease-put m n k l e q = ap (λ p. option_flatten (get p q)) e ∙ ap option_flatten (get-insert keys_total m k (Some l) q) ∙ flat_cond (same_key q k) (Some (Some l)) (get m q)

pub lease-touch : (m n : Places) (k : Key) (now : ℕ) → n ≡ insert m k (option_map (extended now) (option_flatten (get m k))) → (q : Key) → option_flatten (get n q) ≡ cond (same_key q k) (option_map (extended now) (option_flatten (get m k))) (option_flatten (get m q))
lease-touch m n k now e q = ap (λ p. option_flatten (get p q)) e ∙ ap option_flatten (get-insert keys_total m k _ q) ∙ flat_cond (same_key q k) (Some (option_map (extended now) (option_flatten (get m k)))) (get m q)

pub lease-out : (m n : Places) (k : Key) → n ≡ remove m k → (q : Key) → option_flatten (get n q) ≡ cond (same_key q k) None (option_flatten (get m q))
lease-out m n k e q = ap (λ p. option_flatten (get p q)) e ∙ ap option_flatten (get-remove keys_total m k q) ∙ flat_cond (same_key q k) None (get m q)

made : (m : Places) (k q : Key) (b : Bool) → same_key q k ≡ b → option_flatten (cond b (Some (option_flatten (get m k))) (get m q)) ≡ option_flatten (get m q)
made m k q true same = ap (λ p. option_flatten (get m p)) (sym (same_is q k same))
made m k q false same = refl

-- a place that is made shows what stood there
pub lease-made : (m n : Places) (k : Key) → n ≡ insert m k (option_flatten (get m k)) → (q : Key) → option_flatten (get n q) ≡ option_flatten (get m q)
lease-made m n k e q =
    ap (λ p. option_flatten (get p q)) e ∙ ap option_flatten (get-insert keys_total m k (option_flatten (get m k)) q)
    ∙ made m k q (same_key q k) refl

stays : (b : Bool) (v : Option LeaseEntry) (o : Option (Option LeaseEntry)) → IsSome o → IsSome (cond b (Some v) o)
stays true v o h = refl
stays false v o h = h

pub place-put : (m n : Places) (k : Key) (v : Option LeaseEntry) → n ≡ insert m k v → (q : Key) → IsSome (get m q) → IsSome (get n q)
place-put m n k v e q h =
    let now : get n q ≡ cond (same_key q k) (Some v) (get m q) = ap (λ p. get p q) e ∙ get-insert keys_total m k v q in
    subst (λ (o : Option (Option LeaseEntry)). IsSome o) (sym now) (stays (same_key q k) v (get m q) h)

itself : (k : Key) → same_key k k ≡ true
itself k = ap is_eq (tied_itself keys_total k)

pub place-open : (m n : Places) (k : Key) (v : Option LeaseEntry) → n ≡ insert m k v → IsSome (get n k)
place-open m n k v e =
    let now : get n k ≡ Some v = ap (λ p. get p k) e ∙ get-insert keys_total m k v k ∙ ap (λ b. cond b (Some v) (get m k)) (itself k) in
    subst (λ (o : Option (Option LeaseEntry)). IsSome o) (sym now) refl

pub others-put : (m n : Places) (k : Key) (v : Option LeaseEntry) → n ≡ insert m k v → (q : Key) → same_key q k ≡ false → get n q ≡ get m q
others-put m n k v e q apart = ap (λ p. get p q) e ∙ get-insert keys_total m k v q ∙ ap (λ b. cond b (Some v) (get m q)) apart

pub others-out : (m n : Places) (k : Key) → n ≡ remove m k → (q : Key) → same_key q k ≡ false → get n q ≡ get m q
others-out m n k e q apart = ap (λ p. get p q) e ∙ get-remove keys_total m k q ∙ ap (λ b. cond b None (get m q)) apart

-- a place that is taken out is none
pub none-out : (m n : Places) (k : Key) → n ≡ remove m k → get n k ≡ None
none-out m n k e = ap (λ p. get p k) e ∙ get-remove keys_total m k k ∙ ap (λ b. cond b None (get m k)) (itself k)

pub no-place : (o : Option (Option LeaseEntry)) → o ≡ None → IsSome o → ⊥
no-place None is some = absurd (cc)
no-place (Some v) is some = absurd (cc)

-- an empty place that is taken out shows nothing
pub lease-close : (m n : Places) (k : Key) → option_flatten (get m k) ≡ None → n ≡ remove m k → (q : Key) → option_flatten (get n q) ≡ option_flatten (get m q)
lease-close m n k none e q = lease-out m n k e q ∙ one (same_key q k) refl
  where
    one : (b : Bool) → same_key q k ≡ b → cond b None (option_flatten (get m q)) ≡ option_flatten (get m q)
    one true same = sym (ap (λ x. option_flatten (get m x)) (same_is q k same) ∙ none)
    one false same = refl
