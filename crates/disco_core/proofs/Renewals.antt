-- Which renewals the registry accepts, by the lease alone where no instance is of unknown status.
use Rattle.std.proofs.Common.{◌≡◌, ℕ, ◌<◌, false, cond, Option, Some, None, option_map, Result, Ok, Err, OnOk, refl, ap, subst, ◌∙◌, arith}
use Rattle.std.specs.FinMap.{FinMap, get}
use Rattle.std.specs.Option.{ok_or}
use Rattle.disco_values.specs.Key.{key_cmp}
use Rattle.disco_values.specs.Status.{is_same}
use Rattle.disco_values.specs.declared.fault.Fault.{Fault}
use Rattle.disco_values.specs.declared.fault.Fault.TheVariants.{NotFound}
use Rattle.disco_values.specs.declared.key.Key.{Key}
use Rattle.disco_values.specs.declared.status.Status.{Status}
use Rattle.disco_values.specs.declared.status.Status.TheVariants.{Up, Down, Starting, OutOfService, Unknown}
use Rattle.disco_instance.specs.Instance.{if_ok}
use Rattle.disco_instance.specs.Row.{Row}
use Rattle.disco_history.specs.Change.{Entry}
use Rattle.disco_index.specs.Tally.{count_in, tally_in}
use Rattle.disco_index.proofs.Changes.{held_law}
use Rattle.disco_lease.specs.Leases.{LeaseEntry, Leases, lease_at}
use Rattle.disco_registry.specs.Accept.{accepts, if_left, limits_of}
use Rattle.disco_registry.specs.Op.{renew}
use Rattle.disco_registry.specs.State.{RegistryState}
use Rattle.disco_core.specs.Tied.{AreLeased}

-- none of the instances that are held is of unknown status
abbrev pub NoneUnknown : FinMap key_cmp Entry → Type 0
NoneUnknown held = count_in (tally_in held) Unknown ≡ 0

is_known : (status : Status) → (status ≡ Unknown → ⊥) → is_same status Unknown ≡ false
is_known Up known = refl
is_known Down known = refl
is_known Starting known = refl
is_known OutOfService known = refl
is_known Unknown known = absurd (known refl)

known_at : (held : FinMap key_cmp Entry) (k : Key) (e : Entry) → NoneUnknown held → get held k ≡ Some e → is_same e.0.status Unknown ≡ false
known_at held k e none there = is_known e.0.status (λ unknown.
    let counted : 0 < count_in (tally_in held) Unknown = subst (λ s. 0 < count_in (tally_in held) s) unknown (held_law held k e there) in
    omega (arith, counted, none))

module _ (s : RegistryState) (v : Leases) (k : Key) (now : ℕ) (leased : AreLeased s.held v) where
  abbrev admitted : Option Row → Result (Option Entry) Fault
  admitted o = if_left (limits_of s) s.version (if_ok (ok_or o NotFound) (λ r. cond (is_same r.status Unknown) (Err NotFound) (Ok None)))

  no_lease : get s.held k ≡ None → lease_at v k ≡ None
  no_lease is = empty (lease_at v k) (leased k ∙ ap (λ x. option_map (λ r. r.lease.duration_secs) (option_map (λ e. e.0) x)) is)
    where
      empty : (l : Option LeaseEntry) → option_map (λ x. x.duration_secs) l ≡ None → l ≡ None
      empty None h = refl
      empty (Some l) h = absurd (cc)

  -- what has a lease is held, and may renew it
  pub has_lease : NoneUnknown s.held → (lease_at v k ≡ None → ⊥) → accepts s (renew k) now ≡ Ok None
  has_lease none some = by (get s.held k) refl
    where
      by : (o : Option Entry) → get s.held k ≡ o → accepts s (renew k) now ≡ Ok None
      by None is = absurd (some (no_lease is))
      by (Some e) is =
          ap (λ o. admitted (option_map (λ x. x.0) o)) is
          ∙ ap (λ b. if_left (limits_of s) s.version (cond b (Err NotFound) (Ok None))) (known_at s.held k e none is)

-- what follows from what holds of a success
pub on_both : {A : Type 0} {P Q R : Type 0} (r : Result A Fault) → OnOk r P → OnOk r Q → (P → Q → R) → OnOk r R
on_both (Ok x) p q both = both p q
on_both (Err e) p q both = tt
