-- What steps and changes make of leases and their marks.
use Rattle.std.proofs.Common.{◌≡◌, ℕ, Bool, true, false, cond, Option, Some, None, option_map, IsSome, Result, Ok, Err, OnOk, OnErr, refl, sym, ap, subst, ◌∙◌}
use Rattle.std.specs.Cmp.{tied_itself}
use Rattle.std.specs.Option.{option_flatten, unwrap_or}
use Rattle.std.specs.Ordering.{is_eq}
use Rattle.std.specs.FinMap.{get}
use Rattle.disco_values.specs.Key.{same_key}
use Rattle.disco_values.specs.declared.fault.Fault.{Fault}
use Rattle.disco_values.specs.declared.key.Key.{Key}
use Rattle.disco_history.proofs.Keys.{keys_total, same_is}
use Rattle.disco_lease.specs.Leases.{LeaseEntry, Leases, Sets, extended, lease_at}
use Rattle.disco_lease.specs.Leases as leases
use Rattle.disco_index.specs.Vips as vips
use Rattle.disco_index.specs.Vips.{VipKeys}
use Rattle.disco_history.specs.Change.{Entry}
use Rattle.disco_core.specs.Moves.{GoesOn, OthersStay, counted_by}
use Rattle.disco_core.specs.State.{IsSwept}

itself : (k : Key) → same_key k k ≡ true
itself k = ap is_eq (tied_itself keys_total k)

-- what a key has stays where it is set to that
stays_as : (k : Key) (v : Leases) (o : Option LeaseEntry) → lease_at v k ≡ o → Sets k o v v
stays_as k v o is = λ q. one q (same_key q k) refl
  where
    one : (q : Key) (b : Bool) → same_key q k ≡ b → lease_at v q ≡ cond b o (lease_at v q)
    one q true same = ap (lease_at v) (same_is q k same) ∙ is
    one q false same = refl

-- what is the same as what was set is set
moved_to : (k : Key) (o : Option LeaseEntry) (old v w : Leases) → w ≡ v → Sets k o old v → Sets k o old w
moved_to k o old v w same sets = λ q. ap (λ (x : Leases). lease_at x q) same ∙ sets q

none_moves : (now : ℕ) (o : Option LeaseEntry) → o ≡ None → o ≡ option_map (extended now) o
none_moves now None is = refl
none_moves now (Some l) is = absurd (cc)

-- a lease that moves, or is missing, goes on
pub went_on : {A : Type 0} (r : Result A Fault) (k : Key) (renewal : Bool) (now : ℕ) (old new : Leases) → OnOk r (Sets k (option_map (extended now) (lease_at old k)) old new) → OnErr r (new ≡ old) → OnErr r (lease_at old k ≡ None)
    → OnOk r (new.renewals ≡ counted_by renewal old.renewals) → new.closed ≡ old.closed → GoesOn k renewal now old new
went_on (Ok x) k renewal now old new sets same none count closed = record { leases = sets; renewals = λ _. count; closed = closed }
went_on (Err e) k renewal now old new sets same none count closed = record {
  leases = moved_to k (option_map (extended now) (lease_at old k)) old old new same (stays_as k old _ (none_moves now (lease_at old k) none));
  renewals = λ some. absurd (let bad = subst (λ (o : Option LeaseEntry). IsSome o) none some in cc);
  closed = closed;
}

-- a lease that was set is there
pub is_set : (k : Key) (o : Option LeaseEntry) (old new : Leases) → Sets k o old new → lease_at new k ≡ o
is_set k o old new sets = sets k ∙ ap (λ b. cond b o (lease_at old k)) (itself k)

pub on_ok : {A : Type 0} (r : Result A Fault) (P : Type 0) → P → OnOk r P
on_ok (Ok x) P p = p
on_ok (Err e) P p = tt

-- ---- places that are given back

has_outer : (o : Option (Option LeaseEntry)) → IsSome (option_flatten o) → IsSome o
has_outer None some = absurd (cc)
has_outer (Some p) some = refl

pub no_leases_more : (k : Key) (old mid new : Leases) → leases.IsSameLeases old mid → leases.KeepsOthers k old mid → leases.IsSameLeases mid new → leases.KeepsOthers k mid new → leases.IsFilled k new → leases.KeepsPlaces new old
no_leases_more k old mid new first others then others_then filled q some = one (same_key q k) refl
  where
    one : (b : Bool) → same_key q k ≡ b → IsSome (get old.places q)
    one true same =
        let there = filled (subst (λ (x : Key). IsSome (get new.places x)) (same_is q k same) some) in
        let before : IsSome (lease_at old k) = subst (λ (o : Option LeaseEntry). IsSome o) (then.leases k ∙ first.leases k) there in
        subst (λ (x : Key). IsSome (get old.places x)) (sym (same_is q k same)) (has_outer (get old.places k) before)
    one false apart = subst (λ (o : Option (Option LeaseEntry)). IsSome o) (others_then q apart ∙ others q apart) some

has_place : (o : Option Bool) → unwrap_or o false ≡ true → IsSome o
has_place None is = absurd (cc)
has_place (Some b) is = refl

is_there : (o : Option Bool) → (o ≡ Some false → ⊥) → IsSome o → unwrap_or o false ≡ true
is_there None filled some = absurd (cc)
is_there (Some true) filled some = refl
is_there (Some false) filled some = absurd (filled refl)

pub no_vips_more : (o : Option Entry) (old mid new : VipKeys) → vips.IsSameVips old mid → OthersStay o old mid → vips.IsSameVips mid new → OthersStay o mid new → IsSwept new o → vips.KeepsVipPlaces new old
no_vips_more None old mid new first others then others_then swept q k some = subst (λ (v : VipKeys). IsSome (vips.place_at v q k)) (sym (others ∙ others_then)) some
no_vips_more (Some e) old mid new first others then others_then swept q k some = one (vips.is_under e.0 q k) refl
  where
    one : (b : Bool) → vips.is_under e.0 q k ≡ b → IsSome (vips.place_at old q k)
    one true under = has_place (vips.place_at old q k) (sym (then q k ∙ first q k) ∙ is_there (vips.place_at new q k) (swept q k under) some)
    one false apart = subst (λ (o : Option Bool). IsSome o) (others_then q k apart ∙ others q k apart) some

pub on_err : {A : Type 0} (r : Result A Fault) (P : Type 0) → P → OnErr r P
on_err (Ok x) P p = tt
on_err (Err e) P p = p
