-- What a run takes, and what it leaves.
use Rattle.std.proofs.Common.{◌≡◌, ◌<◌, ℕ, ◌*◌, ◌+◌, cond, List, [], length, Result, Ok, Err, IfOk, OnErr, subst, map, take, Option, Some, None, option_map, refl, sym, ap, ◌∙◌}
use Rattle.std.proofs.lemmas.Option.{same_Some}
use Rattle.std.specs.FinMap.{get, keys, len}
use Rattle.std.specs.Option.{option_flatten, option_map_or}
use Rattle.disco_instance.specs.Row.{Row}
use Rattle.disco_values.specs.declared.key.Key.{Key}
use Rattle.disco_history.specs.Registry.{registry_of}
use Rattle.disco_history.proofs.Sets.{not_there}
use Rattle.disco_lease.specs.Due.{due_at, due_moment, lets_expire, most_taken, overdue, taken}
use Rattle.disco_lease.specs.Leases.{LeaseEntry, Leases, lease_at}
use Rattle.disco_lease.proofs.Due.{same_overdue}
use Rattle.disco_core.specs.Past.{Past, due_in, duration_at, history, taken_in}
use Rattle.disco_values.specs.declared.fault.Fault.{Fault}
use Rattle.std.specs.declared.vec.Vec.{Vec}
use Rattle.std.specs.declared.alloc.Global.{Global}
use Rattle.disco_core.specs.State.{AreLeasesOf, CoreState, CoreStandsFor}

abbrev lasts : Option LeaseEntry → Option ℕ
lasts o = option_map (λ l. l.duration_secs) o

lasting : (o : Option Row) (n : ℕ) → Some n ≡ option_map (λ r. r.lease.duration_secs) o → option_map_or (λ r. r.lease.duration_secs * 1000) o 0 ≡ n * 1000
lasting None n is = absurd (cc)
lasting (Some r) n is = ap (λ m. m * 1000) (sym (same_Some n r.lease.duration_secs is))

due_by : (v : Leases) (p : Past) (k : Key) (o : Option LeaseEntry) → AreLeasesOf v p → lease_at v k ≡ o → option_map due_moment o ≡ due_in p k
due_by v p k None are is = ap (option_map (λ m. m + duration_at p k)) (sym (ap (option_map (λ l. l.mark)) is) ∙ are.marks k)
due_by v p k (Some l) are is =
    let lasts_so : Some l.duration_secs ≡ option_map (λ r. r.lease.duration_secs) (get (registry_of (history p)) k) = sym (ap lasts is) ∙ are.durations k in
    ap (λ d. Some (l.mark + d)) (sym (lasting (get (registry_of (history p)) k) l.duration_secs lasts_so))
    ∙ ap (option_map (λ m. m + duration_at p k)) (sym (ap (option_map (λ l. l.mark)) is) ∙ are.marks k)

-- leases run out when what has happened says
pub due_is : (v : Leases) (p : Past) (k : Key) → AreLeasesOf v p → due_at v k ≡ due_in p k
due_is v p k are = due_by v p k (lease_at v k) are refl

-- a run takes what what has happened says
pub takes : (v : Leases) (p : Past) (held now : ℕ) → AreLeasesOf v p → held ≡ len (registry_of (history p)) → taken v.closed (due_at v) (keys v.places) held now ≡ taken_in p now
takes v p held now are count =
    let due : overdue (due_at v) (keys v.places) now ≡ overdue (due_in p) (keys p.marks) now = same_overdue (due_at v) (due_in p) (keys v.places) (keys p.marks) now (λ k. due_is v p k are)
    (λ k absent. ap (λ o. option_map due_moment (option_flatten o)) (not_there v.places k absent))
    (λ k absent. ap (option_map (λ m. m + duration_at p k)) (not_there p.marks k absent)) in
    λ i. cond (lets_expire (are.closed i)) (take (most_taken (count i)) (map (λ (d : ℕ × Key). d.1) (keys (due i)))) []

-- the same of a call that may be refused
pub gives_taken : (r : Result (Vec Key Global) Fault) (v : Leases) (s : CoreState) (held now : ℕ) → ((p : Past) → CoreStandsFor s p → taken v.closed (due_at v) (keys v.places) held now ≡ taken_in p now)
    → IfOk r (λ found. found.items ≡ taken v.closed (due_at v) (keys v.places) held now) → IfOk r (λ found. (p : Past) → CoreStandsFor s p → found.items ≡ taken_in p now)
gives_taken (Ok found) v s held now same is = λ p stands. is ∙ same p stands
gives_taken (Err e) v s held now same is = tt

pub refused_some : {A : Type 0} (r : Result A Fault) (v : Leases) (s : CoreState) (held now : ℕ) → ((p : Past) → CoreStandsFor s p → taken v.closed (due_at v) (keys v.places) held now ≡ taken_in p now)
    → OnErr r (0 < length (taken v.closed (due_at v) (keys v.places) held now)) → OnErr r ((p : Past) → CoreStandsFor s p → 0 < length (taken_in p now))
refused_some (Ok found) v s held now same some = tt
refused_some (Err e) v s held now same some = λ p stands. subst (λ (ks : List Key). 0 < length ks) (same p stands) some
