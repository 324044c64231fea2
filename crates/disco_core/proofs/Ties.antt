-- What keeps the counts and the leases tied to the registry.
use Rattle.std.proofs.Common.{◌≡◌, ℕ, ◌+◌, ◌-◌, ◌≤◌, Bool, true, false, cond, List, [], length, Option, Some, None, option_map, Result, Ok, Err, IfErr, IfSome, OnErr, refl, sym, ap, subst, ◌∙◌, arith}
use Rattle.std.specs.FinMap.{FinMap, contains_key, empty, get, get-empty, get-insert, get-remove, insert, len, len-empty, len-insert, len-remove, remove}
use Rattle.std.specs.Option.{option_flatten}
use Rattle.disco_values.specs.Key.{key_cmp, same_key}
use Rattle.disco_instance.specs.Row.{Row}
use Rattle.disco_values.specs.declared.fault.Fault.{Fault}
use Rattle.disco_values.specs.declared.fault.Fault.TheVariants.{NotFound}
use Rattle.disco_values.specs.declared.key.Key.{Key}
use Rattle.disco_history.specs.Change.{Entry, key_of}
use Rattle.disco_history.specs.Registry.{put_of}
use Rattle.disco_history.proofs.Keys.{keys_total, same_is}
use Rattle.disco_history.proofs.Sets.{said_nil}
use Rattle.disco_index.specs.Tally.{Tally, tally_in, tally_of}
use Rattle.disco_index.proofs.Changes.{empty_law}
use Rattle.disco_index.proofs.VipLaws.{gone_vips_law, no_vips_law, put_vips_law, same_vips_law}
use Rattle.disco_index.specs.Vips.{IsIndexOf, VipKeys, no_vips}
use Rattle.disco_index.specs.Vips as vips
use Rattle.disco_lease.specs.Leases as leases
use Rattle.disco_lease.specs.Leases.{LeaseEntry, Leases, Sets, extended, lease_at, marked, no_leases}
use Rattle.disco_queue.specs.Queue as queue
use Rattle.disco_queue.specs.Queue.{KeepsHistory, Queue, version}
use Rattle.disco_registry.specs.Commit.{Takes, held_after, version_after}
use Rattle.disco_history.specs.Held.{record_at}
use Rattle.disco_registry.specs.State.{RegistryState, StandsFor, IsSameRegistry}
use Rattle.disco_values.specs.declared.action.Action.{Action}
use Rattle.disco_values.specs.declared.action.Action.TheVariants.{Added, Modified, Deleted}
use Rattle.disco_core.specs.State as core
use Rattle.disco_core.specs.Moves.{Moves, lease_by}
use Rattle.disco_core.specs.State.{AddsAny, HasVipPlaces}
use Rattle.disco_core.specs.Tied.{AreLeased, IsTied}
use Rattle.disco_core.specs.Written.{AreWritten, IsSameWritten, KeptTexts, none_written}
use Rattle.disco_core.proofs.KeptTexts.{none_are, same_are}

abbrev lasts : Option LeaseEntry → Option ℕ
lasts o = option_map (λ l. l.duration_secs) o

abbrev rows_last : Option Row → Option ℕ
rows_last o = option_map (λ r. r.lease.duration_secs) o

abbrev entry_lasts : Option Entry → Option ℕ
entry_lasts o = rows_last (option_map (λ e. e.0) o)

-- ---- a new world

pub tied_new : (s : RegistryState) (t : Tally) (i : VipKeys) (v : Leases) (q : Queue) (w : KeptTexts) → StandsFor s [] → t ≡ tally_of [] → i ≡ no_vips → v ≡ no_leases → KeepsHistory q [] → w ≡ none_written → IsTied s t i v q w
tied_new s t i v q w stands ts is vs keeps none =
    let held : s.held ≡ empty = stands.held ∙ said_nil in
    record {
      counts = ts ∙ sym empty_law ∙ ap tally_in (sym held);
      indexed = subst (λ x. IsIndexOf x s.held) (sym is) (subst (λ m. IsIndexOf no_vips m) (sym held) no_vips_law);
      leased = λ k.
          ap (λ x. lasts (lease_at x k)) vs ∙ ap (λ o. lasts (option_flatten o)) (get-empty key_cmp k)
          ∙ sym (ap (λ m. rows_last (record_at m k)) held ∙ ap entry_lasts (get-empty key_cmp k));
      written = none_are w s.held none held;
      few = let none : len s.held ≡ 0 = ap len held ∙ len-empty key_cmp Entry in omega (arith, none);
      follows = keeps.version ∙ sym stands.version;
    }

-- ---- leases

lasts_extended : (now : ℕ) (o : Option LeaseEntry) → lasts (option_map (extended now) o) ≡ lasts o
lasts_extended now None = refl
lasts_extended now (Some l) = refl

moved : (k : Key) (now : ℕ) (old new : Leases) → Sets k (option_map (extended now) (lease_at old k)) old new → (q : Key) → lasts (lease_at new q) ≡ lasts (lease_at old q)
moved k now old new sets q = ap lasts (sets q) ∙ one (same_key q k) refl
  where
    one : (b : Bool) → same_key q k ≡ b → lasts (cond b (option_map (extended now) (lease_at old k)) (lease_at old q)) ≡ lasts (lease_at old q)
    one true same = lasts_extended now (lease_at old k) ∙ ap (λ x. lasts (lease_at old x)) (sym (same_is q k same))
    one false same = refl

leased_put : (r : Row) (a : Action) (o : Option LeaseEntry) (old new : Leases) → lasts o ≡ Some r.lease.duration_secs → Sets r.key o old new → (m : FinMap key_cmp Entry) → AreLeased m old → AreLeased (insert m r.key (r, a)) new
leased_put r a o old new same sets m leased = λ q. ap lasts (sets q) ∙ one q (same_key q r.key) ∙ sym (ap entry_lasts (get-insert keys_total m r.key (r, a) q))
  where
    one : (q : Key) (b : Bool) → lasts (cond b o (lease_at old q)) ≡ entry_lasts (cond b (Some (r, a)) (get m q))
    one q true = same
    one q false = leased q

leased_out : (k : Key) (old new : Leases) → Sets k None old new → (m : FinMap key_cmp Entry) → AreLeased m old → AreLeased (remove m k) new
leased_out k old new sets m leased = λ q. ap lasts (sets q) ∙ one q (same_key q k) ∙ sym (ap entry_lasts (get-remove keys_total m k q))
  where
    one : (q : Key) (b : Bool) → lasts (cond b None (lease_at old q)) ≡ entry_lasts (cond b None (get m q))
    one q true = refl
    one q false = leased q

leased_by_change : (r : Row) (a : Action) (now : ℕ) (old new : Leases) → Sets r.key (lease_by (r, a) now) old new → (m : FinMap key_cmp Entry) → AreLeased m old → AreLeased (held_after m (Some (r, a))) new
leased_by_change r Added now old new sets m leased = leased_put r Added (Some (marked r.lease.duration_secs now)) old new refl sets m leased
leased_by_change r Modified now old new sets m leased = leased_put r Modified (Some (extended now (marked r.lease.duration_secs now))) old new refl sets m leased
leased_by_change r Deleted now old new sets m leased = leased_out r.key old new sets m leased

-- leases that follow what is ready last as long as the records say
pub leased_by : (c : Option Entry) (k : Key) (renewal : Bool) (now : ℕ) (old new : Leases) → Moves c k renewal now old new → (m : FinMap key_cmp Entry) → AreLeased m old → AreLeased (held_after m c) new
leased_by None k renewal now old new moves m leased = λ q. moved k now old new moves.leases q ∙ leased q
leased_by (Some c) k renewal now old new moves m leased = leased_by_change c.0 c.1 now old new moves.leases m leased

-- ---- numbers

len_put : (m : FinMap key_cmp Entry) (k : Key) (e : Entry) (b : Bool) → contains_key m k ≡ b → len (insert m k e) ≤ len m + 1
len_put m k e true is = let l = len-insert keys_total m k e ∙ ap (λ b. cond b (len m) (len m + 1)) is in omega (arith, l)
len_put m k e false is = let l = len-insert keys_total m k e ∙ ap (λ b. cond b (len m) (len m + 1)) is in omega (arith, l)

len_take : (m : FinMap key_cmp Entry) (k : Key) (b : Bool) → contains_key m k ≡ b → len (remove m k) ≤ len m + 1
len_take m k true is = let l = len-remove keys_total m k ∙ ap (λ b. cond b (len m - 1) (len m)) is in omega (arith, l)
len_take m k false is = let l = len-remove keys_total m k ∙ ap (λ b. cond b (len m - 1) (len m)) is in omega (arith, l)

one_put : (m : FinMap key_cmp Entry) (c : Entry) (o : Option Entry) → put_of c ≡ o → len (held_after m (Some c)) ≤ len m + 1
one_put m c None is = subst (λ x. len (at x) ≤ len m + 1) (sym is) (len_take m (key_of c) (contains_key m (key_of c)) refl)
  where
    at : Option Entry → FinMap key_cmp Entry
    at None = remove m (key_of c)
    at (Some e) = insert m (key_of c) e
one_put m c (Some e) is = subst (λ x. len (at x) ≤ len m + 1) (sym is) (len_put m (key_of c) e (contains_key m (key_of c)) refl)
  where
    at : Option Entry → FinMap key_cmp Entry
    at None = remove m (key_of c)
    at (Some e) = insert m (key_of c) e

-- there are no more records than changes
pub few_after : (m : FinMap key_cmp Entry) (c : Option Entry) (v : ℕ) → len m ≤ v → len (held_after m c) ≤ version_after v c
few_after m None v few = few
few_after m (Some c) v few = let one = one_put m c (put_of c) refl in omega (arith, one, few)

pub stands_same : (h : List Entry) (old new : RegistryState) → IsSameRegistry old new → StandsFor old h → StandsFor new h
stands_same h old new same stands = record { held = same.held ∙ stands.held; version = same.version ∙ stands.version }

few_same : (old new : RegistryState) → IsSameRegistry old new → len old.held ≤ old.version → len new.held ≤ new.version
few_same old new same few = let l = ap len same.held in let v = same.version in omega (arith, l, v, few)

few_taken : (old new : RegistryState) (c : Option Entry) → Takes old c new → len old.held ≤ old.version → len new.held ≤ new.version
few_taken old new c takes few = let l = ap len takes.held in let v = takes.version in let after = few_after old.held c old.version few in omega (arith, l, v, after)

-- what follows a change stays tied
pub tied_after : (old new : RegistryState) (c : Option Entry) (t : Tally) (i : VipKeys) (v₀ v : Leases) (q₀ q : Queue) (w₀ w : KeptTexts) → len old.held ≤ old.version → AreLeased old.held v₀ → version q₀ ≡ old.version → Takes old c new → t ≡ tally_in (held_after old.held c)
    → IsIndexOf i (held_after old.held c) → (AreLeased old.held v₀ → AreLeased (held_after old.held c) v) → version q ≡ version_after (version q₀) c → AreWritten w₀ old.held → (AreWritten w₀ old.held → AreWritten w (held_after old.held c)) → IsTied new t i v q w
tied_after old new c t i v₀ v q₀ q w₀ w few leased said takes counted indexed moves recent written follows = record {
  counts = counted ∙ ap tally_in (sym takes.held);
  indexed = subst (λ m. IsIndexOf i m) (sym takes.held) indexed;
  leased = subst (λ m. AreLeased m v) (sym takes.held) (moves leased);
  written = subst (λ m. AreWritten w m) (sym takes.held) (follows written);
  few = few_taken old new c takes few;
  follows = recent ∙ ap (λ n. version_after n c) said ∙ sym takes.version;
}

-- what gets more places stays tied
pub tied_same : (old new : RegistryState) (t : Tally) (i j : VipKeys) (v w : Leases) (q r : Queue) (x y : KeptTexts) → IsTied old t i v q x → IsSameRegistry old new → vips.IsSameVips i j → leases.IsSameLeases v w → queue.IsSameQueue q r → IsSameWritten x y → IsTied new t j w r y
tied_same old new t i j v w q r x y tied same vips_same leases_same queue_same texts_same = record {
  counts = tied.counts ∙ ap tally_in (sym same.held);
  indexed = subst (λ m. IsIndexOf j m) (sym same.held) (same_vips_law old.held i j tied.indexed vips_same);
  leased = subst (λ m. AreLeased m w) (sym same.held) (λ k. ap lasts (leases_same.leases k) ∙ tied.leased k);
  written = subst (λ m. AreWritten y m) (sym same.held) (same_are x y old.held texts_same tied.written);
  few = few_same old new same tied.few;
  follows = (λ k. queue_same.base k + length (queue_same.kept k)) ∙ tied.follows ∙ sym same.version;
}

-- what is the same as the view of a core is the same as the core
pub same_from : (view old new : core.CoreState) → view ≡ old → core.IsSameCore view new → core.IsSameCore old new
same_from view old new is same = subst (λ s. core.IsSameCore s new) is same

-- a call that is refused for a missing lease alone
pub missed : {A : Type 0} (r : Result A Fault) (P : Type 0) → (r ≡ Err NotFound → P) → IfErr r (λ e. e ≡ NotFound) → OnErr r P
missed (Ok x) P missing only = tt
missed (Err e) P missing only = missing (ap Err only)

-- ---- vips

pub places_kept : (old new : VipKeys) (o : Option Entry) → vips.KeepsVipPlaces old new → HasVipPlaces old o → HasVipPlaces new o
places_kept old new None keeps has = has
places_kept old new (Some e) keeps has = λ q k is. keeps q k (has q k is)

-- what was at a change's key is taken, what it puts is added, and places are given back
pub indexed_after : (m : FinMap key_cmp Entry) (r : Row) (a : Action) (old taken added new : VipKeys) → IsIndexOf old m → IfSome (get m r.key) (λ d. key_of d ≡ r.key)
    → vips.RemovesAny (get m r.key) old taken → AddsAny (put_of (r, a)) taken added → vips.IsSameVips added new → IsIndexOf new (held_after m (Some (r, a)))
indexed_after m r Added old taken added new index own takes adds swept = same_vips_law (insert m r.key (r, Added)) added new (put_vips_law m (r, Added) old taken added index own takes adds) swept
indexed_after m r Modified old taken added new index own takes adds swept = same_vips_law (insert m r.key (r, Modified)) added new (put_vips_law m (r, Modified) old taken added index own takes adds) swept
indexed_after m r Deleted old taken added new index own takes adds swept =
    same_vips_law (remove m r.key) added new (same_vips_law (remove m r.key) taken added (gone_vips_law m r.key old taken index own takes) adds) swept
