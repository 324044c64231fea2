-- When an operation is accepted.
use Rattle.std.proofs.Common.{◌≡◌, ℕ, ◌<◌, ◌&&◌, Bool, true, false, not, nat_lt, cond, List, Option, Some, None, IfSome, is_some, is_none, option_map, Result, Ok, Err, refl, sym, ap, ◌∙◌, arith}
use Rattle.std.specs.FinMap.{FinMap, get, len}
use Rattle.std.proofs.lemmas.Bool.Decides.{nat_tests}
use Rattle.disco_values.specs.Entries.{with_entries}
use Rattle.disco_values.specs.Key.{key_cmp}
use Rattle.std.specs.Borrow.{Bor}
use Rattle.std.specs.Option.{ok_or}
use Rattle.disco_instance.specs.Instance.{if_ok}
use Rattle.disco_instance.specs.Row.{Row, row}
use Rattle.disco_instance.specs.declared.record.Record.{Record}
use Rattle.disco_values.specs.declared.action.Action.TheVariants.{Added}
use Rattle.disco_values.specs.declared.fault.Fault.{Fault}
use Rattle.disco_values.specs.declared.fault.Fault.TheVariants.{NotFound, TooManyInstances}
use Rattle.disco_values.specs.declared.key.Key.{Key}
use Rattle.disco_history.specs.Change.{Entry}
use Rattle.disco_registry.specs.Accept.{RegistryLimits, accepts, change_asked, if_left, limits_of}
use Rattle.disco_history.specs.Held.{record_at, seen_record}
use Rattle.disco_registry.specs.Op.{register}
use Rattle.disco_registry.specs.Settle.{settle}
use Rattle.disco_registry.specs.State.{RegistryState}

-- a change that is asked for, with a version left or none
pub left_version : (limits : RegistryLimits) (version : ℕ) (c : Entry) (a : Result (Option Entry) Fault) → a ≡ Ok (Some c) → version < limits.versions → if_left limits version a ≡ Ok (Some c)
left_version limits version c a e left = ap (if_left limits version) e ∙ grind (arith, nat_tests, left)

pub accepted_new : (s : RegistryState) (p : Row) (now : ℕ) → (is_none (record_at s.held p.key) && not (nat_lt (len s.held) s.instances)) ≡ false → s.version < s.versions
    → accepts s (register p) now ≡ Ok (Some (settle (record_at s.held p.key) p now, Added))
accepted_new s p now place left =
    left_version (limits_of s) s.version (settle (record_at s.held p.key) p now, Added) (change_asked (limits_of s) (record_at s.held) (len s.held) (register p) now)
    (ap (λ b. cond b (Err TooManyInstances) (Ok (Some (settle (record_at s.held p.key) p now, Added)))) place) left

pub metadata_asked : (o : Option Row) (r : Row) (entries : List (List ℕ × List ℕ)) (now : ℕ) → o ≡ Some r
    → if_ok {B = Option Entry} (ok_or o NotFound) (λ x. Ok (Some (settle (Some x) (record x { metadata = with_entries x.metadata entries }) now, Added))) ≡ Ok (Some (settle (Some r) (record r { metadata = with_entries r.metadata entries }) now, Added))
metadata_asked o r entries now is = ap (λ p. if_ok {B = Option Entry} (ok_or p NotFound) (λ x. Ok (Some (settle (Some x) (record x { metadata = with_entries x.metadata entries }) now, Added)))) is

-- the record that is registered again is of the held record's key
settled_key : (b : Bool) (r p : Row) → p.key ≡ r.key → (cond b r p).key ≡ r.key
settled_key true r p same = refl
settled_key false r p same = same

pub settle-key : (r p : Row) (now : ℕ) → p.key ≡ r.key → (settle (Some r) p now).key ≡ r.key
settle-key r p now same = settled_key (nat_lt p.last_dirty r.last_dirty) r p same

-- a key that has a record needs no new place
pub needs_none : (m : FinMap key_cmp Entry) (k q : Key) (r : Row) (next : Option Key) → record_at m k ≡ Some r → q ≡ k → get m q ≡ None → next ≡ Some q
needs_none m k q r next there same none = absurd (let bad : None ≡ Some r = ap (option_map (λ (e : Entry). e.0)) (sym none ∙ ap (get m) same) ∙ there in cc)

-- ---- the record that a registration puts

pub new_key : (o : Option Row) (p : Row) (now : ℕ) → IfSome o (λ (r : Row). r.key ≡ p.key) → (settle o p now).key ≡ p.key
new_key None p now same = refl
new_key (Some r) p now same = settle-key r p now (sym same) ∙ same

pub seen_key : (o : Option (Bor Record)) (k : Key) → IfSome o (λ (r : Bor Record). r.now.key ≡ k) → IfSome (seen_record o) (λ (r : Row). r.key ≡ k)
seen_key None k same = tt
seen_key (Some r) k same = same

no_entry : (x : Option Entry) → option_map (λ (e : Entry). e.0) x ≡ None → x ≡ None
no_entry None e = refl
no_entry (Some x) e = absurd (cc)

pub fresh : (m : FinMap key_cmp Entry) (k q : Key) (o : Option (Bor Record)) → seen_record o ≡ record_at m k → q ≡ k → is_some o ≡ false → get m q ≡ None
fresh m k q None is same none = ap (get m) same ∙ no_entry (get m k) (sym is)
fresh m k q (Some r) is same none = absurd (cc)

pub fresh_only : (m : FinMap key_cmp Entry) (k q : Key) (o : Option (Bor Record)) → seen_record o ≡ record_at m k → q ≡ k → get m q ≡ None → is_some o ≡ false
fresh_only m k q None is same none = refl
fresh_only m k q (Some r) is same none = absurd (let bad : Some (row r.now) ≡ None = is ∙ ap (option_map (λ (e : Entry). e.0)) (ap (get m) (sym same) ∙ none) in cc)

pub not_false : (b : Bool) → not b ≡ false → b ≡ true
not_false true e = refl
not_false false e = absurd (cc)
