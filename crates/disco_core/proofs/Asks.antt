-- What an operation that is accepted asks, and what leases and marks are after it.
use Rattle.std.proofs.Common.{◌≡◌, ℕ, ◌+◌, ◌*◌, Bool, true, false, cond, nat_lt, List, [], ◌∷◌, Option, Some, None, option_map, is_none, IsSome, Result, Ok, Err, refl, sym, ap, subst, ◌∙◌, ◌&&◌, not}
use Rattle.std.specs.FinMap.{FinMap, get, get-empty, insert, remove, get-insert, get-remove, len}
use Rattle.std.specs.Option.{ok_or, option_flatten, option_map_or}
use Rattle.std.proofs.lemmas.Option.{same_Some}
use Rattle.std.proofs.lemmas.List.{map-append}
use Rattle.disco_values.specs.Entries.{with_entries}
use Rattle.disco_values.specs.Key.{key_cmp, same_key}
use Rattle.disco_instance.specs.Instance.{if_ok}
use Rattle.disco_instance.specs.Moments.{cancelled_at, modified_at}
use Rattle.disco_instance.specs.Row.{Row}
use Rattle.disco_values.specs.Status.{is_same, status_named}
use Rattle.disco_values.specs.declared.action.Action.TheVariants.{Added, Modified, Deleted}
use Rattle.disco_values.specs.declared.fault.Fault.{Fault}
use Rattle.disco_values.specs.declared.fault.Fault.TheVariants.{BadStatus, NotFound, TooManyInstances, VersionsSpent}
use Rattle.disco_values.specs.declared.key.Key.{Key}
use Rattle.disco_values.specs.declared.status.Status.{Status}
use Rattle.disco_values.specs.declared.status.Status.TheVariants.{Unknown}
use Rattle.disco_history.specs.Change.{Entry, key_of}
use Rattle.disco_history.specs.Held.{record_at}
use Rattle.disco_history.specs.Registry.{registry_of}
use Rattle.disco_history.proofs.Keys.{keys_total}
use Rattle.disco_history.proofs.Restrictions.{held_key}
use Rattle.disco_history.proofs.Sets.{get-reg, get-said_reg}
use Rattle.disco_lease.specs.Leases.{LeaseEntry, Leases, Sets, counted, extended, lease_at, no_leases}
use Rattle.disco_registry.specs.Accept.{RegistryLimits, accepts, change_asked, if_left, limits_of}
use Rattle.disco_queue.specs.Queue.{Queue}
use Rattle.disco_queue.specs.Timed.{Timed}
use Rattle.disco_registry.specs.Commit as commit
use Rattle.disco_registry.specs.Op.{OpView, op_key, register, cancel, renew, set_status, drop_status, add_metadata}
use Rattle.disco_registry.specs.Settle.{settle}
use Rattle.disco_registry.specs.State as registry
use Rattle.disco_core.specs.Past.{Past, duration_at, history, marks_after, nothing, renewals_after, with_change, with_done}
use Rattle.disco_core.specs.Moves.{GoesOn, Moves, counted_by, lease_by}
use Rattle.disco_core.proofs.Runs.{run_done}
use Rattle.disco_core.specs.State.{AreLeasesOf, IsFor, Prepared, Remembers, CoreStandsFor, CoreState, is_renewal}
use Rattle.disco_core.specs.Tied.{AreLeased}

-- ---- what is accepted

-- the key is held, and its record stays, or gets another status or override
data Stays (o : Option Row) (c : Option Entry) : Type 0 where
  same : (r : Row) → o ≡ Some r → c ≡ None → Stays o c
  modified : (r : Row) (status overridden : Status) (now : ℕ) → o ≡ Some r → c ≡ Some (modified_at r status overridden now, Modified) → Stays o c

-- the key is held, and its record goes
record Goes (o : Option Row) (c : Option Entry) : Type 0 where
  row : Row
  moment : ℕ
  there : o ≡ Some row
  change : c ≡ Some (cancelled_at row moment, Deleted)

-- a record of that key is put
record Comes (k : Key) (c : Option Entry) : Type 0 where
  row : Row
  key : row.key ≡ k
  change : c ≡ Some (row, Added)

abbrev Done : Type 0
Done = Result (Option Entry) Fault

abbrev ok : Option Entry → Done
ok c = Ok c

abbrev no : Fault → Done
no e = Err e

left : (limits : RegistryLimits) (version : ℕ) (r : Result (Option Entry) Fault) (c : Option Entry) → if_left limits version r ≡ Ok c → r ≡ Ok c
left limits version (Err e) c is = is
left limits version (Ok None) c is = is
left limits version (Ok (Some d)) c is = one (nat_lt version (limits.versions)) is
  where
    one : (b : Bool) → cond b (ok (Some d)) (no VersionsSpent) ≡ ok c → ok (Some d) ≡ ok c
    one true is = is
    one false is = absurd (cc)

done : (c d : Option Entry) → ok c ≡ ok d → d ≡ c
done c d is = cc

goes : (o : Option Row) (now : ℕ) (c : Option Entry) → if_ok (ok_or o NotFound) (λ r. ok (Some (cancelled_at r now, Deleted))) ≡ ok c → Goes o c
goes None now c is = absurd (cc)
goes (Some r) now c is = record { row = r; moment = now; there = refl; change = done _ c is }

renews : (o : Option Row) (c : Option Entry) → if_ok (ok_or o NotFound) (λ r. cond (is_same r.status Unknown) (no NotFound) (ok None)) ≡ ok c → (r : Row) × (o ≡ Some r) × (c ≡ None)
renews None c is = absurd (cc)
renews (Some r) c is = one (is_same r.status Unknown) is
  where
    one : (b : Bool) → cond b (no NotFound) (ok None) ≡ ok c → (x : Row) × (Some r ≡ Some x) × (c ≡ None)
    one true is = absurd (cc)
    one false is = (r, refl, done None c is)

sets_status : (s : Option Status) (o : Option Row) (now : ℕ) (c : Option Entry) → if_ok (ok_or s BadStatus) (λ t. if_ok (ok_or o NotFound) (λ r. cond (is_same r.status t) (ok None) (ok (Some (modified_at r t t now, Modified))))) ≡ ok c → Stays o c
sets_status None o now c is = absurd (cc)
sets_status (Some s) None now c is = absurd (cc)
sets_status (Some s) (Some r) now c is = one (is_same r.status s) is
  where
    one : (b : Bool) → cond b (ok None) (ok (Some (modified_at r s s now, Modified))) ≡ ok c → Stays (Some r) c
    one true is = same r refl (done None c is)
    one false is = modified r s s now refl (done _ c is)

drops_status : (s : Option Status) (o : Option Row) (now : ℕ) (c : Option Entry) → if_ok (ok_or s BadStatus) (λ t. if_ok (ok_or o NotFound) (λ r. cond (is_same r.overridden_status Unknown) (ok None) (ok (Some (modified_at r t Unknown now, Modified))))) ≡ ok c → Stays o c
drops_status None o now c is = absurd (cc)
drops_status (Some s) None now c is = absurd (cc)
drops_status (Some s) (Some r) now c is = one (is_same r.overridden_status Unknown) is
  where
    one : (b : Bool) → cond b (ok None) (ok (Some (modified_at r s Unknown now, Modified))) ≡ ok c → Stays (Some r) c
    one true is = same r refl (done None c is)
    one false is = modified r s Unknown now refl (done _ c is)

settled_key : (o : Option Row) (p : Row) (now : ℕ) (k : Key) → ((r : Row) → o ≡ Some r → r.key ≡ k) → p.key ≡ k → (settle o p now).key ≡ k
settled_key None p now k held posted = posted
settled_key (Some r) p now k held posted = one (nat_lt p.last_dirty r.last_dirty)
  where
    one : (b : Bool) → (cond b r p).key ≡ k
    one true = held r refl
    one false = posted

adds_metadata : (o : Option Row) (es : List (List ℕ × List ℕ)) (now : ℕ) (k : Key) (c : Option Entry) → ((r : Row) → o ≡ Some r → r.key ≡ k) → if_ok (ok_or o NotFound) (λ r. ok (Some (settle (Some r) (record r { metadata = with_entries r.metadata es }) now, Added))) ≡ ok c → Comes k c
adds_metadata None es now k c held is = absurd (cc)
adds_metadata (Some r) es now k c held is = record {
  row = settle (Some r) (record r { metadata = with_entries r.metadata es }) now;
  key = settled_key (Some r) (record r { metadata = with_entries r.metadata es }) now k held (held r refl);
  change = done _ c is;
}

registers : (limits : RegistryLimits) (held : FinMap key_cmp Entry) (p : Row) (now : ℕ) (c : Option Entry) → ((r : Row) → record_at held p.key ≡ Some r → r.key ≡ p.key) → change_asked limits (record_at held) (len held) (register p) now ≡ Ok c → Comes p.key c
registers limits held p now c own is = one (is_none (record_at held p.key) && not (nat_lt (len held) (limits.instances))) is
  where
    one : (b : Bool) → cond b (no TooManyInstances) (ok (Some (settle (record_at held p.key) p now, Added))) ≡ ok c → Comes p.key c
    one true is = absurd (cc)
    one false is = record { row = settle (record_at held p.key) p now; key = settled_key (record_at held p.key) p now p.key own refl; change = done _ c is }

-- ---- marks

abbrev mark_of : Option LeaseEntry → Option ℕ
mark_of o = option_map (λ l. l.mark) o

abbrev lasts : Option LeaseEntry → Option ℕ
lasts o = option_map (λ l. l.duration_secs) o

abbrev rows_last : Option Row → Option ℕ
rows_last o = option_map (λ r. r.lease.duration_secs) o

-- leases and marks that agree, once a lease is set and its mark with it
put_mark : (k : Key) (o : Option LeaseEntry) (n : ℕ) (v w : Leases) (m : FinMap key_cmp ℕ) → mark_of o ≡ Some n → Sets k o v w → ((q : Key) → mark_of (lease_at v q) ≡ get m q) → (q : Key) → mark_of (lease_at w q) ≡ get (insert m k n) q
put_mark k o n v w m is sets agree q = ap mark_of (sets q) ∙ one (same_key q k) ∙ sym (get-insert keys_total m k n q)
  where
    one : (b : Bool) → mark_of (cond b o (lease_at v q)) ≡ cond b (Some n) (get m q)
    one true = is
    one false = agree q

out_mark : (k : Key) (v w : Leases) (m : FinMap key_cmp ℕ) → Sets k None v w → ((q : Key) → mark_of (lease_at v q) ≡ get m q) → (q : Key) → mark_of (lease_at w q) ≡ get (remove m k) q
out_mark k v w m sets agree q = ap mark_of (sets q) ∙ one (same_key q k) ∙ sym (get-remove keys_total m k q)
  where
    one : (b : Bool) → mark_of (cond b None (lease_at v q)) ≡ cond b None (get m q)
    one true = refl
    one false = agree q

-- a lease of that duration, moved
extended_mark : (now n : ℕ) (o : Option LeaseEntry) → lasts o ≡ Some n → mark_of (option_map (extended now) o) ≡ Some (now + n * 1000)
extended_mark now n None is = absurd (cc)
extended_mark now n (Some l) is = ap (λ d. Some (now + d * 1000)) (same_Some l.duration_secs n is)

has_lease : (n : ℕ) (o : Option LeaseEntry) → lasts o ≡ Some n → IsSome o
has_lease n None is = absurd (cc)
has_lease n (Some l) is = refl

-- ---- leases after what was asked

own_of : (k : Key) (r : Row) (o : Option Entry) → ((e : Entry) → o ≡ Some e → k ≡ key_of e) → option_map (λ e. e.0) o ≡ Some r → r.key ≡ k
own_of k r None held is = absurd (cc)
own_of k r (Some e) held is = ap (λ (x : Row). x.key) (sym (same_Some e.0 r is)) ∙ sym (held e refl)

module _ (s : registry.RegistryState) (v w : Leases) (p : Past) (now : ℕ) (c : Option Entry) (renewal : Bool) (stands : registry.StandsFor s (history p)) (agree : AreLeasesOf v p) where
  at_key : (k : Key) → record_at s.held k ≡ get (registry_of (history p)) k
  at_key k = ap (λ m. record_at m k) stands.held ∙ get-said_reg (history p) k

  own : (k : Key) (r : Row) → record_at s.held k ≡ Some r → r.key ≡ k
  own k r is = own_of k r (get s.held k) (λ e there. held_key (history p) k e (sym (ap (λ (m : FinMap key_cmp Entry). get m k) stands.held) ∙ there)) is

  duration : (k : Key) (r : Row) → record_at s.held k ≡ Some r → duration_at p k ≡ r.lease.duration_secs * 1000
  duration k r there = ap (λ (o : Option Row). option_map_or (λ x. x.lease.duration_secs * 1000) o 0) (sym (at_key k) ∙ there)

  lasting : (k : Key) (r : Row) → record_at s.held k ≡ Some r → lasts (lease_at v k) ≡ Some r.lease.duration_secs
  lasting k r there = agree.durations k ∙ ap rows_last (sym (at_key k) ∙ there)

  goes_on_mark : (k : Key) (r : Row) → record_at s.held k ≡ Some r → GoesOn k renewal now v w → (q : Key) → mark_of (lease_at w q) ≡ get (insert p.marks k (now + duration_at p k)) q
  goes_on_mark k r there goes =
      put_mark k (option_map (extended now) (lease_at v k)) (now + duration_at p k) v w p.marks
      (extended_mark now r.lease.duration_secs (lease_at v k) (lasting k r there) ∙ ap (λ d. Some (now + d)) (sym (duration k r there))) goes.leases agree.marks

  stays_mark : (k : Key) → Stays (record_at s.held k) c → Moves c k renewal now v w → (q : Key) → mark_of (lease_at w q) ≡ get (insert p.marks k (now + duration_at p k)) q
  stays_mark k (same r there none) moves = goes_on_mark k r there (subst (λ (x : Option Entry). Moves x k renewal now v w) none moves)
  stays_mark k (modified r status overridden moment there is) moves =
      let e : Entry = (modified_at r status overridden moment, Modified) in
      let follows = subst (λ (x : Option Entry). Moves x k renewal now v w) is moves in
      put_mark k (lease_by e now) (now + duration_at p k) v w p.marks (ap (λ d. Some (now + d)) (sym (duration k r there)))
      (subst (λ (x : Key). Sets x (lease_by e now) v w) (own k r there) follows.leases) agree.marks

  comes_mark : (k j : Key) → Comes k c → Moves c j renewal now v w → (q : Key) → mark_of (lease_at w q) ≡ get (insert p.marks k now) q
  comes_mark k j comes moves =
      let e : Entry = (comes.row, Added) in
      let follows = subst (λ (x : Option Entry). Moves x j renewal now v w) comes.change moves in
      put_mark k (lease_by e now) now v w p.marks refl (subst (λ (x : Key). Sets x (lease_by e now) v w) comes.key follows.leases) agree.marks

  goes_mark : (k j : Key) → Goes (record_at s.held k) c → Moves c j renewal now v w → (q : Key) → mark_of (lease_at w q) ≡ get (remove p.marks k) q
  goes_mark k j gone moves =
      let follows = subst (λ (x : Option Entry). Moves x j renewal now v w) gone.change moves in
      out_mark k v w p.marks (subst (λ (x : Key). Sets x None v w) (own k gone.row gone.there) follows.leases) agree.marks

  marks_on : (ask : OpView) → change_asked (limits_of s) (record_at s.held) (len s.held) ask now ≡ Ok c → Moves c (op_key ask) renewal now v w → (q : Key) → mark_of (lease_at w q) ≡ get (marks_after p now ask) q
  marks_on (register posted) is moves = comes_mark posted.key posted.key (registers (limits_of s) s.held posted now c (own posted.key) is) moves
  marks_on (cancel k) is moves = goes_mark k k (goes (record_at s.held k) now c is) moves
  marks_on (renew k) is moves = let r = renews (record_at s.held k) c is in goes_on_mark k r.0 r.1 (subst (λ (x : Option Entry). Moves x k renewal now v w) r.2 moves)
  marks_on (set_status k text) is moves = stays_mark k (sets_status (status_named text) (record_at s.held k) now c is) moves
  marks_on (drop_status k text) is moves = stays_mark k (drops_status (option_map_or status_named text (Some Unknown)) (record_at s.held k) now c is) moves
  marks_on (add_metadata k es) is moves = comes_mark k k (adds_metadata (record_at s.held k) es now k c (own k) is) moves

  stays_count : (k : Key) → Stays (record_at s.held k) c → renewal ≡ false → Moves c k renewal now v w → w.renewals ≡ v.renewals
  stays_count k (same r there none) touched moves =
      let goes = subst (λ (x : Option Entry). Moves x k renewal now v w) none moves in
      goes.renewals (has_lease r.lease.duration_secs (lease_at v k) (lasting k r there)) ∙ ap (λ x. counted_by x v.renewals) touched
  stays_count k (modified r status overridden moment there is) touched moves = let follows = subst (λ (x : Option Entry). Moves x k renewal now v w) is moves in follows.renewals

  change_count : (e : Entry) (k : Key) → c ≡ Some e → Moves c k renewal now v w → w.renewals ≡ v.renewals
  change_count e k is moves = let follows = subst (λ (x : Option Entry). Moves x k renewal now v w) is moves in follows.renewals

  renew_count : (k : Key) (r : Row) → record_at s.held k ≡ Some r → c ≡ None → renewal ≡ true → Moves c k renewal now v w → w.renewals ≡ counted v.renewals
  renew_count k r there none renewal_accepted moves =
      let goes = subst (λ (x : Option Entry). Moves x k renewal now v w) none moves in
      goes.renewals (has_lease r.lease.duration_secs (lease_at v k) (lasting k r there)) ∙ ap (λ x. counted_by x v.renewals) renewal_accepted

  count_on : (ask : OpView) → change_asked (limits_of s) (record_at s.held) (len s.held) ask now ≡ Ok c → renewal ≡ is_renewal ask → Moves c (op_key ask) renewal now v w → w.renewals ≡ renewals_after v.renewals ask
  count_on (register posted) is renewal_is moves = let comes = registers (limits_of s) s.held posted now c (own posted.key) is in change_count (comes.row, Added) posted.key comes.change moves
  count_on (cancel k) is renewal_is moves = let gone = goes (record_at s.held k) now c is in change_count (cancelled_at gone.row gone.moment, Deleted) k gone.change moves
  count_on (renew k) is renewal_is moves = let r = renews (record_at s.held k) c is in renew_count k r.0 r.1 r.2 renewal_is moves
  count_on (set_status k text) is renewal_is moves = stays_count k (sets_status (status_named text) (record_at s.held k) now c is) renewal_is moves
  count_on (drop_status k text) is renewal_is moves = stays_count k (drops_status (option_map_or status_named text (Some Unknown)) (record_at s.held k) now c is) renewal_is moves
  count_on (add_metadata k es) is renewal_is moves = let comes = adds_metadata (record_at s.held k) es now k c (own k) is in change_count (comes.row, Added) k comes.change moves

  closed_on : (o : Option Entry) (k : Key) → Moves o k renewal now v w → w.closed ≡ v.closed
  closed_on None k moves = moves.closed
  closed_on (Some e) k moves = moves.closed

  -- an operation closes no minute
  same_closed : (most : ℕ) (ask : OpView) → p.closed ≡ (with_done most p now ask c).closed
  same_closed most ask = change_closed most c
    where
      change_closed : (most : ℕ) (o : Option Entry) → p.closed ≡ (with_change most p now o).closed
      change_closed most None = refl
      change_closed most (Some e) = refl

  -- the leases are those of what has happened with what was change_asked
  pub leases_on : (most : ℕ) (ask : OpView) (k : Key) (t : registry.RegistryState) → registry.StandsFor t (history (with_done most p now ask c)) → AreLeased t.held w → accepts s ask now ≡ Ok c → k ≡ op_key ask → renewal ≡ is_renewal ask → Moves c k renewal now v w
      → AreLeasesOf w (with_done most p now ask c)
  leases_on most ask k t after leased is key renewal_is moves =
      let does = left (limits_of s) s.version (change_asked (limits_of s) (record_at s.held) (len s.held) ask now) c is in
      let moves_it = subst (λ (x : Key). Moves c x renewal now v w) key moves in
      record {
        durations = λ q. leased q ∙ ap (λ m. rows_last (record_at m q)) after.held ∙ ap rows_last (get-said_reg (history (with_done most p now ask c)) q);
        marks = marks_on ask does moves_it;
        renewals = count_on ask does renewal_is moves_it ∙ ap (λ n. renewals_after n ask) agree.renewals;
        closed = closed_on c k moves ∙ agree.closed ∙ same_closed most ask;
      }

-- ---- a hub after what was asked

longer : (most : ℕ) (p : Past) (now : ℕ) (ask : OpView) (c : Option Entry) → commit.appended (history p) c ≡ history (with_done most p now ask c)
longer most p now ask None = refl
longer most p now ask (Some c) = sym (map-append (λ (t : Timed). t.0) p.timed ((c, now) ∷ []))

remembers : (q : Queue) (most : ℕ) (p : Past) (now : ℕ) (ask : OpView) (c : Option Entry) → Remembers q (with_change most p now c) → Remembers q (with_done most p now ask c)
remembers q most p now ask c is = record { kept = is.kept; base = is.base }

-- a hub that has done what was ready stands for what has happened with it
pub stands_on : (old new : CoreState) (ready : Prepared) (p : Past) (ask : OpView) (kept : Option Entry) → new.run ≡ old.run → IsFor old ready ask → CoreStandsFor old p → registry.StandsFor new.registry (commit.appended (history p) ready.change)
    → Remembers new.queue (with_change old.queue.max p ready.moment kept) → kept ≡ ready.change → AreLeased new.registry.held new.leases
    → Moves ready.change ready.key ready.renewal ready.moment old.leases new.leases → CoreStandsFor new (with_done old.queue.max p ready.moment ask ready.change)
stands_on old new ready p ask kept run_is is stands held recent kept_is leased moves =
    let most = old.queue.max in
    let now = ready.moment in
    let c = ready.change in
    let held_now : registry.StandsFor new.registry (history (with_done most p now ask c)) = subst (registry.StandsFor new.registry) (longer most p now ask c) held in
    record {
      run = run_is ∙ stands.run ∙ sym (run_done most p now ask c);
      registry = held_now;
      queue = remembers new.queue most p now ask c (subst (λ (x : Option Entry). Remembers new.queue (with_change most p now x)) kept_is recent);
      leases = leases_on old.registry old.leases new.leases p now c ready.renewal stands.registry stands.leases most ask ready.key new.registry held_now leased is.accepted is.key is.renewal moves;
    }

-- where nothing has happened there are no leases
pub no_leases_of : (run : ℕ) (v : Leases) → v ≡ no_leases → AreLeasesOf v (nothing run)
no_leases_of run v is = record {
  durations = λ k. ap (λ (x : Leases). lasts (lease_at x k)) is ∙ ap (λ o. lasts (option_flatten o)) (get-empty key_cmp k) ∙ sym (ap rows_last (get-reg [] k));
  marks = λ k. ap (λ (x : Leases). mark_of (lease_at x k)) is ∙ ap (λ o. mark_of (option_flatten o)) (get-empty key_cmp k) ∙ sym (get-empty key_cmp k);
  renewals = ap (λ (x : Leases). x.renewals) is;
  closed = ap (λ (x : Leases). x.closed) is;
}
