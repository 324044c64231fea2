-- How the numbers follow what is put in and taken out, from how the entries do.
use Rattle.std.proofs.Common.{◌≡◌, ℕ, ◌+◌, ◌<◌, ◌≤◌, Bool, true, false, cond, List, [], ◌∷◌, map, length, Option, Some, None, refl, sym, ap, ◌∙◌, arith}
use Rattle.std.specs.Ordering.{is_eq}
use Rattle.std.specs.Cmp.{tied_itself}
use Rattle.std.specs.FinMap.{FinMap, empty, get, insert, remove, entries, entries_sorted, entries-insert, get-entries, get-insert, get-remove, same_map, len, len-entries, len-empty}
use Rattle.std.proofs.lemmas.List.{length-map}
use Rattle.std.proofs.lemmas.List.Sums.{count_by-le-length}
use Rattle.disco_values.specs.Key.{key_cmp, same_key}
use Rattle.disco_instance.specs.Row.{Row}
use Rattle.disco_values.specs.Status.{is_same}
use Rattle.disco_values.specs.declared.key.Key.{Key}
use Rattle.disco_values.specs.declared.status.Status.{Status}
use Rattle.disco_values.specs.declared.status.Status.TheVariants.{Up, Down, Starting, OutOfService, Unknown}
use Rattle.disco_history.specs.Change.{Entry}
use Rattle.disco_history.specs.Hash.{count_of, hash, hash_by}
use Rattle.disco_history.proofs.Keys.{keys_total, exact_keys, same_is}
use Rattle.disco_index.specs.Tally.{Tally, count_in, fewer, more, without, tally_of, tally_in, rows_of}
use Rattle.disco_index.proofs.Numbers.{same_tally, one_if, one_if-same, part, count_in-more, count_in-without}
use Rattle.disco_index.proofs.Entries.{Entries, counted, counted-put}

count_in-tally_of : (rows : List Row) (status : Status) → count_in (tally_of rows) status ≡ count_of rows status
count_in-tally_of rows Down = refl
count_in-tally_of rows OutOfService = refl
count_in-tally_of rows Starting = refl
count_in-tally_of rows Unknown = refl
count_in-tally_of rows Up = refl

no_entries : (es : Entries) → length es ≡ 0 → es ≡ []
no_entries [] h = refl
no_entries (e ∷ es) h = absurd (omega (arith, h))

module _ (m : FinMap key_cmp Entry) (k : Key) where
  there : (e : Entry) (q : Key) (b : Bool) → get m k ≡ Some e → same_key q k ≡ b → cond b (Some e) (cond b None (get m q)) ≡ get m q
  there e q true h same = sym (ap (get m) (same_is q k same) ∙ h)
  there e q false h same = refl

  not_there : (q : Key) (b : Bool) → get m k ≡ None → same_key q k ≡ b → cond b None (get m q) ≡ get m q
  not_there q true h same = sym (ap (get m) (same_is q k same) ∙ h)
  not_there q false h same = refl

  -- what went out and comes in again makes the map that was
  put_back : (e : Entry) → get m k ≡ Some e → insert (remove m k) k e ≡ m
  put_back e h = same_map keys_total exact_keys _ _ (λ q.
      get-insert keys_total (remove m k) k e q
      ∙ ap (cond (same_key q k) (Some e)) (get-remove keys_total m k q)
      ∙ there e q (same_key q k) h refl)

  nothing_out : get m k ≡ None → remove m k ≡ m
  nothing_out h = same_map keys_total exact_keys _ _ (λ q. get-remove keys_total m k q ∙ not_there q (same_key q k) h refl)

  itself : (b : Bool) → same_key k k ≡ b → cond b None (get m k) ≡ None
  itself true e = refl
  itself false e = absurd (let t = tied_itself keys_total k in let h : true ≡ false = sym (ap is_eq t) ∙ e in cc)

  out : get (remove m k) k ≡ None
  out = get-remove keys_total m k k ∙ itself (same_key k k) refl

-- how many entries of the map have the status
abbrev count_at : FinMap key_cmp Entry → Status → ℕ
count_at m status = counted (entries m) status

is_count : (m : FinMap key_cmp Entry) (status : Status) → count_in (tally_in m) status ≡ count_at m status
is_count m status = count_in-tally_of (rows_of m) status

count_at-insert : (m : FinMap key_cmp Entry) (k : Key) (e : Entry) (status : Status) → count_at (insert m k e) status + part (get m k) status ≡ count_at m status + one_if e.0.status status
count_at-insert m k e status =
    let put = ap (λ (es : Entries). counted es status) (entries-insert keys_total m k e) in
    let found = ap (λ o. part o status) (get-entries m k) in
    omega (arith, put, found, counted-put k e status (entries m) (entries_sorted m))

by_entry : (m : FinMap key_cmp Entry) (k : Key) (o : Option Entry) (status : Status) → get m k ≡ o → count_at (remove m k) status + part o status ≡ count_at m status
by_entry m k None status h = let same = ap (λ n. count_at n status) (nothing_out m k h) in omega (arith, same)
by_entry m k (Some e) status h =
    let same = ap (λ n. count_at n status) (put_back m k e h) in
    let none = ap (λ o. part o status) (out m k) in
    omega (arith, same, none, count_at-insert (remove m k) k e status)

count_at-remove : (m : FinMap key_cmp Entry) (k : Key) (status : Status) → count_at (remove m k) status + part (get m k) status ≡ count_at m status
count_at-remove m k status = by_entry m k (get m k) status refl

-- what was at the key is no longer counted
pub remove_law : (m : FinMap key_cmp Entry) (k : Key) → tally_in (remove m k) ≡ without (tally_in m) (get m k)
remove_law m k = same_tally _ _ (λ status.
    let now = is_count (remove m k) status in
    let old = is_count m status in
    let left = count_in-without (tally_in m) (get m k) status in
    omega (arith, now, old, left, count_at-remove m k status))

-- what was at the key is no longer counted, and the new entry is
pub insert_law : (m : FinMap key_cmp Entry) (k : Key) (e : Entry) → tally_in (insert m k e) ≡ more (without (tally_in m) (get m k)) e.0.status
insert_law m k e = same_tally _ _ (λ status.
    let now = is_count (insert m k e) status in
    let old = is_count m status in
    let left = count_in-without (tally_in m) (get m k) status in
    let raised = count_in-more (without (tally_in m) (get m k)) e.0.status status in
    omega (arith, now, old, left, raised, count_at-insert m k e status, count_at-remove m k status))

-- an entry of the map is counted
pub held_law : (m : FinMap key_cmp Entry) (k : Key) (e : Entry) → get m k ≡ Some e → 0 < count_in (tally_in m) e.0.status
held_law m k e h =
    let status = e.0.status in
    let old = is_count m status in
    let is = ap (λ o. part o status) h in
    omega (arith, old, is, one_if-same status, count_at-remove m k status)

-- no number is above the number of entries
pub count_law : (m : FinMap key_cmp Entry) (status : Status) → count_in (tally_in m) status ≤ len m
count_law m status =
    let old = is_count m status in
    let rows = count_by-le-length (λ (r : Row). is_same r.status status) (rows_of m) in
    let values = length-map (map (λ (p : Key × Entry). p.1) (entries m)) (λ (e : Entry). e.0) in
    let pairs = length-map (entries m) (λ (p : Key × Entry). p.1) in
    omega (arith, old, rows, values, pairs, len-entries m)

-- nor is one without what is at a key
pub room_law : (m : FinMap key_cmp Entry) (k : Key) (status : Status) → count_in (without (tally_in m) (get m k)) status ≤ len m
room_law m k status = let left = count_in-without (tally_in m) (get m k) status in omega (arith, left, count_law m status)

pub empty_law : tally_in empty ≡ tally_of []
empty_law = ap tally_of (ap (λ (es : Entries). map (λ (e : Entry). e.0) (map (λ (p : Key × Entry). p.1) es)) none)
  where
    none : entries (empty {X = Entry} {R = key_cmp}) ≡ []
    none = no_entries (entries (empty {X = Entry} {R = key_cmp})) (sym (len-entries (empty {X = Entry} {R = key_cmp})) ∙ len-empty key_cmp Entry)

-- the hash code by the numbers of some rows is that of the rows
pub hash_law : (rows : List Row) → hash_by (count_in (tally_of rows)) ≡ hash rows
hash_law rows = refl

-- one more, where nothing was at the key
pub added : (m : FinMap key_cmp Entry) (k : Key) (e : Entry) (status : Status) (old new : Tally) → new ≡ more old status → e.0.status ≡ status → get m k ≡ None → old ≡ tally_in m → new ≡ tally_in (insert m k e)
added m k e status old new is of none counted =
    is ∙ (λ i. more (counted i) (sym of i)) ∙ sym (insert_law m k e ∙ ap (λ o. more (without (tally_in m) o) e.0.status) none)

-- one fewer, where the entry was at the key
pub taken : (m : FinMap key_cmp Entry) (k : Key) (e : Entry) (status : Status) (old new : Tally) → new ≡ fewer old status → e.0.status ≡ status → get m k ≡ Some e → old ≡ tally_in m → new ≡ tally_in (remove m k)
taken m k e status old new is of there counted =
    is ∙ (λ i. fewer (counted i) (sym of i)) ∙ sym (remove_law m k ∙ ap (λ o. without (tally_in m) o) there)
