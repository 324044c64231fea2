-- Whether any lease has run out.
use Rattle.std.proofs.Common.{◌≡◌, ℕ, zero, suc, ◌+◌, ◌<◌, ◌||◌, Bool, true, false, cond, List, [], ◌∷◌, ◌++◌, map, length, Option, Some, None, option_map, is_some, refl, sym, ap, subst, ◌∙◌, arith}
use Rattle.std.proofs.lemmas.List.{length-map}
use Rattle.std.specs.FinMap.{FinMap, contains_key, empty_of_len, entries, from_entries, get-empty, keys, len, len-entries, len-insert}
use Rattle.std.specs.List.{cons_option, list_any}
use Rattle.disco_values.specs.Key.{key_cmp}
use Rattle.disco_values.specs.declared.key.Key.{Key}
use Rattle.disco_places.specs.KeyMaps.{ById, of_app, of_apps}
use Rattle.disco_lease.specs.Leases as leases
use Rattle.disco_lease.specs.Due.{due_cmp, due_moment, overdue, passed}
use Rattle.disco_lease.specs.Seen.{has_run_out, ids_with_app, pair, pairs, plain_lease, seen}
use Rattle.disco_lease.specs.declared.lease.Lease.{Lease}
use Rattle.disco_lease.proofs.Due.{dues_total, exact_dues}
use Rattle.disco_lease.proofs.Ordered.{Entries, collected, due_of, entries_stored}

paired : (now : ℕ) (e : Key × Option Lease) → is_some (pair now e) ≡ has_run_out now e.1
paired now e = by (passed now (option_map due_moment (option_map plain_lease e.1)))
  where
    by : (o : Option ℕ) → is_some {T = (ℕ × Key) × Unit {0}} (option_map (λ (m : ℕ). ((m, e.0), tt)) o) ≡ is_some o
    by None = refl
    by (Some m) = refl

no_pairs_by : (now : ℕ) (o : Option ((ℕ × Key) × Unit {0})) (b : Bool) (es : Entries) → is_some o ≡ b → (b || list_any (λ (e : Key × Option Lease). has_run_out now e.1) es) ≡ false → (list_any (λ (e : Key × Option Lease). has_run_out now e.1) es ≡ false → pairs now es ≡ [])
    → cons_option o (pairs now es) ≡ []
no_pairs_by now None false es is none rest = rest none
no_pairs_by now None true es is none rest = absurd (cc)
no_pairs_by now (Some p) true es is none rest = absurd (cc)
no_pairs_by now (Some p) false es is none rest = absurd (cc)

no_pairs : (now : ℕ) (es : Entries) → list_any (λ (e : Key × Option Lease). has_run_out now e.1) es ≡ false → pairs now es ≡ []
no_pairs now [] none = refl
no_pairs now (e ∷ es) none = no_pairs_by now (pair now e) (has_run_out now e.1) es (paired now e) none (no_pairs now es)

some_pairs_by : (now : ℕ) (o : Option ((ℕ × Key) × Unit {0})) (b : Bool) (es : Entries) → is_some o ≡ b → (b || list_any (λ (e : Key × Option Lease). has_run_out now e.1) es) ≡ true → (list_any (λ (e : Key × Option Lease). has_run_out now e.1) es ≡ true → 0 < length (pairs now es))
    → 0 < length (cons_option o (pairs now es))
some_pairs_by now None false es is some rest = rest some
some_pairs_by now None true es is some rest = absurd (cc)
some_pairs_by now (Some p) b es is some rest = omega arith

some_pairs : (now : ℕ) (es : Entries) → list_any (λ (e : Key × Option Lease). has_run_out now e.1) es ≡ true → 0 < length (pairs now es)
some_pairs now [] some = absurd (cc)
some_pairs now (e ∷ es) some = some_pairs_by now (pair now e) (has_run_out now e.1) es (paired now e) some (some_pairs now es)

grown : (b : Bool) (n : ℕ) → (b ≡ true → 0 < n) → 0 < cond b n (n + 1)
grown true n some = some refl
grown false n some = omega arith

none_in : (n : ℕ) (m : FinMap due_cmp (Unit {0})) (q : ℕ × Key) (b : Bool) → contains_key m q ≡ b → len m ≡ n → b ≡ true → 0 < n
none_in zero m q b is none has = absurd (let gone = sym (ap (λ (x : FinMap due_cmp (Unit {0})). contains_key x q) (empty_of_len m none) ∙ ap is_some (get-empty due_cmp q)) ∙ is ∙ has in cc)
none_in (suc n) m q b is some has = omega arith

some_in : (es : List ((ℕ × Key) × Unit {0})) → 0 < length es → 0 < len (from_entries {R = due_cmp} es)
some_in [] some = absurd (omega (arith, some))
some_in (e ∷ es) some =
    let m = from_entries {R = due_cmp} es in
    subst (λ n. 0 < n) (sym (len-insert dues_total m e.0 e.1)) (grown (contains_key m e.0) (len m) (none_in (len m) m e.0 (contains_key m e.0) refl refl))

abbrev due_keys : FinMap key_cmp (Option leases.LeaseEntry) → ℕ → List (ℕ × Key)
due_keys m now = keys (overdue (due_of m) (keys m) now)

-- where none has run out there is none to take
pub none_due : (m : FinMap key_cmp (Option Lease)) (now : ℕ) → list_any (λ (e : Key × Option Lease). has_run_out now e.1) (entries m) ≡ false → due_keys (seen m) now ≡ []
none_due m now none =
    ap (λ (x : FinMap due_cmp (Unit {0})). keys x) (sym (collected m now) ∙ ap (λ l. from_entries l) (no_pairs now (entries m) none))
    ∙ ap (map (λ (e : (ℕ × Key) × Unit {0}). e.0)) (entries_stored dues_total exact_dues [] tt)

-- where one has run out there is one to take
pub some_due : (m : FinMap key_cmp (Option Lease)) (now : ℕ) → list_any (λ (e : Key × Option Lease). has_run_out now e.1) (entries m) ≡ true → 0 < length (due_keys (seen m) now)
some_due m now some =
    let count : len (from_entries {R = due_cmp} (pairs now (entries m))) ≡ length (due_keys (seen m) now) =
    len-entries (from_entries (pairs now (entries m))) ∙ sym (length-map (entries (from_entries {R = due_cmp} (pairs now (entries m)))) (λ (e : (ℕ × Key) × Unit {0}). e.0)) ∙ ap (λ (x : FinMap due_cmp (Unit {0})). length (keys x)) (collected m now) in
    subst (λ n. 0 < n) count (some_in (pairs now (entries m)) (some_pairs now (entries m) some))

any_both : (P : Key × Option Lease → Bool) (xs ys : List (Key × Option Lease)) → list_any P (xs ++ ys) ≡ (list_any P xs || list_any P ys)
any_both P [] ys = refl
any_both P (x ∷ xs) ys = ap (λ b. P x || b) (any_both P xs ys) ∙ by (P x)
  where
    by : (b : Bool) → (b || (list_any P xs || list_any P ys)) ≡ ((b || list_any P xs) || list_any P ys)
    by true = refl
    by false = refl

any_app : (now : ℕ) (a : List ℕ) (es : List (List ℕ × Option Lease)) → list_any (λ (e : Key × Option Lease). has_run_out now e.1) (ids_with_app a es) ≡ list_any (λ (e : List ℕ × Option Lease). has_run_out now e.1) es
any_app now a [] = refl
any_app now a (e ∷ es) = ap (λ b. has_run_out now e.1 || b) (any_app now a es)

-- whether any has of this app, or of the rest
pub any_more : (now : ℕ) (a : List ℕ × ById (Option Lease)) (rest : List (List ℕ × ById (Option Lease))) → list_any (λ (e : Key × Option Lease). has_run_out now e.1) (of_apps (a ∷ rest)) ≡ (list_any (λ (e : List ℕ × Option Lease). has_run_out now e.1) (entries a.1) || list_any (λ (e : Key × Option Lease). has_run_out now e.1) (of_apps rest))
any_more now a rest = any_both (λ (e : Key × Option Lease). has_run_out now e.1) (of_app a) (of_apps rest) ∙ ap (λ b. b || list_any (λ (e : Key × Option Lease). has_run_out now e.1) (of_apps rest)) (any_app now a.0 (entries a.1))
