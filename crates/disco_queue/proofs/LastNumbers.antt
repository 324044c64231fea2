-- The number of each key's last change, as changes come and leave.
use Rattle.std.proofs.Common.{◌≡◌, ℕ, zero, suc, ◌+◌, ◌-◌, ◌<◌, ◌==◌, Bool, true, false, cond, T, List, [], ◌∷◌, ◌++◌, length, Option, Some, None, IsSome, is_some, nat_lt, option_and_then, refl, sym, ap, subst, ◌∙◌, arith}
use Rattle.std.proofs.Math.Dec.{eqb_refl}
use Rattle.std.proofs.lemmas.Bool.{le-ltb, lt-ltb, eqb-true}
use Rattle.std.proofs.lemmas.Option.{same_Some}
use Rattle.std.specs.FinMap.{FinMap, get}
use Rattle.std.specs.List.{slice_get}
use Rattle.std.specs.Option.{option_or, unwrap_or}
use Rattle.disco_values.specs.Key.{key_cmp, same_key}
use Rattle.disco_values.specs.declared.key.Key.{Key}
use Rattle.disco_history.specs.Change.{Entry, key_of, last}
use Rattle.disco_history.proofs.Keys.{same_is}
use Rattle.disco_history.proofs.Restrictions.{last_key}
use Rattle.disco_history.specs.Slots.{AltersAt, opened, written}
use Rattle.disco_queue.specs.Numbers.{AreNumbered, LeavesNone, last_number, later_or, number_in, number_kept, numbered}

abbrev Places : Type 0
Places = FinMap key_cmp ℕ

some_later : (n here : ℕ) → 0 < n → later_or n here ≡ n
some_later n here lt = ap (λ b. cond b n here) (lt-ltb 0 n lt)

none_later : (n here : ℕ) → n ≡ 0 → later_or n here ≡ here
none_later n here is = ap (λ m. later_or m here) is

nothing_here : (n : ℕ) → later_or n 0 ≡ n
nothing_here zero = refl
nothing_here (suc n) = some_later (suc n) 0 (omega arith)

-- the key has no change and no number, or the number is that of its last change's place
data Placed (before n : ℕ) (es : List Entry) (o : Option Entry) : Type 0 where
  nowhere : n ≡ 0 → o ≡ None → Placed before n es o
  there : (i : ℕ) (e : Entry) → n ≡ before + i + 1 → o ≡ Some e → slice_get es i ≡ Some e → Placed before n es o

placed : (before : ℕ) (es : List Entry) (k : Key) → Placed before (last_number before es k) es (last es k)
placed before [] k = nowhere refl refl
placed before (e ∷ es) k = one (same_key k (key_of e)) (placed (before + 1) es k)
  where
    one : (b : Bool) → Placed (before + 1) (last_number (before + 1) es k) es (last es k) → Placed before (later_or (last_number (before + 1) es k) (cond b (before + 1) 0)) (e ∷ es) (option_or (last es k) (cond b (Some e) None))
    one b (there i x n o at) =
        there (suc i) x (some_later (last_number (before + 1) es k) (cond b (before + 1) 0) (omega (arith, n)) ∙ omega (arith, n)) (ap (λ y. option_or y (cond b (Some e) None)) o) at
    one true (nowhere n o) = there 0 e (none_later (last_number (before + 1) es k) (before + 1) n ∙ omega arith) (ap (λ y. option_or y (Some e)) o) refl
    one false (nowhere n o) = nowhere (none_later (last_number (before + 1) es k) 0 n) (ap (λ y. option_or y (cond false (Some e) None)) o)

-- ---- a change comes at the back

number_more : (before : ℕ) (es : List Entry) (e : Entry) (k : Key) → last_number before (es ++ e ∷ []) k ≡ cond (same_key k (key_of e)) (before + length es + 1) (last_number before es k)
number_more before [] e k = ap (λ n. cond (same_key k (key_of e)) n 0) (omega arith)
number_more before (x ∷ es) e k =
    ap (λ n. later_or n (cond (same_key k (key_of x)) (before + 1) 0)) (number_more (before + 1) es e k) ∙ one (same_key k (key_of e))
  where
    one : (b : Bool) → later_or (cond b (before + 1 + length es + 1) (last_number (before + 1) es k)) (cond (same_key k (key_of x)) (before + 1) 0)
        ≡ cond b (before + suc (length es) + 1) (later_or (last_number (before + 1) es k) (cond (same_key k (key_of x)) (before + 1) 0))
    one true = some_later (before + 1 + length es + 1) (cond (same_key k (key_of x)) (before + 1) 0) (omega arith) ∙ omega arith
    one false = refl

one_written : (number : ℕ) (o : Option ℕ) → IsSome o → unwrap_or (written number o) 0 ≡ number
one_written number None some = absurd (cc)
one_written number (Some n) some = refl

pub number_written : (old new : Places) (before number : ℕ) (es : List Entry) (e : Entry) → number ≡ before + length es + 1 → IsSome (get old (key_of e)) → AltersAt (written number) (key_of e) old new
    → AreNumbered old before es → AreNumbered new before (es ++ e ∷ [])
number_written old new before number es e is some alters are k =
    ap (λ o. unwrap_or o 0) (alters k) ∙ one (same_key k (key_of e)) refl ∙ sym (number_more before es e k)
  where
    one : (b : Bool) → same_key k (key_of e) ≡ b → unwrap_or (cond b (written number (get old k)) (get old k)) 0 ≡ cond b (before + length es + 1) (last_number before es k)
    one true same = one_written number (get old k) (subst (λ (q : Key). IsSome (get old q)) (sym (same_is k (key_of e) same)) some) ∙ is
    one false same = are k

-- ---- the first change leaves

other_key : (o : Option ℕ) (n : ℕ) → unwrap_or o 0 ≡ later_or n 0 → unwrap_or o 0 ≡ n
other_key o n is = is ∙ nothing_here n

not_same : (a b : ℕ) → b < a → (a == b) ≡ false
not_same a b lt = one (a == b) refl
  where
    one : (c : Bool) → (a == b) ≡ c → c ≡ false
    one false is = refl
    one true is = absurd (omega (arith, lt, eqb-true a b is))

holds : (b : Bool) → T b → b ≡ true
holds true h = refl
holds false h = absurd h

same : (a : ℕ) → (a == a) ≡ true
same a = holds (a == a) (eqb_refl a)

own_key : (before : ℕ) (es : List Entry) (o : Option ℕ) (n : ℕ) (x : Option Entry) → Placed (before + 1) n es x → unwrap_or o 0 ≡ later_or n (before + 1) → unwrap_or (number_kept (before + 1) o) 0 ≡ n
own_key before es None n x (nowhere z none) is = absurd (omega (arith, is, none_later n (before + 1) z))
own_key before es None n x (there i e at some found) is = absurd (omega (arith, is, at, some_later n (before + 1) (omega (arith, at))))
own_key before es (Some m) n x (nowhere z none) is =
    let own : m ≡ before + 1 = is ∙ none_later n (before + 1) z in
    ap (λ b. unwrap_or (cond b None (Some m)) 0) (ap (λ a. a == (before + 1)) own ∙ same (before + 1)) ∙ sym z
own_key before es (Some m) n x (there i e at some found) is =
    let later : m ≡ n = is ∙ some_later n (before + 1) (omega (arith, at)) in
    ap (λ b. unwrap_or (cond b None (Some m)) 0) (not_same m (before + 1) (omega (arith, later, at))) ∙ later

pub number_left : (old new : Places) (before : ℕ) (e : Entry) (es : List Entry) → AltersAt (number_kept (before + 1)) (key_of e) old new → AreNumbered old before (e ∷ es) → AreNumbered new (before + 1) es
number_left old new before e es alters are k =
    ap (λ o. unwrap_or o 0) (alters k) ∙ one (same_key k (key_of e)) (are k)
  where
    one : (b : Bool) → unwrap_or (get old k) 0 ≡ later_or (last_number (before + 1) es k) (cond b (before + 1) 0) → unwrap_or (cond b (number_kept (before + 1) (get old k)) (get old k)) 0 ≡ last_number (before + 1) es k
    one true is = own_key before es (get old k) (last_number (before + 1) es k) (last es k) (placed (before + 1) es k) is
    one false is = other_key (get old k) (last_number (before + 1) es k) is

-- a change leaves that isn't its key's last
stays : (before : ℕ) (es : List Entry) (o : Option ℕ) (n here : ℕ) (x : Option Entry) → Placed (before + 1) n es x → IsSome x → unwrap_or o 0 ≡ later_or n here → o ≡ number_kept (before + 1) o
stays before es o n here x (nowhere z none) some is = absurd (let bad = subst (λ (y : Option Entry). IsSome y) none some in cc)
stays before es None n here x (there i e at found found_at) some is = refl
stays before es (Some m) n here x (there i e at found found_at) some is =
    let later : m ≡ n = is ∙ some_later n here (omega (arith, at)) in
    sym (ap (λ b. cond b None (Some m)) (not_same m (before + 1) (omega (arith, later, at))))

pub followed_left : (places : Places) (before : ℕ) (e : Entry) (es : List Entry) → IsSome (last es (key_of e)) → AreNumbered places before (e ∷ es) → AreNumbered places (before + 1) es
followed_left places before e es later are = number_left places places before e es (λ q. one q (same_key q (key_of e)) refl) are
  where
    own : get places (key_of e) ≡ number_kept (before + 1) (get places (key_of e))
    own =
        let k = key_of e in
        stays before es (get places k) (last_number (before + 1) es k) (cond (same_key k k) (before + 1) 0) (last es k) (placed (before + 1) es k) later (are k)

    one : (q : Key) (b : Bool) → same_key q (key_of e) ≡ b → get places q ≡ cond b (number_kept (before + 1) (get places q)) (get places q)
    one q false same = refl
    one q true same = subst (λ (p : Key). get places p ≡ number_kept (before + 1) (get places p)) (sym (same_is q (key_of e) same)) own

-- where the number of a key's last change is found
pub last_placed : (places : Places) (before number : ℕ) (es : List Entry) (k : Key) → AreNumbered places before es → number ≡ number_in places k → before < number
    → (i : ℕ) × (e : Entry) × (number ≡ before + i + 1) × (slice_get es i ≡ Some e) × (same_key k (key_of e) ≡ true)
last_placed places before number es k are is after = by (last es k) refl (placed before es k)
  where
    last_is : number ≡ last_number before es k
    last_is = is ∙ are k

    by : (o : Option Entry) → last es k ≡ o → Placed before (last_number before es k) es o → (i : ℕ) × (e : Entry) × (number ≡ before + i + 1) × (slice_get es i ≡ Some e) × (same_key k (key_of e) ≡ true)
    by o found (nowhere z none) = absurd (omega (arith, after, last_is, z))
    by o found (there i e at some found_at) = (i, e, last_is ∙ at, found_at, last_key es k e (found ∙ some))

-- ---- an empty place

one_opened : (b : Bool) (o : Option ℕ) → unwrap_or (cond b (opened 0 o) o) 0 ≡ unwrap_or o 0
one_opened true o = refl
one_opened false o = refl

-- ---- the change of a number

none_before : (before : ℕ) (es : List Entry) → numbered before es 0 ≡ None
none_before before es = ap (λ b. cond b (slice_get es (0 - before - 1)) None) (le-ltb before 0 (omega arith))

found : (before n : ℕ) (es : List Entry) (o : Option Entry) → Placed before n es o → numbered before es n ≡ o
found before n es o (nowhere z none) = ap (numbered before es) z ∙ none_before before es ∙ sym none
found before n es o (there i e at some is) =
    ap (λ b. cond b (slice_get es (n - before - 1)) None) (lt-ltb before n (omega (arith, at)))
    ∙ ap (slice_get es) (omega (arith, at)) ∙ is ∙ sym some

last_at : (before : ℕ) (es : List Entry) (k : Key) (o : Option ℕ) → unwrap_or o 0 ≡ last_number before es k → option_and_then (numbered before es) o ≡ last es k
last_at before es k None is = sym (none_before before es) ∙ ap (numbered before es) is ∙ found before (last_number before es k) es (last es k) (placed before es k)
last_at before es k (Some n) is = ap (numbered before es) is ∙ found before (last_number before es k) es (last es k) (placed before es k)

-- what the numbers find is the last change of each key
pub last_numbered : (places : Places) (before : ℕ) (es : List Entry) (k : Key) → AreNumbered places before es → option_and_then (numbered before es) (get places k) ≡ last es k
last_numbered places before es k are = last_at before es k (get places k) (are k)

-- ---- which places stand empty

shows : (before n : ℕ) (es : List Entry) (o : Option Entry) → Placed before n es o → nat_lt 0 n ≡ is_some o
shows before n es o (nowhere z none) = ap (nat_lt 0) z ∙ sym (ap is_some none)
shows before n es o (there i e at some is) = lt-ltb 0 n (omega (arith, at)) ∙ sym (ap is_some some)

-- just the keys of the changes have places that don't
pub filled : (places : Places) (before : ℕ) (es : List Entry) → AreNumbered places before es → (k : Key) → nat_lt 0 (unwrap_or (get places k) 0) ≡ is_some (last es k)
filled places before es are k = ap (nat_lt 0) (are k) ∙ shows before (last_number before es k) es (last es k) (placed before es k)

pub none_written : (number : ℕ) (k : Key) (old new : Places) → 0 < number → AltersAt (written number) k old new → LeavesNone old new
none_written number k old new some alters p is = one (same_key p k) (get old p) (sym (alters p) ∙ is)
  where
    one : (b : Bool) (o : Option ℕ) → cond b (written number o) o ≡ Some 0 → o ≡ Some 0
    one false o e = e
    one true None e = e
    one true (Some n) e = absurd (omega (arith, some, same_Some number 0 e))

pub none_left : (number : ℕ) (k : Key) (old new : Places) → AltersAt (number_kept number) k old new → LeavesNone old new
none_left number k old new alters p is = one (same_key p k) (get old p) (sym (alters p) ∙ is)
  where
    kept : (b : Bool) (n : ℕ) → cond b None (Some n) ≡ Some 0 → Some n ≡ Some 0
    kept true n e = absurd (cc)
    kept false n e = e

    one : (b : Bool) (o : Option ℕ) → cond b (number_kept number o) o ≡ Some 0 → o ≡ Some 0
    one false o e = e
    one true None e = e
    one true (Some n) e = kept (n == number) n e
