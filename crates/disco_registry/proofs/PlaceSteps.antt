-- What each step does to the places of records.
use Rattle.std.proofs.Common.{◌≡◌, ℕ, ◌+◌, ◌-◌, Bool, true, false, cond, Option, Some, None, IfSome, is_some, IsSome, option_map, refl, sym, ap, subst, ◌∙◌, arith}
use Rattle.std.specs.FinMap.{FinMap, contains_key, empty, get, insert, remove, len, get-empty, get-insert, get-remove, len-empty, len-insert, len-remove, same_map}
use Rattle.std.specs.Borrow.{Bor}
use Rattle.std.specs.Option.{option_copied, option_flatten}
use Rattle.disco_values.specs.Key.{key_cmp, same_key}
use Rattle.disco_values.specs.declared.key.Key.{Key}
use Rattle.disco_history.specs.Change.{Entry}
use Rattle.disco_history.specs.Held.{entry_of}
use Rattle.disco_history.specs.declared.held.Held.{Held}
use Rattle.disco_history.proofs.Keys.{keys_total, exact_keys, same_is}
use Rattle.disco_history.proofs.PlaceLemmas.{get_filled, filled_put, filled_out, filled_open, filled_closed}
use Rattle.disco_history.proofs.Slots.{itself}
use Rattle.disco_registry.specs.Records.{AreInPlace, HasNextPlace, IsHeld, key_of_held, next_left, of_key, mentions_held}

abbrev Place : Type 0
Place = Option (Option Held)

abbrev Placed : Type 0
Placed = FinMap key_cmp (Option Held)

abbrev shown : Place → Option Entry
shown o = option_map entry_of (option_flatten o)

pub at : (p : Placed) (q : Key) → get (mentions_held p) q ≡ shown (get p q)
at p q = get_filled entry_of p q

-- ---- nothing

pub none_shown : mentions_held empty ≡ empty
none_shown = same_map keys_total exact_keys _ _ (λ q. at empty q ∙ ap shown (get-empty key_cmp q) ∙ sym (get-empty key_cmp q))

absent : {A : Type 0} (q : Key) (p : Option Held) → get (empty {X = Option Held} {R = key_cmp}) q ≡ Some p → A
absent q p is = absurd (let none : None ≡ Some p = sym (get-empty key_cmp q) ∙ is in cc)

pub placed-new : AreInPlace empty None None
placed-new = record {
  keyed = λ q h is. absent q (Some h) is;
  empty = λ q is. absent q None is;
  place = tt;
  sought = tt;
  count = ap (λ m. len m + 0) none_shown ∙ (let e = len-empty key_cmp Entry in let f = len-empty key_cmp (Option Held) in omega (arith, e, f));
}

-- ---- a record that is sought

key_of_entry : (h o : Held) → Some (entry_of h) ≡ Some (entry_of o) → key_of_held h ≡ key_of_held o
key_of_entry h o e = ap (λ (x : Option Entry). pick x) e
  where
    pick : Option Entry → Key
    pick None = key_of_held h
    pick (Some x) = x.0.key

pub sought_held : (p : Placed) (next last : Option Held) (k : Key) (o s : Option Held) → AreInPlace p next last → o ≡ option_flatten (get p k) → IfSome s (λ h. Some (entry_of h) ≡ option_map entry_of o) → IsHeld p s
sought_held p next last k o None placed is shares = tt
sought_held p next last k None (Some s) placed is shares = absurd (cc)
sought_held p next last k (Some o) (Some s) placed is shares =
    let there : get p k ≡ Some (Some o) = filled_place (get p k) o (sym is) in
    let key : key_of_held s ≡ k = key_of_entry s o shares ∙ placed.keyed k o there in
    ap (get (mentions_held p)) key ∙ at p k ∙ ap shown there ∙ sym shares
  where
    filled_place : (x : Place) (h : Held) → option_flatten x ≡ Some h → x ≡ Some (Some h)
    filled_place None h e = absurd (cc)
    filled_place (Some None) h e = absurd (cc)
    filled_place (Some (Some g)) h e = ap (λ y. Some y) e

pub sought_again : (p : Placed) (next last s : Option Held) → AreInPlace p next last → IsHeld p s → AreInPlace p next s
sought_again p next last s placed is = record { keyed = placed.keyed; empty = placed.empty; place = placed.place; sought = is; count = placed.count }

-- ---- what is at a key

keyed_at : (p : Placed) (next last : Option Held) (k : Key) (h : Held) → AreInPlace p next last → Some h ≡ option_flatten (get p k) → key_of_held h ≡ k
keyed_at p next last k h placed is = placed.keyed k h (filled_place (get p k) (sym is))
  where
    filled_place : (x : Place) → option_flatten x ≡ Some h → x ≡ Some (Some h)
    filled_place None e = absurd (cc)
    filled_place (Some None) e = absurd (cc)
    filled_place (Some (Some g)) e = ap (λ y. Some y) e

-- where no place stands empty a key without a record has none
pub no_place : (p : Placed) (last : Option Held) (k : Key) → AreInPlace p None last → get (mentions_held p) k ≡ None → get p k ≡ None
no_place p last k placed none = by (get p k) refl (sym (at p k) ∙ none)
  where
    by : (x : Place) → get p k ≡ x → shown x ≡ None → x ≡ None
    by None is e = refl
    by (Some None) is e = absurd (placed.empty k is)
    by (Some (Some h)) is e = absurd (cc)

pub shown_same : (p : Placed) (last : Option Held) (k : Key) → AreInPlace p None last → contains_key (mentions_held p) k ≡ contains_key p k
shown_same p last k placed = ap is_some (at p k) ∙ by (get p k) refl
  where
    by : (x : Place) → get p k ≡ x → is_some (shown x) ≡ is_some x
    by None is = refl
    by (Some None) is = absurd (placed.empty k is)
    by (Some (Some h)) is = refl

-- ---- steps

kept_out : (b : Bool) (x y : Place) → cond b None x ≡ y → is_some y ≡ true → (b ≡ false) × (x ≡ y)
kept_out true x y is some = absurd (let none : false ≡ true = ap is_some is ∙ some in cc)
kept_out false x y is some = (refl, is)

apart : (q k : Key) → same_key q k ≡ false → q ≡ k → ⊥
apart q k other same = absurd (let bad : true ≡ false = sym (ap (λ x. same_key x k) same ∙ itself k) ∙ other in cc)

less : (b : Bool) (n : ℕ) → b ≡ true → cond b (n - 1) n ≡ n - 1
less true n e = refl
less false n e = absurd (cc)

more : (b : Bool) (n : ℕ) → b ≡ false → cond b n (n + 1) ≡ n + 1
more true n e = absurd (cc)
more false n e = refl

as_many : (b : Bool) (n : ℕ) → b ≡ true → cond b n (n + 1) ≡ n
as_many true n e = refl
as_many false n e = absurd (cc)

module _ (p : Placed) (k : Key) where
  out : (q : Key) (y : Place) → get (remove p k) q ≡ y → is_some y ≡ true → (same_key q k ≡ false) × (get p q ≡ y)
  out q y is some = kept_out (same_key q k) (get p q) y (sym (get-remove keys_total p k q) ∙ is) some

same_held : (p r : Placed) (last : Option Held) → mentions_held r ≡ mentions_held p → IsHeld p last → IsHeld r last
same_held p r None same held = tt
same_held p r (Some h) same held = ap (λ m. get m (key_of_held h)) same ∙ held

-- the empty place of a record shows nothing
empty_shown : (p : Placed) (n : Held) (last : Option Held) → AreInPlace p (Some n) last → get (mentions_held p) (key_of_held n) ≡ None
empty_shown p n last placed = at p (key_of_held n) ∙ ap shown placed.place

pub forgotten_shown : (p r : Placed) (n : Held) (last : Option Held) → AreInPlace p (Some n) last → r ≡ remove p (key_of_held n) → mentions_held r ≡ mentions_held p
forgotten_shown p r n last placed e = ap mentions_held e ∙ filled_closed entry_of p (key_of_held n) (empty_shown p n last placed)

pub placed-forgotten : (p r : Placed) (n : Held) (last : Option Held) → AreInPlace p (Some n) last → r ≡ remove p (key_of_held n) → AreInPlace r None last
placed-forgotten p r n last placed e =
    let k = key_of_held n in
    let there : is_some (get p k) ≡ true = ap is_some placed.place in
    let fewer : len r ≡ len p - 1 = ap len e ∙ len-remove keys_total p k ∙ less (contains_key p k) (len p) there in
    let same = forgotten_shown p r n last placed e in
    let shows = ap len same in
    let counts = placed.count in record {
      keyed = λ q h is. placed.keyed q h (out p k q (Some (Some h)) (ap (λ x. get x q) (sym e) ∙ is) refl).1;
      empty = λ q is. let o = out p k q (Some None) (ap (λ x. get x q) (sym e) ∙ is) refl in apart q k o.0 (placed.empty q o.1);
      place = tt;
      sought = same_held p r last same placed.sought;
      count = omega (arith, fewer, shows, counts);
    }

put_in : (b : Bool) (v : Option Held) (x y : Place) → cond b (Some v) x ≡ y → (b ≡ true → Some v ≡ y → ⊥) → (b ≡ false) × (x ≡ y)
put_in true v x y is never = absurd (never refl is)
put_in false v x y is never = (refl, is)

module _ (p r : Placed) (k : Key) (v : Option Held) (e : r ≡ insert p k v) where
  in_at : (q : Key) → get r q ≡ cond (same_key q k) (Some v) (get p q)
  in_at q = ap (λ x. get x q) e ∙ get-insert keys_total p k v q

  pub here : get r k ≡ Some v
  here = in_at k ∙ ap (λ b. cond b (Some v) (get p k)) (itself k)

  inside : (q : Key) (y : Place) → get r q ≡ y → (same_key q k ≡ true → Some v ≡ y → ⊥) → (same_key q k ≡ false) × (get p q ≡ y)
  inside q y is never = put_in (same_key q k) v (get p q) y (sym (in_at q) ∙ is) never

pub made_shown : (p r : Placed) (k : Key) → get (mentions_held p) k ≡ None → r ≡ insert p k None → mentions_held r ≡ mentions_held p
made_shown p r k none e = ap mentions_held e ∙ filled_open entry_of p k none

pub placed-made : (p r : Placed) (n : Held) (last : Option Held) → AreInPlace p None last → get (mentions_held p) (key_of_held n) ≡ None → r ≡ insert p (key_of_held n) None → AreInPlace r (Some n) last
placed-made p r n last placed none e =
    let k = key_of_held n in
    let was : get p k ≡ None = no_place p last k placed none in
    let more_places : len r ≡ len p + 1 = ap len e ∙ len-insert keys_total p k None ∙ more (contains_key p k) (len p) (ap is_some was) in
    let same = made_shown p r k none e in
    let shows = ap len same in
    let counts = placed.count in record {
      keyed = λ q h is. placed.keyed q h (inside p r k None e q (Some (Some h)) is (λ t bad. absurd (cc))).1;
      empty = λ q is. by q (same_key q k) refl is;
      place = here p r k None e;
      sought = same_held p r last same placed.sought;
      count = omega (arith, more_places, shows, counts);
    }
  where
    by : (q : Key) (b : Bool) → same_key q (key_of_held n) ≡ b → get r q ≡ Some None → q ≡ key_of_held n
    by q true same is = same_is q (key_of_held n) same
    by q false same is = absurd (placed.empty q (sym (in_at p r (key_of_held n) None e q ∙ ap (λ b. cond b (Some None) (get p q)) same) ∙ is))

-- a record that is put
pub put_shown : (p r : Placed) (k : Key) (a : Held) → r ≡ insert p k (Some a) → mentions_held r ≡ insert (mentions_held p) k (entry_of a)
put_shown p r k a e = ap mentions_held e ∙ filled_put entry_of p k a

pub has_place : (p : Placed) (next last : Option Held) (k : Key) → AreInPlace p next last → (get (mentions_held p) k ≡ None → option_map key_of_held next ≡ Some k) → IsSome (get p k)
has_place p next last k placed next_is = by (get p k) refl
  where
    next_place : (n : Option Held) → HasNextPlace p n → option_map key_of_held n ≡ Some k → get p k ≡ Some None
    next_place None place is = absurd (cc)
    next_place (Some n) place is = ap (get p) (sym (some_is is)) ∙ place
      where
        some_is : Some (key_of_held n) ≡ Some k → key_of_held n ≡ k
        some_is e = ap (λ (o : Option Key). pick o) e
          where
            pick : Option Key → Key
            pick None = k
            pick (Some x) = x

    by : (x : Place) → get p k ≡ x → IsSome (get p k)
    by None is = absurd (let bad : None ≡ Some None = sym is ∙ next_place next placed.place (next_is (at p k ∙ ap shown is)) in cc)
    by (Some v) is = subst (λ (o : Place). IsSome o) (sym is) refl

module _ (p r : Placed) (k : Key) (a : Held) (e : r ≡ insert p k (Some a)) (key : key_of_held a ≡ k) where
  put_keyed : (next last : Option Held) → AreInPlace p next last → (q : Key) (h : Held) → get r q ≡ Some (Some h) → key_of_held h ≡ q
  put_keyed next last placed q h is = by (same_key q k) refl
    where
      is_a : Some (Some a) ≡ Some (Some h) → key_of_held a ≡ key_of_held h
      is_a s = ap (λ (o : Place). pick o) s
        where
          pick : Place → Key
          pick None = k
          pick (Some None) = k
          pick (Some (Some x)) = key_of_held x

      by : (b : Bool) → same_key q k ≡ b → key_of_held h ≡ q
      by true same = sym (is_a (sym (in_at p r k (Some a) e q ∙ ap (λ b. cond b (Some (Some a)) (get p q)) same) ∙ is)) ∙ key ∙ sym (same_is q k same)
      by false same = placed.keyed q h (sym (in_at p r k (Some a) e q ∙ ap (λ b. cond b (Some (Some a)) (get p q)) same) ∙ is)

  pub placed-put : (next last : Option Held) → AreInPlace p next last → (get (mentions_held p) k ≡ None → option_map key_of_held next ≡ Some k) → AreInPlace r (next_left k next) None
  placed-put next last placed next_is = by next placed next_is
    where
      shows : len (mentions_held r) ≡ cond (contains_key (mentions_held p) k) (len (mentions_held p)) (len (mentions_held p) + 1)
      shows = ap len (put_shown p r k a e) ∙ len-insert keys_total (mentions_held p) k (entry_of a)

      places : len r ≡ cond (contains_key p k) (len p) (len p + 1)
      places = ap len e ∙ len-insert keys_total p k (Some a)

      old_place : (q : Key) → get r q ≡ Some None → (same_key q k ≡ false) × (get p q ≡ Some None)
      old_place q is = inside p r k (Some a) e q (Some None) is (λ t bad. absurd (cc))

      held_place : (n : Option Held) → (get (mentions_held p) k ≡ None → option_map key_of_held n ≡ Some k) → (option_map key_of_held n ≡ Some k → ⊥) → is_some (get (mentions_held p) k) ≡ true
      held_place n is never = at_most (get (mentions_held p) k) refl
        where
          at_most : (o : Option Entry) → get (mentions_held p) k ≡ o → is_some (get (mentions_held p) k) ≡ true
          at_most None none = absurd (never (is none))
          at_most (Some x) some = ap is_some some

      shown_place : is_some (get (mentions_held p) k) ≡ true → is_some (get p k) ≡ true
      shown_place is = of (get p k) refl
        where
          of : (x : Place) → get p k ≡ x → is_some (get p k) ≡ true
          of None none = absurd (let bad : true ≡ false = sym is ∙ ap is_some (at p k ∙ ap shown none) in cc)
          of (Some v) some = ap is_some some

      by : (n : Option Held) → AreInPlace p n last → (get (mentions_held p) k ≡ None → option_map key_of_held n ≡ Some k) → AreInPlace r (next_left k n) None
      by None was is =
          let held = held_place None is (λ bad. absurd (cc)) in
          let one = shows ∙ as_many _ _ held in
          let two = places ∙ as_many _ _ (shown_place held) in
          let counts = was.count in record {
            keyed = put_keyed None last was;
            empty = λ q empty. was.empty q (old_place q empty).1;
            place = tt;
            sought = tt;
            count = omega (arith, one, two, counts);
          }
      by (Some n) was is = of (same_key (key_of_held n) k) refl
        where
          of : (b : Bool) → same_key (key_of_held n) k ≡ b → AreInPlace r (cond b None (Some n)) None
          of true same =
              let n_is = same_is (key_of_held n) k same in
              let here_was : get p k ≡ Some None = ap (get p) (sym n_is) ∙ was.place in
              let one = shows ∙ more _ _ (ap is_some (at p k ∙ ap shown here_was)) in
              let two = places ∙ as_many _ _ (ap is_some here_was) in
              let counts = was.count in record {
                keyed = put_keyed (Some n) last was;
                empty = λ q empty. let o = old_place q empty in apart q k o.0 (was.empty q o.1 ∙ n_is);
                place = tt;
                sought = tt;
                count = omega (arith, one, two, counts);
              }
          of false same =
              let held = held_place (Some n) is (λ bad. apart (key_of_held n) k same (some_is bad)) in
              let one = shows ∙ as_many _ _ held in
              let two = places ∙ as_many _ _ (shown_place held) in
              let counts = was.count in record {
                keyed = put_keyed (Some n) last was;
                empty = λ q empty. was.empty q (old_place q empty).1;
                place = in_at p r k (Some a) e (key_of_held n) ∙ ap (λ b. cond b (Some (Some a)) (get p (key_of_held n))) same ∙ was.place;
                sought = tt;
                count = omega (arith, one, two, counts);
              }
            where
              some_is : Some (key_of_held n) ≡ Some k → key_of_held n ≡ k
              some_is s = ap (λ (o : Option Key). pick o) s
                where
                  pick : Option Key → Key
                  pick None = k
                  pick (Some x) = x

-- a record that goes
pub taken_shown : (p r : Placed) (k : Key) → r ≡ remove p k → mentions_held r ≡ remove (mentions_held p) k
taken_shown p r k e = ap mentions_held e ∙ filled_out entry_of p k

pub placed-taken : (p r : Placed) (k : Key) (last : Option Held) → AreInPlace p None last → r ≡ remove p k → AreInPlace r None None
placed-taken p r k last placed e =
    let one = ap len (taken_shown p r k e) ∙ len-remove keys_total (mentions_held p) k ∙ ap (λ b. cond b (len (mentions_held p) - 1) (len (mentions_held p))) (shown_same p last k placed) in
    let two = ap len e ∙ len-remove keys_total p k in
    let counts = placed.count in record {
      keyed = λ q h is. placed.keyed q h (out p k q (Some (Some h)) (ap (λ x. get x q) (sym e) ∙ is) refl).1;
      empty = λ q is. placed.empty q (out p k q (Some None) (ap (λ x. get x q) (sym e) ∙ is) refl).1;
      place = tt;
      sought = tt;
      count = alike (contains_key p k) (len (mentions_held p)) (len p) (len (mentions_held r)) (len r) one two counts;
    }
  where
    alike : (b : Bool) (m n x y : ℕ) → x ≡ cond b (m - 1) m → y ≡ cond b (n - 1) n → m + 0 ≡ n → x + 0 ≡ y
    alike true m n x y one two counts = omega (arith, one, two, counts)
    alike false m n x y one two counts = omega (arith, one, two, counts)

-- ---- what views say

pub none_next : (o : Option Held) → option_map key_of_held o ≡ None → o ≡ None
none_next None e = refl
none_next (Some h) e = absurd (cc)

pub left_held : (p : Placed) (last : Option Held) (k : Key) (h : Held) → IsHeld p last → Some h ≡ of_key k last → (Some (entry_of h) ≡ get (mentions_held p) k) × (key_of_held h ≡ k)
left_held p None k h held is = absurd (cc)
left_held p (Some o) k h held is = by (same_key (key_of_held o) k) refl is
  where
    same_record : Some h ≡ Some o → h ≡ o
    same_record e = ap (λ (x : Option Held). pick x) e
      where
        pick : Option Held → Held
        pick None = h
        pick (Some x) = x

    by : (b : Bool) → same_key (key_of_held o) k ≡ b → Some h ≡ cond b (Some o) None → (Some (entry_of h) ≡ get (mentions_held p) k) × (key_of_held h ≡ k)
    by false same e = absurd (cc)
    by true same e =
        let key = same_is (key_of_held o) k same in
        let is_o = same_record e in
        (ap (λ x. Some (entry_of x)) is_o ∙ sym held ∙ ap (get (mentions_held p)) key, ap key_of_held is_o ∙ key)

pub map_copied : (o : Option (Bor Held)) → option_map (λ (h : Bor Held). entry_of h.now) o ≡ option_map entry_of (option_copied o)
map_copied None = refl
map_copied (Some h) = refl

pub keys_at : (p : Placed) (next last : Option Held) (k : Key) (o : Option (Bor Held)) → AreInPlace p next last → option_copied o ≡ option_flatten (get p k) → IfSome o (λ (h : Bor Held). key_of_held h.now ≡ k)
keys_at p next last k None placed is = tt
keys_at p next last k (Some h) placed is = keyed_at p next last k h.now placed is

-- the record that is put next is not there yet
pub next_absent : (p : Placed) (next last : Option Held) (k : Key) → AreInPlace p next last → is_some (of_key k next) ≡ true → None ≡ get (mentions_held p) k
next_absent p None last k placed is = absurd (cc)
next_absent p (Some n) last k placed is = by (same_key (key_of_held n) k) refl is
  where
    by : (b : Bool) → same_key (key_of_held n) k ≡ b → is_some (cond b (Some n) None) ≡ true → None ≡ get (mentions_held p) k
    by false same e = absurd (cc)
    by true same e = sym (ap (get (mentions_held p)) (sym (same_is (key_of_held n) k same)) ∙ at p (key_of_held n) ∙ ap shown placed.place)

pub copied_there : (o : Option (Bor Held)) → is_some (option_copied o) ≡ is_some o
copied_there None = refl
copied_there (Some h) = refl

some_mention : (o : Option Held) → is_some o ≡ is_some (option_map entry_of o)
some_mention None = refl
some_mention (Some h) = refl

-- a record is found just where one is held
pub held_there : (p : Placed) (k : Key) (o : Option (Bor Held)) → option_copied o ≡ option_flatten (get p k) → is_some o ≡ is_some (get (mentions_held p) k)
held_there p k o is = sym (copied_there o) ∙ ap is_some is ∙ some_mention (option_flatten (get p k)) ∙ ap is_some (sym (at p k))
