-- The last change of a key.
use Rattle.std.proofs.Common.{◌≡◌, ℕ, ◌≤◌, ◌-◌, Bool, true, false, ◌||◌, cond, List, [], ◌∷◌, ◌++◌, map, take, drop, Option, Some, None, option_map, refl, sym, ap, ◌∙◌, arith}
use Rattle.std.proofs.lemmas.List.{take-append-drop, drop-drop}
use Rattle.std.specs.Option.{option_or}
use Rattle.std.specs.List.{list_any}
use Rattle.disco_values.specs.Key.{same_key}
use Rattle.disco_values.specs.declared.key.Key.{Key}
use Rattle.disco_history.specs.Change.{Entry, key_of, last}

or_assoc : {V : Type 0} (a b c : Option V) → option_or a (option_or b c) ≡ option_or (option_or a b) c
or_assoc None b c = refl
or_assoc (Some x) b c = refl

or_none : {V : Type 0} (a : Option V) → option_or a None ≡ a
or_none None = refl
or_none (Some x) = refl

absent_step : (e : Entry) (any b : Bool) (o : Option Entry) → (any ≡ false → o ≡ None) → (b || any) ≡ false → option_or o (cond b (Some e) None) ≡ None
absent_step e any true o ih is = cc
absent_step e any false o ih is = or_none o ∙ ih is

-- a key that no change names has no last change
pub last_absent : (q : Key) (es : List Entry) → list_any (same_key q) (map key_of es) ≡ false → last es q ≡ None
last_absent q [] is = refl
last_absent q (e ∷ es) is = absent_step e (list_any (same_key q) (map key_of es)) (same_key q (key_of e)) (last es q) (last_absent q es) is

pub last-append : (xs ys : List Entry) (q : Key) → last (xs ++ ys) q ≡ option_or (last ys q) (last xs q)
last-append [] ys q = sym (or_none _)
last-append (x ∷ xs) ys q = ap (λ o. option_or o (cond (same_key q (key_of x)) (Some x) None)) (last-append xs ys q) ∙ sym (or_assoc (last ys q) (last xs q) _)

one_or : (b : Bool) (e : Entry) (o : Option Entry) → option_or (cond b (Some e) None) o ≡ cond b (Some e) o
one_or true e o = refl
one_or false e o = refl

-- the last change of a history with one more
pub last_more : (h : List Entry) (e : Entry) (q : Key) → last (h ++ e ∷ []) q ≡ cond (same_key q (key_of e)) (Some e) (last h q)
last_more h e q = last-append h (e ∷ []) q ∙ one_or (same_key q (key_of e)) e (last h q)

-- ---- the last change of a part

first_none : {V : Type 0} (a b : Option V) → option_or a b ≡ None → a ≡ None
first_none None b e = refl
first_none (Some x) b e = e

-- a key that no change names is named by none of the last ones
last_none-drop : (n : ℕ) (h : List Entry) (q : Key) → last h q ≡ None → last (drop n h) q ≡ None
last_none-drop n h q none = first_none (last (drop n h) q) (last (take n h) q) (sym (last-append (take n h) (drop n h) q) ∙ ap (λ es. last es q) (take-append-drop n h) ∙ none)

-- where no change from o on names the key, a front of at least o changes has its last one
pub last_of_front : (h : List Entry) (o a : ℕ) (q : Key) → o ≤ a → last (drop o h) q ≡ None → last (take a h) q ≡ last h q
last_of_front h o a q le none =
    let rest : drop a h ≡ drop (a - o) (drop o h) = sym (drop-drop (a - o) o h ∙ ap (λ n. drop n h) (omega (arith, le))) in
    let nothing : last (drop a h) q ≡ None = ap (λ es. last es q) rest ∙ last_none-drop (a - o) (drop o h) q none in
    sym (ap (λ es. last es q) (sym (take-append-drop a h)) ∙ last-append (take a h) (drop a h) q ∙ ap (λ x. option_or x (last (take a h) q)) nothing)

pub last_by_parts : (h : List Entry) (o : ℕ) (q : Key) → last h q ≡ option_or (last (drop o h) q) (last (take o h) q)
last_by_parts h o q = ap (λ es. last es q) (sym (take-append-drop o h)) ∙ last-append (take o h) (drop o h) q

one_mapped : (f : Entry → Entry) (b : Bool) (e : Entry) (o p : Option Entry) → o ≡ option_map f p → option_or o (cond b (Some (f e)) None) ≡ option_map f (option_or p (cond b (Some e) None))
one_mapped f b e o None same = ap (λ x. option_or x (cond b (Some (f e)) None)) same ∙ through b
  where
    through : (b : Bool) → cond b (Some (f e)) None ≡ option_map f (cond b (Some e) None)
    through true = refl
    through false = refl
one_mapped f b e o (Some p) same = ap (λ x. option_or x (cond b (Some (f e)) None)) same

-- what keeps the keys keeps the last changes
pub last_mapped : (f : Entry → Entry) → ((e : Entry) → key_of (f e) ≡ key_of e) → (es : List Entry) (q : Key) → last (map f es) q ≡ option_map f (last es q)
last_mapped f keeps [] q = refl
last_mapped f keeps (e ∷ es) q = ap (λ k. option_or (last (map f es) q) (cond (same_key q k) (Some (f e)) None)) (keeps e) ∙ one_mapped f (same_key q (key_of e)) e (last (map f es) q) (last es q) (last_mapped f keeps es q)
