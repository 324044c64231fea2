-- The held records, by key. Nothing here is to be believed: it is the view and the invariant of a type.
use Rattle.std.specs.Prelude.{◌≡◌, ℕ, ◌+◌, Bool, false, if◌then◌else◌, List, Option, Some, None, IfSome}
use Rattle.std.specs.Str.{bytes_eq}
use Rattle.std.specs.FinMap.{FinMap, get, len}
use Rattle.std.specs.List.{AllByRecursion}
use Rattle.disco_values.specs.Key.{key_cmp, same_key}
use Rattle.disco_values.specs.declared.key.Key.{Key}
use Rattle.disco_history.specs.Change.{Entry}
use Rattle.disco_history.specs.Held.{entry_of}
use Rattle.disco_history.specs.Places.{filled_in}
use Rattle.disco_history.specs.declared.held.Held.{Held}

-- the mentions that are held, and the key whose place is empty, if one is
pub record Contents : Type 0 where
  pub held : FinMap key_cmp Entry
  pub next : Option Key

abbrev pub key_of_held : Held → Key
key_of_held h = h.rec.value.key

abbrev pub mentions_held : FinMap key_cmp (Option Held) → FinMap key_cmp Entry
mentions_held p = filled_in entry_of p

-- the place of the record that is put next is empty
abbrev pub HasNextPlace : FinMap key_cmp (Option Held) → Option Held → Type 0
HasNextPlace p None = Unit {0}
HasNextPlace p (Some h) = get p (key_of_held h) ≡ Some None

-- a record is the one that is held under its key
abbrev pub IsHeld : FinMap key_cmp (Option Held) → Option Held → Type 0
IsHeld p None = Unit {0}
IsHeld p (Some h) = get (mentions_held p) (key_of_held h) ≡ Some (entry_of h)

abbrev pub IsKeyOf : Option Held → Key → Type 0
IsKeyOf None q = ⊥
IsKeyOf (Some h) q = q ≡ key_of_held h

-- there is a record in the place, and it has this id
abbrev pub shows_id : List ℕ → Option Held → Bool
shows_id id None = false
shows_id id (Some h) = bytes_eq h.rec.value.key.id id

-- the record, where it is of that key
abbrev pub of_key : Key → Option Held → Option Held
of_key k None = None
of_key k (Some h) = if same_key (key_of_held h) k then Some h else None

-- the record that is put next, once one of this key is put
abbrev pub next_left : Key → Option Held → Option Held
next_left k None = None
next_left k (Some h) = if same_key (key_of_held h) k then None else Some h

abbrev pub one_if : Option Held → ℕ
one_if None = 0
one_if (Some h) = 1

-- each record stands under its key
abbrev pub AreKeyed : List (Key × Option Held) → Type 0
AreKeyed es = AllByRecursion (λ e. IfSome e.1 (λ h. key_of_held h ≡ e.0)) es

-- each record stands under its id
abbrev pub AreKeyedById : List (List ℕ × Option Held) → Type 0
AreKeyedById es = AllByRecursion (λ e. IfSome e.1 (λ h. (key_of_held h).id ≡ e.0)) es

-- each record stands under its key, and no place is empty but that of the record that is put next
pub record AreInPlace (p : FinMap key_cmp (Option Held)) (next last : Option Held) : Type 0 where
  pub keyed : (q : Key) (h : Held) → get p q ≡ Some (Some h) → key_of_held h ≡ q
  pub empty : (q : Key) → get p q ≡ Some None → IsKeyOf next q
  pub place : HasNextPlace p next
  pub sought : IsHeld p last
  pub count : len (mentions_held p) + one_if next ≡ len p
