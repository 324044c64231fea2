-- What a change of a tree's entries does to the places that they represent.
use Rattle.std.proofs.Common.{◌≡◌, Bool, true, false, cond, List, [], ◌∷◌, Option, Some, None, is_some, IsSome, refl, sym, ap, subst, ◌∙◌}
use Rattle.std.specs.BTreeMap.{is_at}
use Rattle.std.specs.FinMap.{FinMap, find, from_entries, get, get-from_entries}
use Rattle.std.specs.Map.{lookup}
use Rattle.std.specs.Ordering.{is_eq}
use Rattle.std.specs.Cmp.{tied_itself}
use Rattle.disco_values.specs.Key.{key_cmp, same_key}
use Rattle.disco_values.specs.declared.key.Key.{Key}
use Rattle.disco_history.specs.Slots.{AltersAt, opened, written}
use Rattle.disco_history.proofs.Keys.{keys_total, same_is, same_key-sym}

pub itself : (k : Key) → same_key k k ≡ true
itself k = ap is_eq (tied_itself keys_total k)

-- what a tree has at a key
abbrev pub at_key : {V : Type 0} → List (Key × V) → Key → Option V
at_key es q = lookup (is_at (key_cmp q)) es

-- what a list has at a key, by either kit's search
pub find_lookup : {V : Type 0} (q : Key) (es : List (Key × V)) → find key_cmp q es ≡ at_key es q
find_lookup q [] = refl
find_lookup q (e ∷ es) = ap (cond (is_at (key_cmp q) e.0) (Some e.1)) (find_lookup q es)

pub get_found : {V : Type 0} (es : List (Key × V)) (q : Key) → get (from_entries {R = key_cmp} es) q ≡ find key_cmp q es
get_found es q = get-from_entries keys_total es q

pub get_stored : {V : Type 0} (es : List (Key × V)) (q : Key) → get (from_entries {R = key_cmp} es) q ≡ at_key es q
get_stored es q = get_found es q ∙ find_lookup q es

-- the tree fs is es with w at the key
abbrev pub Updated : {V : Type 0} → List (Key × V) → List (Key × V) → Key → Option V → Type 0
Updated es fs k w = (q : Key) → at_key fs q ≡ cond (is_at (key_cmp k) q) w (at_key es q)

module _ {V : Type 0} (f : Option V → Option V) (es : List (Key × V)) (k : Key) where
  here : (w : Option V) (p : Key) (b : Bool) → w ≡ f (at_key es k) → same_key p k ≡ b → cond b w (at_key es p) ≡ cond b (f (at_key es p)) (at_key es p)
  here w p true is same = is ∙ ap (λ q. f (at_key es q)) (sym (same_is p k same))
  here w p false is same = refl

  seen : (p : Key) → cond (same_key p k) (f (at_key es p)) (at_key es p) ≡ cond (same_key p k) (f (get (from_entries {R = key_cmp} es) p)) (get (from_entries {R = key_cmp} es) p)
  seen p = ap (λ o. cond (same_key p k) (f o) o) (sym (get_stored es p))

  pub altered : (fs : List (Key × V)) (w : Option V) → Updated es fs k w → w ≡ f (at_key es k) → AltersAt f k (from_entries es) (from_entries fs)
  altered fs w update is p =
      get_stored fs p ∙ update p ∙ ap (λ b. cond b w (at_key es p)) (same_key-sym k p) ∙ here w p (same_key p k) is refl ∙ seen p

  same : (p : Key) (b : Bool) → at_key es k ≡ f (at_key es k) → same_key p k ≡ b → at_key es p ≡ cond b (f (at_key es p)) (at_key es p)
  same p true is e = ap (at_key es) (same_is p k e) ∙ is ∙ ap (λ q. f (at_key es q)) (sym (same_is p k e))
  same p false is e = refl

  pub unaltered : at_key es k ≡ f (at_key es k) → AltersAt f k (from_entries es) (from_entries es)
  unaltered is p = get_stored es p ∙ same p (same_key p k) is refl ∙ seen p

pub opened-none : {V : Type 0} (empty : V) (o : Option V) → is_some o ≡ false → Some empty ≡ opened empty o
opened-none empty None e = refl
opened-none empty (Some x) e = absurd (cc)

pub opened-some : {V : Type 0} (empty : V) (o : Option V) → is_some o ≡ true → o ≡ opened empty o
opened-some empty None e = absurd (cc)
opened-some empty (Some x) e = refl

pub written-some : {V : Type 0} (v : V) (o : Option V) → IsSome o → Some v ≡ written v o
written-some v None e = absurd (cc)
written-some v (Some x) e = refl

-- a place that was opened is there
pub place_opened : {V : Type 0} (empty : V) (old new : FinMap key_cmp V) (k : Key) → AltersAt (opened empty) k old new → IsSome (get new k)
place_opened empty old new k alters = subst (λ (o : Option _). IsSome o) (sym (alters k ∙ ap (λ b. cond b (opened empty (get old k)) (get old k)) (itself k))) refl
