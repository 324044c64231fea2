-- What the entries of an `IdMap` are after a change, where it keeps none or one by itself.
use Rattle.std.proofs.Common.{◌≡◌, Bool, true, false, cond, [], ◌∷◌, Option, Some, None, IsSome, is_some, refl, sym, ap, subst, ◌∙◌}
use Rattle.std.proofs.lemmas.Option.{none-some}
use Rattle.std.specs.BTreeMap.{is_at}
use Rattle.std.specs.FinMap.{FinMap, empty, entries, get, get-empty, insert, remove}
use Rattle.std.specs.List.Sorted.{IsStrictlySortedBy}
use Rattle.std.specs.Option.{option_flatten}
use Rattle.disco_places.specs.KeyMaps.{text_cmp}
use Rattle.disco_places.proofs.Stored.{Text, at_text, get_stored, ids_of, one_out, one_put, stored, text-sym, text_is}

module _ {V : Type 0} where
  abbrev pub one : Text → V → FinMap text_cmp V
  one k x = ids_of ((k, x) ∷ [])

  -- ---- what one entry has

  pub get_one : (own k : Text) (x : V) (b : Bool) → is_at (text_cmp k) own ≡ b → get (one own x) k ≡ cond b (Some x) None
  get_one own k x b is = get_stored ((own, x) ∷ []) k ∙ ap (λ c. cond c (Some x) None) is

  if_some : (b : Bool) (x : V) → b ≡ is_some (cond b (Some x) None)
  if_some true x = refl
  if_some false x = refl

  pub one_there : (own k : Text) (x : V) → is_at (text_cmp k) own ≡ is_some (get (one own x) k)
  one_there own k x = if_some (is_at (text_cmp k) own) x ∙ ap is_some (sym (get_one own k x (is_at (text_cmp k) own) refl))

  -- ---- the entries, in order

  pub entries_none : entries (ids_of {V = V} []) ≡ []
  unfolding IsStrictlySortedBy
  entries_none = stored [] tt

  pub entries_one : (k : Text) (x : V) → entries (one k x) ≡ (k, x) ∷ []
  unfolding IsStrictlySortedBy
  entries_one k x = stored ((k, x) ∷ []) (tt, tt)

  -- ---- what becomes of it

  over : (b c : Bool) (x y : V) → c ≡ b → cond b (Some y) None ≡ cond c (Some y) (cond b (Some x) None)
  over true true x y e = refl
  over false false x y e = refl
  over true false x y e = cc
  over false true x y e = cc

  put_own : (k : Text) (x y : V) → one k y ≡ insert (one k x) k y
  put_own k x y = one_put ((k, x) ∷ []) ((k, y) ∷ []) k y (λ q. over (is_at (text_cmp q) k) (is_at (text_cmp k) q) x y (text-sym k q))

  -- its value is replaced
  pub put_over : (own k : Text) (x y : V) → is_at (text_cmp k) own ≡ true → one own y ≡ insert (one own x) k y
  put_over own k x y is = subst (λ (a : Text). one a y ≡ insert (one a x) k y) (text_is k own is) (put_own k x y)

  gone : (b c : Bool) (x : V) → c ≡ b → None ≡ cond c None (cond b (Some x) None)
  gone true true x e = refl
  gone false false x e = refl
  gone true false x e = cc
  gone false true x e = cc

  out_own : (k : Text) (x : V) → empty ≡ remove (one k x) k
  out_own k x = one_out ((k, x) ∷ []) [] k (λ q. gone (is_at (text_cmp q) k) (is_at (text_cmp k) q) x (text-sym k q))

  -- it is removed
  pub out_one : (own k : Text) (x : V) → is_at (text_cmp k) own ≡ true → empty ≡ remove (one own x) k
  out_one own k x is = subst (λ (a : Text). empty ≡ remove (one a x) k) (text_is k own is) (out_own k x)

  -- or another id is
  pub out_other : (own k : Text) (x : V) → is_at (text_cmp k) own ≡ false → one own x ≡ remove (one own x) k
  out_other own k x other = one_out ((own, x) ∷ []) ((own, x) ∷ []) k (λ q. stays q (is_at (text_cmp k) q) refl)
    where
      stays : (q : Text) (b : Bool) → is_at (text_cmp k) q ≡ b → at_text ((own, x) ∷ []) q ≡ cond b None (at_text ((own, x) ∷ []) q)
      stays q true is = ap (λ b. cond b (Some x) None) (subst (λ (a : Text). is_at (text_cmp a) own ≡ false) (text_is k q is) other)
      stays q false is = refl

  abbrev nothing : Option V
  nothing = None

  -- nothing is removed of none
  pub out_none : (k : Text) → ids_of {V = V} [] ≡ remove (ids_of []) k
  out_none k = one_out [] [] k (λ q. same (is_at (text_cmp k) q))
    where
      same : (b : Bool) → nothing ≡ cond b nothing nothing
      same true = refl
      same false = refl

  -- ---- a value that comes in the place of another

  not_there : (o : Option V) → o ≡ None → IsSome o → ⊥
  not_there None e h = absurd (let bad : false ≡ true = h in cc)
  not_there (Some v) e h = none-some v (sym e)

  pub swap_there : (own k : Text) (x y z : V) (b : Bool) → is_at (text_cmp k) own ≡ b → z ≡ cond b y x → IsSome (get (one own x) k) → one own z ≡ insert (one own x) k y
  swap_there own k x y z true is new there = ap (one own) new ∙ put_over own k x y is
  swap_there own k x y z false is new there = absurd (not_there (get (one own x) k) (get_one own k x false is) there)

  pub swap_none : (own k : Text) (x y z : V) (b : Bool) → is_at (text_cmp k) own ≡ b → z ≡ cond b y x → get (one own x) k ≡ None → one own z ≡ one own x
  swap_none own k x y z true is new none = absurd (none-some x (sym none ∙ get_one own k x true is))
  swap_none own k x y z false is new none = ap (one own) new

module _ {V : Type 0} where
  -- whether one place has a value
  pub flat_there : (own k : Text) (p : Option V) → cond (is_at (text_cmp k) own) (is_some p) false ≡ is_some (option_flatten (get (one own p) k))
  flat_there own k p = flat (is_at (text_cmp k) own) ∙ ap (λ o. is_some (option_flatten o)) (sym (get_one own k p (is_at (text_cmp k) own) refl))
    where
      flat : (b : Bool) → cond b (is_some p) false ≡ is_some (option_flatten (cond b (Some p) None))
      flat true = refl
      flat false = refl

pub none_there : (V : Type 0) (k : Text) → IsSome (get (ids_of {V = V} []) k) → ⊥
none_there V k h = not_there (get (ids_of {V = V} []) k) (get-empty text_cmp k) h
