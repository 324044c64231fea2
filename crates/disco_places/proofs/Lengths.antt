-- How many places there are after a step.
use Rattle.std.proofs.Common.{◌≡◌, ℕ, ◌+◌, ◌-◌, ◌≤◌, true, false, cond, Option, Some, None, is_some, IsSome, refl, sym, ap, subst, ◌∙◌, arith, Bool, suc, zero}
use Rattle.std.specs.FinMap.{FinMap, empty, empty_of_len, get, get-empty, get-insert, insert, len, len-insert, len-remove, remove, same_map, get-remove}
use Rattle.std.specs.Option.{option_flatten}
use Rattle.disco_values.specs.Key.{key_cmp, same_key}
use Rattle.disco_values.specs.declared.key.Key.{Key}
use Rattle.disco_history.proofs.Keys.{keys_total, exact_keys, same_is}
use Rattle.disco_places.specs.KeyMaps.{Replaces}

module _ {X : Type 0} (m : FinMap key_cmp X) (k : Key) where
  put_step : (n : FinMap key_cmp X) (x : X) (o : Option X) → get m k ≡ o → (IsSome (get m k) → n ≡ insert m k x) → (get m k ≡ None → n ≡ m) → len n ≡ len m
  put_step n x None is there none = ap len (none is)
  put_step n x (Some y) is there none = ap len (there (subst (λ (p : Option X). IsSome p) (sym is) refl)) ∙ len-insert keys_total m k x ∙ ap (λ (p : Option X). cond (is_some p) (len m) (len m + 1)) is

  -- a value in a place that is there, or nowhere
  pub len_put : (n : FinMap key_cmp X) (x : X) → (IsSome (get m k) → n ≡ insert m k x) → (get m k ≡ None → n ≡ m) → len n ≡ len m
  len_put n x there none = put_step n x (get m k) refl there none

  -- one place more
  pub len_made : (n : FinMap key_cmp X) (x : X) → is_some (get m k) ≡ false → n ≡ insert m k x → len n ≡ len m + 1
  len_made n x none is = ap len is ∙ len-insert keys_total m k x ∙ ap (λ b. cond b (len m) (len m + 1)) none

  -- one less
  pub len_out : (n : FinMap key_cmp X) → is_some (get m k) ≡ true → n ≡ remove m k → len n ≡ len m - 1
  len_out n there is = ap len is ∙ len-remove keys_total m k ∙ ap (λ b. cond b (len m - 1) (len m)) there

  none_in : m ≡ empty → is_some (get m k) ≡ true → ⊥
  none_in is there = absurd (let bad : false ≡ true = ap is_some (sym (get-empty key_cmp k)) ∙ (ap (λ n. is_some (get n k)) (sym is) ∙ there) in cc)

  some_step : (l : ℕ) → len m ≡ l → is_some (get m k) ≡ true → 1 ≤ l
  some_step zero is there = absurd (none_in (empty_of_len m is) there)
  some_step (suc l) is there = omega arith

  pub len_some : is_some (get m k) ≡ true → 1 ≤ len m
  len_some there = some_step (len m) refl there

  -- nothing is taken out where there is none
  out_step : (q : Key) (b : Bool) → is_some (get m k) ≡ false → same_key q k ≡ b → cond b None (get m q) ≡ get m q
  out_step q true none is = sym (ap (get m) (same_is q k is) ∙ not_some (get m k) none)
    where
      not_some : (o : Option X) → is_some o ≡ false → o ≡ None
      not_some None e = refl
      not_some (Some x) e = cc
  out_step q false none is = refl

  none_out : is_some (get m k) ≡ false → m ≡ remove m k
  none_out none = same_map keys_total exact_keys _ _ (λ q. sym (get-remove keys_total m k q ∙ out_step q (same_key q k) none refl))

  pub len_same : (n : FinMap key_cmp X) → is_some (get m k) ≡ false → n ≡ remove m k → len n ≡ len m
  len_same n none is = ap len (is ∙ sym (none_out none))

module _ {V : Type 0} (m : FinMap key_cmp (Option V)) (k : Key) where
  same_place : (o : Option (Option V)) → is_some o ≡ true → Some (option_flatten o) ≡ o
  same_place None e = cc
  same_place (Some p) e = refl

  there_step : (q : Key) (b : Bool) → is_some (get m k) ≡ true → same_key q k ≡ b → cond b (Some (option_flatten (get m k))) (get m q) ≡ get m q
  there_step q true there is = same_place (get m k) there ∙ ap (get m) (sym (same_is q k is))
  there_step q false there is = refl

  -- a place that is there is made no more
  pub made_there : is_some (get m k) ≡ true → m ≡ insert m k (option_flatten (get m k))
  made_there there = same_map keys_total exact_keys _ _ (λ q. sym (get-insert keys_total m k (option_flatten (get m k)) q ∙ there_step q (same_key q k) there refl))

  made_step : (n : FinMap key_cmp (Option V)) (o : Option (Option V)) → get m k ≡ o → (IsSome (get m k) → n ≡ m) → (get m k ≡ None → n ≡ insert m k None) → n ≡ insert m k (option_flatten (get m k))
  made_step n None is there absent = absent is ∙ ap (λ p. insert m k (option_flatten p)) (sym is)
  made_step n (Some p) is there absent = there (subst (λ (q : Option (Option V)). IsSome q) (sym is) refl) ∙ made_there (ap is_some is)

  -- an empty place where there was none
  pub made : (n : FinMap key_cmp (Option V)) → (IsSome (get m k) → n ≡ m) → (get m k ≡ None → n ≡ insert m k None) → n ≡ insert m k (option_flatten (get m k))
  made n there absent = made_step n (get m k) refl there absent

  in_place : (o : Option (Option V)) (x : V) → option_flatten o ≡ Some x → is_some o ≡ true
  in_place None x is = absurd (let bad : false ≡ true = ap is_some is in cc)
  in_place (Some p) x is = refl

  -- a value that is replaced in its place, or none
  pub len_replaced : (n : FinMap key_cmp (Option V)) (F : V → V → Type 0) (b : Bool) → (b ≡ true → Replaces F m n k) → (b ≡ false → n ≡ m) → len n ≡ len m
  len_replaced n F true changed same =
      let made = changed refl in
      ap len made.4 ∙ len-insert keys_total m k (Some made.1) ∙ ap (λ c. cond c (len m) (len m + 1)) (in_place (get m k) made.0 made.2)
  len_replaced n F false changed same = ap len (same refl)
