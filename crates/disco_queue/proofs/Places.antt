-- How the place of a key changes.
use Rattle.std.proofs.Common.{◌≡◌, ℕ, Bool, true, false, ◌==◌, cond, Option, Some, None, IsSome, refl, sym, ap, subst, ◌∙◌}
use Rattle.std.specs.FinMap.{FinMap, get, get-insert, get-remove, insert, remove}
use Rattle.std.specs.Option.{option_eq}
use Rattle.disco_values.specs.Key.{key_cmp, same_key}
use Rattle.disco_values.specs.declared.key.Key.{Key}
use Rattle.disco_history.proofs.Keys.{keys_total, same_is}
use Rattle.disco_history.specs.Slots.{AltersAt, opened, written}
use Rattle.disco_queue.specs.Numbers.{number_kept}

module _ (f : Option ℕ → Option ℕ) (m : FinMap key_cmp ℕ) (k : Key) where
  here : (w : Option ℕ) (p : Key) (b : Bool) → w ≡ f (get m k) → same_key p k ≡ b → cond b w (get m p) ≡ cond b (f (get m p)) (get m p)
  here w p true is same = is ∙ ap (λ q. f (get m q)) (sym (same_is p k same))
  here w p false is same = refl

  pub put_in : (v : ℕ) → Some v ≡ f (get m k) → AltersAt f k m (insert m k v)
  put_in v is p = get-insert keys_total m k v p ∙ here (Some v) p (same_key p k) is refl

  pub taken_out : None ≡ f (get m k) → AltersAt f k m (remove m k)
  taken_out is p = get-remove keys_total m k p ∙ here None p (same_key p k) is refl

  same : (p : Key) (b : Bool) → get m k ≡ f (get m k) → same_key p k ≡ b → get m p ≡ cond b (f (get m p)) (get m p)
  same p true is e = ap (get m) (same_is p k e) ∙ is ∙ ap (λ q. f (get m q)) (sym (same_is p k e))
  same p false is e = refl

  pub as_it_was : get m k ≡ f (get m k) → AltersAt f k m m
  as_it_was is p = same p (same_key p k) is refl

module _ (m n : FinMap key_cmp ℕ) (k : Key) where
  open_step : (o : Option ℕ) → get m k ≡ o → (IsSome (get m k) → n ≡ m) → (get m k ≡ None → n ≡ insert m k 0) → AltersAt (opened 0) k m n
  open_step None is there absent = subst (AltersAt (opened 0) k m) (sym (absent is)) (put_in (opened 0) m k 0 (ap (opened 0) (sym is)))
  open_step (Some v) is there absent =
      subst (AltersAt (opened 0) k m) (sym (there (subst (λ (p : Option ℕ). IsSome p) (sym is) refl))) (as_it_was (opened 0) m k (is ∙ ap (opened 0) (sym is)))

  -- an empty place where there was none
  pub place_opened : (IsSome (get m k) → n ≡ m) → (get m k ≡ None → n ≡ insert m k 0) → AltersAt (opened 0) k m n
  place_opened there absent = open_step (get m k) refl there absent

  write_step : (v : ℕ) (o : Option ℕ) → get m k ≡ o → (IsSome (get m k) → n ≡ insert m k v) → (get m k ≡ None → n ≡ m) → AltersAt (written v) k m n
  write_step v None is there none = subst (AltersAt (written v) k m) (sym (none is)) (as_it_was (written v) m k (is ∙ ap (written v) (sym is)))
  write_step v (Some x) is there none = subst (AltersAt (written v) k m) (sym (there (subst (λ (p : Option ℕ). IsSome p) (sym is) refl))) (put_in (written v) m k v (ap (written v) (sym is)))

  -- a number in a place that is there
  pub place_written : (v : ℕ) → (IsSome (get m k) → n ≡ insert m k v) → (get m k ≡ None → n ≡ m) → AltersAt (written v) k m n
  place_written v there none = write_step v (get m k) refl there none

pub left-gone : (n : ℕ) (o p : Option ℕ) → p ≡ o → option_eq (λ a b. a == b) p (Some n) ≡ true → None ≡ number_kept n o
left-gone n None p is e = refl
left-gone n (Some x) p is e = ap (λ b. cond b None (Some x)) (sym (ap (λ y. option_eq (λ a b. a == b) y (Some n)) (sym is) ∙ e))

pub left-kept : (n : ℕ) (o p : Option ℕ) → p ≡ o → option_eq (λ a b. a == b) p (Some n) ≡ false → o ≡ number_kept n o
left-kept n None p is e = refl
left-kept n (Some x) p is e = ap (λ b. cond b None (Some x)) (sym (ap (λ y. option_eq (λ a b. a == b) y (Some n)) (sym is) ∙ e))
