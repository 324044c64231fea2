-- Which kept changes are followed by one of their keys, as changes come, leave and are noted to be so.
use Rattle.std.proofs.Common.{◌≡◌, ℕ, zero, suc, ◌+◌, ◌-◌, ◌<◌, true, cond, List, [], ◌∷◌, ◌++◌, drop, map, Option, Some, None, IsSome, refl, sym, ap, subst, ◌∙◌, arith}
use Rattle.std.proofs.Math.ListN.{get_or, set}
use Rattle.std.proofs.Math.Seq.{map-set_same}
use Rattle.std.proofs.lemmas.List.{map-append}
use Rattle.std.proofs.lemmas.Option.{same_Some}
use Rattle.std.specs.FinMap.{FinMap}
use Rattle.std.specs.List.{slice_get}
use Rattle.std.specs.Option.{option_or}
use Rattle.disco_values.specs.Key.{key_cmp, same_key}
use Rattle.disco_values.specs.declared.key.Key.{Key}
use Rattle.disco_history.specs.Change.{Entry, key_of, last}
use Rattle.disco_history.proofs.Keys.{same_is}
use Rattle.disco_history.proofs.Lasts.{last-append}
use Rattle.disco_history.proofs.Slots.{itself}
use Rattle.disco_queue.specs.Numbers.{AreNumbered, number_in}
use Rattle.disco_queue.specs.Seen.{change_of}
use Rattle.disco_queue.specs.Superseded.{AreSuperseded, IsFollowedAt}
use Rattle.disco_queue.specs.declared.kept.Kept.{Kept}
use Rattle.disco_queue.proofs.LastNumbers.{last_placed}

some_or : (o p : Option Entry) → IsSome p → IsSome (option_or o p)
some_or None p some = some
some_or (Some e) p some = refl

or_some : (o p : Option Entry) → IsSome o → IsSome (option_or o p)
or_some None p some = absurd (cc)
or_some (Some e) p some = refl

-- what is followed stays so, whatever comes behind
pub followed_more : (xs es : List Entry) (k : Key) → IsSome (last xs k) → IsSome (last (xs ++ es) k)
followed_more xs es k some = subst (λ (o : Option Entry). IsSome o) (sym (last-append xs es k)) (some_or (last es k) (last xs k) some)

-- what comes last is of its own key
has_last : (xs : List Entry) (e : Entry) → IsSome (last (xs ++ e ∷ []) (key_of e))
has_last xs e =
    subst (λ (o : Option Entry). IsSome o) (sym (last-append xs (e ∷ []) (key_of e)))
    (or_some (cond (same_key (key_of e) (key_of e)) (Some e) None) (last xs (key_of e)) (subst (λ b. IsSome (cond b (Some e) None)) (sym (itself (key_of e))) refl))

-- a change comes of which nothing is noted
pub superseded_more : (ks : List Kept) (x : Kept) → (x.superseded ≡ true → ⊥) → AreSuperseded ks → AreSuperseded (ks ++ x ∷ [])
superseded_more [] x new are = (λ noted. absurd (new noted), tt)
superseded_more (k ∷ ks) x new are = (
  λ noted. subst (λ (es : List Entry). IsSome (last es (key_of (change_of k)))) (sym (map-append change_of ks (x ∷ []))) (followed_more (map change_of ks) (change_of x ∷ []) (key_of (change_of k)) (are.0 noted)),
  superseded_more ks x new are.1,
)

-- it follows each change of its key
followed_by : (ks : List Kept) (x : Kept) (n : ℕ) (e : Entry) → slice_get (map change_of ks) n ≡ Some e → key_of (change_of x) ≡ key_of e → IsFollowedAt (ks ++ x ∷ []) n
followed_by [] x zero e found own = absurd (cc)
followed_by [] x (suc n) e found own = absurd (cc)
followed_by (k ∷ ks) x zero e found own =
    let key : key_of (change_of x) ≡ key_of (change_of k) = own ∙ sym (ap key_of (same_Some (change_of k) e found)) in
    subst (λ (es : List Entry). IsSome (last es (key_of (change_of k)))) (sym (map-append change_of ks (x ∷ [])))
    (subst (λ (q : Key). IsSome (last (map change_of ks ++ change_of x ∷ []) q)) key (has_last (map change_of ks) (change_of x)))
followed_by (k ∷ ks) x (suc n) e found own = followed_by ks x n e found own

behind : (d n : ℕ) (ks : List Kept) → slice_get (map change_of (drop d ks)) n ≡ slice_get (map change_of ks) (d + n)
behind zero n ks = ap (slice_get (map change_of ks)) (omega arith)
behind (suc d) n [] = refl
behind (suc d) n (k ∷ ks) = let more : suc (d + n) ≡ suc d + n = omega arith in behind d n ks ∙ ap (slice_get (map change_of (k ∷ ks))) more

-- the change of the number that its key had is followed by it, where the first so many have left
pub earlier_followed : (places : FinMap key_cmp ℕ) (before base d number : ℕ) (ks js : List Kept) (x : Kept) → AreNumbered places before (map change_of ks) → number ≡ number_in places (key_of (change_of x))
    → base ≡ before + d → js ≡ drop d ks → base < number → IsFollowedAt (js ++ x ∷ []) (number - base - 1)
earlier_followed places before base d number ks js x are is left left_are after =
    let at = last_placed places before number (map change_of ks) (key_of (change_of x)) are is (omega (arith, after, left)) in
    let n = number - base - 1 in
    let place : d + n ≡ at.0 = omega (arith, after, left, at.2) in
    subst (λ (l : List Kept). IsFollowedAt (l ++ x ∷ []) n) (sym left_are)
    (followed_by (drop d ks) x n at.1 (behind d n ks ∙ ap (slice_get (map change_of ks)) place ∙ at.3) (same_is (key_of (change_of x)) (key_of at.1) at.4))

-- what is noted where it is so
pub superseded_set : (ks : List Kept) (n : ℕ) (y d : Kept) → change_of y ≡ change_of (get_or ks n d) → IsFollowedAt ks n → AreSuperseded ks → AreSuperseded (set ks n y)
superseded_set [] zero y d same at are = tt
superseded_set [] (suc n) y d same at are = tt
superseded_set (k ∷ ks) zero y d same at are = (λ noted. subst (λ (q : Key). IsSome (last (map change_of ks) q)) (sym (ap key_of same)) at, are.1)
superseded_set (k ∷ ks) (suc n) y d same at are = (
  λ noted. subst (λ (es : List Entry). IsSome (last es (key_of (change_of k)))) (sym (map-set_same change_of ks n y d same)) (are.0 noted),
  superseded_set ks n y d same at are.1,
)
