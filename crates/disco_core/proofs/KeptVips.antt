-- Vips that a change leaves as they are.
use Rattle.std.proofs.Common.{◌≡◌, ℕ, Bool, true, false, ◌&&◌, cond, List, Option, Some, None, IfSome, IsSome, refl, sym, ap, ◌∙◌}
use Rattle.std.specs.FinMap.{FinMap, get, get-insert, insert}
use Rattle.std.specs.List.{list_any}
use Rattle.std.specs.Option.{unwrap_or}
use Rattle.std.specs.Str.{bytes_eq}
use Rattle.disco_values.specs.Key.{key_cmp, same_key}
use Rattle.disco_instance.specs.Row.{Row}
use Rattle.disco_values.specs.declared.action.Action.{Action}
use Rattle.disco_values.specs.declared.action.Action.TheVariants.{Added, Modified, Deleted}
use Rattle.disco_values.specs.declared.key.Key.{Key}
use Rattle.disco_history.specs.Change.{Entry, key_of}
use Rattle.disco_history.specs.Query.{asks_for, vips}
use Rattle.disco_history.specs.Registry.{put_of}
use Rattle.disco_history.proofs.Keys.{keys_total, same_is}
use Rattle.disco_index.specs.Vips.{HasPlaces, IsIndexOf, Vip, VipKeys, asked, entry_has, has, place_at, plain, secure}
use Rattle.disco_registry.specs.Commit.{held_after}
use Rattle.disco_core.specs.Moves.{HasVipsOf, OthersStay, VipsStay}
use Rattle.disco_core.specs.State.{HasVipPlaces, IsSwept}

same_asked : (q : Vip) (c d : Row) → HasVipsOf d c → asks_for (asked q) c ≡ asks_for (asked q) d
same_asked (plain q) c d same = ap (λ (a : List ℕ). list_any (bytes_eq q) (vips a)) same.0
same_asked (secure q) c d same = ap (λ (a : List ℕ). list_any (bytes_eq q) (vips a)) same.1

put_same : (m : FinMap key_cmp Entry) (c d : Entry) (v : VipKeys) → IsIndexOf v m → get m (key_of c) ≡ Some d → HasVipsOf d.0 c.0 → IsIndexOf v (insert m (key_of c) c)
put_same m c d v is there same q p = is q p ∙ one (same_key p (key_of c)) refl ∙ sym (ap (entry_has q) (get-insert keys_total m (key_of c) c p))
  where
    one : (b : Bool) → same_key p (key_of c) ≡ b → entry_has q (get m p) ≡ entry_has q (cond b (Some c) (get m p))
    one true at = ap (entry_has q) (ap (get m) (same_is p (key_of c) at) ∙ there) ∙ sym (same_asked q c.0 d.0 same)
    one false at = refl

-- where what is put has the vips of what is held, the index is that of what is held then
pub index_stays : (m : FinMap key_cmp Entry) (r : Row) (a : Action) (o : Option Entry) (v : VipKeys) → IsIndexOf v m → get m r.key ≡ o → VipsStay o (put_of (r, a)) → IsIndexOf v (held_after m (Some (r, a)))
index_stays m r Added (Some d) v is there stay = put_same m (r, Added) d v is there stay
index_stays m r Modified (Some d) v is there stay = put_same m (r, Modified) d v is there stay
index_stays m r Deleted (Some d) v is there stay = absurd stay
index_stays m r a None v is there stay = absurd stay

left : (a b : Bool) → (a && b) ≡ true → a ≡ true
left true b e = refl
left false b e = absurd (cc)

right : (a b : Bool) → (a && b) ≡ true → b ≡ true
right true b e = e
right false b e = absurd (cc)

-- no place of what is held stands empty
pub filled : (m : FinMap key_cmp Entry) (k : Key) (o : Option Entry) (v : VipKeys) → IsIndexOf v m → get m k ≡ o → IfSome o (λ d. key_of d ≡ k) → IsSwept v o
filled m k None v is there keyed = tt
filled m k (Some d) v is there keyed = λ q p under empty.
    let at : p ≡ key_of d = same_is p (key_of d) (right _ _ under) in
    let here : entry_has q (get m p) ≡ true = ap (λ x. entry_has q (get m x)) (at ∙ keyed) ∙ ap (entry_has q) there ∙ left _ _ under in
    let none : has v q p ≡ false = ap (λ (o : Option Bool). unwrap_or o false) empty in
    true_is_not_false (sym (is q p ∙ here) ∙ none)
  where
    true_is_not_false : true ≡ false → ⊥
    true_is_not_false e = absurd (cc)

placed : (o : Option Bool) → unwrap_or o false ≡ true → IsSome o
placed (Some b) e = refl
placed None e = absurd (cc)

put_placed : (m : FinMap key_cmp Entry) (c d : Entry) (v : VipKeys) → IsIndexOf v m → get m (key_of c) ≡ Some d → HasVipsOf d.0 c.0 → HasPlaces v c.0
put_placed m c d v is there same = λ q p under.
    let at : p ≡ key_of c = same_is p (key_of c) (right _ _ under) in
    let here : entry_has q (get m p) ≡ true = ap (λ x. entry_has q (get m x)) at ∙ ap (entry_has q) there ∙ sym (same_asked q c.0 d.0 same) ∙ left _ _ under in
    placed (place_at v q p) (is q p ∙ here)

-- where what is put has the vips of what is held, there are places for it
pub places_stay : (m : FinMap key_cmp Entry) (r : Row) (a : Action) (o : Option Entry) (v : VipKeys) → IsIndexOf v m → get m r.key ≡ o → VipsStay o (put_of (r, a)) → HasVipPlaces v (put_of (r, a))
places_stay m r Added (Some d) v is there stay = put_placed m (r, Added) d v is there stay
places_stay m r Modified (Some d) v is there stay = put_placed m (r, Modified) d v is there stay
places_stay m r Deleted (Some d) v is there stay = absurd stay
places_stay m r a None v is there stay = absurd stay

-- where no place changes, all others are as they were
pub others_stay : (o : Option Entry) (v : VipKeys) → OthersStay o v v
others_stay None v = refl
others_stay (Some e) v = λ q k other. refl
