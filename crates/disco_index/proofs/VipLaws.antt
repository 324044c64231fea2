-- How the index of vips follows what is put in and taken out.
use Rattle.std.proofs.Common.{◌≡◌, ℕ, Bool, true, false, not, ◌&&◌, ◌||◌, cond, List, [], ◌∷◌, filter, map, Option, Some, None, IfSome, is_some, option_and_then, option_map, refl, sym, ap, subst, ◌∙◌}
use Rattle.std.specs.Cmp.Lexicographic.{slice_cmp}
use Rattle.std.specs.FinMap.{FinMap, empty, entries, entries_sorted, get, get-empty, get-entries, get-insert, get-remove, insert, keys, remove}
use Rattle.std.specs.FinMap.Entries.{find-where_key, is_sorted-where_key, where_key}
use Rattle.std.specs.Option.{unwrap_or}
use Rattle.std.specs.Ordering.{nat_cmp}
use Rattle.disco_values.specs.Key.{key_cmp, same_key}
use Rattle.disco_instance.specs.Row.{Row}
use Rattle.disco_values.specs.declared.key.Key.{Key}
use Rattle.disco_history.specs.Change.{Entry, key_of}
use Rattle.disco_history.specs.Query.{asks_for, restrict}
use Rattle.disco_history.proofs.Keys.{exact_keys, keys_total, same_is}
use Rattle.disco_history.proofs.Sets.{get-restrict}
use Rattle.disco_index.specs.Vips.{Adds, IsIndexOf, IsSameVips, Removes, RemovesAny, Vip, VipKeys, asked, entry_has, has, is_under, no_vips, place_at, places_at, plain, secure, under}
use Rattle.disco_index.proofs.Stored.{same_keys}

none_under : (q : List ℕ) (k : Key) → unwrap_or (get (unwrap_or (get (empty {X = FinMap key_cmp Bool} {R = slice_cmp nat_cmp}) q) empty) k) false ≡ false
none_under q k =
    ap (λ (o : Option (FinMap key_cmp Bool)). unwrap_or (get (unwrap_or o empty) k) false) (get-empty (slice_cmp nat_cmp) q)
    ∙ ap (λ (o : Option Bool). unwrap_or o false) (get-empty key_cmp k)

pub no_vips_law : IsIndexOf no_vips empty
no_vips_law (plain q) k = none_under q k ∙ sym (ap (entry_has (plain q)) (get-empty key_cmp k))
no_vips_law (secure q) k = none_under q k ∙ sym (ap (entry_has (secure q)) (get-empty key_cmp k))

-- empty places count for nothing
pub same_vips_law : (m : FinMap key_cmp Entry) (old new : VipKeys) → IsIndexOf old m → IsSameVips old new → IsIndexOf new m
same_vips_law m old new is same q k = same q k ∙ is q k

-- ---- an entry goes

module _ (m : FinMap key_cmp Entry) (k : Key) (q : Vip) (p : Key) where
  nothing_gone : (b : Bool) → get m k ≡ None → same_key p k ≡ b → entry_has q (get m p) ≡ entry_has q (cond b None (get m p))
  nothing_gone true none same = ap (entry_has q) (ap (get m) (same_is p k same) ∙ none)
  nothing_gone false none same = refl

  itself_out : (a : Bool) → (a && not (a && true)) ≡ false
  itself_out true = refl
  itself_out false = refl

  and_none : (a x : Bool) → (x && not (a && false)) ≡ x
  and_none true true = refl
  and_none true false = refl
  and_none false true = refl
  and_none false false = refl

  one_gone : (d : Entry) (b : Bool) → get m k ≡ Some d → same_key p k ≡ b → (entry_has q (get m p) && not (asks_for (asked q) d.0 && b)) ≡ entry_has q (cond b None (get m p))
  one_gone d true there same = ap (λ o. entry_has q o && not (asks_for (asked q) d.0 && true)) (ap (get m) (same_is p k same) ∙ there) ∙ itself_out (asks_for (asked q) d.0)
  one_gone d false there same = and_none (asks_for (asked q) d.0) (entry_has q (get m p))

gone_by : (m : FinMap key_cmp Entry) (k : Key) (o : Option Entry) (old new : VipKeys) → get m k ≡ o → IsIndexOf old m → IfSome o (λ d. key_of d ≡ k) → RemovesAny o old new
    → (q : Vip) (p : Key) → has new q p ≡ entry_has q (cond (same_key p k) None (get m p))
gone_by m k None old new there is keyed taken q p = taken q p ∙ is q p ∙ nothing_gone m k q p (same_key p k) there refl
gone_by m k (Some d) old new there is keyed taken q p =
    taken q p ∙ (λ i. is q p i && not (asks_for (asked q) d.0 && same_key p (keyed i))) ∙ one_gone m k q p d (same_key p k) there refl

-- what was at the key is taken
pub gone_vips_law : (m : FinMap key_cmp Entry) (k : Key) (old new : VipKeys) → IsIndexOf old m → IfSome (get m k) (λ d. key_of d ≡ k) → RemovesAny (get m k) old new → IsIndexOf new (remove m k)
gone_vips_law m k old new is keyed taken q p = gone_by m k (get m k) old new refl is keyed taken q p ∙ sym (ap (entry_has q) (get-remove keys_total m k p))

-- ---- an entry comes

one_put : (q : Vip) (e : Entry) (b : Bool) (o : Option Entry) → ((asks_for (asked q) e.0 && b) || entry_has q (cond b None o)) ≡ entry_has q (cond b (Some e) o)
one_put q e true o = only (asks_for (asked q) e.0)
  where
    only : (a : Bool) → ((a && true) || false) ≡ a
    only true = refl
    only false = refl
one_put q e false o = other (asks_for (asked q) e.0)
  where
    other : (a : Bool) → ((a && false) || entry_has q o) ≡ entry_has q o
    other true = refl
    other false = refl

-- what was at the key is taken, and then the new entry is added
pub put_vips_law : (m : FinMap key_cmp Entry) (e : Entry) (old taken new : VipKeys) → IsIndexOf old m → IfSome (get m (key_of e)) (λ d. key_of d ≡ key_of e) → RemovesAny (get m (key_of e)) old taken → Adds e.0 taken new → IsIndexOf new (insert m (key_of e) e)
put_vips_law m e old taken new is keyed took added q p =
    added q p
    ∙ ap (λ b. is_under e.0 q p || b) (gone_by m (key_of e) (get m (key_of e)) old taken refl is keyed took q p)
    ∙ one_put q e (same_key p (key_of e)) (get m p)
    ∙ sym (ap (entry_has q) (get-insert keys_total m (key_of e) e p))

-- a record that was there goes
pub record_gone : (r : Row) (m : FinMap key_cmp Entry) (e : Entry) (old new : VipKeys) → Removes r old new → e.0 ≡ r → get m (key_of e) ≡ Some e → IsIndexOf old m → IsIndexOf new (remove m (key_of e))
record_gone r m e old new takes of there is =
    gone_vips_law m (key_of e) old new is (subst (λ o. IfSome o (λ d. key_of d ≡ key_of e)) (sym there) refl)
    (subst (λ o. RemovesAny o old new) (sym there) (subst (λ x. Removes x old new) (sym of) takes))

-- a record of a key that was not there comes
pub record_put : (r : Row) (m : FinMap key_cmp Entry) (e : Entry) (old new : VipKeys) → Adds r old new → e.0 ≡ r → get m (key_of e) ≡ None → IsIndexOf old m → IsIndexOf new (insert m (key_of e) e)
record_put r m e old new adds of none is =
    put_vips_law m e old old new is (subst (λ o. IfSome o (λ d. key_of d ≡ key_of e)) (sym none) tt)
    (subst (λ o. RemovesAny o old old) (sym none) (λ q k. refl)) (subst (λ x. Adds x old new) (sym of) adds)

-- ---- the keys under a vip

keys_where : {X : Type 0} (test : Key → Bool) (es : List (Key × X)) → filter test (map (λ e. e.0) es) ≡ map (λ e. e.0) (where_key key_cmp test es)
keys_where test [] = refl
keys_where {X} test (e ∷ es) = by (test e.0) (keys_where test es)
  where
    by : (b : Bool) → filter test (map (λ (e : Key × X). e.0) es) ≡ map (λ (e : Key × X). e.0) (where_key key_cmp test es)
        → cond b (e.0 ∷ filter test (map (λ (e : Key × X). e.0) es)) (filter test (map (λ (e : Key × X). e.0) es)) ≡ map (λ (e : Key × X). e.0) (cond b (e ∷ where_key key_cmp test es) (where_key key_cmp test es))
    by true rest = ap (λ ks. e.0 ∷ ks) rest
    by false rest = rest

there : (o : Option Bool) → is_some (cond (unwrap_or o false) o None) ≡ unwrap_or o false
there None = refl
there (Some true) = refl
there (Some false) = refl

chosen : (b : Bool) (r : Row) → b ≡ is_some (cond b (Some r) None)
chosen true r = refl
chosen false r = refl

found : (q : Vip) (o : Option Entry) → entry_has q o ≡ is_some (option_and_then (λ r. cond (asks_for (asked q) r) (Some r) None) (option_map (λ e. e.0) o))
found q None = refl
found q (Some e) = chosen (asks_for (asked q) e.0) e.0

pub under_vip_law : (v : VipKeys) (m : FinMap key_cmp Entry) (rows : FinMap key_cmp Row) (q : Vip) → IsIndexOf v m → ((k : Key) → get rows k ≡ option_map (λ e. e.0) (get m k)) → under v q ≡ keys (restrict rows (asked q))
under_vip_law v m rows q is same =
    let places = entries (places_at v q) in
    let asks = restrict rows (asked q) in
    keys_where (has v q) places
    ∙ same_keys (where_key key_cmp (has v q) places) (entries asks) (is_sorted-where_key key_cmp (has v q) places (entries_sorted (places_at v q))) (entries_sorted asks) (λ k.
    ap is_some (find-where_key key_cmp (has v q) k (λ x tie. ap (has v q) (sym (exact_keys k x tie))) places)
    ∙ ap (λ o. is_some (cond (has v q k) o None)) (sym (get-entries (places_at v q) k))
    ∙ there (place_at v q k) ∙ is q k ∙ found q (get m k)
    ∙ ap (λ o. is_some (option_and_then (λ r. cond (asks_for (asked q) r) (Some r) None) o)) (sym (same k))
    ∙ ap is_some (sym (get-restrict rows (asked q) k) ∙ get-entries asks k))
