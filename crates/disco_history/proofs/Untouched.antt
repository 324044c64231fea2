-- The queries that a change doesn't name.
use Rattle.std.proofs.Common.{◌≡◌, Bool, true, false, ◌||◌, cond, List, [], ◌∷◌, ◌++◌, Option, Some, None, option_map, option_and_then, refl, sym, ap, ◌∙◌}
use Rattle.std.specs.FinMap.{get, same_map}
use Rattle.std.specs.Option.{option_map_or}
use Rattle.disco_values.specs.Key.{same_key}
use Rattle.disco_values.specs.declared.key.Key.{Key}
use Rattle.disco_history.specs.Change.{Entry, key_of, last}
use Rattle.disco_history.specs.Laws.{UntouchedLaw}
use Rattle.disco_history.specs.Query.{Selector, asks_for, is_named, restrict}
use Rattle.disco_history.specs.Registry.{put_of, registry_of, mentions_of}
use Rattle.disco_history.proofs.Keys.{keys_total, exact_keys, same_is}
use Rattle.disco_history.proofs.Lasts.{last_more}
use Rattle.disco_history.proofs.Restrictions.{get-first, get-said_restrict, is_asked}
use Rattle.disco_history.proofs.Sets.{first_of, get-said, get-said_reg}
use Rattle.disco_history.proofs.Sorted.{if_passes}

left : (b c : Bool) → (b || c) ≡ false → b ≡ false
left false c e = refl
left true c e = absurd (cc)

right : (b c : Bool) → (b || c) ≡ false → c ≡ false
right false c e = e
right true c e = absurd (cc)

-- what isn't asked for doesn't pass
stopped : (a : Selector) (o : Option Entry) → option_map_or (asks_for a) (first_of o) false ≡ false → if_passes (is_asked a) o ≡ None
stopped a None e = refl
stopped a (Some x) e = ap (λ b. cond b (Some x) None) e

module _ (h : List Entry) (c : Entry) (a : Selector) (unnamed : is_named (get (registry_of h) (key_of c)) (option_map (λ e. e.0) (put_of c)) a ≡ false) where
  old_stops : if_passes (is_asked a) (get (mentions_of h (registry_of h)) (key_of c)) ≡ None
  old_stops = stopped a (get (mentions_of h (registry_of h)) (key_of c))
      (ap (λ r. option_map_or (asks_for a) r false) (get-said_reg h (key_of c)) ∙ left _ _ unnamed)

  new_stops : if_passes (is_asked a) (put_of c) ≡ None
  new_stops = stopped a (put_of c) (right _ _ unnamed)

  at_key : (q : Key) (b : Bool) → same_key q (key_of c) ≡ b
      → if_passes (is_asked a) (option_and_then put_of (cond b (Some c) (last h q))) ≡ if_passes (is_asked a) (get (mentions_of h (registry_of h)) q)
  at_key q true same = new_stops ∙ sym old_stops ∙ ap (λ k. if_passes (is_asked a) (get (mentions_of h (registry_of h)) k)) (sym (same_is q (key_of c) same))
  at_key q false same = ap (if_passes (is_asked a)) (sym (get-said h q))

  mentions_stay : (q : Key) → get (mentions_of (h ++ c ∷ []) (restrict (registry_of (h ++ c ∷ [])) a)) q ≡ get (mentions_of h (restrict (registry_of h) a)) q
  mentions_stay q =
      get-said_restrict (h ++ c ∷ []) a q
      ∙ ap (if_passes (is_asked a)) (get-said (h ++ c ∷ []) q ∙ ap (option_and_then put_of) (last_more h c q))
      ∙ at_key q (same_key q (key_of c)) refl
      ∙ sym (get-said_restrict h a q)

  records_stay : (q : Key) → get (restrict (registry_of (h ++ c ∷ [])) a) q ≡ get (restrict (registry_of h) a) q
  records_stay q = get-first (h ++ c ∷ []) a q ∙ ap first_of (mentions_stay q) ∙ sym (get-first h a q)

  untouched : (restrict (registry_of (h ++ c ∷ [])) a ≡ restrict (registry_of h) a) × (mentions_of (h ++ c ∷ []) (restrict (registry_of (h ++ c ∷ [])) a) ≡ mentions_of h (restrict (registry_of h) a))
  untouched = (same_map keys_total exact_keys _ _ records_stay, same_map keys_total exact_keys _ _ mentions_stay)

pub untouched_law : UntouchedLaw
untouched_law h c a unnamed = untouched h c a unnamed
