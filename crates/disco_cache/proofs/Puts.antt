-- What a document that is put in does to the kept ones.
use Rattle.std.proofs.Common.{◌≡◌, ℕ, Bool, true, false, ◌||◌, cond, length, nat_lt, is_some, Result, Ok, Err, IfOk, OnErr, sym, ap, subst, ◌∙◌}
use Rattle.std.specs.List as list
use Rattle.std.specs.FinMap as map
use Rattle.std.specs.declared.alloc.Global.{Global}
use Rattle.std.specs.declared.sync.Arc.{Arc}
use Rattle.disco_values.specs.declared.fault.Fault.{Fault}
use Rattle.disco_history.proofs.SortedBy.{get_at, get_gap, inserted_gap, len_of}
use Rattle.disco_cache.specs.Docs.{Docs}
use Rattle.disco_cache.specs.Kept.{AreDocsSorted, IsDocAt, IsDocGap, Stored, doc_key, docs_map, payload_in}
use Rattle.disco_cache.specs.declared.payload.Payload.{Payload}
use Rattle.disco_values.proofs.Orders.{docs_total, exact_docs}

module _ (xs ys : Stored) (i : ℕ) (d : Arc Payload Global) (sorted : AreDocsSorted xs) (gap : IsDocGap xs d.value.key i) where
  pub stays_sorted : (r : Result Bool Fault) → IfOk r (λ kept. ys ≡ cond kept (list.insert xs i d) xs) → OnErr r (ys ≡ xs) → AreDocsSorted ys
  stays_sorted (Ok true) is none = subst AreDocsSorted (sym is) (inserted_gap docs_total exact_docs doc_key payload_in xs i d sorted gap).0
  stays_sorted (Ok false) is none = subst AreDocsSorted (sym is) sorted
  stays_sorted (Err e) is none = subst AreDocsSorted (sym none) sorted

  pub is_put : (old : map.FinMap _ Payload) → docs_map xs ≡ old → (r : Result Bool Fault) → IfOk r (λ kept. ys ≡ cond kept (list.insert xs i d) xs)
      → IfOk r (λ kept. docs_map ys ≡ cond kept (map.insert old d.value.key d.value) old)
  is_put old seen (Ok true) is = ap docs_map is ∙ (inserted_gap docs_total exact_docs doc_key payload_in xs i d sorted gap).1 ∙ ap (λ m. map.insert m d.value.key d.value) seen
  is_put old seen (Ok false) is = ap docs_map is ∙ seen
  is_put old seen (Err e) is = tt

  -- there is no document of its key, so it wants room
  room_is : (now : Docs) (max : ℕ) → record { docs = docs_map xs; max = max } ≡ now → nat_lt (length xs) max ≡ (map.contains_key now.docs d.value.key || nat_lt (map.len now.docs) now.max)
  room_is now max seen =
      let none : map.contains_key (docs_map xs) d.value.key ≡ false = ap is_some (get_gap docs_total exact_docs doc_key payload_in xs d.value.key i sorted gap) in
      let many : map.len (docs_map xs) ≡ length xs = len_of docs_total exact_docs doc_key payload_in xs sorted in
      (λ j. sym none j || nat_lt (sym many j) max) ∙ ap (λ (v : Docs). map.contains_key v.docs d.value.key || nat_lt (map.len v.docs) v.max) seen

  pub has_room : (now : Docs) (max : ℕ) → record { docs = docs_map xs; max = max } ≡ now → (r : Result Bool Fault) → IfOk r (λ kept. kept ≡ nat_lt (length xs) max)
      → IfOk r (λ kept. kept ≡ (map.contains_key now.docs d.value.key || nat_lt (map.len now.docs) now.max))
  has_room now max seen (Ok kept) is = is ∙ room_is now max seen
  has_room now max seen (Err e) is = tt

-- a document of its key is there
pub has_place : (xs : Stored) (i : ℕ) (d : Arc Payload Global) → AreDocsSorted xs → IsDocAt xs d.value.key i → (now : Docs) → docs_map xs ≡ now.docs
    → true ≡ (map.contains_key now.docs d.value.key || nat_lt (map.len now.docs) now.max)
has_place xs i d sorted at now seen =
    let there : map.contains_key (docs_map xs) d.value.key ≡ true = ap is_some (get_at docs_total exact_docs doc_key payload_in xs d.value.key i d sorted at) in
    ap (λ b. b || nat_lt (map.len now.docs) now.max) (sym there ∙ ap (λ m. map.contains_key m d.value.key) seen)
