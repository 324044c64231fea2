-- The ghost side of each call. Assumes `Logic`.
use Rattle.std.proofs.Common.{◌≡◌, ℕ, List, [], ◌∷◌, ◌++◌, map, length, ◌≤◌, refl, arith}
use Rattle.std.proofs.lemmas.List.{length-map}
use mathlib.Core.List.{IsPrefix}
use seplogic.Ra.Ura.{Ura}
use base.Fraction.{full_share}
use base.Stored.{Coded, Gv}
use base.Logic.{ent, sep, ex, guard, emp, via}
use base.Fml.{ftrue}
use base.Shift.{Keyless}
use base.Growing.{latest, at_least, Least}
use types.Logic.{Logic, sem}
use types.Owned.{basic}
use types.Growing.{latest_new, latest_grows, latest_shows, latest_bounds, at_least_dup, at_least_join}
use types.Kit.{‵, ◌⊛◌, some, given, ◌$◌, ◌∵◌, !, qed, keep, learn, check, use2, pick, done}
use denote.Steps.{nothing}
use Rattle.logbook.proofs.Roster.{prefix_out, prefix_in}
use Rattle.disco_press.specs.MonotoneLists.{lists, list_owns, witness_owns}

module _ {M : Type 1} {𝓤 : Ura M} (𝓛 : Logic 𝓤) {E : Type 0} (cv : Coded E) where
  open 𝓛 use {H}

  pub witness_twice : (η : ℕ) (xs : List E) → ent 𝓤 (sem 𝓛 (witness_owns cv.code η xs)) (sep 𝓤 (sem 𝓛 (witness_owns cv.code η xs)) (sem 𝓛 (witness_owns cv.code η xs)))
  witness_twice η xs = at_least_dup lists 𝓛 η (map cv.code xs)

  pub begins : ent 𝓤 (emp 𝓤) (H.⇛ (ex 𝓤 (λ (η : ℕ). sem 𝓛 (list_owns cv.code η []))))
  begins = via 𝓤 _ (latest_new lists 𝓛 []) (basic 𝓛 _)

  pub grows : (η : ℕ) (xs more : List E) → ent 𝓤 (sem 𝓛 (list_owns cv.code η xs)) (H.⇛ (sem 𝓛 (list_owns cv.code η (xs ++ more))))
  grows η xs more = via 𝓤 _ (latest_grows lists 𝓛 η (map cv.code xs) (map cv.code (xs ++ more)) (prefix_in cv xs more)) (basic 𝓛 _)

  pub shows : (η : ℕ) (xs : List E) → ent 𝓤 (sem 𝓛 (list_owns cv.code η xs)) (sep 𝓤 (sem 𝓛 (list_owns cv.code η xs)) (sem 𝓛 (witness_owns cv.code η xs)))
  shows η xs = latest_shows lists 𝓛 full_share η (map cv.code xs) (map cv.code xs) (lists.same (map cv.code xs))

  pub bounds : (η : ℕ) (xs ys : List E) → ent 𝓤 (sep 𝓤 (sem 𝓛 (list_owns cv.code η xs)) (sem 𝓛 (witness_owns cv.code η ys))) (guard 𝓤 (IsPrefix ys xs) (sep 𝓤 (sem 𝓛 (list_owns cv.code η xs)) (sem 𝓛 (witness_owns cv.code η ys))))
  bounds η xs ys = qed 𝓛 (‵ (list_owns cv.code η xs) ∷ ‵ (witness_owns cv.code η ys) ∷ []) ∵
      use2 𝓛 (given (IsPrefix (map cv.code ys) (map cv.code xs)) (‵ (list_owns cv.code η xs) ⊛ ‵ (witness_owns cv.code η ys))) (latest_bounds lists 𝓛 full_share η (map cv.code xs) (map cv.code ys)) $ learn ! (λ q. check ! (prefix_out cv ys xs q) $ done !)

-- of two beginnings of one list the shorter begins the longer
shorter : {A : Type 0} (xs ys zs : List A) → IsPrefix xs zs → IsPrefix ys zs → length xs ≤ length ys → IsPrefix xs ys
shorter [] ys zs p q le = (ys, refl)
shorter (x ∷ xs) [] zs p q le = absurd (omega arith)
shorter (x ∷ xs) (y ∷ ys) [] p q le = absurd (cc (p.1))
shorter (x ∷ xs) (y ∷ ys) (z ∷ zs) p q le =
    let heads : x ≡ y = cc (p.1, q.1) in
    let rest = shorter xs ys zs (p.0, cc (p.1)) (q.0, cc (q.1)) (omega arith) in
    (rest.0, cc (heads, rest.1))

module _ {M : Type 1} {𝓤 : Ura M} (𝓛 : Logic 𝓤) {E : Type 0} (cv : Coded E) where
  pub compares : (η : ℕ) (xs ys : List E) → length xs ≤ length ys → ent 𝓤 (sep 𝓤 (sem 𝓛 (witness_owns cv.code η xs)) (sem 𝓛 (witness_owns cv.code η ys))) (guard 𝓤 (IsPrefix xs ys) (sem 𝓛 ftrue))
  compares η xs ys le = let us : List Gv = map cv.code xs in let vs : List Gv = map cv.code ys in
      let le' : length us ≤ length vs = omega (arith, length-map xs cv.code, length-map ys cv.code) in
      qed 𝓛 (‵ (witness_owns cv.code η xs) ∷ ‵ (witness_owns cv.code η ys) ∷ []) ∵
      use2 𝓛 (some (λ (c : List Gv). given (Least lists.le us vs c) (‵ (at_least lists η c)))) (at_least_join lists 𝓛 η us vs) $ pick ! (λ c. learn ! (λ l. check ! (prefix_out cv xs ys (shorter us vs c l.0 l.1 le')) $ keep ! [] $ nothing ! $ done !))

module _ {E : Type 0} (c : E → Gv) where
  pub list_keyless : (η : ℕ) (xs : List E) → Keyless (list_owns c η xs)
  unfolding latest
  list_keyless η xs = tt

  pub witness_keyless : (η : ℕ) (xs : List E) → Keyless (witness_owns c η xs)
  unfolding at_least
  witness_keyless η xs = tt
