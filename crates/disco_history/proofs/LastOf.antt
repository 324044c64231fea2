-- The place of the last change of a key, after one more change.
use Rattle.std.proofs.Common.{◌≡◌, ℕ, ◌+◌, ◌<◌, Bool, true, false, ◌&&◌, cond, List, [], ◌∷◌, ◌++◌, map, drop, take, length, Option, Some, None, option_map, MatchOption, slice_get, get_or, sym, ap, ◌∙◌, arith}
use Rattle.disco_values.specs.Key.{same_key}
use Rattle.disco_values.specs.declared.key.Key.{Key}
use Rattle.disco_history.specs.declared.change.Change.{Change}
use Rattle.disco_history.specs.Change.{key_of, last, change_view}
use Rattle.std.specs.Str.{bytes_eq}
use Rattle.std.proofs.Math.ListN.{drop_of_length-le}
use Rattle.std.proofs.lemmas.List.{drop-append-le, length-take-le, take_more, map-append}
use Rattle.std.proofs.lemmas.Option.{slice_get-get_or}
use Rattle.disco_history.proofs.Keys.{same_key-parts, same_key-sym}
use Rattle.disco_history.proofs.Lasts.{last_more}

-- o is the place of the last of the first i changes that is of the key
abbrev pub IsLastOf : List Change → Key → ℕ → Option ℕ → Type 0
IsLastOf cs k i o = MatchOption o
    (last (map change_view (take i cs)) k ≡ None)
    (λ j. (j < i) × (last (map change_view (take i cs)) k ≡ option_map change_view (slice_get cs j)) × (last (map change_view (drop (j + 1) (take i cs))) k ≡ None))

module _ (cs : List Change) (k : Key) (i : ℕ) (c : Change) (inside : i < length cs) (is : c ≡ get_or cs i c) where
  one_more : map change_view (take (i + 1) cs) ≡ map change_view (take i cs) ++ change_view c ∷ []
  one_more = ap (map change_view) (take_more cs i c inside ∙ ap (λ x. take i cs ++ x ∷ []) (sym is)) ∙ map-append change_view (take i cs) (c ∷ [])

  last_at : last (map change_view (take (i + 1) cs)) k ≡ cond (same_key k (key_of (change_view c))) (Some (change_view c)) (last (map change_view (take i cs)) k)
  last_at = ap (λ h. last h k) one_more ∙ last_more (map change_view (take i cs)) (change_view c) k

  -- the test of the code
  tested : (b : Bool) → b ≡ (bytes_eq (key_of (change_view c)).app k.app && bytes_eq (key_of (change_view c)).id k.id) → same_key k (key_of (change_view c)) ≡ b
  tested b e = same_key-sym k (key_of (change_view c)) ∙ same_key-parts (key_of (change_view c)) k ∙ sym e

  there : slice_get cs i ≡ Some c
  there = slice_get-get_or cs i c inside ∙ ap (λ x. Some x) (sym is)

  -- nothing comes after the last of them
  after_it : drop (i + 1) (take (i + 1) cs) ≡ []
  after_it = drop_of_length-le (take (i + 1) cs) (omega (arith, length-take-le (i + 1) cs (omega (arith, inside))))

  -- behind one of the first, this one comes last
  after_one : (j : ℕ) → j < i → drop (j + 1) (take (i + 1) cs) ≡ drop (j + 1) (take i cs) ++ c ∷ []
  after_one j less =
      ap (drop (j + 1)) (take_more cs i c inside ∙ ap (λ x. take i cs ++ x ∷ []) (sym is))
      ∙ drop-append-le (j + 1) (take i cs) (c ∷ []) (omega (arith, less, length-take-le i cs (omega (arith, inside))))

  still_none : (j : ℕ) → j < i → same_key k (key_of (change_view c)) ≡ false → last (map change_view (drop (j + 1) (take i cs))) k ≡ None → last (map change_view (drop (j + 1) (take (i + 1) cs))) k ≡ None
  still_none j less other none =
      ap (λ h. last (map change_view h) k) (after_one j less)
      ∙ ap (λ h. last h k) (map-append change_view (drop (j + 1) (take i cs)) (c ∷ []))
      ∙ last_more (map change_view (drop (j + 1) (take i cs))) (change_view c) k
      ∙ ap (λ t. cond t (Some (change_view c)) (last (map change_view (drop (j + 1) (take i cs))) k)) other
      ∙ none

  pub found : (b : Bool) → b ≡ (bytes_eq (key_of (change_view c)).app k.app && bytes_eq (key_of (change_view c)).id k.id) → b ≡ true → IsLastOf cs k (i + 1) (Some i)
  found b e hit = (omega arith, last_at ∙ ap (λ t. cond t (Some (change_view c)) (last (map change_view (take i cs)) k)) (tested b e ∙ hit) ∙ ap (option_map change_view) (sym there), ap (λ h. last (map change_view h) k) after_it)

  miss : (o : Option ℕ) → same_key k (key_of (change_view c)) ≡ false → last (map change_view (take (i + 1) cs)) k ≡ last (map change_view (take i cs)) k → IsLastOf cs k i o → IsLastOf cs k (i + 1) o
  miss None other same so_far = same ∙ so_far
  miss (Some j) other same so_far = (omega (arith, so_far.0), same ∙ so_far.1, still_none j so_far.0 other so_far.2)

  pub passed : (b : Bool) (o : Option ℕ) → b ≡ (bytes_eq (key_of (change_view c)).app k.app && bytes_eq (key_of (change_view c)).id k.id) → b ≡ false → IsLastOf cs k i o → IsLastOf cs k (i + 1) o
  passed b o e other so_far = miss o (tested b e ∙ other) (last_at ∙ ap (λ t. cond t (Some (change_view c)) (last (map change_view (take i cs)) k)) (tested b e ∙ other)) so_far
