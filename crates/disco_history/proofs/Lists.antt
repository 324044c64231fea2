-- Lists of held records with equal views.
use Rattle.std.proofs.Common.{◌≡◌, refl, sym, ap, subst, ◌∙◌, List, [], ◌∷◌, T, map}
use Rattle.std.specs.FinMap.{from_sorted}
use Rattle.std.specs.FinMap.Entries.{is_sorted}
use Rattle.disco_values.specs.Key.{key_cmp}
use Rattle.disco_history.specs.Change.{Entry}
use Rattle.disco_history.specs.Held.{entry_of}
use Rattle.disco_history.specs.List.{AreSorted, key_in, map_of}
use Rattle.disco_history.specs.SortedBy.{keyed}
use Rattle.disco_history.specs.declared.held.Held.{Held}

keyed_by : (hs : List Held) → keyed key_in entry_of hs ≡ map (λ (e : Entry). (e.0.key, e)) (map entry_of hs)
keyed_by [] = refl
keyed_by (h ∷ hs) = ap (λ es. (key_in h, entry_of h) ∷ es) (keyed_by hs)

same_keyed : (xs ys : List Held) → map entry_of xs ≡ map entry_of ys → keyed key_in entry_of xs ≡ keyed key_in entry_of ys
same_keyed xs ys e = keyed_by xs ∙ ap (map (λ (e : Entry). (e.0.key, e))) e ∙ sym (keyed_by ys)

pub same_sorted : (xs ys : List Held) → map entry_of xs ≡ map entry_of ys → AreSorted ys → AreSorted xs
same_sorted xs ys e sorted = subst (λ es. T (is_sorted key_cmp es)) (sym (same_keyed xs ys e)) sorted

pub same_map : (xs ys : List Held) → map entry_of xs ≡ map entry_of ys → map_of xs ≡ map_of ys
same_map xs ys e = ap from_sorted (same_keyed xs ys e)
