-- What is kept of sorted members is sorted.
use Rattle.std.proofs.Common.{◌≡◌, ℕ, Bool, true, false, not, ◌&&◌, cond, List, [], ◌∷◌, codes, Option, Some, None, String, Global, string_bytes, string_cmp, refl, ap}
use Rattle.std.specs.declared.cmp.Ordering.TheVariants.{Less}
use Rattle.std.specs.List.{AllByRecursion}
use Rattle.std.specs.List.Sorted.{IsStrictlySortedBy}
use Rattle.std.specs.Map.{keys_of}
use Rattle.std.specs.Ordering.{nat_cmp, is_lt}
use Rattle.std.specs.Cmp.Lexicographic.{slice_cmp}
use Rattle.std.specs.Str.{bytes_eq}
use Rattle.serde_json.specs.View.{members_view, view}
use Rattle.serde_json.specs.declared.value.Value.{Value}
use Rattle.disco_values.specs.Entries.{is_before, is_by_name}
use Rattle.disco_instance.specs.Metadata.{entry_text, with_entry, kept_entries}

before_with : (k name : List ℕ) (o : Option (List ℕ)) (rest : List (List ℕ × List ℕ)) → slice_cmp nat_cmp k name ≡ Less → is_before k rest ≡ true → is_before k (with_entry name o rest) ≡ true
before_with k name None rest less ih = ih
before_with k name (Some t) rest less ih = one (bytes_eq name (codes "@class"))
  where
    one : (b : Bool) → is_before k (cond b rest ((name, t) ∷ rest)) ≡ true
    one true = ih
    one false = ap is_lt less

sorted_with : (name : List ℕ) (o : Option (List ℕ)) (rest : List (List ℕ × List ℕ)) → is_before name rest ≡ true → is_by_name rest ≡ true → is_by_name (with_entry name o rest) ≡ true
sorted_with name None rest before ih = ih
sorted_with name (Some t) rest before ih = one (bytes_eq name (codes "@class")) refl
  where
    one : (b : Bool) → bytes_eq name (codes "@class") ≡ b → is_by_name (cond b rest ((name, t) ∷ rest)) ≡ true
    one true e = ih
    one false e = λ i. not (e i) && (before i && ih i)

abbrev Entry : Type 0
Entry = String Global × Value

all_before : (k : String Global) (ms : List Entry) → AllByRecursion (λ y. string_cmp k y ≡ Less) (keys_of ms) → is_before (string_bytes k) (kept_entries (members_view ms)) ≡ true
all_before k [] all = refl
all_before k (m ∷ ms) all = before_with (string_bytes k) (string_bytes m.0) (entry_text (view m.1)) (kept_entries (members_view ms)) all.0 (all_before k ms all.1)

pub kept_sorted : (ms : List Entry) → IsStrictlySortedBy string_cmp (keys_of ms) → is_by_name (kept_entries (members_view ms)) ≡ true
unfolding IsStrictlySortedBy
kept_sorted [] sorted = refl
kept_sorted (m ∷ ms) sorted = sorted_with (string_bytes m.0) (entry_text (view m.1)) (kept_entries (members_view ms)) (all_before m.0 ms sorted.0) (kept_sorted ms sorted.1)
