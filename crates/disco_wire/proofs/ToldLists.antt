-- Lists of what was read.
use Rattle.std.proofs.Common.{◌≡◌, List, [], ◌∷◌, ◌++◌, map, Option, Some, None, option_map, option_and_then, Ok, Err, refl, ap, append_assoc, Vec, Global}
use Rattle.serde_json.proofs.Views.{view-Array}
use Rattle.serde_json.specs.Data.{Data}
use Rattle.serde_json.specs.View.{items_view, view}
use Rattle.serde_json.specs.declared.value.Value.{Value, Array}
use Rattle.disco_values.specs.declared.fault.Fault.{Fault}
use Rattle.disco_instance.specs.Mention.{Mention}
use Rattle.disco_wire.specs.Meaning.{list_of, listed_in, all_told}
use Rattle.disco_wire.specs.Steps.{told_on}

pub list_of_items : (vs : List Value) → list_of (items_view vs) ≡ map view vs
list_of_items [] = refl
list_of_items (v ∷ vs) = ap (λ r. view v ∷ r) (list_of_items vs)

pub array_listed : (value : Value) (v : Vec Value Global) (xs : List Value) → value ≡ Array v → xs ≡ v.items → Some (map view xs) ≡ listed_in (view value)
array_listed value v xs is same = rw (is, same, view-Array v, list_of_items v.items) refl

later : (before ms : List Mention) (rest : Option (List Mention)) → told_on (before ++ ms) rest ≡ told_on before (option_map (λ r. ms ++ r) rest)
later before ms None = refl
later before ms (Some r) = ap Ok (append_assoc before ms r)

after_one : (before new : List Mention) (one rest : Option (List Mention)) → told_on before one ≡ Ok new → told_on new rest ≡ told_on before (option_and_then (λ ms. option_map (λ r. ms ++ r) rest) one)
after_one before new None rest e = absurd (cc)
after_one before new (Some ms) rest e = let same : new ≡ before ++ ms = cc in rw same (later before ms rest)

none_after : (before : List Mention) (e : Fault) (one rest : Option (List Mention)) → told_on before one ≡ Err e → told_on before (option_and_then (λ ms. option_map (λ r. ms ++ r) rest) one) ≡ Err e
none_after before e None rest is = is
none_after before e (Some ms) rest is = absurd (cc)

-- one more of them
pub step : (f : Data → Option (List Mention)) (before new : List Mention) (d : Data) (ds : List Data) → told_on before (f d) ≡ Ok new → told_on new (all_told f ds) ≡ told_on before (all_told f (d ∷ ds))
step f before new d ds e = after_one before new (f d) (all_told f ds) e

-- one that tells nothing
pub stop : (f : Data → Option (List Mention)) (before : List Mention) (e : Fault) (d : Data) (ds : List Data) → told_on before (f d) ≡ Err e → told_on before (all_told f (d ∷ ds)) ≡ Err e
stop f before e d ds is = none_after before e (f d) (all_told f ds) is
