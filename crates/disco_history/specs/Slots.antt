-- Places for keys, which may be empty. Nothing here is to be believed: it is the invariant of types.
use Rattle.std.specs.Prelude.{◌≡◌, if◌then◌else◌, Option, Some, option_map, unwrap_or}
use Rattle.std.specs.FinMap.{FinMap, get}
use Rattle.disco_values.specs.Key.{key_cmp, same_key}
use Rattle.disco_values.specs.declared.key.Key.{Key}

-- the place, or a new one with the value for empty where there was none
abbrev pub opened : {V : Type 0} → V → Option V → Option V
opened empty place = Some (unwrap_or place empty)

-- a place with this, where there is one
abbrev pub written : {V : Type 0} → V → Option V → Option V
written v place = option_map (λ _. v) place

-- the place of the key becomes what f makes of it, and each other place stays
abbrev pub AltersAt : {V : Type 0} → (Option V → Option V) → Key → FinMap key_cmp V → FinMap key_cmp V → Type 0
AltersAt f k old new = (p : Key) → get new p ≡ (if same_key p k then f (get old p) else get old p)
