-- What changed from one copy to the next (this project's own rule).
use Rattle.std.specs.Prelude.{◌≡◌, ◌≢◌, ◌⊎◌, List, [], ◌∷◌, ◌++◌, Option, Some, None, flat_map}
use Rattle.std.specs.FinMap.{FinMap, get, values}
use Rattle.disco_values.specs.Key.{key_cmp}
use Rattle.disco_instance.specs.Row.{Row}
use Rattle.disco_follow.specs.declared.change.What.{What}
use Rattle.disco_follow.specs.declared.change.What.TheVariants as what

-- what became of an instance, and the instance as it is or last was
abbrev pub InstanceChange : Type 0
InstanceChange = What × Row

-- what became of an instance by what was held of its key before: nothing where that is the same
abbrev pub IsToldOf : Option Row → Row → List InstanceChange → Type 0
IsToldOf None r changes = changes ≡ (what.Came, r) ∷ []
IsToldOf (Some old) r changes = ((old ≡ r) × (changes ≡ [])) ⊎ ((old ≢ r) × (changes ≡ (what.Changed, r) ∷ []))

-- of each of these instances, in order
abbrev pub AreToldOf : FinMap key_cmp Row → List Row → List InstanceChange → Type 0
AreToldOf before [] changes = changes ≡ []
AreToldOf before (r ∷ rs) changes =
    (one rest : List InstanceChange) × IsToldOf (get before r.key) r one × AreToldOf before rs rest × (changes ≡ one ++ rest)

-- what became of an instance that was held before, by what is held of its key now
abbrev pub gone_of : Option Row → Row → List InstanceChange
gone_of None r = (what.Went, r) ∷ []
gone_of (Some _) r = []

-- those that came or changed, in the order of their keys, and then those that are gone
abbrev pub AreChanges : FinMap key_cmp Row → FinMap key_cmp Row → List InstanceChange → Type 0
AreChanges before now changes =
    (held : List InstanceChange) × AreToldOf before (values now) held × (changes ≡ held ++ flat_map (λ r. gone_of (get now r.key) r) (values before))
