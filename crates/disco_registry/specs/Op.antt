-- Operations as plain data.
use Rattle.std.specs.Prelude.{ℕ, List, Option}
use Rattle.disco_instance.specs.Row.{Row, row}
use Rattle.disco_values.specs.declared.key.Key.{Key}
use Rattle.disco_registry.specs.declared.op.Op.{Op}
use Rattle.disco_registry.specs.declared.op.Op.TheVariants.{Register, Cancel, Renew, SetStatus, DropStatus, Metadata}

-- what is asked of the registry
pub data OpView : Type 0 where
  register : Row → OpView
  cancel : Key → OpView
  renew : Key → OpView
  set_status : Key → List ℕ → OpView
  drop_status : Key → Option (List ℕ) → OpView
  add_metadata : Key → List (List ℕ × List ℕ) → OpView

abbrev pub op_view : Op → OpView
op_view (Register posted) = register (row posted)
op_view (Cancel key) = cancel key
op_view (Renew key) = renew key
op_view (SetStatus key text) = set_status key text
op_view (DropStatus key text) = drop_status key text
op_view (Metadata key entries) = add_metadata key entries

-- the key that it is about
abbrev pub op_key : OpView → Key
op_key (register posted) = posted.key
op_key (cancel key) = key
op_key (renew key) = key
op_key (set_status key text) = key
op_key (drop_status key text) = key
op_key (add_metadata key entries) = key
