use denote.RattleType.{RattleType}
use denote.Param.Send.{IsSync, sendable}
use denote.Struct.Struct.{Struct}
use denote.Struct.Owning.{shape}
use Rattle.disco_press.specs.contracts.monotone_list.PrefixWitness.{the_row, the_type}
use Rattle.disco_press.proofs.Steps.{witness_keyless}

pub sync : (E : RattleType) → IsSync (the_row E)
sync E = let fields : IsSync (Struct (shape (the_type E))) = search sendable depth 20 in
    record { shared = λ d b o ν. (fields.shared (tt, tt) b o ν, witness_keyless E.coded.code d.name d.items) }
