-- A `&` to a `PrefixWitness` holds what it knows, which can be had twice. Assumes `Logic`.
use base.Logic.{snd∗}
use base.Before.{before}
use types.Logic.{sem}
use denote.RattleType.{RattleType}
use denote.Param.Laws.{Laws}
use denote.Param.Shared.{copy_shared}
use denote.Struct.Laws.{field_copy}
use denote.Struct.Lending.{of_Lends}
use Rattle.std.specs.contracts.marker.PhantomData as marker
use Rattle.disco_press.specs.MonotoneLists.{witness_owns}
use Rattle.disco_press.specs.contracts.monotone_list.PrefixWitness as C
use Rattle.disco_press.proofs.Steps.{witness_twice}
use Rattle.logbook.proofs.Fields.{lends_twice}
use Rattle.disco_press.proofs.monotone_list.PrefixWitness.TheLaw.Statement.{statement}

pub shares : (E : RattleType) (L : Laws E) → statement E L
shares E L =
    of_Lends (C.struct E) (C.the_codes E.Denot E.coded (marker.the_row E).coded) (C.the_heap E) (C.the_lent E)
    (λ d p. record { contraction = λ M 𝓤 𝓛 κ. witness_twice 𝓛 E.coded d.name d.items; mono = λ M 𝓤 𝓛 κ' κ. snd∗ 𝓤 (sem 𝓛 (before κ' κ)) (sem 𝓛 (witness_owns E.coded.code d.name d.items)) })
    (copy_shared (marker.the_field E) (field_copy (marker.the_type E) tt), tt)
    (λ M 𝓤 𝓛 d p. lends_twice 𝓛 (witness_owns E.coded.code d.name d.items) (witness_twice 𝓛 E.coded d.name d.items) (C.the_row E).lives)
