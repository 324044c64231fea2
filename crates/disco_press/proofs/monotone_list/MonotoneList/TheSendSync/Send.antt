use denote.RattleType.{RattleType}
use denote.Param.Send.{IsSend}
use Rattle.disco_press.specs.contracts.monotone_list.MonotoneList.{the_row}
use Rattle.disco_press.proofs.Steps.{list_keyless}

pub send : (E : RattleType) → IsSend (the_row E)
send E = record { owned = λ d vs. ((λ vss. (tt, ((λ uss. (tt, tt)), tt))), list_keyless E.coded.code d.name d.items); leaving = λ k f vs. tt }
