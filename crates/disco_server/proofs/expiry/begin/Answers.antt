use Rattle.std.proofs.Common.{List, Option, Some, ap, refl}
use Rattle.disco_values.specs.declared.key.Key.{Key}
use Rattle.disco_server.proofs.expiry.begin.Goals as goal

abbrev some : List Key → Option (List Key)
some ks = Some ks

pub returns-in-Ok : goal.returns-in-Ok
returns-in-Ok g c = (λ p stands. ap (λ ks. some ks) (c.in-Ok.ensures.keys p stands), refl, refl)

pub returns-in-Err : goal.returns-in-Err
returns-in-Err g c = (c.in-Err.ensures.memory, refl, refl)
