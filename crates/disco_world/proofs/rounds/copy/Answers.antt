use Rattle.std.proofs.Common.{refl}
use Rattle.disco_world.proofs.LevelEffects.{copied_turns}
use Rattle.disco_world.proofs.rounds.copy.Goals as goal

pub returns-in-Ok-Some-clause-turns : goal.returns-in-Ok-Some-clause-turns
returns-in-Ok-Some-clause-turns c = λ w levels.
    let old = c.args.levels.now in
    let new = record old { hub = c.copy_into.new.self; next = c.copy_into.new.next } in
    let one = rw c.in-Ok-Some.field-0-is at c.in-Ok-Some.ensures.copied in
    let put = rw c.in-Ok-Some.field-0-is at c.in-Ok-Some.ensures.put in
    copied_turns old new w levels c.in-Ok-Some.copied (record { one = one; published = refl; next = put })
