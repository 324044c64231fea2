use Rattle.std.proofs.Common.{refl}
use Rattle.disco_queue.proofs.laws.worked_examples.Goals as goal

pub returns : goal.returns
returns c a b d = record {
  stays = refl;
  leaves = refl;
  too_early = refl;
  first_stays = refl;
  both_leave = refl;
  from_base = refl;
  not_full = refl;
  full = refl;
  cleaned = refl;
  last_two = refl;
}
