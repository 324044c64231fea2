use Rattle.std.proofs.Common.{refl}
use Rattle.disco_calls.proofs.laws.worked_examples.Goals as goal

pub returns : goal.returns
returns c = record {
  apps = refl;
  apps_with_a_slash = refl;
  delta = refl;
  app_of_that_name = refl;
  encoded_delta = refl;
  instance_behind_delta = refl;
  encoded_slash = refl;
  status = refl;
  metadata = refl;
  no_third_word = refl;
  empty_part = refl;
  slash_at_the_end = refl;
  id = refl;
  vip = refl;
  svip = refl;
  without_the_base = refl;
}
