use Rattle.std.specs.Option.{option_copied}
use Rattle.serde_json.specs.View.{view}
use Rattle.disco_instance.proofs.KeyLemmas.{key_kept}
use Rattle.disco_instance.proofs.from_value.read_record.Goals as goal

pub with_parts-requires-clause-key : goal.with_parts-requires-clause-key
with_parts-requires-clause-key c = key_kept (option_copied c.args.within) (view c.args.value.now) c.in_ok-rest.rest.key c.in_ok-rest.ensures.key
