use Rattle.std.specs.Option.{option_copied}
use Rattle.serde_json.specs.View.{view}
use Rattle.disco_instance.proofs.Rows.{told}
use Rattle.disco_instance.proofs.record.Record.from_value.Goals as goal

pub returns : goal.returns
returns c =
    let read = c.read_record.ensures in
    told (option_copied c.args.within) (view c.args.value.now) c.in_ok-details.details c.read_record.result c.in_ok-details.ensures read.table read.details read.key
